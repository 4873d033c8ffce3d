use Rattle.std.proofs.Common.{◌≡◌, ◌<◌, ◌+◌, ap, sym, ◌∙◌, arith, length, Some}
use Rattle.std.specs.Prelude.{◌-◌, drop, min, slice_index_or}
use Rattle.h5w_packing.specs.Jobs.{first_job, PackingView}
use Rattle.h5w_packing.specs.declared.job.Copied.{Copied}
use Rattle.h5w_packing.specs.declared.job.Job.TheVariants.{Chunk}
use Rattle.h5w_packing.proofs.LeftLemmas.{byte_of, left_chunk}
use Rattle.h5w_packing.proofs.packing.Packing.next.Goals as goal

pub returns-then-self-len : goal.returns-then-self-len
returns-then-self-len c =
    let s = c.self.inside in
    let x : Copied = c.index-chunk.result.now in
    let inside : s.copied < length s.chunks.items = omega (arith, c.if-self-len.true, c.len.ensures) in
    let left = left_chunk s.at s.chunks.items (drop s.written s.writes.items) s.copied x inside (byte_of s.at s.chunks.items s.copied x inside c.self.invariant.0) in
    let from : c.saturating_add.result ≡ _ = c.saturating_add.ensures ∙ ap (λ (y : Copied). min (y.from + s.at) 18446744073709551615) c.index-chunk.ensures in
    let size : c.min.result ≡ min 512 (x.len - s.at) = omega (arith, c.min.ensures) in
    let sized = size ∙ ap (λ (y : Copied). min 512 (y.len - s.at)) c.index-chunk.ensures in
    (λ i. Some (Chunk (from i) ((c.index-chunk.ensures i).to + s.at) (sized i)))
    ∙ ap first_job (sym left) ∙ ap (λ (p : PackingView). first_job p.left) c.self.view_is
