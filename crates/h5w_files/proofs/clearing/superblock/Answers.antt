use Rattle.std.proofs.Common.{◌≤◌, List, ℕ, length, ap, ◌∙◌, subst}
use Rattle.std.specs.Prelude.{OnOk}
use Rattle.h5w_image.proofs.DiskLemmas.{there_when_sized}
use Rattle.h5w_files.specs.Clears.{clears_at}
use Rattle.h5w_files.proofs.ClearLemmas.{finds_superblock}
use Rattle.h5w_files.proofs.clearing.superblock.Goals as goal

pub returns-in-Ok : goal.returns-in-Ok
returns-in-Ok g c =
    let name = c.args.file.now in
    let sized = rw c.in-Ok-Some.field-0-is at c.in-Ok-Some.ensures.exact in
    record {
      finds =
          finds_superblock name c.look.new.out c.args.upgrade c.clears_at.result c.size.ensures.same c.in-Ok-Some.ensures.calm c.look.ensures.same c.in-Ok.ensures.calm (there_when_sized name c.in-Ok-Some.field-0-0 c.size.ensures.same sized) c.in-Ok.ensures.shows c.in-Ok.ensures.bound
          (c.clears_at.ensures.exact ∙ ap (clears_at c.args.upgrade) c.as_slice.ensures.value) c.clears_at.ensures.kinds
          (subst (λ (b : List ℕ). OnOk c.clears_at.result (48 ≤ length b)) c.as_slice.ensures.value c.clears_at.ensures.whole) c.clears_at.ensures.quiet;
    }
