use Rattle.std.proofs.Common.{◌≡◌, ◌+◌, ◌∙◌, List, ap, sym, arith, length}
use Rattle.h5w_packing.specs.Jobs.{pieces_in}
use Rattle.h5w_packing.specs.declared.job.Copied.{Copied}
use Rattle.h5w_packing.proofs.LeftLemmas.{first_byte, left_long}
use Rattle.h5w_packing.proofs.packing.Packing.new.Goals as goal

pub invariant_of-result : goal.invariant_of-result
invariant_of-result c =
    let cs = c.args.chunks.items in
    let more : c.len.result ≡ length c.args.writes.items = omega (arith, c.len.ensures) in
    let sum : c.in-Some.left ≡ pieces_in cs + c.len.result = c.in-Some.ensures ∙ ap (λ (l : List Copied). pieces_in l + c.len.result) c.deref.ensures.value in
    (first_byte cs 0 c.requires.low, c.requires.low, sum ∙ ap (λ n. pieces_in cs + n) more ∙ sym (left_long cs c.args.writes.items))
