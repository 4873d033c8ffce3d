use Rattle.std.proofs.Common.{Ok}
use Rattle.h5w_model.specs.Numbers.{range}
use Rattle.h5w_model.specs.Findings.{checked_super}
use Rattle.h5w_headers.proofs.RanLemmas.{ran_end, step_ok}
use Rattle.h5w_check.proofs.superblock.superblock.Goals as goal

pub returns : goal.returns
returns g c =
    let told = rw c.deref.ensures.value at c.checked.ensures in
    ran_end (λ img. Ok (range img 0 48)) c.in_ok-bytes.bytes.items (checked_super c.args.size c.in_ok-bytes.bytes.items) _ _ c.in_ok-bytes.ensures.ran told
    (λ img said. step_ok (Ok (range img 0 48)) c.in_ok-bytes.bytes.items (checked_super c.args.size) said)
