use Rattle.std.proofs.Common.{◌≡◌, ◌+◌, ◌≤◌, ◌^◌, ℕ, List, Ok, Err, subst, arith, rules}
use Rattle.h5w_model.specs.Numbers.{range}
use Rattle.h5w_model.specs.Trees.{bthd_at, bthd_len}
use Rattle.h5w_model.specs.declared.refusal.BlockFault.TheVariants.{Cut}
use Rattle.h5w_bt.specs.Fields.{bthd_of}
use Rattle.h5w_bt_open.proofs.CallLemmas.{loads_quiet}
use Rattle.h5w_bt_open.proofs.HeldLemmas.{header_read}
use Rattle.h5w_bt_open.proofs.NodeLemmas.{header_inside}
use Rattle.h5w_bt_open.proofs.tree.header_at.Goals as goal

pub returns-in_err-check_end-clause-loads : goal.returns-in_err-check_end-clause-loads
returns-in_err-check_end-clause-loads g c =
    let at : ℕ = c.args.at in
    let n : bthd_at c.in_ok-bytes.bytes.items c.args.at ≡ Ok (bthd_of c.in_ok-header.header) = subst (λ (b : List ℕ). bthd_at b c.args.at ≡ Ok (bthd_of c.in_ok-header.header)) c.deref.ensures.value c.in_ok-header.ensures.read in
    let is : c.from_residual-in_err-check_end.result ≡ Err c.in_err-check_end.field-0.0 = search rules in
    rw is (loads_quiet (λ img a f. (a ≡ c.args.at) × (bthd_at (range img c.args.at bthd_len) c.args.at ≡ Err f)) (λ a f. (a ≡ c.args.at) × ((f ≡ Cut 38 0) × (2 ^ 64 ≤ c.args.at + 38))) c.in_err-check_end.field-0.0 c.bytes_at.ensures.looked c.in_err-check_end.ensures.quiet
    (λ img still a f h. let t = header_inside img c.args.at c.in_ok-bytes.bytes.items (bthd_of c.in_ok-header.header) (c.in_ok-bytes.ensures.exact img still) still.short n in let far = h.1.1 in absurd (omega arith))
    c.in_err-check_end.ensures.damaged)

pub returns-clause-form : goal.returns-clause-form
returns-clause-form g c = header_read c.deref.result.now c.args.at (bthd_of c.in_ok-header.header) c.in_ok-header.ensures.read
