use Rattle.std.proofs.Common.{◌≡◌, Ok, Err, rules}
use Rattle.h5w_model.specs.Numbers.{range}
use Rattle.h5w_model.specs.Superblock.{super_at}
use Rattle.h5w_model.specs.Datasets.{super_refusal, refused_as}
use Rattle.h5w_headers.proofs.RanLemmas.{ran_stop, ran_end, step_ok, step_err}
use Rattle.h5w_headers.proofs.KindLemmas.{ran_as}
use Rattle.h5w_opening.specs.Errors.{open_error}
use Rattle.h5w_opening.specs.Openings.{closed_super}
use Rattle.h5w_opening.specs.declared.error.OpenError.TheVariants.{Read}
use Rattle.h5w_opening.proofs.OpeningLemmas.{all_read}
use Rattle.h5w_opening.proofs.finding.start.Goals as goal

pub returns-in_err-s-clause-ran : goal.returns-in_err-s-clause-ran
returns-in_err-s-clause-ran g c =
    let e = c.in_err-s.field-0.0 in
    let is : c.from_residual.result ≡ Err (open_error e) = search rules in
    rw is (ran_stop (λ img. refused_as Read (refused_as super_refusal (super_at (range img 0 48)))) (open_error e) _
    (ran_as Read open_error (λ img. refused_as super_refusal (super_at (range img 0 48))) (Err e) all_read c.in_err-s.ensures.ran)
    (λ img f said. step_err _ f (closed_super c.args.size) said))

pub returns-clause-ran : goal.returns-clause-ran
returns-clause-ran g c =
    let s = c.in_ok-s.s in
    ran_end (λ img. refused_as Read (refused_as super_refusal (super_at (range img 0 48)))) s (closed_super c.args.size s) _ _
    (ran_as Read open_error (λ img. refused_as super_refusal (super_at (range img 0 48))) (Ok s) all_read c.in_ok-s.ensures.ran) c.closed.ensures.told
    (λ img said. step_ok _ s (closed_super c.args.size) said)
