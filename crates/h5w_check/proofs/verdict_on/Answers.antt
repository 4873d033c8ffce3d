use Rattle.std.proofs.Common.{◌≡◌, ◌∙◌, ℕ, List, Err, rules}
use Rattle.h5w_model.specs.Numbers.{range}
use Rattle.h5w_model.specs.Findings.{Used, checked_super}
use Rattle.h5w_check.specs.Verdicts.{datasets_found}
use Rattle.h5w_headers.proofs.RanLemmas.{ran_on, ran_end, ran_then_stop, step_ok, step_err}
use Rattle.h5w_check.proofs.CheckLemmas.{check_parts, super_rest, verdict_rest}
use Rattle.h5w_check.proofs.verdict_on.Goals as goal

pub returns-in_err-rows : goal.returns-in_err-rows
returns-in_err-rows g c =
    let a = c.args in
    let names = a.names.now in
    let s = c.in_ok-s.s in
    let is : c.from_residual-in_err-rows.result ≡ Err c.in_err-rows.field-0.0 = search rules in
    rw is (ran_then_stop (λ img. checked_super a.size (range img 0 48)) s _ c.in_err-rows.field-0.0 _ c.in_ok-s.ensures c.in_err-rows.ensures (λ img f said gone.
    check_parts img names a.size ∙ step_ok _ s (super_rest img names) said ∙ step_err _ f (verdict_rest s) gone))

pub returns : goal.returns
returns g c =
    let a = c.args in
    let names = a.names.now in
    let s = c.in_ok-s.s in
    let x : List ℕ × List Used = (c.in_ok-rows.rows.items, c.in_ok-rows.ranges) in
    let two = ran_end (datasets_found names s) x (verdict_rest s x) (λ img. super_rest img names s) _ c.in_ok-rows.ensures c.verdict.ensures (λ img said. step_ok _ x (verdict_rest s) said) in
    ran_on (λ img. checked_super a.size (range img 0 48)) s (λ img. super_rest img names s) _ _ c.in_ok-s.ensures two (λ img said. check_parts img names a.size ∙ step_ok _ s (super_rest img names) said)
