use Rattle.std.proofs.Common.{◌≡◌, ◌∙◌, Err, refl, rules}
use Rattle.h5w_headers.proofs.RanLemmas.{ran_stop, ran_then_stop, ran_on, ran_end, told_ok, step_ok, step_err}
use Rattle.h5w_opening.specs.Views.{header_fields_of}
use Rattle.h5w_opening.specs.Openings.{super_found, place_found, dataset_found}
use Rattle.h5w_opening.proofs.OpeningLemmas.{opening_gives, behind_super, behind_place, opened_by}
use Rattle.h5w_opening.proofs.finding.find.Goals as goal

pub returns-in_err-root-clause-ran : goal.returns-in_err-root-clause-ran
returns-in_err-root-clause-ran g c =
    let a = c.args in
    let e = c.in_err-root.field-0.0 in
    let is : c.from_residual.result ≡ Err e = search rules in
    rw is (ran_stop (super_found a.size) e _ c.in_err-root.ensures.ran (λ img f said. opening_gives img a.name.now a.size ∙ step_err _ f (behind_super a.name.now img) said))

pub returns-in_err-place-clause-ran : goal.returns-in_err-place-clause-ran
returns-in_err-place-clause-ran g c =
    let a = c.args in
    let s = c.in_ok-root.root in
    let e = c.in_err-place.field-0.0 in
    let is : c.from_residual-in_err-place.result ≡ Err e = search rules in
    rw is (ran_then_stop (super_found a.size) s (place_found a.name.now s.root) e _ c.in_ok-root.ensures.ran c.in_err-place.ensures.ran
    (λ img f said gone. opening_gives img a.name.now a.size ∙ step_ok _ s (behind_super a.name.now img) said ∙ step_err _ f (behind_place s img) gone))

pub returns-in_err-header-clause-ran : goal.returns-in_err-header-clause-ran
returns-in_err-header-clause-ran g c =
    let a = c.args in
    let s = c.in_ok-root.root in
    let place = c.in_ok-place.place in
    let e = c.in_err-header.field-0.0 in
    let is : c.from_residual-in_err-header.result ≡ Err e = search rules in
    let behind = ran_then_stop (place_found a.name.now s.root) place (dataset_found place) e (λ img. behind_super a.name.now img s) c.in_ok-place.ensures.ran c.in_err-header.ensures.ran
    (λ img f said gone. step_ok _ place (behind_place s img) said ∙ step_err _ f (opened_by s place) gone) in
    rw is (ran_on (super_found a.size) s (λ img. behind_super a.name.now img s) _ _ c.in_ok-root.ensures.ran behind
    (λ img said. opening_gives img a.name.now a.size ∙ step_ok _ s (behind_super a.name.now img) said))

pub returns-clause-ran : goal.returns-clause-ran
returns-clause-ran g c =
    let a = c.args in
    let s = c.in_ok-root.root in
    let place = c.in_ok-place.place in
    let d = header_fields_of c.in_ok-header.header in
    let last = ran_end (dataset_found place) d (opened_by s place d) (λ img. behind_place s img place) (opened_by s place d) c.in_ok-header.ensures.ran (told_ok _ _ refl)
    (λ img said. step_ok _ d (opened_by s place) said) in
    let behind = ran_on (place_found a.name.now s.root) place (λ img. behind_place s img place) (λ img. behind_super a.name.now img s) (opened_by s place d) c.in_ok-place.ensures.ran last
    (λ img said. step_ok _ place (behind_place s img) said) in
    ran_on (super_found a.size) s (λ img. behind_super a.name.now img s) _ _ c.in_ok-root.ensures.ran behind
    (λ img said. opening_gives img a.name.now a.size ∙ step_ok _ s (behind_super a.name.now img) said)
