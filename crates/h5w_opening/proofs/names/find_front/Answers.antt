use Rattle.std.proofs.Common.{◌≡◌, ◌∙◌, Err, refl, rules}
use Rattle.h5w_headers.proofs.RanLemmas.{ran_stop, ran_then_stop, ran_on, ran_end, told_ok, step_ok, step_err}
use Rattle.h5w_opening.specs.Fronts.{places_found}
use Rattle.h5w_opening.specs.Openings.{super_found}
use Rattle.h5w_opening.proofs.FrontLemmas.{front_gives, fronted_by, places_behind}
use Rattle.h5w_opening.proofs.names.find_front.Goals as goal

pub returns-in_err-root-clause-ran : goal.returns-in_err-root-clause-ran
returns-in_err-root-clause-ran g c =
    let a = c.args in
    let e = c.in_err-root.field-0.0 in
    let is : c.from_residual.result ≡ Err e = search rules in
    rw is (ran_stop (super_found a.size) e _ c.in_err-root.ensures.ran (λ img f said. front_gives img a.names.now a.size ∙ step_err _ f (places_behind a.names.now img) said))

pub returns-in_err-places-clause-ran : goal.returns-in_err-places-clause-ran
returns-in_err-places-clause-ran g c =
    let a = c.args in
    let s = c.in_ok-root.root in
    let e = c.in_err-places.field-0.0 in
    let is : c.from_residual-in_err-places.result ≡ Err e = search rules in
    rw is (ran_then_stop (super_found a.size) s (places_found a.names.now s.root) e _ c.in_ok-root.ensures.ran c.in_err-places.ensures.ran
    (λ img f said gone. front_gives img a.names.now a.size ∙ step_ok _ s (places_behind a.names.now img) said ∙ step_err _ f (fronted_by s) gone))

pub returns-clause-ran : goal.returns-clause-ran
returns-clause-ran g c =
    let a = c.args in
    let s = c.in_ok-root.root in
    let places = c.in_ok-places.places.items in
    let last = ran_end (places_found a.names.now s.root) places (fronted_by s places) (λ img. places_behind a.names.now img s) (fronted_by s places) c.in_ok-places.ensures.ran (told_ok _ _ refl)
    (λ img said. step_ok _ places (fronted_by s) said) in
    ran_on (super_found a.size) s (λ img. places_behind a.names.now img s) _ _ c.in_ok-root.ensures.ran last
    (λ img said. front_gives img a.names.now a.size ∙ step_ok _ s (places_behind a.names.now img) said)
