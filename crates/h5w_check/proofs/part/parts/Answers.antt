use Rattle.std.proofs.Common.{◌≡◌, ◌∙◌, ◌+◌, ◌<◌, ℕ, List, Ok, Err, length, drop, refl, ap, arith, rules}
use Rattle.h5w_model.specs.Findings.{Used}
use Rattle.h5w_headers.proofs.RanLemmas.{going_from, going_stop, going_on, going_told, going_refused, going_end, told_ok, same_value, step_ok, step_err}
use Rattle.h5w_check.proofs.PartLemmas.{given, given_then, given_next, given_end}
use Rattle.h5w_check.proofs.part.parts.Goals as goal

pub loop-place-init : goal.loop-place-init
loop-place-init g c = rw c.new-rows.ensures.items (going_from _ _)

pub returns-in_err-n : goal.returns-in_err-n
returns-in_err-n g c =
    let a = c.args in
    let l = c.loop-place in
    let lt : l.place-index < length a.places.now = omega arith in
    let is : c.from_residual.result ≡ Err c.in_err-n.field-0.0 = search rules in
    rw is (going_stop _ _ _ c.in_err-n.field-0.0 l.invariant c.in_err-n.ensures (λ img f said. given_next img a.s.now l.rows.items l.ranges a.places.now l.place-index lt ∙ step_err _ f _ said))

pub loop-place-preserved : goal.loop-place-preserved
loop-place-preserved g c =
    let a = c.args in
    let l = c.loop-place in
    let lt : l.place-index < length a.places.now = omega arith in
    let x : ℕ × List Used = (c.in_ok-n.n, c.part.new.ranges) in
    let rest : List ℕ = drop (l.place-index + 1) a.places.now in
    let put = same_value _ _ c.in_ok-put_rows.ensures.exact in
    going_told _ _ _ (going_on _ _ _ _ x l.invariant c.in_ok-n.ensures (λ img said. given_next img a.s.now l.rows.items l.ranges a.places.now l.place-index lt ∙ step_ok _ x (given_then img a.s.now l.rows.items rest) said))
    (λ img. ap (λ (ns : List ℕ). given img a.s.now ns x.1 rest) put)

pub returns-in_err-put_rows : goal.returns-in_err-put_rows
returns-in_err-put_rows g c =
    let a = c.args in
    let l = c.loop-place in
    let lt : l.place-index < length a.places.now = omega arith in
    let x : ℕ × List Used = (c.in_ok-n.n, c.part.new.ranges) in
    let rest : List ℕ = drop (l.place-index + 1) a.places.now in
    let so = going_on _ _ (λ img. given_then img a.s.now l.rows.items rest x) _ x l.invariant c.in_ok-n.ensures (λ img said. given_next img a.s.now l.rows.items l.ranges a.places.now l.place-index lt ∙ step_ok _ x (given_then img a.s.now l.rows.items rest) said) in
    let is : c.from_residual-in_err-put_rows.result ≡ Err c.in_err-put_rows.field-0.0 = search rules in
    rw is (going_refused _ _ _ c.in_err-put_rows.field-0.0 so c.in_err-put_rows.ensures (λ img f gone. absurd cc))

pub returns : goal.returns
returns g c =
    let a = c.args in
    let l = c.loop-place in
    let end : length a.places.now ≡ l.place-index = omega arith in
    going_end _ _ (Ok (l.rows.items, l.ranges)) _ l.invariant (told_ok _ (l.rows.items, l.ranges) refl) (λ img. given_end img a.s.now l.rows.items l.ranges a.places.now l.place-index end)
