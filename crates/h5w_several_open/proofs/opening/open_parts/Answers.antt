use Rattle.std.proofs.Common.{◌≡◌, ℕ, List, Err, rules, subst}
use Rattle.h5w_headers.specs.Ran.{seen}
use Rattle.h5w_image.proofs.ViewLemmas.{looked_twice}
use Rattle.h5w_looks.proofs.ReadLemmas.{still_on}
use Rattle.h5w_several_open.proofs.OpenLemmas.{no_front_answer, open_answer}
use Rattle.h5w_several_open.specs.Progress.{ArePartsAnswer}
use Rattle.h5w_several_open.proofs.opening.open_parts.Goals as goal

pub returns-in_err-front-clause-exact : goal.returns-in_err-front-clause-exact
returns-in_err-front-clause-exact g c img still =
    let a = c.args in
    let e = c.in_err-front.field-0.0 in
    let is : c.from_residual.result ≡ Err e = search rules in
    rw is (no_front_answer img a.size a.names.now a.limit a.budget e (c.in_err-front.ensures.ran.exact img still))

pub returns-clause-looked : goal.returns-clause-looked
returns-clause-looked g c = looked_twice c.in_ok-front.ensures.ran.looked c.parts_at.ensures.looked

pub returns-clause-exact : goal.returns-clause-exact
returns-clause-exact g c img still =
    let a = c.args in
    let f = c.in_ok-front in
    open_answer img a.size a.names.now a.limit a.budget f.front.root f.front.places.items _ (f.ensures.ran.exact img still)
    (subst (λ (ps : List ℕ). ArePartsAnswer img f.front.root a.names.now ps a.limit a.budget (seen (λ v. v.items) c.parts_at.result)) c.deref.ensures.value (c.parts_at.ensures.exact img (still_on img f.ensures.ran.looked still)))
