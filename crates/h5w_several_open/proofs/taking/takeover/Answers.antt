use Rattle.std.proofs.Common.{◌≡◌, ◌≤◌, ℕ, List, Err, Ok, length, ap, sym, ◌∙◌, subst, arith, rules}
use Rattle.h5w_image.proofs.ViewLemmas.{looked_twice}
use Rattle.h5w_looks.proofs.ReadLemmas.{still_on}
use Rattle.h5w_model.specs.declared.root.Super.{Super}
use Rattle.h5w_writer.specs.Sessions.{Session}
use Rattle.h5w_several_writer.specs.Opened.{AreOpened, sessions_at_rest}
use Rattle.h5w_several_open.specs.Answers.{HasBegunWith}
use Rattle.h5w_several_open.specs.Progress.{ArePartsAnswer}
use Rattle.h5w_several_open.specs.Taken.{closed_front}
use Rattle.h5w_several_open.proofs.SessionLemmas.{are_opened, as_many, first_long, first_root}
use Rattle.h5w_several_open.proofs.TakeAnswers.{no_written_front, taken_all, taken_begun, taken_grown, taken_refused}
use Rattle.h5w_several_open.proofs.TakenLemmas.{takes_standing}
use Rattle.h5w_several_open.proofs.taking.takeover.Goals as goal

pub returns-in_err-front-clause-exact : goal.returns-in_err-front-clause-exact
returns-in_err-front-clause-exact g c img still =
    let a = c.args in
    let e = c.in_err-front.field-0.0 in
    let is : c.from_residual.result ≡ Err e = search rules in
    rw is (no_written_front img a.size a.names.now e (c.in_err-front.ensures.ran.exact img still))

pub returns-in_err-parts-clause-looked : goal.returns-in_err-parts-clause-looked
returns-in_err-parts-clause-looked g c = looked_twice c.in_ok-front.ensures.ran.looked c.in_err-parts.ensures.looked

pub returns-in_err-parts-clause-exact : goal.returns-in_err-parts-clause-exact
returns-in_err-parts-clause-exact g c img still =
    let a = c.args in
    let f = c.in_ok-front in
    let e = c.in_err-parts.field-0.0 in
    let is : c.from_residual-in_err-parts.result ≡ Err e = search rules in
    let x = c.in_err-parts.ensures.exact img (still_on img f.ensures.ran.looked still) in
    let by_root = subst (λ (r : Super). ArePartsAnswer img r a.names.now c.deref.result.now a.limit a.budget (Err e)) c.closed_front.ensures.closed x in
    let by_places = subst (λ (ps : List ℕ). ArePartsAnswer img (closed_front f.front.root) a.names.now ps a.limit a.budget (Err e)) c.deref.ensures.value by_root in
    rw is (taken_refused img a.size a.names.now a.limit a.budget f.front.root f.front.places.items e (f.ensures.ran.exact img still) by_places)

pub index-requires : goal.index-requires
index-requires g c =
    let a = c.args in
    let h = c.in_ok-parts.ensures.begun in
    let ss : List Session = c.in_ok-parts.parts.items in
    let n = as_many (HasBegunWith a.limit a.budget h.root) a.names.now ss h.each in
    let m = c.requires.some in
    let k = c.in_ok-parts.parts.ok in
    omega (arith, n, m, k)

pub at_rest-requires-clause-some : goal.at_rest-requires-clause-some
at_rest-requires-clause-some g c =
    let a = c.args in
    let h = c.in_ok-parts.ensures.begun in
    let ss : List Session = c.in_ok-parts.parts.items in
    let n = as_many (HasBegunWith a.limit a.budget h.root) a.names.now ss h.each in
    let m = c.requires.some in
    omega (arith, n, m)

pub at_rest-requires-clause-version : goal.at_rest-requires-clause-version
at_rest-requires-clause-version g c =
    let a = c.args in
    let h = c.in_ok-parts.ensures.begun in
    let ss : List Session = c.in_ok-parts.parts.items in
    let n = as_many (HasBegunWith a.limit a.budget h.root) a.names.now ss h.each in
    let some : 1 ≤ length ss = let m = c.requires.some in omega (arith, n, m) in
    let same : c.root-root.result ≡ h.root = c.root-root.ensures ∙ ap (λ (s : Session). s.root) c.index.ensures ∙ first_root a.limit a.budget h.root a.names.now ss c.index.result.now some h.each in
    ap (λ (r : Super). r.version) same ∙ h.version

pub at_rest-requires-clause-begun : goal.at_rest-requires-clause-begun
at_rest-requires-clause-begun g c =
    let a = c.args in
    let h = c.in_ok-parts.ensures.begun in
    let ss : List Session = c.in_ok-parts.parts.items in
    let n = as_many (HasBegunWith a.limit a.budget h.root) a.names.now ss h.each in
    let some : 1 ≤ length ss = let m = c.requires.some in omega (arith, n, m) in
    let same : c.root-root.result ≡ h.root = c.root-root.ensures ∙ ap (λ (s : Session). s.root) c.index.ensures ∙ first_root a.limit a.budget h.root a.names.now ss c.index.result.now some h.each in
    subst (λ (r : Super). 48 ≤ r.end) (sym same) (first_long a.limit a.budget h.root a.names.now ss some h.each)

pub at_rest-requires-clause-few : goal.at_rest-requires-clause-few
at_rest-requires-clause-few g c =
    let a = c.args in
    let h = c.in_ok-parts.ensures.begun in
    let n = as_many (HasBegunWith a.limit a.budget h.root) a.names.now c.in_ok-parts.parts.items h.each in
    let few = c.requires.few in
    omega (arith, n, few)

pub at_rest-requires-clause-opened : goal.at_rest-requires-clause-opened
at_rest-requires-clause-opened g c =
    let a = c.args in
    let h = c.in_ok-parts.ensures.begun in
    let ss : List Session = c.in_ok-parts.parts.items in
    let n = as_many (HasBegunWith a.limit a.budget h.root) a.names.now ss h.each in
    let some : 1 ≤ length ss = let m = c.requires.some in omega (arith, n, m) in
    let same : c.root-root.result ≡ h.root = c.root-root.ensures ∙ ap (λ (s : Session). s.root) c.index.ensures ∙ first_root a.limit a.budget h.root a.names.now ss c.index.result.now some h.each in
    subst (λ (r : Super). AreOpened r.end ss) (sym same) (are_opened a.limit a.budget h.root a.names.now ss h.each)

pub returns-clause-looked : goal.returns-clause-looked
returns-clause-looked g c = looked_twice c.in_ok-front.ensures.ran.looked c.in_ok-parts.ensures.looked

pub returns-clause-begun : goal.returns-clause-begun
returns-clause-begun g c =
    let a = c.args in
    let h = c.in_ok-parts.ensures.begun in
    let ss : List Session = c.in_ok-parts.parts.items in
    let n = as_many (HasBegunWith a.limit a.budget h.root) a.names.now ss h.each in
    let some : 1 ≤ length ss = let m = c.requires.some in omega (arith, n, m) in
    let same : c.root-root.result ≡ h.root = c.root-root.ensures ∙ ap (λ (s : Session). s.root) c.index.ensures ∙ first_root a.limit a.budget h.root a.names.now ss c.index.result.now some h.each in
    let is : c.at_rest.result ≡ sessions_at_rest h.root a.limit ss = c.at_rest.ensures.session ∙ ap (λ (r : Super). sessions_at_rest r a.limit ss) same in
    taken_begun a.names.now a.limit a.budget ss c.at_rest.result h is c.at_rest.ensures.sessions

pub returns-clause-exact : goal.returns-clause-exact
returns-clause-exact g c img still =
    let a = c.args in
    let f = c.in_ok-front in
    let h = c.in_ok-parts.ensures.begun in
    let ss : List Session = c.in_ok-parts.parts.items in
    let n = as_many (HasBegunWith a.limit a.budget h.root) a.names.now ss h.each in
    let some : 1 ≤ length ss = let m = c.requires.some in omega (arith, n, m) in
    let same : c.root-root.result ≡ h.root = c.root-root.ensures ∙ ap (λ (s : Session). s.root) c.index.ensures ∙ first_root a.limit a.budget h.root a.names.now ss c.index.result.now some h.each in
    let is : c.at_rest.result ≡ sessions_at_rest h.root a.limit ss = c.at_rest.ensures.session ∙ ap (λ (r : Super). sessions_at_rest r a.limit ss) same in
    let x = c.in_ok-parts.ensures.exact img (still_on img f.ensures.ran.looked still) in
    let by_root = subst (λ (r : Super). ArePartsAnswer img r a.names.now c.deref.result.now a.limit a.budget (Ok ss)) c.closed_front.ensures.closed x in
    let by_places = subst (λ (ps : List ℕ). ArePartsAnswer img (closed_front f.front.root) a.names.now ps a.limit a.budget (Ok ss)) c.deref.ensures.value by_root in
    taken_all img a.size a.names.now a.limit a.budget f.front.root f.front.places.items ss c.at_rest.result (f.ensures.ran.exact img still) h some is by_places

pub returns-clause-stands : goal.returns-clause-stands
returns-clause-stands g c img t sets still valid reads =
    let a = c.args in
    let r = c.requires in
    takes_standing img a.size a.names.now t sets a.limit a.budget c.at_rest.result valid reads (returns-clause-exact g c img still) (returns-clause-begun g c) r.some r.low r.high

pub returns-clause-grown : goal.returns-clause-grown
returns-clause-grown g c img sets still =
    let a = c.args in
    taken_grown img a.size a.names.now a.limit a.budget c.at_rest.result sets (returns-clause-exact g c img still)
