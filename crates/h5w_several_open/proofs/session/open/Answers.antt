use Rattle.std.proofs.Common.{◌≡◌, ◌≤◌, List, length, ap, sym, ◌∙◌, subst, arith}
use Rattle.h5w_model.specs.declared.root.Super.{Super}
use Rattle.h5w_writer.specs.Sessions.{Session}
use Rattle.h5w_several_writer_laws.specs.Sessions.{Sessions}
use Rattle.h5w_several_writer_laws.specs.Standing.{StandsAll}
use Rattle.h5w_several_writer.specs.Opened.{AreOpened, sessions_over}
use Rattle.h5w_several_open.specs.Answers.{HasBegunWith}
use Rattle.h5w_several_open.specs.Stands.{opened_file}
use Rattle.h5w_several_open.proofs.BegunLemmas.{begun_all, opened_all, opened_grown}
use Rattle.h5w_several_open.proofs.SessionLemmas.{are_opened, as_many, first_root}
use Rattle.h5w_several_open.proofs.StandLemmas.{opens_standing}
use Rattle.h5w_several_open.proofs.session.open.Goals as goal

pub over-requires-clause-few : goal.over-requires-clause-few
over-requires-clause-few g c =
    let a = c.args in
    let h = c.in_ok-parts.ensures.begun in
    let n = as_many (HasBegunWith a.limit a.budget h.root) a.names.now c.in_ok-parts.parts.items h.each in
    let few = c.requires.few in
    omega (arith, n, few)

pub over-requires-clause-opened : goal.over-requires-clause-opened
over-requires-clause-opened g c =
    let a = c.args in
    let h = c.in_ok-parts.ensures.begun in
    let ss : List Session = c.in_ok-parts.parts.items in
    let n = as_many (HasBegunWith a.limit a.budget h.root) a.names.now ss h.each in
    let some : 1 ≤ length ss = let m = c.requires.some in omega (arith, n, m) in
    let same : c.root-root.result ≡ h.root = c.root-root.ensures ∙ ap (λ (s : Session). s.root) c.index.ensures ∙ first_root a.limit a.budget h.root a.names.now ss c.index.result.now some h.each in
    subst (λ (r : Super). AreOpened r.end ss) (sym same) (are_opened a.limit a.budget h.root a.names.now ss h.each)

pub returns-clause-begun : goal.returns-clause-begun
returns-clause-begun g c =
    let a = c.args in
    let h = c.in_ok-parts.ensures.begun in
    let ss : List Session = c.in_ok-parts.parts.items in
    let n = as_many (HasBegunWith a.limit a.budget h.root) a.names.now ss h.each in
    let some : 1 ≤ length ss = let m = c.requires.some in omega (arith, n, m) in
    let same : c.root-root.result ≡ h.root = c.root-root.ensures ∙ ap (λ (s : Session). s.root) c.index.ensures ∙ first_root a.limit a.budget h.root a.names.now ss c.index.result.now some h.each in
    let is : c.over.result ≡ sessions_over h.root a.limit ss = c.over.ensures.session ∙ ap (λ (r : Super). sessions_over r a.limit ss) same in
    begun_all a.names.now a.limit a.budget ss c.over.result h some is c.over.ensures.sessions

pub returns-clause-exact : goal.returns-clause-exact
returns-clause-exact g c img still =
    let a = c.args in
    let h = c.in_ok-parts.ensures.begun in
    let ss : List Session = c.in_ok-parts.parts.items in
    let n = as_many (HasBegunWith a.limit a.budget h.root) a.names.now ss h.each in
    let some : 1 ≤ length ss = let m = c.requires.some in omega (arith, n, m) in
    let same : c.root-root.result ≡ h.root = c.root-root.ensures ∙ ap (λ (s : Session). s.root) c.index.ensures ∙ first_root a.limit a.budget h.root a.names.now ss c.index.result.now some h.each in
    let is : c.over.result ≡ sessions_over h.root a.limit ss = c.over.ensures.session ∙ ap (λ (r : Super). sessions_over r a.limit ss) same in
    opened_all img a.size a.names.now a.limit a.budget ss c.over.result h some is (c.in_ok-parts.ensures.exact img still)

pub returns-clause-grown : goal.returns-clause-grown
returns-clause-grown g c img sets still =
    let a = c.args in
    let h = c.in_ok-parts.ensures.begun in
    let ss : List Session = c.in_ok-parts.parts.items in
    let n = as_many (HasBegunWith a.limit a.budget h.root) a.names.now ss h.each in
    let some : 1 ≤ length ss = let m = c.requires.some in omega (arith, n, m) in
    let same : c.root-root.result ≡ h.root = c.root-root.ensures ∙ ap (λ (s : Session). s.root) c.index.ensures ∙ first_root a.limit a.budget h.root a.names.now ss c.index.result.now some h.each in
    let is : c.over.result ≡ sessions_over h.root a.limit ss = c.over.ensures.session ∙ ap (λ (r : Super). sessions_over r a.limit ss) same in
    opened_grown img a.size a.names.now a.limit a.budget ss c.over.result sets h some is (c.in_ok-parts.ensures.exact img still)

pub returns-clause-stands : goal.returns-clause-stands
returns-clause-stands g c img t sets still valid reads =
    let a = c.args in
    let h = c.in_ok-parts.ensures.begun in
    let ss : List Session = c.in_ok-parts.parts.items in
    let n = as_many (HasBegunWith a.limit a.budget h.root) a.names.now ss h.each in
    let some : 1 ≤ length ss = let m = c.requires.some in omega (arith, n, m) in
    let same : c.root-root.result ≡ h.root = c.root-root.ensures ∙ ap (λ (s : Session). s.root) c.index.ensures ∙ first_root a.limit a.budget h.root a.names.now ss c.index.result.now some h.each in
    let is : c.over.result ≡ sessions_over h.root a.limit ss = c.over.ensures.session ∙ ap (λ (r : Super). sessions_over r a.limit ss) same in
    subst (λ (s : Sessions). StandsAll s (opened_file img sets)) (sym is)
    (opens_standing img a.size a.names.now t sets ss a.limit a.budget h.root valid reads (c.in_ok-parts.ensures.exact img still).each h.each some c.requires.low c.requires.high)
