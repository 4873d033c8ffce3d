use Rattle.std.proofs.Common.{◌≡◌, sym, subst, rules}
use Rattle.std.specs.Prelude.{IfOk}
use Rattle.h5w_several_open.specs.Beginnings.{HaveBegunBy, IsAllAnswer}
use Rattle.h5w_several_open.specs.declared.beginning.Beginning.{Beginning}
use Rattle.h5w_several_open.specs.declared.beginning.Beginning.TheVariants as beginnings
use Rattle.h5w_several_open.proofs.BeginningLemmas.{all_begins, session_answers, taken_answers, taken_begins}
use Rattle.h5w_several_open.proofs.beginning.begin_all.Goals as goal

pub returns-in-Opened-clause-exact : goal.returns-in-Opened-clause-exact
returns-in-Opened-clause-exact g c img still =
    let a = c.args in
    let is : a.by ≡ beginnings.Opened = search rules in
    subst (λ (b : Beginning). IsAllAnswer b img a.size a.names.now a.limit a.budget c.open.result) (sym is) (session_answers img a.size a.names.now a.limit a.budget c.open.result (c.open.ensures.exact img still))

pub returns-in-Opened-clause-begun : goal.returns-in-Opened-clause-begun
returns-in-Opened-clause-begun g c =
    let a = c.args in
    let is : a.by ≡ beginnings.Opened = search rules in
    subst (λ (b : Beginning). IfOk c.open.result (λ s. HaveBegunBy b a.names.now a.limit a.budget s)) (sym is) (all_begins a.names.now a.limit a.budget c.open.result c.open.ensures.begun)

pub returns-in-TakenOver-clause-exact : goal.returns-in-TakenOver-clause-exact
returns-in-TakenOver-clause-exact g c img still =
    let a = c.args in
    let is : a.by ≡ beginnings.TakenOver = search rules in
    subst (λ (b : Beginning). IsAllAnswer b img a.size a.names.now a.limit a.budget c.takeover.result) (sym is) (taken_answers img a.size a.names.now a.limit a.budget c.takeover.result (c.takeover.ensures.exact img still))

pub returns-in-TakenOver-clause-begun : goal.returns-in-TakenOver-clause-begun
returns-in-TakenOver-clause-begun g c =
    let a = c.args in
    let is : a.by ≡ beginnings.TakenOver = search rules in
    subst (λ (b : Beginning). IfOk c.takeover.result (λ s. HaveBegunBy b a.names.now a.limit a.budget s)) (sym is) (taken_begins a.names.now a.limit a.budget c.takeover.result c.takeover.ensures.begun)
