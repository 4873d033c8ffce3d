use Rattle.std.proofs.Common.{◌≡◌, sym, subst, rules}
use Rattle.h5w_several_open.specs.Beginnings.{IsBeginAnswer}
use Rattle.h5w_several_open.specs.declared.beginning.Beginning.{Beginning}
use Rattle.h5w_several_open.specs.declared.beginning.Beginning.TheVariants as beginnings
use Rattle.h5w_several_open.proofs.BeginningLemmas.{open_answers}
use Rattle.h5w_several_open.proofs.beginning.begin_one.Goals as goal

pub returns-in-Opened-clause-exact : goal.returns-in-Opened-clause-exact
returns-in-Opened-clause-exact g c img still =
    let a = c.args in
    let is : a.by ≡ beginnings.Opened = search rules in
    subst (λ (b : Beginning). IsBeginAnswer b img a.size a.name.now a.limit a.budget c.open.result) (sym is) (open_answers img a.size a.name.now a.limit a.budget c.open.result (c.open.ensures.exact img still))
