use Rattle.std.proofs.Common.{◌≡◌, Result, Err, subst, rules}
use Rattle.h5w_several_appending.specs.Appending.{TakesInput}
use Rattle.h5w_several_appending.specs.declared.batching.Ending.{Ending}
use Rattle.h5w_several_appending.specs.declared.batching.Ending.TheVariants as endings
use Rattle.h5w_several_appending.proofs.ShutLemmas.{settles_all, settles_broke, settles_some}
use Rattle.h5w_several_appending.proofs.appending.settle.Goals as goal

pub returns-in-Ok-clause-settles : goal.returns-in-Ok-clause-settles
returns-in-Ok-clause-settles g c = λ first x y u k l counted h.
    settles_all _ c.args.target.faults c.args.target.file.now first c.args.session.now c.shut.result counted c.shut.ensures
    (subst (λ (q : Result (Unit {0}) Ending). TakesInput c.args.target.file.now first c.args.session.now x y u (g.D.Disk.view c.args.disk.now) k l q) c.in-Ok.is h)

pub returns-in-Ok-shut-clause-settles : goal.returns-in-Ok-shut-clause-settles
returns-in-Ok-shut-clause-settles g c =
    let is : c.args.taken ≡ Err (endings.Refused c.in-Err-Refused.error) = search rules in
    λ first x y u k l counted h.
    settles_some c.args.target.faults c.args.target.file.now first c.args.session.now c.in-Err-Refused.error counted c.in-Ok-shut.ensures
    (subst (λ (q : Result (Unit {0}) Ending). TakesInput c.args.target.file.now first c.args.session.now x y u (g.D.Disk.view c.args.disk.now) k l q) is h)

pub returns-in-Err-clause-settles : goal.returns-in-Err-clause-settles
returns-in-Err-clause-settles g c =
    let is : c.args.taken ≡ Err (endings.Refused c.in-Err-Refused.error) = search rules in
    λ first x y u k l counted h.
    settles_broke _ c.args.target.faults c.args.target.file.now first c.args.session.now c.in-Err-Refused.error c.in-Err.ending counted c.in-Err.ensures
    (subst (λ (q : Result (Unit {0}) Ending). TakesInput c.args.target.file.now first c.args.session.now x y u (g.D.Disk.view c.args.disk.now) k l q) is h)
