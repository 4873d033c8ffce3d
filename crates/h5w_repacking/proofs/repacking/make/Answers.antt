use Rattle.std.proofs.Common.{◌≡◌, true, rules}
use Rattle.h5w_repacking.proofs.NewLemmas.{makes_new}
use Rattle.h5w_repacking.proofs.repacking.make.Goals as goal

pub returns-in-Ok-true : goal.returns-in-Ok-true
returns-in-Ok-true g c =
    let is : c.in-Ok-true.field-0 ≡ true = search rules in
    makes_new {v = g.D.Disk.view c.args.disk.now} {w = g.D.Disk.view c.make.new.self} c.args.to.now c.in-Ok-true.field-0 is c.in-Ok-true.ensures.exact (search rules)
