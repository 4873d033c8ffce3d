use Rattle.std.proofs.Common.{◌≡◌, Ok, true, ap, ◌∙◌, rules, subst}
use Rattle.std.specs.Prelude.{IfSome, is_none}
use Rattle.h5w_image.specs.View.{file}
use Rattle.h5w_image.proofs.DiskLemmas.{there_when_made}
use Rattle.h5w_appending.proofs.CreateLemmas.{made_by}
use Rattle.h5w_appending.proofs.creating.make_new.Goals as goal

pub fill_all-requires-clause-there : goal.fill_all-requires-clause-there
fill_all-requires-clause-there g c =
    let is : c.in-Ok-true.field-0 ≡ true = search rules in
    there_when_made c.args.file.now (c.make.ensures.made (c.in-Ok-true.is ∙ ap Ok is))

pub returns-in-Ok-true : goal.returns-in-Ok-true
returns-in-Ok-true g c =
    let is : c.in-Ok-true.field-0 ≡ true = search rules in
    made_by (g.D.Disk.view c.args.disk.now) (g.D.Disk.view c.make.new.self) (g.D.Disk.view c.fill_all.new.disk) c.args.file.now c.args.new.now.writes.items c.fill_all.result
    (subst (λ b. IfSome (g.D.Disk.view c.args.disk.now).told (λ d. b ≡ is_none (file d c.args.file.now))) is c.in-Ok-true.ensures.exact) (c.make.ensures.made (c.in-Ok-true.is ∙ ap Ok is)) c.in-Ok-true.ensures.calm
    c.fill_all.ensures.all c.fill_all.ensures.calm c.fill_all.ensures.refused
