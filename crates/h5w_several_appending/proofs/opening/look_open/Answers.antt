use Rattle.std.proofs.Common.{refl, rules}
use Rattle.h5w_files.proofs.ImageLemmas.{looked_files, reference_looked}
use Rattle.h5w_several_appending.proofs.OpenLemmas.{opens_over, unopened_by}
use Rattle.h5w_several_appending.proofs.opening.look_open.Goals as goal

pub returns-in-Ok-clause-disk : goal.returns-in-Ok-clause-disk
returns-in-Ok-clause-disk g c =
    let same = reference_looked c.in-Ok.ensures.looked _ _ _ _ refl refl in
    let fact = looked_files {u = g.D.Disk.view c.args.disk.now} {w = g.D.Disk.view c.begin_all.new.image.disk.now} _ _ c.args.terms.file.now c.begin_all.new.image.name.now c.in-Ok.ensures.looked in
    search (rules, same, fact)

pub returns-in-Ok-clause-opens : goal.returns-in-Ok-clause-opens
returns-in-Ok-clause-opens g c = (
  opens_over _ c.args.terms.file.now c.args.names.now c.args.terms.limit c.args.terms.budget c.args.size c.in-Ok.session c.requires.there c.ranges.size.fits c.requires.sized c.in-Ok.ensures.begun c.in-Ok.ensures.exact c.in-Ok.ensures.stands,
  c.in-Ok.ensures.begun,
)

pub returns-in-Err-clause-disk : goal.returns-in-Err-clause-disk
returns-in-Err-clause-disk g c =
    let same = reference_looked c.in-Err.ensures.looked _ _ _ _ refl refl in
    let fact = looked_files {u = g.D.Disk.view c.args.disk.now} {w = g.D.Disk.view c.begin_all.new.image.disk.now} _ _ c.args.terms.file.now c.begin_all.new.image.name.now c.in-Err.ensures.looked in
    search (rules, same, fact)

pub returns-in-Err-clause-opens : goal.returns-in-Err-clause-opens
returns-in-Err-clause-opens g c =
    let same = reference_looked c.in-Err.ensures.looked _ _ _ _ refl refl in
    let fact = unopened_by {v = g.D.Disk.view c.args.disk.now} {w = g.D.Disk.view c.begin_all.new.image.disk.now} _ _ c.args.terms.file.now c.begin_all.new.image.name.now c.args.names.now c.args.terms.limit c.args.terms.budget c.args.size c.in-Err.error c.open_line.result c.ranges.size.fits c.requires.sized c.open_line.ensures
    c.in-Err.ensures.looked c.in-Err.ensures.exact c.in-Err.ensures.cause c.in-Err.ensures.kinds in
    search (rules, same, fact)
