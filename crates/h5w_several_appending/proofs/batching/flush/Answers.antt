use Rattle.std.proofs.Common.{ap, refl, rules, Err}
use Rattle.h5w_appending.proofs.StoreLemmas.{reference_of, unput_of}
use Rattle.h5w_several_appending.specs.Appending.{no_depth, no_place, wanting}
use Rattle.h5w_several_appending.proofs.StepLemmas.{planned_ok}
use Rattle.h5w_several_appending.proofs.batching.flush.Goals as goal

pub returns-in-Ok-clause-unput : goal.returns-in-Ok-clause-unput
returns-in-Ok-clause-unput g c =
    let same = reference_of c.in-Ok.ensures.image _ _ _ _ refl refl in
    let fact = unput_of {v = g.D.Disk.view c.args.disk.now} {w = g.D.Disk.view c.flush.new.image.disk.now} _ _ c.args.file.now c.flush.new.image.name.now c.in-Ok.ensures.image in
    search (rules, same, fact)

pub returns-in-Err-Space-clause-unput : goal.returns-in-Err-Space-clause-unput
returns-in-Err-Space-clause-unput g c =
    let same = reference_of c.in-Err-Space.ensures.image _ _ _ _ refl refl in
    let fact = unput_of {v = g.D.Disk.view c.args.disk.now} {w = g.D.Disk.view c.flush.new.image.disk.now} _ _ c.args.file.now c.flush.new.image.name.now c.in-Err-Space.ensures.image in
    search (rules, same, fact)

pub returns-in-Err-Deep-clause-unput : goal.returns-in-Err-Deep-clause-unput
returns-in-Err-Deep-clause-unput g c =
    let same = reference_of c.in-Err-Deep.ensures.image _ _ _ _ refl refl in
    let fact = unput_of {v = g.D.Disk.view c.args.disk.now} {w = g.D.Disk.view c.flush.new.image.disk.now} _ _ c.args.file.now c.flush.new.image.name.now c.in-Err-Deep.ensures.image in
    search (rules, same, fact)

pub returns-in-Err-OutOfMemory-clause-unput : goal.returns-in-Err-OutOfMemory-clause-unput
returns-in-Err-OutOfMemory-clause-unput g c =
    let same = reference_of c.in-Err-OutOfMemory.ensures.image _ _ _ _ refl refl in
    let fact = unput_of {v = g.D.Disk.view c.args.disk.now} {w = g.D.Disk.view c.flush.new.image.disk.now} _ _ c.args.file.now c.flush.new.image.name.now c.in-Err-OutOfMemory.ensures.image in
    search (rules, same, fact)

pub returns-in-Err-Failed-clause-unput : goal.returns-in-Err-Failed-clause-unput
returns-in-Err-Failed-clause-unput g c =
    let same = reference_of c.in-Err-Failed.ensures.image _ _ _ _ refl refl in
    let fact = unput_of {v = g.D.Disk.view c.args.disk.now} {w = g.D.Disk.view c.flush.new.image.disk.now} _ _ c.args.file.now c.flush.new.image.name.now c.in-Err-Failed.ensures.image in
    search (rules, same, fact)

pub returns-in-Ok-clause-flushes : goal.returns-in-Ok-clause-flushes
returns-in-Ok-clause-flushes g c =
    let h = c.in-Ok.ensures in
    let same = reference_of h.image _ _ _ _ refl refl in
    let fact = planned_ok (g.D.Disk.view c.args.disk.now) (g.D.Disk.view c.flush.new.image.disk.now) _ _ c.args.file.now c.flush.new.image.name.now c.args.session.now c.flush.new.self c.in-Ok.field-0 h.image h.rows h.counts h.stands h.room in
    search (rules, same, fact)

pub returns-in-Err-Space-clause-flushes : goal.returns-in-Err-Space-clause-flushes
returns-in-Err-Space-clause-flushes g c =
    let h = c.in-Err-Space.ensures in
    let is = ap Err c.in-Err-Space.field-0-is in
    (record { same = h.kept; stands = h.left }, no_place c.in-Err-Space.full (λ log stands. h.bound c.in-Err-Space.full is log stands))

pub returns-in-Err-Deep-clause-flushes : goal.returns-in-Err-Deep-clause-flushes
returns-in-Err-Deep-clause-flushes g c = let h = c.in-Err-Deep.ensures in (record { same = h.kept; stands = h.left }, no_depth)

pub returns-in-Err-OutOfMemory-clause-flushes : goal.returns-in-Err-OutOfMemory-clause-flushes
returns-in-Err-OutOfMemory-clause-flushes g c = let h = c.in-Err-OutOfMemory.ensures in (record { same = h.kept; stands = h.left }, wanting)
