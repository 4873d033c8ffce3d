use Rattle.std.proofs.Common.{refl, rules}
use Rattle.h5w_appending.proofs.StoreLemmas.{appends_ok, reference_of, unput_of}
use Rattle.h5w_appending.proofs.batching.append_values.Goals as goal

pub returns-in-Ok-clause-unput : goal.returns-in-Ok-clause-unput
returns-in-Ok-clause-unput g c =
    let same = reference_of c.in-Ok.ensures.image _ _ _ _ refl refl in
    let fact = unput_of {v = g.D.Disk.view c.args.disk.now} {w = g.D.Disk.view c.append.new.image.disk.now} _ _ c.args.file.now c.append.new.image.name.now c.in-Ok.ensures.image in
    search (rules, same, fact)

pub returns-in-Err-OutOfRange-clause-unput : goal.returns-in-Err-OutOfRange-clause-unput
returns-in-Err-OutOfRange-clause-unput g c =
    let same = reference_of c.in-Err-OutOfRange.ensures.image _ _ _ _ refl refl in
    let fact = unput_of {v = g.D.Disk.view c.args.disk.now} {w = g.D.Disk.view c.append.new.image.disk.now} _ _ c.args.file.now c.append.new.image.name.now c.in-Err-OutOfRange.ensures.image in
    search (rules, same, fact)

pub returns-in-Err-Chunks-clause-unput : goal.returns-in-Err-Chunks-clause-unput
returns-in-Err-Chunks-clause-unput g c =
    let same = reference_of c.in-Err-Chunks.ensures.image _ _ _ _ refl refl in
    let fact = unput_of {v = g.D.Disk.view c.args.disk.now} {w = g.D.Disk.view c.append.new.image.disk.now} _ _ c.args.file.now c.append.new.image.name.now c.in-Err-Chunks.ensures.image in
    search (rules, same, fact)

pub returns-in-Err-OutOfMemory-clause-unput : goal.returns-in-Err-OutOfMemory-clause-unput
returns-in-Err-OutOfMemory-clause-unput g c =
    let same = reference_of c.in-Err-OutOfMemory.ensures.image _ _ _ _ refl refl in
    let fact = unput_of {v = g.D.Disk.view c.args.disk.now} {w = g.D.Disk.view c.append.new.image.disk.now} _ _ c.args.file.now c.append.new.image.name.now c.in-Err-OutOfMemory.ensures.image in
    search (rules, same, fact)

pub returns-in-Err-Failed-clause-unput : goal.returns-in-Err-Failed-clause-unput
returns-in-Err-Failed-clause-unput g c =
    let same = reference_of c.in-Err-Failed.ensures.image _ _ _ _ refl refl in
    let fact = unput_of {v = g.D.Disk.view c.args.disk.now} {w = g.D.Disk.view c.append.new.image.disk.now} _ _ c.args.file.now c.append.new.image.name.now c.in-Err-Failed.ensures.image in
    search (rules, same, fact)

pub returns-in-Ok-clause-appends : goal.returns-in-Ok-clause-appends
returns-in-Ok-clause-appends g c =
    let h = c.in-Ok.ensures in
    let same = reference_of h.image _ _ _ _ refl refl in
    let fact = appends_ok (g.D.Disk.view c.args.disk.now) (g.D.Disk.view c.append.new.image.disk.now) _ _ c.args.file.now c.append.new.image.name.now c.args.session.now c.append.new.self c.args.values.now h.image h.added h.stands h.room in
    search (rules, same, fact)
