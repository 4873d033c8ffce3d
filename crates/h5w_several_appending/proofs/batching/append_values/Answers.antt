use Rattle.std.proofs.Common.{◌≡◌, ℤ, refl, rules, subst, sym, to_z, of_z}
use Rattle.std.specs.Int.{w128}
use Rattle.h5w_bt_nodes.proofs.Places.{there_is}
use Rattle.h5w_text.specs.declared.error.ErrorLine.TheVariants as errors
use Rattle.h5w_several_writer_laws.specs.Sessions.{AreSessions}
use Rattle.h5w_appending.proofs.StoreLemmas.{reference_of, unput_of}
use Rattle.h5w_several_appending.specs.Appending.{ValuesRefused, no_memory, out_of_range, too_many}
use Rattle.h5w_several_appending.proofs.StepLemmas.{appended_ok, never_busy, never_stopped, out_of_range_of, rows_at, too_many_of}
use Rattle.h5w_several_appending.proofs.batching.append_values.Goals as goal

pub returns-in-Ok-clause-unput : goal.returns-in-Ok-clause-unput
returns-in-Ok-clause-unput g c =
    let same = reference_of c.in-Ok.ensures.image _ _ _ _ refl refl in
    let fact = unput_of {v = g.D.Disk.view c.args.disk.now} {w = g.D.Disk.view c.append.new.image.disk.now} _ _ c.args.file.now c.append.new.image.name.now c.in-Ok.ensures.image in
    search (rules, same, fact)

pub returns-in-Err-OutOfRange-clause-unput : goal.returns-in-Err-OutOfRange-clause-unput
returns-in-Err-OutOfRange-clause-unput g c =
    let same = reference_of c.in-Err-OutOfRange.ensures.image _ _ _ _ refl refl in
    let fact = unput_of {v = g.D.Disk.view c.args.disk.now} {w = g.D.Disk.view c.append.new.image.disk.now} _ _ c.args.file.now c.append.new.image.name.now c.in-Err-OutOfRange.ensures.image in
    search (rules, same, fact)

pub returns-in-Err-Chunks-clause-unput : goal.returns-in-Err-Chunks-clause-unput
returns-in-Err-Chunks-clause-unput g c =
    let same = reference_of c.in-Err-Chunks.ensures.image _ _ _ _ refl refl in
    let fact = unput_of {v = g.D.Disk.view c.args.disk.now} {w = g.D.Disk.view c.append.new.image.disk.now} _ _ c.args.file.now c.append.new.image.name.now c.in-Err-Chunks.ensures.image in
    search (rules, same, fact)

pub returns-in-Err-OutOfMemory-clause-unput : goal.returns-in-Err-OutOfMemory-clause-unput
returns-in-Err-OutOfMemory-clause-unput g c =
    let same = reference_of c.in-Err-OutOfMemory.ensures.image _ _ _ _ refl refl in
    let fact = unput_of {v = g.D.Disk.view c.args.disk.now} {w = g.D.Disk.view c.append.new.image.disk.now} _ _ c.args.file.now c.append.new.image.name.now c.in-Err-OutOfMemory.ensures.image in
    search (rules, same, fact)

pub returns-in-Err-Failed-clause-unput : goal.returns-in-Err-Failed-clause-unput
returns-in-Err-Failed-clause-unput g c =
    let same = reference_of c.in-Err-Failed.ensures.image _ _ _ _ refl refl in
    let fact = unput_of {v = g.D.Disk.view c.args.disk.now} {w = g.D.Disk.view c.append.new.image.disk.now} _ _ c.args.file.now c.append.new.image.name.now c.in-Err-Failed.ensures.image in
    search (rules, same, fact)

pub append-requires-clause-rows : goal.append-requires-clause-rows
append-requires-clause-rows g c = λ s is. rows_at c.args.session.now.parts c.args.d s c.args.values.now is c.requires.rows

pub returns-in-Ok-clause-appends : goal.returns-in-Ok-clause-appends
returns-in-Ok-clause-appends g c =
    let h = c.in-Ok.ensures in
    let same = reference_of h.image _ _ _ _ refl refl in
    let fact = appended_ok (g.D.Disk.view c.args.disk.now) (g.D.Disk.view c.append.new.image.disk.now) _ _ c.args.file.now c.append.new.image.name.now c.args.d c.args.session.now c.append.new.self c.args.values.now h.image h.added h.stands h.room in
    search (rules, same, fact)

pub returns-in-Err-OutOfRange-clause-appends : goal.returns-in-Err-OutOfRange-clause-appends
returns-in-Err-OutOfRange-clause-appends g c =
    let h = c.in-Err-OutOfRange.ensures in
    let got = there_is c.args.session.now.parts c.args.d c.requires.inside in
    let sessions = subst AreSessions h.kept h.sessions in
    let value : to_z w128 (of_z w128 c.in-Err-OutOfRange.value) ≡ c.in-Err-OutOfRange.value = search rules in
    let cause = out_of_range_of c.args.file.now c.args.session.now c.args.d got.0 c.args.values.now c.in-Err-OutOfRange.index c.in-Err-OutOfRange.value c.requires.ready sessions got.1 (rw c.in-Err-OutOfRange.field-0-is at (h.causes got.0 got.1)) in
    (h.kept, subst (λ (z : ℤ). ValuesRefused c.args.line c.args.d c.args.session.now c.args.values.now (errors.Range c.args.line c.in-Err-OutOfRange.index z)) (sym value) (out_of_range got.0 c.in-Err-OutOfRange.index c.in-Err-OutOfRange.value got.1 cause))

pub returns-in-Err-Chunks-clause-appends : goal.returns-in-Err-Chunks-clause-appends
returns-in-Err-Chunks-clause-appends g c =
    let h = c.in-Err-Chunks.ensures in
    let got = there_is c.args.session.now.parts c.args.d c.requires.inside in
    (h.kept, too_many got.0 c.in-Err-Chunks.chunks c.in-Err-Chunks.limit got.1 (too_many_of c.args.file.now c.args.session.now got.0 c.args.values.now c.in-Err-Chunks.chunks c.in-Err-Chunks.limit c.requires.ready (rw c.in-Err-Chunks.field-0-is at (h.causes got.0 got.1))))

pub returns-in-Err-OutOfMemory-clause-appends : goal.returns-in-Err-OutOfMemory-clause-appends
returns-in-Err-OutOfMemory-clause-appends g c = (c.in-Err-OutOfMemory.ensures.kept, no_memory)

pub unreachable-requires : goal.unreachable-requires
unreachable-requires g c =
    let h = c.in-Err-Stopped.ensures in
    let got = there_is c.args.session.now.parts c.args.d c.requires.inside in
    never_stopped c.args.file.now c.args.session.now c.args.d got.0 c.args.values.now c.requires.ready (subst AreSessions h.kept h.sessions) got.1 (rw c.in-Err-Stopped.field-0-is at (h.causes got.0 got.1))

pub unreachable-requires-in-Err-Busy : goal.unreachable-requires-in-Err-Busy
unreachable-requires-in-Err-Busy g c =
    let h = c.in-Err-Busy.ensures in
    let got = there_is c.args.session.now.parts c.args.d c.requires.inside in
    never_busy c.args.file.now c.args.session.now c.args.d c.in-Err-Busy.field-0-0 got.0 c.args.values.now c.requires.ready (subst AreSessions h.kept h.sessions) got.1 (rw c.in-Err-Busy.field-0-is at (h.causes got.0 got.1))
