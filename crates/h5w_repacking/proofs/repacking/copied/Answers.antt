use Rattle.std.proofs.Common.{Err, refl, rules, sym, subst, ap}
use Rattle.h5w_text.specs.declared.error.ErrorLine.{ErrorLine}
use Rattle.h5w_files.proofs.ImageLemmas.{reference_looked}
use Rattle.h5w_repacking.specs.Repacks.{CopiesTo}
use Rattle.h5w_repacking.proofs.PairLemmas.{copies_all, copies_error}
use Rattle.h5w_repacking.proofs.repacking.copied.Goals as goal

pub returns-in-Ok-clause-copies : goal.returns-in-Ok-clause-copies
returns-in-Ok-clause-copies g c =
    let done = c.in-Ok.ensures.copied in
    let same = reference_looked done.carries.from _ _ _ _ refl refl in
    let fact = copies_all {v = g.D.Disk.view c.args.disk.now} {w = g.D.Disk.view c.copy.new.pair.disk.now} _ _ c.args.file.now c.copy.new.pair.from.now c.args.to.now c.copy.new.pair.to.now c.args.packing.now.left done in
    search (rules, same, fact)

pub returns-in-Err-clause-copies : goal.returns-in-Err-clause-copies
returns-in-Err-clause-copies g c =
    let v = g.D.Disk.view c.args.disk.now in
    let w = g.D.Disk.view c.copy.new.pair.disk.now in
    let some = c.in-Err.ensures.partly in
    let same = reference_looked some.carries.from _ _ _ _ refl refl in
    let fact =
    subst (λ (e : ErrorLine). CopiesTo c.args.file.now c.args.to.now c.args.packing.now.left v w (Err e)) (sym c.line_of_copy.ensures)
    (copies_error v w _ _ c.args.file.now c.copy.new.pair.from.now c.args.to.now c.copy.new.pair.to.now c.args.packing.now.left c.in-Err.error some (λ e. c.in-Err.ensures.before (ap Err e)) (λ e. c.in-Err.ensures.from_fault (ap Err e))
    (λ e. c.in-Err.ensures.to_fault (ap Err e))) in
    search (rules, same, fact)
