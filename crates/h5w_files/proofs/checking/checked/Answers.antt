use Rattle.std.proofs.Common.{refl, rules, ap, sym, subst, Err}
use Rattle.h5w_image.specs.View.{IsThere}
use Rattle.h5w_image.proofs.DiskLemmas.{there_when_sized}
use Rattle.h5w_text.specs.declared.error.ErrorLine.{ErrorLine}
use Rattle.h5w_files.specs.Checks.{ChecksTo}
use Rattle.h5w_files.proofs.CheckLemmas.{checks_refused, checks_valid}
use Rattle.h5w_files.proofs.ImageLemmas.{reference_looked}
use Rattle.h5w_files.proofs.checking.checked.Goals as goal

pub returns-in-Ok : goal.returns-in-Ok
returns-in-Ok g c =
    let there : IsThere (g.D.Disk.view c.size.new.self) c.args.file.now = search (rules, there_when_sized) in
    let same = reference_looked c.in-Ok.ensures.looked _ _ _ _ refl refl in
    let fact =
    checks_valid {u = g.D.Disk.view c.args.disk.now} {v = g.D.Disk.view c.size.new.self} {w = g.D.Disk.view c.check.new.image.disk.now} _ _ c.args.file.now c.check.new.image.name.now c.args.names.now c.in-Ok.summary c.size.ensures.same there c.in-Ok.ensures.looked
    c.in-Ok.ensures.exact in
    search (rules, same, fact)

pub returns-in-Err-check_image : goal.returns-in-Err-check_image
returns-in-Err-check_image g c =
    let there : IsThere (g.D.Disk.view c.size.new.self) c.args.file.now = search (rules, there_when_sized) in
    let same = reference_looked c.in-Err-check_image.ensures.looked _ _ _ _ refl refl in
    let fact =
    subst (λ (e : ErrorLine). ChecksTo c.args.file.now c.args.names.now (g.D.Disk.view c.args.disk.now) (g.D.Disk.view c.check.new.image.disk.now) (Err e)) (sym c.check_line.ensures)
    (checks_refused {u = g.D.Disk.view c.args.disk.now} {v = g.D.Disk.view c.size.new.self} {w = g.D.Disk.view c.check.new.image.disk.now} _ _ c.args.file.now c.check.new.image.name.now c.args.names.now c.in-Err-check_image.error c.size.ensures.same there
    c.in-Err-check_image.ensures.looked c.in-Err-check_image.ensures.exact (λ e. c.in-Err-check_image.ensures.failed (ap Err e))) in
    search (rules, same, fact)
