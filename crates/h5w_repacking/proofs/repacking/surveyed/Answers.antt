use Rattle.std.proofs.Common.{◌≡◌, ◌<◌, ◌^◌, Some, Ok, Err, length, refl, rules, sym, subst}
use Rattle.std.specs.Prelude.{IfSome, option_map}
use Rattle.h5w_image.specs.View.{file}
use Rattle.h5w_image.proofs.DiskLemmas.{there_when_sized}
use Rattle.h5w_text.specs.declared.error.ErrorLine.{ErrorLine}
use Rattle.h5w_files.proofs.ImageLemmas.{reference_looked}
use Rattle.h5w_repacking.specs.Repacks.{SurveysTo}
use Rattle.h5w_repacking.proofs.NewLemmas.{surveys_by}
use Rattle.h5w_repacking.proofs.repacking.surveyed.Goals as goal

pub returns-in-Ok : goal.returns-in-Ok
returns-in-Ok g c =
    let u = g.D.Disk.view c.args.disk.now in
    let v = g.D.Disk.view c.size.new.self in
    let sized : IfSome u.told (λ d. Some c.in-Ok-Some.size ≡ option_map length (file d c.args.file.now)) = search rules in
    let low : c.in-Ok-Some.size < 2 ^ 64 = search rules in
    let there = there_when_sized {v = u} {w = v} c.args.file.now c.in-Ok-Some.size c.size.ensures.same sized in
    let same = reference_looked c.in-Ok.ensures.step.looked _ _ _ _ refl refl in
    let fact =
    surveys_by {u = u} {v = v} {w = g.D.Disk.view c.survey.new.from.disk.now} _ _ c.in-Ok-Some.size c.args.file.now c.survey.new.from.name.now c.args.names.now (Ok c.in-Ok.found) low c.size.ensures.same sized there c.in-Ok.ensures.step
    c.in-Ok.ensures.sound in
    search (rules, same, fact)

pub returns-in-Err-survey : goal.returns-in-Err-survey
returns-in-Err-survey g c =
    let u = g.D.Disk.view c.args.disk.now in
    let v = g.D.Disk.view c.size.new.self in
    let w = g.D.Disk.view c.survey.new.from.disk.now in
    let sized : IfSome u.told (λ d. Some c.in-Ok-Some.size ≡ option_map length (file d c.args.file.now)) = search rules in
    let low : c.in-Ok-Some.size < 2 ^ 64 = search rules in
    let there = there_when_sized {v = u} {w = v} c.args.file.now c.in-Ok-Some.size c.size.ensures.same sized in
    let same = reference_looked c.in-Err-survey.ensures.step.looked _ _ _ _ refl refl in
    let fact =
    subst (λ (e : ErrorLine). SurveysTo c.args.file.now c.args.names.now u w (Err e)) (sym c.line_of_survey.ensures)
    (surveys_by {u = u} {v = v} {w = w} _ _ c.in-Ok-Some.size c.args.file.now c.survey.new.from.name.now c.args.names.now (Err c.in-Err-survey.error) low c.size.ensures.same sized there c.in-Err-survey.ensures.step tt) in
    search (rules, same, fact)
