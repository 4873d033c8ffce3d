use Rattle.std.proofs.Common.{ap, refl, rules}
use Rattle.h5w_batches.specs.declared.error.BatchError.TheVariants as errors
use Rattle.h5w_batches.proofs.InputLemmas.{cause_of, err_of, ok_of, rows_of}
use Rattle.h5w_batches.proofs.AnswerLemmas.{completes_of, outside_of, too_long_of}
use Rattle.h5w_batches.proofs.reading.read_batches.Goals as goal

pub returns-clause-ok : goal.returns-clause-ok
returns-clause-ok g c =
    ok_of c.args.columns c.read_lines.result (λ batches. batches.items) _ _ _ _ c.new-lines.result.intake.now c.read_lines.ensures.ok (search rules) (ap g.S.Source.view c.new-lines.ensures.source) (ap g.S.Source.view (search rules))

pub returns-clause-rows : goal.returns-clause-rows
returns-clause-rows g c = rows_of c.args.columns c.read_lines.result (λ batches. batches.items) _ _ c.requires c.read_lines.ensures.ok

pub returns-clause-line : goal.returns-clause-line
returns-clause-line g c = λ number is.
    let t = g.S.Source.view c.read_lines.new.lines.source.now in
    cause_of c.args.columns (g.S.Source.view c.args.source.now) t c.read_lines.result (errors.Line number)
    (err_of c.args.columns c.read_lines.result _ _ t t c.new-lines.result.intake.now c.read_lines.ensures.refused (search rules) (ap g.S.Source.view c.new-lines.ensures.source) refl) is

pub returns-clause-input : goal.returns-clause-input
returns-clause-input g c = λ limit is.
    let t = g.S.Source.view c.read_lines.new.lines.source.now in
    cause_of c.args.columns (g.S.Source.view c.args.source.now) t c.read_lines.result (errors.Input limit)
    (err_of c.args.columns c.read_lines.result _ _ t t c.new-lines.result.intake.now c.read_lines.ensures.refused (search rules) (ap g.S.Source.view c.new-lines.ensures.source) refl) is

pub returns-clause-failed : goal.returns-clause-failed
returns-clause-failed g c = λ is.
    cause_of c.args.columns (g.S.Source.view c.args.source.now) _ c.read_lines.result errors.Source
    (err_of c.args.columns c.read_lines.result _ _ _ _ c.new-lines.result.intake.now c.read_lines.ensures.refused (search rules) (ap g.S.Source.view c.new-lines.ensures.source) (ap g.S.Source.view (search rules))) is

pub returns-clause-outside : goal.returns-clause-outside
returns-clause-outside g c = λ number some h.
    let s = g.S.Source.view c.args.source.now in
    let t = g.S.Source.view c.read_lines.new.lines.source.now in
    outside_of c.args.columns s t c.read_lines.result (λ batches. batches.items) number some h
    (ok_of c.args.columns c.read_lines.result (λ batches. batches.items) _ _ t t c.new-lines.result.intake.now c.read_lines.ensures.ok (search rules) (ap g.S.Source.view c.new-lines.ensures.source) refl)
    (err_of c.args.columns c.read_lines.result _ _ t t c.new-lines.result.intake.now c.read_lines.ensures.refused (search rules) (ap g.S.Source.view c.new-lines.ensures.source) refl)

pub returns-clause-too_long : goal.returns-clause-too_long
returns-clause-too_long g c = λ numbers some h.
    let s = g.S.Source.view c.args.source.now in
    let t = g.S.Source.view c.read_lines.new.lines.source.now in
    too_long_of c.args.columns s t c.read_lines.result (λ batches. batches.items) numbers some h
    (ok_of c.args.columns c.read_lines.result (λ batches. batches.items) _ _ t t c.new-lines.result.intake.now c.read_lines.ensures.ok (search rules) (ap g.S.Source.view c.new-lines.ensures.source) refl)
    (err_of c.args.columns c.read_lines.result _ _ t t c.new-lines.result.intake.now c.read_lines.ensures.refused (search rules) (ap g.S.Source.view c.new-lines.ensures.source) refl)

pub returns-clause-completes : goal.returns-clause-completes
returns-clause-completes g c = λ numbers.
    let t = g.S.Source.view c.read_lines.new.lines.source.now in
    completes_of c.args.columns (g.S.Source.view c.args.source.now) t c.read_lines.result numbers
    (err_of c.args.columns c.read_lines.result _ _ t t c.new-lines.result.intake.now c.read_lines.ensures.refused (search rules) (ap g.S.Source.view c.new-lines.ensures.source) refl)
