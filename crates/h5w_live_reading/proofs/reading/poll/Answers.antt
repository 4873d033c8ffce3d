use Rattle.std.proofs.Common.{ap, ◌∙◌, subst}
use Rattle.h5w_reader.specs.Cores as cores
use Rattle.h5w_reader.specs.declared.step.Step.{Step}
use Rattle.h5w_reader.specs.declared.step.Step.TheVariants as steps
use Rattle.h5w_live_reading.specs.Reading.{AnswersThrough}
use Rattle.h5w_live_reading.proofs.ReadingLemmas.{poll_gave_up}
use Rattle.h5w_live_reading.proofs.reading.poll.Goals as goal

pub returns-in-Refused-Again-clause-answers : goal.returns-in-Refused-Again-clause-answers
returns-in-Refused-Again-clause-answers g c =
    let w = c.in-Refused-Again in
    poll_gave_up c.args.image.now.start c.args.seat.now.seen c.answered.new.seat.seen (cores.reader c.args.core.now) (cores.reader c.answered.new.core) c.requires.begun w.attempts w.field-0-1 w.field-0-2 w.field-0-3
    (subst (λ (s : Step). AnswersThrough c.args.image.now.start c.args.seat.now.seen c.answered.new.seat.seen (cores.reader c.args.core.now) s (cores.reader c.answered.new.core)) (w.is ∙ ap steps.Refused w.field-0-is)
    c.in_ok-rows.ensures.answers)
