use Rattle.std.proofs.Common.{sym, ap, ◌∙◌, subst}
use Rattle.std.specs.Prelude.{IfOk}
use Rattle.h5w_model.specs.Unfinished.{Reader, ReaderRules}
use Rattle.h5w_reader.specs.Readers.{new_reader}
use Rattle.h5w_live_reading.specs.Reading.{Polled, Strays}
use Rattle.h5w_live_reading.proofs.reading.polls.Goals as goal

pub polls_of-requires-clause-opening : goal.polls_of-requires-clause-opening
polls_of-requires-clause-opening g c κs within =
    let begun = c.in_ok-core.ensures.begun in begun ∙ ap (λ (r : Reader). new_reader r.rules) (sym begun)

pub returns-clause-lines : goal.returns-clause-lines
returns-clause-lines g c =
    subst (λ (x : ReaderRules). IfOk c.polls_of.result (λ lines. Polled x c.args.image.now.start c.args.reader c.args.seat.now.seen c.polls_of.new.seat.seen lines.items)) (ap (λ (r : Reader). r.rules) c.in_ok-core.ensures.begun) c.polls_of.ensures.lines

pub returns-clause-stray : goal.returns-clause-stray
returns-clause-stray g c = λ e.
    subst (λ (x : ReaderRules). Strays x c.args.image.now.start c.args.reader c.args.seat.now.seen c.polls_of.new.seat.seen) (ap (λ (r : Reader). r.rules) c.in_ok-core.ensures.begun) (c.polls_of.ensures.stray e)
