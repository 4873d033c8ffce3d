use Rattle.std.proofs.Common.{rules, ◌+◌, refl, sym, subst}
use Rattle.std.specs.Prelude.{ℤ}
use Rattle.std.specs.Int.{w128}
use Rattle.std.proofs.lemmas.Int.{to_z-of_z}
use Rattle.h5w_live_laws.specs.Polls.{AnswersPoll}
use Rattle.h5w_reader.specs.Cores.{reader}
use Rattle.h5w_live_reading.proofs.ReadingLemmas.{PollsTo, polls_first, polls_more, polls_stray}
use Rattle.h5w_live_reading.proofs.reading.polls_of.Goals as goal

pub loop-call-init : goal.loop-call-init
loop-call-init g c = (
  c.requires.image,
  polls_first (reader c.args.core.now).rules c.args.image.now.start c.args.reader c.args.seat.now.seen (reader c.args.core.now) c.new-lines.result.items c.requires.opening c.requires.wanting
      c.new-lines.ensures.items,
)

pub begin-requires : goal.begin-requires
begin-requires g c = c.loop-call.invariant.1.ready

pub returns-in_err-answer-clause-stray : goal.returns-in_err-answer-clause-stray
returns-in_err-answer-clause-stray g c = λ e.
    polls_stray (reader c.args.core.now).rules c.args.image.now.start c.args.reader c.args.seat.now.seen c.loop-call.call (reader c.loop-call.core) (reader c.begin.new.core) c.loop-call.told.sum c.loop-call.seat.seen c.poll.new.seat.seen
    c.loop-call.lines.items c.loop-call.invariant.1 c.begin.ensures.rules c.begin.ensures.known (c.poll.ensures.stray (search rules))

pub loop-call-preserved : goal.loop-call-preserved
loop-call-preserved g c = (
  c.poll.ensures.image,
  subst (λ (z : ℤ). PollsTo (reader c.args.core.now).rules c.args.image.now.start c.args.reader c.args.seat.now.seen (c.loop-call.call + 1) (reader c.poll.new.core) z c.poll.new.seat.seen c.push.new.self.items) (sym c.told_after-told.ensures)
      (polls_more (reader c.args.core.now).rules c.args.image.now.start c.args.reader c.args.seat.now.seen c.loop-call.call (reader c.loop-call.core) (reader c.begin.new.core) c.loop-call.told.sum c.loop-call.seat.seen c.poll.new.seat.seen
      c.loop-call.lines.items c.loop-call.invariant.1 c.begin.ensures.rules c.begin.ensures.known (reader c.poll.new.core)
      (record { reader = c.args.reader; poll = c.loop-call.call + 1; before = c.seen-before.result; after = c.seen-after.result; answer = c.in_ok-answer.answer }) c.push.new.self.items
      (subst (λ (z : ℤ). AnswersPoll (reader c.begin.new.core).rules c.args.image.now.start (reader c.begin.new.core).known z c.loop-call.seat.seen c.poll.new.seat.seen (reader c.poll.new.core).known c.in_ok-answer.answer) (to_z-of_z w128 c.loop-call.told.sum (search rules)) c.in_ok-answer.ensures.answers)
      c.in_ok-answer.ensures.idle
      c.in_ok-answer.ensures.rules refl refl c.seen-before.ensures c.seen-after.ensures c.in_ok-push.ensures.items),
)

pub returns-clause-lines : goal.returns-clause-lines
returns-clause-lines g c = record { next = (reader c.loop-call.core).known; tell = c.loop-call.invariant.1.tell }
