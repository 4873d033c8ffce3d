use Rattle.std.proofs.Common.{◌≡◌}
use Rattle.h5w_reader.specs.Cores.{reader}
use Rattle.h5w_live_reading.proofs.ReadingLemmas.{PollsTo}
use Rattle.h5w_live_reading.proofs.reading.polls_of.Given as goal

abbrev pub invariant-loop-call : goal.invariant-loop-call
invariant-loop-call g l = (l.seat.image ≡ l.image) × PollsTo (reader l.initial.core).rules l.image.start l.reader l.initial.seat.seen l.call (reader l.core) l.told.sum l.seat.seen l.lines.items
