use Rattle.std.proofs.Common.{Err, ap, arith, ◌∙◌}
use Rattle.h5w_image.specs.declared.fault.ImageError.TheVariants as image
use Rattle.h5w_shared.specs.Seats.{SeatView}
use Rattle.h5w_live_reading.proofs.CallLemmas.{rose_some}
use Rattle.h5w_live.proofs.SecondLemmas.{has_all}
use Rattle.h5w_live.proofs.following.caught_up.Goals as goal

pub unreachable-requires : goal.unreachable-requires
unreachable-requires g c =
    let put = c.catch_up.ensures.some image.Failed (c.in-Err-Failed.is ∙ ap Err c.in-Err-Failed.field-0-is) in
    absurd (omega (arith, rose_some _ _ put.counts.0, c.in-Err.ensures.1))

pub returns-in-Ok-clause-has : goal.returns-in-Ok-clause-has
returns-in-Ok-clause-has g c = λ begins. has_all c.args.second.follow.second.seen c.catch_up.new.self.second.seen c.args.journal.now.writes begins (ap (λ (s : SeatView). s.seen) c.in-Ok.ensures.put.same)
