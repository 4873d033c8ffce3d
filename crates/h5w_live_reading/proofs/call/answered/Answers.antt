use Rattle.std.proofs.Common.{◌≡◌, ap, ◌∙◌, refl}
use Rattle.h5w_shared.specs.Seats.{SeatView}
use Rattle.h5w_reader.specs.Cores as cores
use Rattle.h5w_live_reading.proofs.CallLemmas.{asking_ends, asking_more, is_look}
use Rattle.h5w_live_reading.proofs.call.answered.Goals as goal

pub loop-preserved : goal.loop-preserved
loop-preserved g c =
    let there : c.look.new.seat.image ≡ c.args.image.now = ap (λ (s : SeatView). s.image) c.in_ok-look.ensures.same ∙ c.loop.invariant.0 in (
      there,
      asking_more c.args.image.now.start c.args.seat.now.seen c.loop.seat.seen c.look.new.seat.seen (cores.reader c.args.core.now) (cores.reader c.loop.core) (cores.reader c.give.new.self) c.in-Some-want.wanted.at c.in-Some-want.wanted.len
          c.look.new.out c.loop.invariant.1 c.in_ok-look.ensures.grown (is_look c.args.image.now c.look.new.seat c.in-Some-want.wanted.at c.in-Some-want.wanted.len c.look.new.out there c.in_ok-look.ensures.shows) c.in-Some-want.ensures.next
          c.in-More.ensures.told (c.in-More.ensures.wanting refl),
    )

pub returns-in_default-give : goal.returns-in_default-give
returns-in_default-give g c =
    let there : c.look.new.seat.image ≡ c.args.image.now = ap (λ (s : SeatView). s.image) c.in_ok-look.ensures.same ∙ c.loop.invariant.0 in
    record {
      image = there;
      ended = λ e. c.in_default-give.not-More e;
      answers =
          asking_ends c.args.image.now.start c.args.seat.now.seen c.loop.seat.seen c.look.new.seat.seen (cores.reader c.args.core.now) (cores.reader c.loop.core) (cores.reader c.give.new.self) c.in-Some-want.wanted.at c.in-Some-want.wanted.len
          c.look.new.out c.loop.invariant.1 c.in_ok-look.ensures.grown (is_look c.args.image.now c.look.new.seat c.in-Some-want.wanted.at c.in-Some-want.wanted.len c.look.new.out there c.in_ok-look.ensures.shows) c.in-Some-want.ensures.next
          c.give.result (λ e. c.in_default-give.not-More e) c.give.ensures.told;
      failed = tt;
    }
