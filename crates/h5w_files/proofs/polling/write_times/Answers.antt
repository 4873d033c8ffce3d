use Rattle.std.proofs.Common.{◌≡◌, ℕ, suc, ◌+◌, Err, refl, subst, arith, rules}
use Rattle.h5w_image.proofs.ViewLemmas.{looked_twice}
use Rattle.h5w_reader.specs.Cores as cores
use Rattle.h5w_files.proofs.TimesLemmas.{Going, begun_again, going_first, going_more, times_ended, times_whole}
use Rattle.h5w_files.proofs.polling.write_times.Goals as goal

pub returns-in_err-printed-clause-gives : goal.returns-in_err-printed-clause-gives
returns-in_err-printed-clause-gives g c =
    let is : c.from_residual.result ≡ Err c.in_err-printed.field-0.0 = search rules in
    rw is (times_ended c.args.polls.times c.args.polls.values 0 0 c.in_err-printed.field-0.0 c.requires.some (going_first c.args.polls.times c.args.polls.values (cores.reader c.args.reader.now) (g.K.Sink.view c.args.sink.now)) refl c.write_once.ensures.looked
    c.in_err-printed.ensures.gives)

pub loop-init : goal.loop-init
loop-init g c = record {
  going =
      going_more c.args.polls.times c.args.polls.values 0 0 c.in_ok-printed.printed (going_first c.args.polls.times c.args.polls.values (cores.reader c.args.reader.now) (g.K.Sink.view c.args.sink.now)) refl c.write_once.ensures.looked
      c.in_ok-printed.ensures.gives;
  idle = c.in_ok-printed.ensures.idle;
}

pub returns-in_err-printed-2-clause-looked : goal.returns-in_err-printed-2-clause-looked
returns-in_err-printed-2-clause-looked g c = looked_twice c.loop.invariant.going.looked c.write_once-in-loop.ensures.looked

pub returns-in_err-printed-2-clause-gives : goal.returns-in_err-printed-2-clause-gives
returns-in_err-printed-2-clause-gives g c =
    let is : c.from_residual-in_err-printed-2.result ≡ Err c.in_err-printed-2.field-0.0 = search rules in
    let begun = begun_again c.loop.counter (cores.reader c.loop.reader) (cores.reader c.refresh.new.reader) (omega arith) c.refresh.ensures.begun in
    rw is (times_ended c.args.polls.times c.args.polls.values c.loop.counter c.loop.printed c.in_err-printed-2.field-0.0 (omega arith) c.loop.invariant.going begun c.write_once-in-loop.ensures.looked c.in_err-printed-2.ensures.gives)

pub loop-preserved : goal.loop-preserved
loop-preserved g c =
    let begun = begun_again c.loop.counter (cores.reader c.loop.reader) (cores.reader c.refresh.new.reader) (omega arith) c.refresh.ensures.begun in
    let next : suc c.loop.counter ≡ c.loop.counter + 1 = omega arith in
    record {
      going =
          subst (λ (n : ℕ). Going c.args.polls.times c.args.polls.values (g.I.PieceRead.view c.args.image.now) (g.I.PieceRead.view c.write_once-in-loop.new.image) (cores.reader c.args.reader.now) (cores.reader c.write_once-in-loop.new.reader) n c.in_ok-printed-2.printed (g.K.Sink.view c.args.sink.now) (g.K.Sink.view c.write_once-in-loop.new.sink)) next
          (going_more c.args.polls.times c.args.polls.values c.loop.counter c.loop.printed c.in_ok-printed-2.printed c.loop.invariant.going begun c.write_once-in-loop.ensures.looked c.in_ok-printed-2.ensures.gives);
      idle = c.in_ok-printed-2.ensures.idle;
    }

pub returns-clause-gives : goal.returns-clause-gives
returns-clause-gives g c =
    let all : c.loop.counter ≡ c.args.polls.times = omega arith in
    times_whole c.args.polls.times c.args.polls.values c.loop.printed c.requires.some
    (subst (λ (n : ℕ). Going c.args.polls.times c.args.polls.values (g.I.PieceRead.view c.args.image.now) (g.I.PieceRead.view c.loop.image) (cores.reader c.args.reader.now) (cores.reader c.loop.reader) n c.loop.printed (g.K.Sink.view c.args.sink.now) (g.K.Sink.view c.loop.sink)) all
    c.loop.invariant.going)
