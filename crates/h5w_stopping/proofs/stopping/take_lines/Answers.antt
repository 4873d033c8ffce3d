use Rattle.std.proofs.Common.{◌≡◌, Result, Err, ap, arith, rules, subst, sym}
use Rattle.std.specs.Prelude.{IfErr}
use Rattle.h5w_input.specs.LinesAhead.{lines_ahead}
use Rattle.h5w_text.specs.declared.error.ErrorLine.{ErrorLine}
use Rattle.h5w_batches.specs.Inputs.{outside}
use Rattle.h5w_stopping.specs.Stops.{StopRefuses}
use Rattle.h5w_stopping.proofs.TakingLemmas.{ended_at_next, ended_at_source, ended_whole, goes_first, last_done, last_refused, refused_is, whole_more}
use Rattle.h5w_input.proofs.LineLemmas.{stays_itself, stays_twice}
use Rattle.h5w_playing.proofs.PlayLemmas.{source_stays}
use Rattle.h5w_stopping.proofs.stopping.take_lines.Goals as goal

pub loop-line-init : goal.loop-line-init
loop-line-init g c = record {
  goes = λ o f. goes_first o (lines_ahead (g.S.Source.view c.args.lines.now.source.now) c.args.lines.now.intake.now) c.args.world.now f;
  bound = omega arith;
  stays = stays_itself (lines_ahead (g.S.Source.view c.args.lines.now.source.now) c.args.lines.now.intake.now);
  same_reference = search rules;
  same_intake = search rules;
}

pub take_line-requires : goal.take_line-requires
take_line-requires g c =
    let r = c.requires.follows in
    let x = c.loop-line.invariant.goes r.0 r.1 in (r.0, x.goes.script, x.goes.follows)

pub returns-in_err-take_line-in-Ok-Line-clause-refused : goal.returns-in_err-take_line-in-Ok-Line-clause-refused
returns-in_err-take_line-in-Ok-Line-clause-refused g c = λ o f.
    let e = c.in_err-take_line-in-Ok-Line in
    let is : c.from_residual.result ≡ Err e.field-0.0 = refused_is c.from_residual.result e.field-0.0 c.from_residual.ensures.1 in
    let given = rw c.in-Ok-Line.field-0-is at c.in-Ok-Line.ensures.line in
    let x = c.loop-line.invariant.goes o f in
    let t = g.S.Source.view c.next.new.self.source.now in
    subst (λ (r : Result (Unit {0}) ErrorLine). IfErr r (StopRefuses o (outside (lines_ahead (g.S.Source.view c.args.lines.now.source.now) c.args.lines.now.intake.now)) t)) (sym is)
    (ended_at_next {w = lines_ahead t c.next.new.self.intake.now} o t given.0 e.field-0.0 x c.requires.room given.2 (e.ensures.refused o x.goes.script x.goes.follows given.0 given.1))

pub returns-in_err-take_line-in-Ok-Line-clause-source : goal.returns-in_err-take_line-in-Ok-Line-clause-source
returns-in_err-take_line-in-Ok-Line-clause-source g c = source_stays _ _ _ c.next.new.self.intake.now (stays_twice c.loop-line.invariant.stays c.next.ensures.stays)

pub loop-line-preserved-in_ok-take_line-in-Ok-Line : goal.loop-line-preserved-in_ok-take_line-in-Ok-Line
loop-line-preserved-in_ok-take_line-in-Ok-Line g c =
    let given = rw c.in-Ok-Line.field-0-is at c.in-Ok-Line.ensures.line in record {
      goes = λ o f.
          let x = c.loop-line.invariant.goes o f in
          whole_more o given.0 x given.2 given.3 (c.in_ok-take_line-in-Ok-Line.ensures.taken o x.goes.script x.goes.follows given.0 given.1);
      bound =
          let room = given.2.room in
          let bound = c.loop-line.invariant.bound in
          omega (arith, room, bound);
      stays = stays_twice c.loop-line.invariant.stays c.next.ensures.stays;
      same_reference = search rules;
      same_intake = search rules;
    }

pub loop-line-preserved : goal.loop-line-preserved
loop-line-preserved g c =
    let given = rw c.in-Ok-Line.field-0-is at c.in-Ok-Line.ensures.line in record {
      goes = λ o f.
          let x = c.loop-line.invariant.goes o f in
          whole_more o given.0 x given.2 given.3 (c.in_ok-take_line-in-Ok-Line.ensures.taken o x.goes.script x.goes.follows given.0 given.1);
      bound =
          let room = given.2.room in
          let bound = c.loop-line.invariant.bound in
          omega (arith, room, bound);
      stays = stays_twice c.loop-line.invariant.stays c.next.ensures.stays;
      same_reference = search rules;
      same_intake = search rules;
    }

pub take_line-requires-in-Ok-Last : goal.take_line-requires-in-Ok-Last
take_line-requires-in-Ok-Last g c =
    let r = c.requires.follows in
    let x = c.loop-line.invariant.goes r.0 r.1 in (r.0, x.goes.script, x.goes.follows)

pub returns-in-Ok-Last-clause-done : goal.returns-in-Ok-Last-clause-done
returns-in-Ok-Last-clause-done g c = λ o f.
    let given = rw c.in-Ok-Last.field-0-is at c.in-Ok-Last.ensures.line in
    let x = c.loop-line.invariant.goes o f in
    last_done o c.take_line-in-Ok-Last.new.world (g.S.Source.view c.next.new.self.source.now) c.next.new.self.intake.now c.in-Ok-Last.line c.take_line-in-Ok-Last.result c.requires.room x given
    (c.take_line-in-Ok-Last.ensures.taken o x.goes.script x.goes.follows)

pub returns-in-Ok-Last-clause-refused : goal.returns-in-Ok-Last-clause-refused
returns-in-Ok-Last-clause-refused g c = λ o f.
    let given = rw c.in-Ok-Last.field-0-is at c.in-Ok-Last.ensures.line in
    let x = c.loop-line.invariant.goes o f in
    last_refused o (g.S.Source.view c.next.new.self.source.now) c.next.new.self.intake.now c.in-Ok-Last.line c.take_line-in-Ok-Last.result c.requires.room x given
    (c.take_line-in-Ok-Last.ensures.refused o x.goes.script x.goes.follows)

pub returns-in-Ok-Last-clause-source : goal.returns-in-Ok-Last-clause-source
returns-in-Ok-Last-clause-source g c = source_stays _ _ _ c.next.new.self.intake.now (stays_twice c.loop-line.invariant.stays c.next.ensures.stays)

pub returns-in-Ok-End-clause-done : goal.returns-in-Ok-End-clause-done
returns-in-Ok-End-clause-done g c = λ o f.
    let ended = rw c.in-Ok-End.field-0-is at c.in-Ok-End.ensures.line in
    ended_whole o (g.S.Source.view c.next.new.self.source.now) c.next.new.self.intake.now c.requires.room (c.loop-line.invariant.goes o f) ended

pub returns-in-Ok-End-clause-source : goal.returns-in-Ok-End-clause-source
returns-in-Ok-End-clause-source g c = source_stays _ _ _ c.next.new.self.intake.now (stays_twice c.loop-line.invariant.stays c.next.ensures.stays)

pub returns-in-Err-clause-refused : goal.returns-in-Err-clause-refused
returns-in-Err-clause-refused g c = λ o f.
    let t = g.S.Source.view c.next.new.self.source.now in
    subst (StopRefuses o (outside (lines_ahead (g.S.Source.view c.args.lines.now.source.now) c.args.lines.now.intake.now)) t) (sym c.error_of.ensures)
    (ended_at_source o t c.next.new.self.intake.now c.in-Err.error (c.loop-line.invariant.goes o f) c.requires.room c.requires.limit (λ e. c.in-Err.ensures.cause (ap Err e)) (λ e. c.in-Err.ensures.failed (ap Err e))
    (λ limit e. c.in-Err.ensures.input limit (ap Err e)))

pub returns-in-Err-clause-source : goal.returns-in-Err-clause-source
returns-in-Err-clause-source g c = source_stays _ _ _ c.next.new.self.intake.now (stays_twice c.loop-line.invariant.stays c.next.ensures.stays)
