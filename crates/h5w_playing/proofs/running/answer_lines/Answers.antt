use Rattle.std.proofs.Common.{◌≡◌, ◌∙◌, ◌+◌, List, ℕ, Result, Err, ap, arith, refl, subst, sym, rules}
use Rattle.std.specs.Prelude.{IfErr, OnOk}
use Rattle.h5w_input.specs.LinesAhead.{IsLine, lines_ahead}
use Rattle.h5w_input.proofs.LineLemmas.{stays_itself, stays_twice}
use Rattle.h5w_batches.specs.Inputs.{outside}
use Rattle.h5w_playing.specs.Endings.{Answered, EndsAt, Runs, ending_of}
use Rattle.h5w_playing.specs.Lines.{Spelling}
use Rattle.h5w_playing.specs.declared.ending.Ending.{Ending}
use Rattle.h5w_playing.proofs.PlayLemmas.{ended_at_last, ended_at_line, ended_at_source, ended_whole, source_stays, whole_first, whole_more}
use Rattle.h5w_playing.proofs.running.answer_lines.Goals as goal

pub loop-text-init : goal.loop-text-init
loop-text-init g c = record {
  goes = λ F f. whole_first (lines_ahead (g.S.Source.view c.args.lines.now.source.now) c.args.lines.now.intake.now) (g.M.Machine.spelling c.args.machine.now) F (g.M.Machine.fits c.args.machine.now) (g.K.Sink.view c.args.sink.now) f;
  bound = omega arith;
  stays = stays_itself (lines_ahead (g.S.Source.view c.args.lines.now.source.now) c.args.lines.now.intake.now);
  spelling = refl;
  same_reference = search rules;
  same_intake = search rules;
}

pub returns-in_err-line-clause-runs : goal.returns-in_err-line-clause-runs
returns-in_err-line-clause-runs g c = λ F f.
    let is : c.from_residual.result ≡ Err (ending_of c.in_err-line.field-0.0) = search rules in
    let t = g.S.Source.view c.next.new.self.source.now in
    subst (λ (r : Result (Unit {0}) Ending). Runs (g.M.Machine.spelling c.args.machine.now) F r (outside (lines_ahead (g.S.Source.view c.args.lines.now.source.now) c.args.lines.now.intake.now)) t (g.K.Sink.view c.args.sink.now) (g.K.Sink.view c.loop-text.sink)) (sym is)
    (ended_at_source t c.next.new.self.intake.now c.in_err-line.field-0.0 (c.loop-text.invariant.goes F f) c.requires.room (λ e. c.in_err-line.ensures.cause (ap Err e)) (λ e. c.in_err-line.ensures.failed (ap Err e)) (λ limit e. (c.in_err-line.ensures.input limit (ap Err e)).1))

pub returns-in_err-answer_line-in-Line-clause-runs : goal.returns-in_err-answer_line-in-Line-clause-runs
returns-in_err-answer_line-in-Line-clause-runs g c = λ F f.
    let e = c.in_err-answer_line-in-Line in
    let is : c.from_residual-in_err-answer_line-in-Line.result ≡ Err e.field-0.0 = search rules in
    let given = rw c.in-Line.is at c.in_ok-line.ensures.line in
    let ends = subst (λ (s : Spelling). EndsAt s given.0 (c.loop-text.number + 1) (g.M.Machine.fits c.loop-text.machine) (g.K.Sink.view c.loop-text.sink) (g.K.Sink.view c.answer_line.new.sink) e.field-0.0) c.loop-text.invariant.spelling
    (e.ensures.ended given.0 given.1) in
    subst (λ (r : Result (Unit {0}) Ending). Runs (g.M.Machine.spelling c.args.machine.now) F r (outside (lines_ahead (g.S.Source.view c.args.lines.now.source.now) c.args.lines.now.intake.now)) (g.S.Source.view c.next.new.self.source.now) (g.K.Sink.view c.args.sink.now)
    (g.K.Sink.view c.answer_line.new.sink)) (sym is)
    (ended_at_line {w = lines_ahead (g.S.Source.view c.next.new.self.source.now) c.next.new.self.intake.now} (g.S.Source.view c.next.new.self.source.now) (g.K.Sink.view c.answer_line.new.sink) given.0 e.field-0.0 c.requires.room (c.loop-text.invariant.goes F f).going given.2 ends)

pub returns-in_err-answer_line-in-Line-clause-source : goal.returns-in_err-answer_line-in-Line-clause-source
returns-in_err-answer_line-in-Line-clause-source g c = source_stays _ _ _ c.next.new.self.intake.now (stays_twice c.loop-text.invariant.stays c.next.ensures.stays)

pub returns-in_err-line-clause-source : goal.returns-in_err-line-clause-source
returns-in_err-line-clause-source g c = source_stays _ _ _ c.next.new.self.intake.now (stays_twice c.loop-text.invariant.stays c.next.ensures.stays)

pub loop-text-preserved-in_ok-answer_line-in-Line : goal.loop-text-preserved-in_ok-answer_line-in-Line
loop-text-preserved-in_ok-answer_line-in-Line g c =
    let given = rw c.in-Line.is at c.in_ok-line.ensures.line in
    let answered = subst (λ (s : Spelling). Answered s given.0 (g.M.Machine.fits c.loop-text.machine) (g.M.Machine.fits c.answer_line.new.machine) (g.K.Sink.view c.loop-text.sink) (g.K.Sink.view c.answer_line.new.sink)) c.loop-text.invariant.spelling
    (c.in_ok-answer_line-in-Line.ensures.answered given.0 given.1) in record {
      goes = λ F f. whole_more given.0 (c.loop-text.invariant.goes F f) given.2 given.3 answered;
      bound =
          let room = given.2.room in
          let bound = c.loop-text.invariant.bound in
          omega (arith, room, bound);
      stays = stays_twice c.loop-text.invariant.stays c.next.ensures.stays;
      spelling = c.in_ok-answer_line-in-Line.ensures.kept ∙ c.loop-text.invariant.spelling;
      same_reference = search rules;
      same_intake = search rules;
    }

pub loop-text-preserved : goal.loop-text-preserved
loop-text-preserved g c =
    let given = rw c.in-Line.is at c.in_ok-line.ensures.line in
    let answered = subst (λ (s : Spelling). Answered s given.0 (g.M.Machine.fits c.loop-text.machine) (g.M.Machine.fits c.answer_line.new.machine) (g.K.Sink.view c.loop-text.sink) (g.K.Sink.view c.answer_line.new.sink)) c.loop-text.invariant.spelling
    (c.in_ok-answer_line-in-Line.ensures.answered given.0 given.1) in record {
      goes = λ F f. whole_more given.0 (c.loop-text.invariant.goes F f) given.2 given.3 answered;
      bound =
          let room = given.2.room in
          let bound = c.loop-text.invariant.bound in
          omega (arith, room, bound);
      stays = stays_twice c.loop-text.invariant.stays c.next.ensures.stays;
      spelling = c.in_ok-answer_line-in-Line.ensures.kept ∙ c.loop-text.invariant.spelling;
      same_reference = search rules;
      same_intake = search rules;
    }

pub returns-in-Last-clause-runs : goal.returns-in-Last-clause-runs
returns-in-Last-clause-runs g c = λ F f.
    let given = rw c.in-Last.is at c.in_ok-line.ensures.line in
    let l = g.K.Sink.view c.loop-text.sink in
    let m = g.K.Sink.view c.answer_line-in-Last.new.sink in
    let before = g.M.Machine.fits c.loop-text.machine in
    let after = g.M.Machine.fits c.answer_line-in-Last.new.machine in
    let answered = subst (λ (s : Spelling). OnOk c.answer_line-in-Last.result ((bytes : List ℕ) → IsLine c.in-Last.line bytes → Answered s bytes before after l m)) c.loop-text.invariant.spelling c.answer_line-in-Last.ensures.answered in
    let ended = subst (λ (s : Spelling). IfErr c.answer_line-in-Last.result (λ e. (bytes : List ℕ) → IsLine c.in-Last.line bytes → EndsAt s bytes (c.loop-text.number + 1) before l m e)) c.loop-text.invariant.spelling c.answer_line-in-Last.ensures.ended in
    ended_at_last after (g.S.Source.view c.next.new.self.source.now) c.next.new.self.intake.now m c.in-Last.line c.answer_line-in-Last.result c.requires.room (c.loop-text.invariant.goes F f).going given answered ended

pub returns-in-Last-clause-source : goal.returns-in-Last-clause-source
returns-in-Last-clause-source g c = source_stays _ _ _ c.next.new.self.intake.now (stays_twice c.loop-text.invariant.stays c.next.ensures.stays)

pub returns-in-End-clause-runs : goal.returns-in-End-clause-runs
returns-in-End-clause-runs g c = λ F f.
    let ended = rw c.in-End.is at c.in_ok-line.ensures.line in
    ended_whole (g.S.Source.view c.next.new.self.source.now) c.next.new.self.intake.now c.requires.room (c.loop-text.invariant.goes F f).going ended

pub returns-in-End-clause-source : goal.returns-in-End-clause-source
returns-in-End-clause-source g c = source_stays _ _ _ c.next.new.self.intake.now (stays_twice c.loop-text.invariant.stays c.next.ensures.stays)
