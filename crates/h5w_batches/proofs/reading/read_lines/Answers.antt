use Rattle.std.proofs.Common.{◌≡◌, ◌∙◌, Err, ap, rules}
use Rattle.h5w_input.specs.LinesAhead.{lines_ahead}
use Rattle.h5w_batches.specs.Batches.{with_line}
use Rattle.h5w_batches.specs.Reads.{error_of}
use Rattle.h5w_batches.proofs.InputLemmas.{gathers_all, gathers_held, gathers_kept, gathers_last, gathers_more, gathers_none, refused_last, refused_source, refused_whole}
use Rattle.h5w_batches.proofs.LineLemmas.{ahead_kept}
use Rattle.h5w_batches.proofs.reading.read_lines.Goals as goal

pub loop-number-init : goal.loop-number-init
loop-number-init g c = record {
  gathers = rw c.new-batches.ensures (gathers_none c.args.columns (lines_ahead (g.S.Source.view c.args.lines.now.source.now) c.args.lines.now.intake.now));
  same_reference = search rules;
  same_intake = search rules;
}

pub loop-number-preserved-then-take_numbers : goal.loop-number-preserved-then-take_numbers
loop-number-preserved-then-take_numbers g c = record {
  gathers = gathers_held c.take_numbers.new.values.items c.loop-number.invariant.gathers (c.take_numbers.ensures.taken c.if-take_numbers.true) (c.in_ok-take_line.ensures ∙ ap (with_line c.loop-number.batches) c.deref.ensures.value);
  same_reference = search rules;
  same_intake = search rules;
}

pub returns-in_err-line-clause-refused : goal.returns-in_err-line-clause-refused
returns-in_err-line-clause-refused g c =
    let gathers = gathers_kept (ahead_kept (ap g.S.Source.view c.take_numbers.ensures.source) (c.take_numbers.ensures.kept c.if-take_numbers.false)) c.loop-number.invariant.gathers in
    let is : c.from_residual-in_err-line.result ≡ Err (error_of c.in_err-line.field-0.0) = search rules in
    rw is (refused_source (g.S.Source.view c.next.new.self.source.now) c.next.new.self.intake.now c.in_err-line.field-0.0 c.requires.room c.requires.limit gathers
    (λ e. c.in_err-line.ensures.cause (ap Err e)) (λ e. c.in_err-line.ensures.failed (ap Err e)) (λ limit e. c.in_err-line.ensures.input limit (ap Err e)))

pub returns-in_err-take_line-in-Line-clause-refused : goal.returns-in_err-take_line-in-Line-clause-refused
returns-in_err-take_line-in-Line-clause-refused g c =
    let gathers = gathers_kept (ahead_kept (ap g.S.Source.view c.take_numbers.ensures.source) (c.take_numbers.ensures.kept c.if-take_numbers.false)) c.loop-number.invariant.gathers in
    let is : c.from_residual-in_err-take_line-in-Line.result ≡ Err c.in_err-take_line-in-Line.field-0.0 = search rules in
    let given = rw c.in-Line.is at c.in_ok-line.ensures.line in
    rw is (refused_whole (g.S.Source.view c.next.new.self.source.now) given.0 c.in_err-take_line-in-Line.field-0.0 c.requires.room gathers given.2 given.3 (c.in_err-take_line-in-Line.ensures.refused given.0 given.1))

pub loop-number-preserved-in_ok-take_line-in-Line : goal.loop-number-preserved-in_ok-take_line-in-Line
loop-number-preserved-in_ok-take_line-in-Line g c =
    let gathers = gathers_kept (ahead_kept (ap g.S.Source.view c.take_numbers.ensures.source) (c.take_numbers.ensures.kept c.if-take_numbers.false)) c.loop-number.invariant.gathers in
    let given = rw c.in-Line.is at c.in_ok-line.ensures.line in
    record {
      gathers = gathers_more given.0 gathers given.2 given.3 (c.in_ok-take_line-in-Line.ensures.takes given.0 given.1);
      same_reference = search rules;
      same_intake = search rules;
    }

pub loop-number-preserved : goal.loop-number-preserved
loop-number-preserved g c =
    let gathers = gathers_kept (ahead_kept (ap g.S.Source.view c.take_numbers.ensures.source) (c.take_numbers.ensures.kept c.if-take_numbers.false)) c.loop-number.invariant.gathers in
    let given = rw c.in-Line.is at c.in_ok-line.ensures.line in
    record {
      gathers = gathers_more given.0 gathers given.2 given.3 (c.in_ok-take_line-in-Line.ensures.takes given.0 given.1);
      same_reference = search rules;
      same_intake = search rules;
    }

pub returns-in_err-take_line-in-Last-clause-refused : goal.returns-in_err-take_line-in-Last-clause-refused
returns-in_err-take_line-in-Last-clause-refused g c =
    let gathers = gathers_kept (ahead_kept (ap g.S.Source.view c.take_numbers.ensures.source) (c.take_numbers.ensures.kept c.if-take_numbers.false)) c.loop-number.invariant.gathers in
    let is : c.from_residual-in_err-take_line-in-Last.result ≡ Err c.in_err-take_line-in-Last.field-0.0 = search rules in
    let given = rw c.in-Last.is at c.in_ok-line.ensures.line in
    rw is (refused_last (g.S.Source.view c.next.new.self.source.now) given.0 c.in_err-take_line-in-Last.field-0.0 c.requires.room gathers given.2 given.3 (c.in_err-take_line-in-Last.ensures.refused given.0 given.1))

pub returns-in-Last-clause-ok : goal.returns-in-Last-clause-ok
returns-in-Last-clause-ok g c =
    let gathers = gathers_kept (ahead_kept (ap g.S.Source.view c.take_numbers.ensures.source) (c.take_numbers.ensures.kept c.if-take_numbers.false)) c.loop-number.invariant.gathers in
    let given = rw c.in-Last.is at c.in_ok-line.ensures.line in
    gathers_last given.0 (g.S.Source.view c.next.new.self.source.now) c.next.new.self.intake.now c.requires.room gathers given.2 given.3 (c.in_ok-take_line-in-Last.ensures.takes given.0 given.1) c.in_ok-finish-in-Last.ensures

pub returns-in-End-clause-ok : goal.returns-in-End-clause-ok
returns-in-End-clause-ok g c =
    let gathers = gathers_kept (ahead_kept (ap g.S.Source.view c.take_numbers.ensures.source) (c.take_numbers.ensures.kept c.if-take_numbers.false)) c.loop-number.invariant.gathers in
    let ended = rw c.in-End.is at c.in_ok-line.ensures.line in
    gathers_all (g.S.Source.view c.next.new.self.source.now) c.next.new.self.intake.now c.requires.room gathers ended c.in_ok-finish-in-End.ensures
