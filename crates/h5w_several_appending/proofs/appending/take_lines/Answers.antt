use Rattle.std.proofs.Common.{◌≡◌, ◌+◌, ◌∷◌, ◌++◌, [], Err, Some, ap, subst, rules, arith, ◌∙◌}
use Rattle.std.proofs.lemmas.Result.{err_from_is_err_and}
use Rattle.h5w_input.specs.LinesAhead.{lines_ahead}
use Rattle.h5w_batches.specs.Reads.{error_of}
use Rattle.h5w_several_batches.specs.SetLines.{set_line_of}
use Rattle.h5w_several_batches.proofs.SaidLemmas.{are_count, says_all, says_before, says_before_last, says_last}
use Rattle.h5w_several_appending.specs.Appending.{ending_of}
use Rattle.h5w_several_appending.proofs.InputLemmas.{done_more, ready_unread, taken_end, taken_line, taken_source, taking_first, taking_more}
use Rattle.h5w_several_appending.proofs.appending.take_lines.Goals as goal

pub loop-line-init : goal.loop-line-init
loop-line-init g c = record {
  taking = taking_first c.args.target.faults c.args.target.file.now c.args.columns.now c.args.session.now (lines_ahead (g.S.Source.view c.args.lines.now.source.now) c.args.lines.now.intake.now) c.requires.ready c.requires.columns c.requires.sets;
  same_reference = search rules;
  same_intake = search rules;
}

pub returns-in_err-line-clause-ready : goal.returns-in_err-line-clause-ready
returns-in_err-line-clause-ready g c =
    let gone = err_from_is_err_and c.from_residual.result c.from_residual.ensures.1 in
    let is : c.from_residual.result ≡ Err (ending_of (error_of c.in_err-line.field-0.0)) = gone.1 ∙ ap (λ x. Err x) gone.2 in
    rw is (ready_unread c.args.target.file.now c.loop-line.session c.in_err-line.field-0.0 c.loop-line.invariant.taking.ready)

pub returns-in_err-line-clause-takes : goal.returns-in_err-line-clause-takes
returns-in_err-line-clause-takes g c =
    let gone = err_from_is_err_and c.from_residual.result c.from_residual.ensures.1 in
    let is : c.from_residual.result ≡ Err (ending_of (error_of c.in_err-line.field-0.0)) = gone.1 ∙ ap (λ x. Err x) gone.2 in
    rw is (taken_source (g.S.Source.view c.next.new.self.source.now) c.next.new.self.intake.now c.args.target.faults c.args.target.file.now c.args.columns.now c.args.session.now c.loop-line.session c.in_err-line.field-0.0 c.requires.columns c.requires.room c.requires.limit c.loop-line.invariant.taking
    (λ e. c.in_err-line.ensures.cause (ap Err e)) (λ e. c.in_err-line.ensures.failed (ap Err e)) (λ limit e. c.in_err-line.ensures.input limit (ap Err e)))

pub returns-in_err-used-in-Line-clause-takes : goal.returns-in_err-used-in-Line-clause-takes
returns-in_err-used-in-Line-clause-takes g c =
    let gone = err_from_is_err_and c.from_residual-in_err-used-in-Line.result c.from_residual-in_err-used-in-Line.ensures.1 in
    let is : c.from_residual-in_err-used-in-Line.result ≡ Err c.in_err-used-in-Line.field-0.0 = gone.1 ∙ ap (λ x. Err x) gone.2 in
    let taking = c.loop-line.invariant.taking in
    let given = rw c.in-Line.is at c.in_ok-line.ensures.line in
    rw is (taken_line _ _ (g.S.Source.view c.next.new.self.source.now) c.args.target.faults c.args.target.file.now c.args.columns.now c.args.session.now c.loop-line.session c.take_line.new.session given.0 c.in_err-used-in-Line.field-0.0 c.requires.columns c.requires.room taking
    (says_before given.0 c.requires.room taking.saying given.2 given.3) (c.in_err-used-in-Line.ensures.lines given.0 given.1))

pub loop-line-preserved-in_ok-used-in-Line : goal.loop-line-preserved-in_ok-used-in-Line
loop-line-preserved-in_ok-used-in-Line g c =
    let taking = c.loop-line.invariant.taking in
    let given = rw c.in-Line.is at c.in_ok-line.ensures.line in
    record {
      taking = taking_more c.args.target.faults c.args.target.file.now c.args.columns.now c.args.session.now c.loop-line.session c.take_line.new.session given.0 c.in_ok-used-in-Line.used taking given.2 given.3 (c.in_ok-used-in-Line.ensures.spelled given.0 given.1) (c.in_ok-used-in-Line.ensures.lines given.0 given.1) c.in_ok-used-in-Line.ensures.ready c.in_ok-used-in-Line.ensures.inside
          c.in_ok-used-in-Line.ensures.columns;
      same_reference = search rules;
      same_intake = search rules;
    }

pub loop-line-preserved : goal.loop-line-preserved
loop-line-preserved g c =
    let taking = c.loop-line.invariant.taking in
    let given = rw c.in-Line.is at c.in_ok-line.ensures.line in
    record {
      taking = taking_more c.args.target.faults c.args.target.file.now c.args.columns.now c.args.session.now c.loop-line.session c.take_line.new.session given.0 c.in_ok-used-in-Line.used taking given.2 given.3 (c.in_ok-used-in-Line.ensures.spelled given.0 given.1) (c.in_ok-used-in-Line.ensures.lines given.0 given.1) c.in_ok-used-in-Line.ensures.ready c.in_ok-used-in-Line.ensures.inside
          c.in_ok-used-in-Line.ensures.columns;
      same_reference = search rules;
      same_intake = search rules;
    }

pub returns-in_err-take_line-in-Last-clause-takes : goal.returns-in_err-take_line-in-Last-clause-takes
returns-in_err-take_line-in-Last-clause-takes g c =
    let gone = err_from_is_err_and c.from_residual-in_err-take_line-in-Last.result c.from_residual-in_err-take_line-in-Last.ensures.1 in
    let is : c.from_residual-in_err-take_line-in-Last.result ≡ Err c.in_err-take_line-in-Last.field-0.0 = gone.1 ∙ ap (λ x. Err x) gone.2 in
    let taking = c.loop-line.invariant.taking in
    let given = rw c.in-Last.is at c.in_ok-line.ensures.line in
    rw is (taken_line _ _ (g.S.Source.view c.next.new.self.source.now) c.args.target.faults c.args.target.file.now c.args.columns.now c.args.session.now c.loop-line.session c.take_line-in-Last.new.session given.0 c.in_err-take_line-in-Last.field-0.0 c.requires.columns c.requires.room taking
    (says_before_last given.0 c.requires.room taking.saying given.2 given.3) (c.in_err-take_line-in-Last.ensures.lines given.0 given.1))

pub returns-in-Last-clause-takes : goal.returns-in-Last-clause-takes
returns-in-Last-clause-takes g c =
    let taking = c.loop-line.invariant.taking in
    let given = rw c.in-Last.is at c.in_ok-line.ensures.line in
    let spelled = c.in_ok-take_line-in-Last.ensures.spelled given.0 given.1 in
    let at = subst (λ u. set_line_of c.args.columns.now u given.0 ≡ Some spelled.said) taking.used_is spelled.is in
    let t = g.S.Source.view c.next.new.self.source.now in
    let j = c.next.new.self.intake.now in
    taken_end _ _ c.args.target.faults c.args.target.file.now c.args.columns.now c.args.session.now c.take_line-in-Last.new.session c.close_batch.new.session (taking.said ++ spelled.said ∷ []) c.close_batch.result c.requires.columns
    (says_last given.0 spelled.said t j c.requires.room taking.saying given.2 given.3 at)
    (done_more c.args.target.faults c.args.target.file.now c.args.columns.now c.args.session.now c.loop-line.session c.take_line-in-Last.new.session given.0 (c.loop-line.number + 1) c.loop-line.used c.in_ok-take_line-in-Last.field-0 taking.said taking.used_is taking.done spelled (c.in_ok-take_line-in-Last.ensures.lines given.0 given.1))
    c.close_batch.ensures.closes

pub returns-in-End-clause-takes : goal.returns-in-End-clause-takes
returns-in-End-clause-takes g c =
    let taking = c.loop-line.invariant.taking in
    let ended = rw c.in-End.is at c.in_ok-line.ensures.line in
    let t = g.S.Source.view c.next.new.self.source.now in
    let j = c.next.new.self.intake.now in
    taken_end _ _ c.args.target.faults c.args.target.file.now c.args.columns.now c.args.session.now c.loop-line.session c.close_batch-in-End.new.session taking.said c.close_batch-in-End.result c.requires.columns (says_all t j c.requires.room taking.saying ended) taking.done c.close_batch-in-End.ensures.closes

pub overflow_add-number : goal.overflow_add-number
overflow_add-number g c =
    let saying = c.loop-line.invariant.taking.saying in
    let bound = saying.passing.room in
    let count = are_count c.args.columns.now 0 saying.lines c.loop-line.invariant.taking.said saying.are in
    let is = saying.number_is in
    let room = c.requires.room in
    omega (arith, bound, count, is, room)

pub overflow_add-place : goal.overflow_add-place
overflow_add-place g c =
    let saying = c.loop-line.invariant.taking.saying in
    let bound = saying.passing.room in
    let count = are_count c.args.columns.now 0 saying.lines c.loop-line.invariant.taking.said saying.are in
    let is = saying.number_is in
    let room = c.requires.room in
    omega (arith, bound, count, is, room)
