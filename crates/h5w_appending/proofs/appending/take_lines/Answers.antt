use Rattle.std.proofs.Common.{◌≡◌, ◌+◌, ◌∙◌, Ok, Err, true, false, length, ap, sym, arith, refl}
use Rattle.std.proofs.lemmas.Result.{err_from_is_err_and}
use Rattle.h5w_input.specs.LinesAhead.{IntakeView, lines_ahead}
use Rattle.h5w_batches.proofs.LineLemmas.{ahead_kept}
use Rattle.h5w_batches.proofs.RowLemmas.{spelled_rows}
use Rattle.h5w_appending.specs.Appends.{columns_of}
use Rattle.h5w_appending.proofs.InputLemmas.{goes_on, held_columns, held_ready, held_room, next_ready, next_room, taken_end, taken_held, taking_both, taking_first, taking_kept}
use Rattle.h5w_appending.proofs.appending.take_lines.Goals as goal

pub loop-session-init : goal.loop-session-init
loop-session-init g c = record {
  taking = taking_first c.args.target.faults c.args.target.file.now c.args.session.now (lines_ahead (g.S.Source.view c.args.lines.now.source.now) c.args.lines.now.intake.now) c.requires.ready;
  same_reference = refl;
  same_intake = refl;
}

pub take_held-requires-clause-rows : goal.take_held-requires-clause-rows
take_held-requires-clause-rows g c =
    let taking = c.loop-session.invariant.taking in
    let held = held_columns c.args.columns c.loop-session.session c.take_numbers.new.values.items (c.requires.columns ∙ sym taking.columns) (c.take_numbers.ensures.taken c.if-take_numbers.true) in
    spelled_rows (columns_of c.loop-session.session) held.line c.take_numbers.new.values.items taking.ready.columns held.spelled

pub returns-in_err-number-clause-ready : goal.returns-in_err-number-clause-ready
returns-in_err-number-clause-ready g c =
    let gone = err_from_is_err_and c.from_residual.result c.from_residual.ensures.1 in
    let is : c.from_residual.result ≡ Err c.in_err-number.field-0.0 = gone.1 ∙ ap (λ x. Err x) gone.2 in
    rw is (held_ready c.args.target.faults c.args.target.file.now (c.loop-session.number + 1) c.take_numbers.new.values.items c.loop-session.session c.take_held.new.session c.in_err-number.field-0.0 c.in_err-number.ensures.held)

pub returns-in_err-number-clause-takes : goal.returns-in_err-number-clause-takes
returns-in_err-number-clause-takes g c =
    let gone = err_from_is_err_and c.from_residual.result c.from_residual.ensures.1 in
    let is : c.from_residual.result ≡ Err c.in_err-number.field-0.0 = gone.1 ∙ ap (λ x. Err x) gone.2 in
    let taking = c.loop-session.invariant.taking in
    let held = held_columns c.args.columns c.loop-session.session c.take_numbers.new.values.items (c.requires.columns ∙ sym taking.columns) (c.take_numbers.ensures.taken c.if-take_numbers.true) in
    rw is (taken_held _ _ (g.S.Source.view c.take_held.new.lines.source.now) c.args.target.faults c.args.target.file.now c.args.session.now c.loop-session.session c.take_held.new.session c.take_numbers.new.values.items c.in_err-number.field-0.0 c.requires.room taking held c.in_err-number.ensures.held)

pub overflow_add-number-then-take_numbers : goal.overflow_add-number-then-take_numbers
overflow_add-number-then-take_numbers g c =
    let taking = c.loop-session.invariant.taking in
    let held = held_columns c.args.columns c.loop-session.session c.take_numbers.new.values.items (c.requires.columns ∙ sym taking.columns) (c.take_numbers.ensures.taken c.if-take_numbers.true) in
    let more = taking_both c.args.target.faults c.args.target.file.now c.args.session.now c.loop-session.session c.take_held.new.session c.take_numbers.new.values.items taking held c.in_ok-number.ensures.held in
    let bound = more.going.going.room in
    let room = c.requires.room in
    omega (arith, bound, room)

pub loop-session-preserved : goal.loop-session-preserved
loop-session-preserved g c =
    let taking = c.loop-session.invariant.taking in
    let held = held_columns c.args.columns c.loop-session.session c.take_numbers.new.values.items (c.requires.columns ∙ sym taking.columns) (c.take_numbers.ensures.taken c.if-take_numbers.true) in
    record {
      taking = taking_both c.args.target.faults c.args.target.file.now c.args.session.now c.loop-session.session c.take_held.new.session c.take_numbers.new.values.items taking held c.in_ok-number.ensures.held;
      same_reference = c.in_ok-number.ensures.same_reference ∙ c.take_numbers.ensures.same_reference ∙ c.loop-session.invariant.same_reference;
      same_intake = c.in_ok-number.ensures.same_intake ∙ c.take_numbers.ensures.same_intake ∙ c.loop-session.invariant.same_intake;
    }

pub loop-session-smaller : goal.loop-session-smaller
loop-session-smaller g c =
    let taken = c.take_numbers.ensures.taken c.if-take_numbers.true in
    let down = taken.given.room in
    let more = held_room c.in_ok-number.field-0 c.args.target.faults c.args.target.file.now (c.loop-session.number + 1) c.take_numbers.new.values.items c.loop-session.session c.take_held.new.session c.in_ok-number.ensures.held in
    omega (arith, down, more)

pub overflow_add-number : goal.overflow_add-number
overflow_add-number g c =
    let bound = c.loop-session.invariant.taking.going.going.room in
    let room = c.requires.room in
    omega (arith, bound, room)

pub take_next-requires : goal.take_next-requires
take_next-requires g c = c.loop-session.invariant.taking.ready

pub returns-in_err-take_next-clause-ready : goal.returns-in_err-take_next-clause-ready
returns-in_err-take_next-clause-ready g c =
    let gone = err_from_is_err_and c.from_residual-in_err-take_next.result c.from_residual-in_err-take_next.ensures.1 in
    let is : c.from_residual-in_err-take_next.result ≡ Err c.in_err-take_next.field-0.0 = gone.1 ∙ ap (λ x. Err x) gone.2 in
    rw is (next_ready c.args.target.faults c.args.target.file.now (c.loop-session.number + 1) c.loop-session.session c.take_next.new.session (Err c.in_err-take_next.field-0.0) c.loop-session.invariant.taking.ready c.in_err-take_next.ensures.next)

pub returns-in_err-take_next-clause-takes : goal.returns-in_err-take_next-clause-takes
returns-in_err-take_next-clause-takes g c =
    let gone = err_from_is_err_and c.from_residual-in_err-take_next.result c.from_residual-in_err-take_next.ensures.1 in
    let is : c.from_residual-in_err-take_next.result ≡ Err c.in_err-take_next.field-0.0 = gone.1 ∙ ap (λ x. Err x) gone.2 in
    let taking = taking_kept c.args.target.faults c.args.target.file.now c.args.session.now c.loop-session.session (ahead_kept (ap g.S.Source.view c.take_numbers.ensures.source) (c.take_numbers.ensures.kept c.if-take_numbers.false)) c.loop-session.invariant.taking in
    rw is (goes_on (g.S.Source.view c.take_next.new.lines.source.now) c.take_next.new.lines.intake.now c.args.target.faults c.args.target.file.now c.args.session.now c.loop-session.session c.take_next.new.session (Err c.in_err-take_next.field-0.0) c.requires.room c.requires.limit taking c.in_err-take_next.ensures.stays c.in_err-take_next.ensures.next)

pub loop-session-preserved-then-branch : goal.loop-session-preserved-then-branch
loop-session-preserved-then-branch g c =
    let taking = taking_kept c.args.target.faults c.args.target.file.now c.args.session.now c.loop-session.session (ahead_kept (ap g.S.Source.view c.take_numbers.ensures.source) (c.take_numbers.ensures.kept c.if-take_numbers.false)) c.loop-session.invariant.taking in
    record {
      taking = goes_on (g.S.Source.view c.take_next.new.lines.source.now) c.take_next.new.lines.intake.now c.args.target.faults c.args.target.file.now c.args.session.now c.loop-session.session c.take_next.new.session (Ok true) c.requires.room c.requires.limit taking c.in_ok-take_next.ensures.stays (rw c.if-branch.true at c.in_ok-take_next.ensures.next);
      same_reference = c.in_ok-take_next.ensures.same_reference ∙ c.take_numbers.ensures.same_reference ∙ c.loop-session.invariant.same_reference;
      same_intake = c.in_ok-take_next.ensures.same_intake ∙ c.take_numbers.ensures.same_intake ∙ c.loop-session.invariant.same_intake;
    }

pub loop-session-smaller-then-branch : goal.loop-session-smaller-then-branch
loop-session-smaller-then-branch g c =
    let kept = ap (λ (i : IntakeView). length i.held + i.more) (c.take_numbers.ensures.kept c.if-take_numbers.false) in
    let down = next_room c.args.target.faults c.args.target.file.now (c.loop-session.number + 1) c.loop-session.session c.take_next.new.session c.in_ok-take_next.field-0 c.if-branch.true c.in_ok-take_next.ensures.next in
    omega (arith, kept, down)

pub returns-else-branch-clause-ready : goal.returns-else-branch-clause-ready
returns-else-branch-clause-ready g c = c.close_batch.ensures.ready

pub returns-else-branch-clause-takes : goal.returns-else-branch-clause-takes
returns-else-branch-clause-takes g c =
    let taking = taking_kept c.args.target.faults c.args.target.file.now c.args.session.now c.loop-session.session (ahead_kept (ap g.S.Source.view c.take_numbers.ensures.source) (c.take_numbers.ensures.kept c.if-take_numbers.false)) c.loop-session.invariant.taking in
    let reached = goes_on (g.S.Source.view c.take_next.new.lines.source.now) c.take_next.new.lines.intake.now c.args.target.faults c.args.target.file.now c.args.session.now c.loop-session.session c.take_next.new.session (Ok false) c.requires.room c.requires.limit taking c.in_ok-take_next.ensures.stays (rw c.if-branch.false at c.in_ok-take_next.ensures.next) in
    taken_end _ _ c.args.target.faults c.args.target.file.now c.args.session.now c.take_next.new.session c.close_batch.new.session reached.numbers c.close_batch.result reached.read reached.done c.close_batch.ensures.steps

pub close_batch-requires : goal.close_batch-requires
close_batch-requires g c = next_ready c.args.target.faults c.args.target.file.now (c.loop-session.number + 1) c.loop-session.session c.take_next.new.session (Ok false) c.loop-session.invariant.taking.ready (rw c.if-branch.false at c.in_ok-take_next.ensures.next)
