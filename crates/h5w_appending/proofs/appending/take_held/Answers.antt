use Rattle.std.proofs.Common.{◌≡◌, ◌∙◌, Err, Some, ap, sym, subst, inl}
use Rattle.std.proofs.lemmas.Result.{err_from_is_err_and}
use Rattle.h5w_batches.specs.Batches.{AreWholeRows}
use Rattle.h5w_appending.specs.Appends.{columns_of}
use Rattle.h5w_appending.proofs.InputLemmas.{held_by}
use Rattle.h5w_appending.proofs.appending.take_held.Goals as goal

pub take_values-requires-clause-rows : goal.take_values-requires-clause-rows
take_values-requires-clause-rows g c = subst (AreWholeRows (columns_of c.args.session.now)) (sym c.deref.ensures.value) c.requires.rows

pub returns-in_err-take_values-clause-held : goal.returns-in_err-take_values-clause-held
returns-in_err-take_values-clause-held g c =
    let gone = err_from_is_err_and c.from_residual.result c.from_residual.ensures.1 in
    let is : c.from_residual.result ≡ Err c.in_err-take_values.field-0.0 = gone.1 ∙ ap (λ x. Err x) gone.2 in
    rw is (inl (c.in_err-take_values.ensures.ready, λ line spelled. c.in_err-take_values.ensures.steps line (spelled ∙ ap Some (sym c.deref.ensures.value))))

pub returns-clause-held : goal.returns-clause-held
returns-clause-held g c =
    held_by c.args.target.faults c.args.target.file.now c.args.number c.args.values.now.items c.args.session.now c.take_ahead.new.session c.take_ahead.result (record {
      middle = c.take_values.new.session;
      between = g.D.Disk.view c.take_values.new.disk;
      steps = λ line spelled. c.in_ok-take_values.ensures.steps line (spelled ∙ ap Some (sym c.deref.ensures.value));
      ready = c.in_ok-take_values.ensures.ready;
      columns = c.in_ok-take_values.ensures.columns;
      ahead = c.take_ahead.ensures.ahead;
    })
