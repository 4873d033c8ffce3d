use Rattle.std.proofs.Common.{◌≡◌, ◌≤◌, Err, subst, ◌∙◌, ap}
use Rattle.std.proofs.lemmas.Result.{err_from_is_err_and}
use Rattle.h5w_appending.proofs.InputLemmas.{begun_ended, last_wanting, ready_begun, told_begun}
use Rattle.h5w_appending.proofs.appending.take_all.Goals as goal

pub returns-in_err-put_all-clause-takes : goal.returns-in_err-put_all-clause-takes
returns-in_err-put_all-clause-takes g c =
    let gone = err_from_is_err_and c.from_residual.result c.from_residual.ensures.1 in
    let is : c.from_residual.result ≡ Err c.in_err-put_all.field-0.0 = gone.1 ∙ ap (λ x. Err x) gone.2 in
    rw is (begun_ended _ (g.K.Sink.view c.args.sink.now) (g.S.Source.view c.args.source.now) c.args.target.faults c.args.target.file.now c.args.session.now c.put_all.new.session c.in_err-put_all.field-0.0 c.in_err-put_all.ensures c.requires.begun)

pub take_source-requires-clause-ready : goal.take_source-requires-clause-ready
take_source-requires-clause-ready g c =
    let some = subst (λ n. 1 ≤ n) c.columns-columns.ensures.value c.columns-columns.ensures.some in
    ready_begun c.args.target.faults c.args.target.file.now c.args.session.now c.put_all.new.session some c.in_ok-put_all.ensures c.requires.begun

pub returns-in_err-take_source-clause-takes : goal.returns-in_err-take_source-clause-takes
returns-in_err-take_source-clause-takes g c =
    let gone = err_from_is_err_and c.from_residual-in_err-take_source.result c.from_residual-in_err-take_source.ensures.1 in
    let is : c.from_residual-in_err-take_source.result ≡ Err c.in_err-take_source.field-0.0 = gone.1 ∙ ap (λ x. Err x) gone.2 in
    rw is (λ u counted p. c.in_err-take_source.ensures.takes c.args.session.now u (g.K.Sink.view c.args.sink.now) counted (told_begun (g.K.Sink.view c.args.sink.now) c.args.target.faults c.args.target.file.now c.args.session.now c.put_all.new.session counted p c.in_ok-put_all.ensures c.requires.begun))

pub returns-in-Ok-clause-takes : goal.returns-in-Ok-clause-takes
returns-in-Ok-clause-takes g c =
    λ u counted p. c.in_ok-take_source.ensures.takes c.args.session.now u (g.K.Sink.view c.args.sink.now) counted (told_begun (g.K.Sink.view c.args.sink.now) c.args.target.faults c.args.target.file.now c.args.session.now c.put_all.new.session counted p c.in_ok-put_all.ensures c.requires.begun)

pub returns-in-Err-clause-takes : goal.returns-in-Err-clause-takes
returns-in-Err-clause-takes g c =
    λ u counted p. last_wanting c.args.target.file.now c.args.session.now c.take_source.new.session
    (c.in_ok-take_source.ensures.takes c.args.session.now u (g.K.Sink.view c.args.sink.now) counted (told_begun (g.K.Sink.view c.args.sink.now) c.args.target.faults c.args.target.file.now c.args.session.now c.put_all.new.session counted p c.in_ok-put_all.ensures c.requires.begun))
