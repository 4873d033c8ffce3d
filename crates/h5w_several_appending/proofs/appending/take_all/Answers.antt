use Rattle.std.proofs.Common.{◌≡◌, Err, sym, ◌∙◌, ap}
use Rattle.std.proofs.lemmas.Result.{err_from_is_err_and}
use Rattle.h5w_several_appending.specs.Taken.{columns_in}
use Rattle.h5w_several_appending.proofs.InputLemmas.{begun_ended, begun_put, columns_put, columns_sets, columns_some, last_line_wanting, told_begun}
use Rattle.h5w_several_appending.proofs.appending.take_all.Goals as goal

pub returns-in_err-put_all-clause-takes : goal.returns-in_err-put_all-clause-takes
returns-in_err-put_all-clause-takes g c =
    let gone = err_from_is_err_and c.from_residual.result c.from_residual.ensures.1 in
    let is : c.from_residual.result ≡ Err c.in_err-put_all.field-0.0 = gone.1 ∙ ap (λ x. Err x) gone.2 in
    let some = columns_some c.columns_each-columns.result (columns_in c.args.session.now.parts) (sym c.columns_each-columns.ensures.columns) c.columns_each-columns.ensures.some in
    rw is (begun_ended _ (g.K.Sink.view c.args.sink.now) (g.S.Source.view c.args.source.now) c.args.target.faults c.args.target.file.now c.args.session.now c.put_all.new.session c.in_err-put_all.field-0.0 some c.in_err-put_all.ensures c.requires)

pub take_source-requires-clause-ready : goal.take_source-requires-clause-ready
take_source-requires-clause-ready g c = begun_put c.args.target.faults c.args.target.file.now c.args.session.now c.put_all.new.session c.in_ok-put_all.ensures c.requires

pub take_source-requires-clause-columns : goal.take_source-requires-clause-columns
take_source-requires-clause-columns g c = columns_put c.args.target.faults c.args.target.file.now c.columns_each-columns.result c.as_slice.result.now c.args.session.now c.put_all.new.session c.in_ok-put_all.ensures c.columns_each-columns.ensures.columns c.as_slice.ensures

pub take_source-requires-clause-some : goal.take_source-requires-clause-some
take_source-requires-clause-some g c = columns_some c.columns_each-columns.result c.as_slice.result.now c.as_slice.ensures c.columns_each-columns.ensures.some

pub take_source-requires-clause-sets : goal.take_source-requires-clause-sets
take_source-requires-clause-sets g c = columns_sets c.columns_each-columns.result c.as_slice.result.now c.args.session.now.parts c.columns_each-columns.ensures.columns c.as_slice.ensures c.requires.some

pub returns-in_err-take_source-clause-takes : goal.returns-in_err-take_source-clause-takes
returns-in_err-take_source-clause-takes g c =
    let gone = err_from_is_err_and c.from_residual-in_err-take_source.result c.from_residual-in_err-take_source.ensures.1 in
    let is : c.from_residual-in_err-take_source.result ≡ Err c.in_err-take_source.field-0.0 = gone.1 ∙ ap (λ x. Err x) gone.2 in
    let some = columns_some c.columns_each-columns.result (columns_in c.args.session.now.parts) (sym c.columns_each-columns.ensures.columns) c.columns_each-columns.ensures.some in
    rw is (λ u counted p. c.in_err-take_source.ensures.takes c.args.session.now u (g.K.Sink.view c.args.sink.now) counted (told_begun (g.K.Sink.view c.args.sink.now) c.args.target.faults c.args.target.file.now c.args.session.now c.put_all.new.session counted p some c.in_ok-put_all.ensures c.requires))

pub returns-in-Ok-clause-takes : goal.returns-in-Ok-clause-takes
returns-in-Ok-clause-takes g c =
    let some = columns_some c.columns_each-columns.result (columns_in c.args.session.now.parts) (sym c.columns_each-columns.ensures.columns) c.columns_each-columns.ensures.some in
    λ u counted p. c.in_ok-take_source.ensures.takes c.args.session.now u (g.K.Sink.view c.args.sink.now) counted (told_begun (g.K.Sink.view c.args.sink.now) c.args.target.faults c.args.target.file.now c.args.session.now c.put_all.new.session counted p some c.in_ok-put_all.ensures c.requires)

pub returns-in-Err-clause-takes : goal.returns-in-Err-clause-takes
returns-in-Err-clause-takes g c =
    let some = columns_some c.columns_each-columns.result (columns_in c.args.session.now.parts) (sym c.columns_each-columns.ensures.columns) c.columns_each-columns.ensures.some in
    λ u counted p. last_line_wanting c.args.target.file.now c.args.session.now c.take_source.new.session
    (c.in_ok-take_source.ensures.takes c.args.session.now u (g.K.Sink.view c.args.sink.now) counted (told_begun (g.K.Sink.view c.args.sink.now) c.args.target.faults c.args.target.file.now c.args.session.now c.put_all.new.session counted p some c.in_ok-put_all.ensures c.requires))
