use Rattle.std.proofs.Common.{◌≡◌, Err, refl, ◌∙◌, ap}
use Rattle.std.proofs.lemmas.Result.{err_from_is_err_and}
use Rattle.h5w_cache.specs.Plans.{Took}
use Rattle.h5w_space.specs.Space.{extent}
use Rattle.h5w_index.proofs.RaisedLemmas.{raised_one}
use Rattle.h5w_writer.specs.Refusals.{no_block, no_header}
use Rattle.h5w_writer.proofs.IndexStarts.{refused_so}
use Rattle.h5w_writer.proofs.planning.take_two.Goals as goal

pub returns-in_err-block-clause-full : goal.returns-in_err-block-clause-full
returns-in_err-block-clause-full c =
    let e = c.in_err-block.field-0.0 in
    let gone = err_from_is_err_and c.from_residual.result c.from_residual.ensures.1 in
    let is : c.from_residual.result ≡ Err e = gone.1 ∙ ap (λ x. Err x) gone.2 in
    rw is (no_block (refused_so c.args.places.now 298 e c.in_err-block.ensures.refused c.in_err-block.ensures.full))

pub returns-in_err-header-clause-full : goal.returns-in_err-header-clause-full
returns-in_err-header-clause-full c =
    let s = c.args.places.now in
    let a = c.take.new.self in
    let b = c.in_ok-block.block in
    let took : Took s a (extent b 298) = record {
      takes = c.in_ok-block.ensures.taken;
      off_live = c.in_ok-block.ensures.off_live;
      off_retired = c.in_ok-block.ensures.off_retired;
      live = c.in_ok-block.ensures.live;
      stays_live = c.in_ok-block.ensures.stays_live;
    } in
    let e = c.in_err-header.field-0.0 in
    let gone = err_from_is_err_and c.from_residual-in_err-header.result c.from_residual-in_err-header.ensures.1 in
    let is : c.from_residual-in_err-header.result ≡ Err e = gone.1 ∙ ap (λ x. Err x) gone.2 in
    rw is (no_header b a refl took (raised_one s a b 298 took.takes) (refused_so a 72 e c.in_err-header.ensures.refused c.in_err-header.ensures.full))

pub returns-clause-taken : goal.returns-clause-taken
returns-clause-taken c =
    let s = c.args.places.now in
    let a = c.take.new.self in
    let t = c.take-2.new.self in
    let b = c.in_ok-block.block in
    let h = c.in_ok-header.header in
    let first : Took s a (extent b 298) = record {
      takes = c.in_ok-block.ensures.taken;
      off_live = c.in_ok-block.ensures.off_live;
      off_retired = c.in_ok-block.ensures.off_retired;
      live = c.in_ok-block.ensures.live;
      stays_live = c.in_ok-block.ensures.stays_live;
    } in
    let second : Took a t (extent h 72) = record {
      takes = c.in_ok-header.ensures.taken;
      off_live = c.in_ok-header.ensures.off_live;
      off_retired = c.in_ok-header.ensures.off_retired;
      live = c.in_ok-header.ensures.live;
      stays_live = c.in_ok-header.ensures.stays_live;
    } in
    record { between = a; first = first; second = second }
