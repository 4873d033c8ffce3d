use Rattle.std.proofs.Common.{◌≡◌, Err, refl, arith, ◌∙◌, ap}
use Rattle.std.proofs.lemmas.Result.{err_from_is_err_and}
use Rattle.h5w_cache.specs.Plans.{Took}
use Rattle.h5w_space.specs.Space.{extent}
use Rattle.h5w_index.proofs.RaisedLemmas.{raised_more, raised_one}
use Rattle.h5w_writer.specs.Refusals.{no_block}
use Rattle.h5w_writer.specs.Starts.{block_alone}
use Rattle.h5w_writer.proofs.IndexStarts.{refused_so}
use Rattle.h5w_writer.proofs.planning.take_block.Goals as goal

pub returns-in_err-block-clause-full : goal.returns-in_err-block-clause-full
returns-in_err-block-clause-full c =
    let e = c.in_err-block.field-0.0 in
    let gone = err_from_is_err_and c.from_residual.result c.from_residual.ensures.1 in
    let is : c.from_residual.result ≡ Err e = gone.1 ∙ ap (λ x. Err x) gone.2 in
    rw is (no_block (refused_so c.args.places.now 298 e c.in_err-block.ensures.refused c.in_err-block.ensures.full))

pub returns-clause-taken : goal.returns-clause-taken
returns-clause-taken c =
    let s = c.args.places.now in
    let t = c.take.new.self in
    let b = c.in_ok-block.block in
    let took : Took s t (extent b 298) = record {
      takes = c.in_ok-block.ensures.taken;
      off_live = c.in_ok-block.ensures.off_live;
      off_retired = c.in_ok-block.ensures.off_retired;
      live = c.in_ok-block.ensures.live;
      stays_live = c.in_ok-block.ensures.stays_live;
    } in
    block_alone c.requires.named refl took

pub returns-clause-raised : goal.returns-clause-raised
returns-clause-raised c =
    let s = c.args.places.now in
    let t = c.take.new.self in
    raised_more s t 298 370 (omega arith) (raised_one s t c.in_ok-block.block 298 c.in_ok-block.ensures.taken)

pub returns-clause-header : goal.returns-clause-header
returns-clause-header c =
    let s = c.args.places.now in
    let t = c.take.new.self in
    let raised = raised_one s t c.in_ok-block.block 298 c.in_ok-block.ensures.taken in
    omega (arith, c.requires.head, raised.rises)
