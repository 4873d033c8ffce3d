use Rattle.std.proofs.Common.{◌∙◌, ◌<◌, ◌∷◌, ◌++◌, [], ap, length, arith}
use Rattle.h5w_writer.specs.Sessions.{rows_of}
use Rattle.h5w_several_appending.proofs.CountLemmas.{take_one, take_whole, taken_count}
use Rattle.h5w_several_appending.proofs.counting.rows_each.Goals as goal

pub push-requires : goal.push-requires
push-requires c =
    let few = taken_count rows_of c.args.session.now.parts c.loop-d.d in
    let is = ap length c.loop-d.invariant in
    let most = c.count-d-end.ensures.few in
    omega (arith, few, is, c.loop-d-test.true, most)

pub loop-d-preserved : goal.loop-d-preserved
loop-d-preserved c =
    let low : c.loop-d.d < length c.args.session.now.parts = let count = c.count-d-end.ensures.count in omega (arith, c.loop-d-test.true, count) in
    c.push.ensures ∙ ap (λ ns. ns ++ c.rows.result ∷ []) c.loop-d.invariant ∙ take_one rows_of c.args.session.now.parts c.loop-d.d c.rows.result low c.rows.ensures

pub returns : goal.returns
returns c = let count = c.count-d-end.ensures.count in c.loop-d.invariant ∙ take_whole rows_of c.args.session.now.parts c.loop-d.d (omega (arith, c.loop-d-test.false, count))
