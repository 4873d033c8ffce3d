use Rattle.std.proofs.Common.{◌∙◌, ◌≤◌, ◌<◌, ◌∷◌, ◌++◌, [], ap, length, subst, sym, arith}
use Rattle.h5w_writer.specs.Sessions.{Session}
use Rattle.h5w_several_batches.specs.SetLines.{columns_at}
use Rattle.h5w_several_appending.proofs.CountLemmas.{some_more, take_one, take_whole, taken_count}
use Rattle.h5w_several_appending.proofs.counting.columns_each.Goals as goal

pub push-requires : goal.push-requires
push-requires c =
    let few = taken_count (λ (s : Session). s.dataset.shape.cols) c.args.session.now.parts c.loop-d.d in
    let is = ap length c.loop-d.invariant.are in
    let most = c.count-d-end.ensures.few in
    omega (arith, few, is, c.loop-d-test.true, most)

pub loop-d-preserved : goal.loop-d-preserved
loop-d-preserved c =
    let low : c.loop-d.d < length c.args.session.now.parts = let count = c.count-d-end.ensures.count in omega (arith, c.loop-d-test.true, count) in
    record {
      are = c.push.ensures ∙ ap (λ ns. ns ++ c.columns.result ∷ []) c.loop-d.invariant.are ∙ take_one (λ (s : Session). s.dataset.shape.cols) c.args.session.now.parts c.loop-d.d c.columns.result low c.columns.ensures.value;
      some = λ k. subst (λ ns. 1 ≤ columns_at ns k) (sym c.push.ensures) (some_more c.loop-d.columns c.columns.result c.loop-d.invariant.some c.columns.ensures.some k);
    }

pub returns-clause-columns : goal.returns-clause-columns
returns-clause-columns c = let count = c.count-d-end.ensures.count in c.loop-d.invariant.are ∙ take_whole (λ (s : Session). s.dataset.shape.cols) c.args.session.now.parts c.loop-d.d (omega (arith, c.loop-d-test.false, count))
