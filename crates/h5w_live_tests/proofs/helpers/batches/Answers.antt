use Rattle.std.proofs.Common.{List, ℤ, sym, subst}
use Rattle.h5w_live.specs.Writing.{AreBatches}
use Rattle.h5w_live.proofs.RowLemmas.{batches_more}
use Rattle.h5w_live_tests.proofs.helpers.batches.Goals as goal

pub loop-values-preserved : goal.loop-values-preserved
loop-values-preserved c =
    subst (λ (bs : List (List ℤ)). AreBatches 1 bs) (sym c.in_ok-push.ensures.items)
    (batches_more 1 c.loop-values.batches.items c.in_ok-batch.batch c.loop-values.invariant c.in_ok-batch.ensures)
