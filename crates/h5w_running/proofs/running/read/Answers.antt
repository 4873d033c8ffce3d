use Rattle.std.proofs.Common.{List, ℤ, subst, sym}
use Rattle.h5w_live.specs.Writing.{AreBatches}
use Rattle.h5w_running.proofs.RunLemmas.{same_rows}
use Rattle.h5w_running.proofs.running.read.Goals as goal

pub returns-in-Ok-clause-rows : goal.returns-in-Ok-clause-rows
returns-in-Ok-clause-rows g c =
    subst (λ (bs : List (List ℤ)). AreBatches c.args.columns bs) (sym c.from_vec.ensures) (same_rows c.args.columns c.in-Ok.batches.items c.in-Ok.ensures.rows)
