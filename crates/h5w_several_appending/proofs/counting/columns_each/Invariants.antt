use Rattle.std.proofs.Common.{◌≡◌, ◌≤◌, ℕ, map, take}
use Rattle.h5w_writer.specs.Sessions.{Session}
use Rattle.h5w_several_batches.specs.SetLines.{columns_at}
use Rattle.h5w_several_appending.proofs.counting.columns_each.Given as goal

abbrev pub invariant-loop-d : goal.invariant-loop-d
invariant-loop-d l = record {
  are : l.columns ≡ map (λ (s : Session). s.dataset.shape.cols) (take l.d l.fn.session.parts);
  some : (k : ℕ) → 1 ≤ columns_at l.columns k;
}
