use Rattle.std.proofs.Common.{drop, ℕ}
use Rattle.std.specs.List.{All}
use Rattle.h5w_model.specs.Datasets.{Described}
use Rattle.h5w_index.specs.Depths.{AreWithin}
use Rattle.h5w_index.specs.Held.{view_of}
use Rattle.h5w_index.specs.Placing.{IsPartly}
use Rattle.h5w_index.specs.Views.{HasSlot, IndexView, IsSound}
use Rattle.h5w_writer.proofs.taking.unset.Given as goal

abbrev pub invariant-loop-key : goal.invariant-loop-key
invariant-loop-key l = record {
  sound : IsSound (view_of l.index);
  slots : All (HasSlot (view_of l.index)) (drop l.key-index l.added);
  goes : (d : Described) (to : ℕ) (v : IndexView) → IsPartly d to v l.added (view_of l.initial.index) → IsPartly d to v (drop l.key-index l.added) (view_of l.index);
  within : (lines across : ℕ) → AreWithin lines across (view_of l.initial.index) → AreWithin lines across (view_of l.index);
}
