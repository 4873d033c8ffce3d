use Rattle.std.proofs.Common.{◌≡◌, ℕ, drop, length, slice_index_or}
use Rattle.h5w_model.specs.Numbers.{undefined}
use Rattle.h5w_cache.specs.Plans.{bytes_in, respelled}
use Rattle.h5w_cache.proofs.settle.spell_all.Given as goal

abbrev pub invariant-loop-block_move : goal.invariant-loop-block_move
invariant-loop-block_move l = record {
  spelled : respelled (λ n. slice_index_or l.places n undefined) (drop l.block_move-index l.moves) l.blocks ≡ respelled (λ n. slice_index_or l.places n undefined) l.moves l.initial.blocks;
  lengths : (n : ℕ) → length (bytes_in l.blocks n) ≡ length (bytes_in l.initial.blocks n);
}
