use Rattle.std.proofs.Common.{◌≡◌, ◌++◌, replicate}
use Rattle.std.specs.Prelude.{vec_capacity, None}
use Rattle.h5w_cache.proofs.store.grow_blocks.Given as goal

abbrev pub invariant-loop-step : goal.invariant-loop-step
invariant-loop-step l = record {
  items : l.blocks.items ≡ l.initial.blocks.items ++ replicate l._step None;
  capacity : vec_capacity l.blocks ≡ vec_capacity l.initial.blocks;
}
