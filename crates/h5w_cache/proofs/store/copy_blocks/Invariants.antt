use Rattle.std.proofs.Common.{◌≡◌, take}
use Rattle.h5w_cache.proofs.store.copy_blocks.Given as goal

abbrev pub invariant-loop-block : goal.invariant-loop-block
invariant-loop-block l = l.copy.items ≡ take l.block-index l.blocks.items
