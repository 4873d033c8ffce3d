use Rattle.std.proofs.Common.{◌≡◌, drop, slice_index_or}
use Rattle.h5w_model.specs.Numbers.{undefined}
use Rattle.h5w_cache.specs.Blocks.{patched}
use Rattle.h5w_cache.proofs.block.patch.Given as goal

abbrev pub invariant-loop-link : goal.invariant-loop-link
invariant-loop-link l = patched (λ n. slice_index_or l.places n undefined) (drop l.link-index l.links) l.bytes ≡ patched (λ n. slice_index_or l.places n undefined) l.links l.initial.bytes
