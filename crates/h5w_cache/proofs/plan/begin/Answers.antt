use Rattle.std.specs.Prelude.{IsSome}
use Rattle.std.proofs.lemmas.List.Sorted.{All-permutation}
use Rattle.h5w_cache.specs.Plans.{block_in}
use Rattle.h5w_cache.proofs.plan.begin.Goals as goal

pub moves_of-requires : goal.moves_of-requires
moves_of-requires c = record { kept = All-permutation (λ n. IsSome (block_in c.args.blocks.now n)) _ _ c.in_ok-order.ensures.order c.requires.kept }
