use Rattle.std.proofs.Common.{rules}
use Rattle.std.proofs.lemmas.List.Sorted.{IsNonDecreasingBy-from_sort_by_key}
use Rattle.h5w_cache.specs.Plans.{turn_in}
use Rattle.h5w_cache.proofs.moves.in_turn.Goals as goal

pub returns-clause-turns : goal.returns-clause-turns
returns-clause-turns c = IsNonDecreasingBy-from_sort_by_key (turn_in c.args.blocks.now) _ c.in_ok-sort_by_key.ensures.sorted (λ a r q k. search rules)
