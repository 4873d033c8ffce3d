use Rattle.std.proofs.Common.{◌∙◌, rules}
use Rattle.std.proofs.lemmas.List.Sorted.{answers_always, IsNonDecreasingBy-from_sort_by_key}
use Rattle.h5w_check.specs.declared.ranges.Range.{Range}
use Rattle.h5w_check.proofs.VerdictLemmas.{sorted_is, one_by_place}
use Rattle.h5w_check.proofs.overlap.sorted.Goals as goal

pub returns : goal.returns
returns c =
    sorted_is c.in_ok-runs.runs.items c.sort_by_key.new.self.items
    (IsNonDecreasingBy-from_sort_by_key (λ (r : Range). r.place) c.sort_by_key.new.self.items c.in_ok-sort_by_key.ensures.sorted (λ a r q k. search rules))
    (c.sort_by_key.ensures.stable (λ (r : Range). r.place) (answers_always _ _ _ (λ f a r g h. search rules)))
    ∙ one_by_place c.in_ok-runs.runs.items c.args.ranges.now c.in_ok-runs.ensures
