use Rattle.std.proofs.Common.{◌≡◌, ◌∙◌, ap, length, arith, [], ◌∷◌}
use Rattle.h5w_ea_index.proofs.CreateLemmas.{links_fit}
use Rattle.h5w_array_laws.proofs.CreatedLemmas.{index_size}
use Rattle.h5w_ea_index.proofs.create.index_block.Goals as goal

pub new-requires-clause-inside : goal.new-requires-clause-inside
new-requires-clause-inside c = links_fit 46 (0 ∷ 65 ∷ 130 ∷ 131 ∷ 195 ∷ 196 ∷ 324 ∷ 389 ∷ 454 ∷ 519 ∷ 584 ∷ 649 ∷ 714 ∷ 779 ∷ 844 ∷ []) c.in_ok-bytes.bytes.items c.in_ok-links.links.items 298 c.in_ok-links.ensures (ap length c.in_ok-bytes.ensures.bytes ∙ index_size c.args.header) (omega arith)

pub new-requires-clause-high : goal.new-requires-clause-high
new-requires-clause-high c = let e : length c.in_ok-bytes.bytes.items ≡ 298 = ap length c.in_ok-bytes.ensures.bytes ∙ index_size c.args.header in omega arith
