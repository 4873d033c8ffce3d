use Rattle.std.proofs.Common.{◌≡◌, ◌∙◌, ap, length, arith, []}
use Rattle.std.proofs.Common.{◌∷◌}
use Rattle.h5w_ea_index.proofs.CreateLemmas.{links_fit}
use Rattle.h5w_array_laws.proofs.CreatedLemmas.{header_size}
use Rattle.h5w_ea_index.proofs.create.header_block.Goals as goal

pub new-requires-clause-inside : goal.new-requires-clause-inside
new-requires-clause-inside c = links_fit 60 (845 ∷ []) c.in_ok-bytes.bytes.items c.in_ok-links.links.items 72 c.in_ok-links.ensures (ap length c.in_ok-bytes.ensures.bytes ∙ header_size c.args.place) (omega arith)

pub new-requires-clause-high : goal.new-requires-clause-high
new-requires-clause-high c = let e : length c.in_ok-bytes.bytes.items ≡ 72 = ap length c.in_ok-bytes.ensures.bytes ∙ header_size c.args.place in omega arith
