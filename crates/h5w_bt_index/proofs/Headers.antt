-- What the header of an index says can be written.
use Rattle.std.proofs.Common.{◌≡◌, ℕ, ◌≤◌, List, length, sym, ap, subst, ◌∙◌}
use Rattle.h5w_model.specs.Trees.{BthdFields, capacity_of}
use Rattle.h5w_bt.specs.Parts.{IsHeader}
use Rattle.h5w_bt_nodes.specs.Nodes.{records_of}
use Rattle.h5w_bt_index.specs.Index.{Index, IsShaped}
use Rattle.h5w_bt_nodes.specs.Blocks.{placed}
use Rattle.h5w_bt_nodes.proofs.Shapes.{shape_few}
use Rattle.h5w_bt_nodes.proofs.Placed.{placed_own}

-- what it says can be written
pub header_fits : (v : Index) (depth root records total : ℕ) → IsShaped v → depth ≡ v.depth → records ≡ length (records_of v.depth v.root) → IsHeader (record { depth = depth; root = root; records = records; total = total })
header_fits v depth root records total i e n = record {
  shallow = subst (λ (d : ℕ). d ≤ 3) (sym e) i.shallow;
  few = subst (λ (d : ℕ). records ≤ capacity_of d) (sym e) (subst (λ (k : ℕ). k ≤ capacity_of v.depth) (sym n) (shape_few v.depth (capacity_of v.depth) v.root i.shape));
}

pub planned_fits : (v : Index) (ps : List ℕ) (depth records : ℕ) (c : BthdFields) (root total : ℕ) → IsShaped v → depth ≡ v.depth → records ≡ length (records_of v.depth (placed v.depth ps v.root))
    → c ≡ record { depth = depth; root = root; records = records; total = total } → IsHeader c
planned_fits v ps depth records c root total i e n is = subst IsHeader (sym is) (header_fits v depth root records total i e (n ∙ ap length (placed_own v.depth ps v.root)))
