-- The blocks in place of an index, and how many chunks are looked up in it.
use Rattle.std.proofs.Common.{◌≡◌, ℕ, zero, suc, ◌+◌, ◌*◌, ◌/◌, ◌<◌, ◌≤◌, ◌∙◌, refl, sym, ap, subst, arith}
use Rattle.h5w_model.specs.Datasets.{Described}
use Rattle.h5w_model.specs.Tables.{bands, chunks_across, keys_across, needed}
use Rattle.h5w_model.specs.declared.cell.IndexKind.{IndexKind}
use Rattle.h5w_model.specs.declared.cell.IndexKind.TheVariants.{Array, Tree}
use Rattle.h5w_model.specs.Trees.{capacity_of}
use Rattle.h5w_ea.specs.declared.index_block.Eaib.{Eaib}
use Rattle.h5w_bt.specs.Fields.{bthd_of}
use Rattle.h5w_bt.specs.declared.header.Bthd.{Bthd}
use Rattle.h5w_lookup.specs.Indexes.{IsIndexOf}
use Rattle.h5w_lookup.specs.declared.index.Index.{Index}
use Rattle.h5w_lookup.specs.declared.index.Index.TheVariants as indexes
use Rattle.std.proofs.Math.Nat.{mul-zero, div-le_self}
use Rattle.h5w_laws.proofs.NodeLemmas.{IsRoot}

-- fewer chunks can be looked up in it, too
pub index_fewer : (index : Index) (m n : ℕ) → m ≤ n → IsIndexOf n index → IsIndexOf m index
index_fewer index m n h is = record {
  numbered = λ e k. let few = is.numbered e k in omega arith;
  shallow = is.shallow;
  few = is.few;
}

pub index_below : (index : Index) (n i : ℕ) → i < n → IsIndexOf n index → IsIndexOf (i + 1) index
index_below index n i h is = index_fewer index (i + 1) n (omega arith) is

pub index_quotient : (index : Index) (i across : ℕ) → 0 < across → IsIndexOf (i + 1) index → IsIndexOf (i / across + 1) index
index_quotient index i across h is = let less = div-le_self i across in index_fewer index (i / across + 1) (i + 1) (omega arith) is

-- where a chunk is needed, one stands in each band
some_chunks : (d : Described) (i across : ℕ) → i < needed d → across ≡ chunks_across d → 0 < across
some_chunks d i zero h e = let none : needed d ≡ 0 = ap (λ n. bands d * n) (sym e) ∙ mul-zero (bands d) in absurd (omega arith)
some_chunks d i (suc across) h e = omega arith

some_keys : (kind : IndexKind) (across : ℕ) → 0 < across → 0 < elim kind as (λ _. ℕ) [ Array ↦ 1 | Tree ↦ across ]
some_keys Array across h = omega arith
some_keys Tree across h = h

-- and a key in each line
pub some_across : (d : Described) (i across : ℕ) → i < needed d → across ≡ keys_across d → 0 < across
some_across d i across h e = subst (λ (n : ℕ). 0 < n) (sym e) (some_keys d.layout.index (chunks_across d) (some_chunks d i (chunks_across d) h refl))

-- ---- What it is

pub nowhere_indexed : (n : ℕ) → IsIndexOf n indexes.Nowhere
nowhere_indexed n = record {
  numbered = λ e h. let none : indexes.Nowhere ≡ indexes.Array e = h in absurd cc;
  shallow = λ t h. let none : indexes.Nowhere ≡ indexes.Tree t = h in absurd cc;
  few = λ t h. let none : indexes.Nowhere ≡ indexes.Tree t = h in absurd cc;
}

pub array_indexed : (n : ℕ) (b : Eaib) → n ≤ 131060 → IsIndexOf n (indexes.Array b)
array_indexed n b few = record {
  numbered = λ e h. few;
  shallow = λ t h. let none : indexes.Array b ≡ indexes.Tree t = h in absurd cc;
  few = λ t h. let none : indexes.Array b ≡ indexes.Tree t = h in absurd cc;
}

root_of : Bthd → Index → Bthd
root_of t indexes.Nowhere = t
root_of t (indexes.Array e) = t
root_of t (indexes.Tree u) = u

same_root : (t u : Bthd) → indexes.Tree t ≡ indexes.Tree u → t ≡ u
unfolding root_of
same_root t u h = ap (root_of t) h

pub tree_indexed : (n : ℕ) (t : Bthd) → IsRoot (bthd_of t) → IsIndexOf n (indexes.Tree t)
tree_indexed n t root = record {
  numbered = λ e h. let none : indexes.Tree t ≡ indexes.Array e = h in absurd cc;
  shallow = λ u h. subst (λ (x : Bthd). x.depth ≤ 3) (same_root t u h) root.shallow;
  few = λ u h. subst (λ (x : Bthd). x.records ≤ capacity_of x.depth) (same_root t u h) root.few;
}
