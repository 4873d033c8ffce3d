-- The index of a new file: its pieces among the others, and that it rests once all are shown.
use Rattle.std.proofs.Common.{◌≡◌, ℕ, List, [], ◌∷◌, ◌++◌, refl, sym, subst, ap, ◌∙◌}
use Rattle.h5w_model.specs.Images.{Holds, image}
use Rattle.h5w_model.specs.Trees.{bthd_at, bthd_bytes, bthd_len}
use Rattle.h5w_model.specs.declared.cell.IndexKind.{IndexKind}
use Rattle.h5w_model.specs.declared.cell.IndexKind.TheVariants.{Array, Tree}
use Rattle.h5w_space.specs.Space.{Space}
use Rattle.h5w_flush_laws.specs.Flushes.{IsBegun}
use Rattle.h5w_bt_index.specs.Index.{no_tree}
use Rattle.h5w_tree_index_laws.specs.TreeFlushes.{TreeStands}
use Rattle.h5w_tree_index_laws.proofs.TreeRestLemmas.{tree_begins}
use Rattle.h5w_index.specs.Views.{IndexView, IsSound, an_array, a_tree}
use Rattle.h5w_index.specs.Flushes.{Begins}
use Rattle.h5w_index.proofs.BeginLemmas.{index_begins}
use Rattle.h5w_creation_laws.specs.CreatedFiles.{CreatedFile, IsCreatable, block_place, created_moment, created_writes, empty_tree, header_block, index_blocks, index_place, root_block, super_block}
use Rattle.h5w_creation_laws.proofs.CreatedLaws.{created_array, created_new}
use Rattle.h5w_creation_laws.proofs.RootLemmas.{look_at}
use Rattle.h5w_creation_laws.proofs.IndexLemmas.{tree_at}
use Rattle.h5w_creation_laws.proofs.SizeLemmas.{tree_long}
use Rattle.h5w_creation.specs.Made.{CreatedRests, IsNewIndex}

-- ---- The law

tree_stands : (img : List ℕ) (f : CreatedFile) → Holds img (index_blocks Tree f ++ header_block f ∷ root_block f ∷ super_block f ∷ []) → TreeStands (index_place f) no_tree img
tree_stands img f holds =
    tree_begins img (index_place f)
    (ap (λ b. bthd_at b (index_place f)) (look_at img (index_place f) bthd_len (bthd_bytes empty_tree) holds.0 tree_long) ∙ tree_at (index_place f))

module _ (f : CreatedFile) (s : Space) (w : IndexView) (h : IsCreatable f) (sound : IsSound w) (begun : IsBegun (created_moment f) s) where
  abbrev img : List ℕ
  img = image [] (created_writes f)

  begins : (k : IndexKind) → f.index ≡ k → IsNewIndex k (index_place f) (block_place f) w → Begins img f.name (created_moment f) s w
  begins Array e new =
      let made = new.2 in
      subst (λ (x : IndexView). Begins img f.name (created_moment f) s x) (sym new.1)
      (index_begins img f.name (created_moment f) s (an_array new.0) (subst IsSound new.1 sound) made.changed (created_array f new.0 h e made).stands (created_new f h).represents e (sym made.header_at) begun)
  begins Tree e new =
      subst (λ (x : IndexView). Begins img f.name (created_moment f) s x) (sym new)
      (index_begins img f.name (created_moment f) s (a_tree (index_place f) no_tree) (subst IsSound new sound) refl
      (tree_stands img f (subst (λ (k : IndexKind). Holds img (index_blocks k f ++ header_block f ∷ root_block f ∷ super_block f ∷ [])) e (created_new f h).blocks))
      (created_new f h).represents e refl begun)

pub created_rests : CreatedRests
created_rests f s w h sound new begun = begins f s w h sound begun f.index refl new
