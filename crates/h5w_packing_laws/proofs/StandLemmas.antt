-- An index that stands in a file, unchanged, is the index of a dataset that names it.
use Rattle.std.proofs.Common.{◌≡◌, ℕ, true, List, [], ◌∷◌, sym, ap, subst}
use Rattle.h5w_model.specs.Datasets.{Described}
use Rattle.h5w_model.specs.Findings.{Used, chunk_bytes}
use Rattle.h5w_model.specs.declared.cell.IndexKind.TheVariants as kinds
use Rattle.h5w_step_laws.specs.Ranges.{AllEndBy}
use Rattle.h5w_step_laws.specs.Indexes.{IsIndex}
use Rattle.h5w_step_laws.proofs.IndexLaws.{index_of_parts}
use Rattle.h5w_cache.specs.Stores.{Store, times}
use Rattle.h5w_flush_laws.specs.Parts.{SaysInPlace}
use Rattle.h5w_array_laws.specs.ArrayStores as arrays
use Rattle.h5w_array_laws.specs.ArrayStores.{IsArray}
use Rattle.h5w_array_laws.specs.ArrayImages.{StandsArray}
use Rattle.h5w_array_laws.proofs.FileLemmas.{standing_index}
use Rattle.h5w_array_laws.proofs.FoundLemmas.{address_found}
use Rattle.h5w_array_laws.proofs.StandLemmas.{standing_says}
use Rattle.h5w_bt_index.specs.Marks.{clean_of}
use Rattle.h5w_bt_index.specs.Index.{Index}
use Rattle.h5w_tree_index_laws.specs.TreeImages as trees
use Rattle.h5w_tree_index_laws.specs.TreeImages.{IsRead, blocks_in_place}
use Rattle.h5w_tree_index_laws.specs.TreeFlushes.{TreeStands, header_range}
use Rattle.h5w_tree_index_laws.proofs.TreeHeaderLemmas.{header_says}
use Rattle.h5w_tree_index_laws.proofs.TreeStandLemmas.{tree_is_read}
use Rattle.h5w_index.specs.Views.{an_array, a_tree, IsSoundTree}
use Rattle.h5w_packing_laws.specs.Standing.{IndexOf, IndexStands}

array_stands : (img : List ℕ) (end : ℕ) (d : Described) (v : Store) → IsArray v → v.changed ≡ [] → StandsArray v img → d.layout.index ≡ kinds.Array → d.layout.address ≡ arrays.header_place v → AllEndBy end (arrays.fixed_of v)
    → AllEndBy end (arrays.behind_of (chunk_bytes d) v) → IndexOf img end d (an_array v)
array_stands img end d v array clean stands kind address ends behind_ends =
    let says = standing_says v img d array clean stands kind address in
    record {
      index = standing_index v img end d array clean stands kind address ends behind_ends;
      map = record {
        blocks = arrays.blocks_in_place v;
        read = says.says;
        answers = λ key named. address_found v img array clean (λ n placed low. stands.there n placed (ap (times n) clean)) key (named kind);
      };
    }

tree_stands : (img : List ℕ) (end : ℕ) (d : Described) (p : ℕ) (v : Index) → IsSoundTree p v → clean_of v.depth v.root ≡ true → TreeStands p v img → d.layout.index ≡ kinds.Tree → d.layout.address ≡ p → AllEndBy end (header_range p ∷ [])
    → AllEndBy end (trees.behind_of (chunk_bytes d) v) → IndexOf img end d (a_tree p v)
tree_stands img end d p v sound clean stands kind address ends behind_ends =
    let names = stands.header clean in
    let bytes : ℕ = chunk_bytes d in
    let says : SaysInPlace img d (blocks_in_place names.total v) (header_range p ∷ []) = header_says v img d p kind address sound.defined names in
    let read : IsRead v img = tree_is_read v img sound.index clean stands.nodes in
    record {
      index =
          subst (λ (us : List Used). IsIndex img end d us (trees.behind_of bytes v)) (sym says.looks)
          (index_of_parts img end d (blocks_in_place names.total v) (trees.behind_of bytes v) says.says (subst (λ (us : List Used). AllEndBy end us) says.looks ends) (read.visited names.total end bytes behind_ends));
      map = record { blocks = blocks_in_place names.total v; read = says.says; answers = λ key named. read.found names.total key };
    }

pub index_stands : IndexStands
index_stands img end d (an_array v) sound clean stands kind address ends behind_ends = array_stands img end d v sound clean stands kind address ends behind_ends
index_stands img end d (a_tree p v) sound clean stands kind address ends behind_ends = tree_stands img end d p v sound clean stands kind address ends behind_ends
