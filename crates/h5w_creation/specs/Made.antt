-- The blocks in place of a new file's index.
use Rattle.std.specs.Prelude.{◌≡◌, ℕ, List, [], ◌∷◌}
use Rattle.h5w_model.specs.Arrays.{eahd_bytes, eaib_bytes}
use Rattle.h5w_model.specs.Trees.{bthd_bytes}
use Rattle.h5w_model.specs.Images.{image}
use Rattle.h5w_model.specs.declared.cell.IndexKind.{IndexKind}
use Rattle.h5w_model.specs.declared.cell.IndexKind.TheVariants.{Array, Tree}
use Rattle.h5w_model.specs.declared.piece.Write.{Write}
use Rattle.h5w_space.specs.Space.{Space}
use Rattle.h5w_cache.specs.Stores.{Store}
use Rattle.h5w_array_laws.specs.ArrayStores.{IsCreated}
use Rattle.h5w_flush_laws.specs.Flushes.{IsBegun}
use Rattle.h5w_bt_index.specs.Index.{no_tree}
use Rattle.h5w_index.specs.Views.{IndexView, IsSound, an_array, a_tree}
use Rattle.h5w_index.specs.Flushes.{Begins}
use Rattle.h5w_creation_laws.specs.CreatedFiles.{CreatedFile, IsCreatable, block_place, created_moment, created_writes, empty_array, empty_index_block, empty_tree, index_place}

-- what writes them: an array's header stands at one place and its index block at the other, a tree's header at the first
abbrev pub index_writes : IndexKind → ℕ → ℕ → List Write
index_writes Array at block = record { at = block; piece = eaib_bytes (empty_index_block at) } ∷ record { at = at; piece = eahd_bytes (empty_array block) } ∷ []
index_writes Tree at block = record { at = at; piece = bthd_bytes empty_tree } ∷ []

-- an index without chunks whose blocks in place stand there
abbrev pub IsNewIndex : IndexKind → ℕ → ℕ → IndexView → Type 0
IsNewIndex Array at block w = (v : Store) × (w ≡ an_array v) × IsCreated at block v
IsNewIndex Tree at block w = w ≡ a_tree at no_tree

-- ---- A law

-- Once all its pieces are shown, a session that has the new index, and whose places begin at the file's end, knows the file by it, and the
-- index rests.
abbrev pub CreatedRests : Type 0
CreatedRests = (f : CreatedFile) (s : Space) (w : IndexView) → IsCreatable f → IsSound w → IsNewIndex f.index (index_place f) (block_place f) w → IsBegun (created_moment f) s
    → Begins (image [] (created_writes f)) f.name (created_moment f) s w
