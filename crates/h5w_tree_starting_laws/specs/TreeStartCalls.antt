-- A first flush by what its calls give: a place is taken for the tree's header, the chunks get their places and the tree names them, and
-- its changed nodes are planned.
use Rattle.std.specs.Prelude.{◌≡◌, ℕ, ◌+◌, ◌^◌, ◌<◌, List, [], ◌∷◌, ◌++◌, length, Some, ℤ}
use Rattle.h5w_model.specs.Trees.{bthd_len}
use Rattle.h5w_model.specs.declared.cell.Key.{Key}
use Rattle.h5w_model.specs.declared.piece.Write.{Write}
use Rattle.h5w_chunks.specs.declared.grid.ChunkPlace.{ChunkPlace}
use Rattle.h5w_step_laws.specs.Files.{commit_at}
use Rattle.h5w_space.specs.Space.{Space}
use Rattle.h5w_cache.specs.declared.moves.Move.{Move}
use Rattle.h5w_step_laws.specs.Moments.{Moment}
use Rattle.h5w_flush_laws.specs.Parts.{block_writes, pieces_of}
use Rattle.h5w_flush_laws.specs.Spaces.{Taken}
use Rattle.h5w_flush_laws.specs.Chunks.{chunks_for}
use Rattle.h5w_first_flush_laws.specs.FirstFlushes.{RisesTo, no_chunk}
use Rattle.h5w_bt_index.specs.Index.{Index, no_tree}
use Rattle.h5w_index.specs.Views.{a_tree}
use Rattle.h5w_index.specs.Steps.{IsPlan}
use Rattle.h5w_index.specs.Naming.{AreNamed}
use Rattle.h5w_tree_index_laws.specs.TreeFlushes.{header_range}
use Rattle.h5w_tree_starting_laws.specs.TreeStarting.{IsTreeStart, parts_for}

-- the calls of such a flush
pub record AreTreeStartCalls (img : List ℕ) (m : Moment) (base b : Space) (place : ℕ) (v : Index) (ms : List Move) (w : Index) (t : Space) (rows : ℕ) (more : List ℤ) (writes : List Write) (places : List ChunkPlace) (added : List Key)
    (cs fixed supers : List Write) : Type 0 where
  pub rising : (copies : List (ℕ × List ℕ)) → RisesTo img m (parts_for m place w rows more writes places copies supers t.end) places
  -- the places of the tree's header and of the new chunks, in whatever order they were taken
  pub taken : Taken base (header_range place ∷ chunks_for m no_chunk places) b
  pub ends : place + bthd_len < 2 ^ 64
  pub some : 0 < length places
  pub named : AreNamed m.dataset rows (a_tree place no_tree) places added (a_tree place v)
  pub plan : IsPlan (a_tree place v) b ms cs fixed (a_tree place w) t

-- They start the tree, and these are the pieces: rows, nodes, the tree's header, superblock, and last the dataset header.
pub record CallsStartTree (img : List ℕ) (m : Moment) (base b : Space) (place : ℕ) (v : Index) (ms : List Move) (w : Index) (t : Space) (rows : ℕ) (more : List ℤ) (writes : List Write) (places : List ChunkPlace)
    (cs fixed supers : List Write) : Type 0 where
  pub copies : List (ℕ × List ℕ)
  pub blocks : cs ≡ block_writes copies
  pub start : IsTreeStart img m base b place v ms w t rows more writes places copies fixed supers
  pub pieces : pieces_of img m (parts_for m place w rows more writes places copies supers t.end) ≡ writes ++ (cs ++ (fixed ++ (supers ++ commit_at img m.place rows (Some place) ∷ [])))

abbrev pub TreeStartCalls : Type 0
TreeStartCalls = (img : List ℕ) (m : Moment) (base b t : Space) (place : ℕ) (v w : Index) (ms : List Move) (rows : ℕ) (more : List ℤ) (writes : List Write) (places : List ChunkPlace) (added : List Key)
    (cs fixed supers : List Write) → AreTreeStartCalls img m base b place v ms w t rows more writes places added cs fixed supers
    → CallsStartTree img m base b place v ms w t rows more writes places cs fixed supers
