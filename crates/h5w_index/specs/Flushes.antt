-- The plan of an index as its part of a flush, whichever its kind.
use Rattle.std.specs.Prelude.{◌≡◌, ℕ, ◌*◌, ◌^◌, ◌<◌, ◌≤◌, false, List, [], ◌++◌, length, None, ℤ}
use Rattle.std.specs.List.{All}
use Rattle.h5w_model.specs.Images.{Misses, apply, image}
use Rattle.h5w_model.specs.Findings.{Used, chunk_bytes}
use Rattle.h5w_model.specs.declared.cell.Key.{Key}
use Rattle.h5w_model.specs.declared.piece.Write.{Write}
use Rattle.h5w_step_laws.specs.Ranges.{AllEndBy, Among}
use Rattle.h5w_step_laws.specs.Needed.{AreFew}
use Rattle.h5w_chunks.specs.declared.grid.ChunkPlace.{ChunkPlace}
use Rattle.h5w_step_laws.specs.Files.{with_rows}
use Rattle.h5w_space.specs.Space.{Space, Commits}
use Rattle.h5w_cache.specs.declared.moves.Move.{Move}
use Rattle.h5w_step_laws.specs.Moments.{Moment, Represents}
use Rattle.h5w_array_laws.specs.Among.{AreAmong}
use Rattle.h5w_array_laws.specs.ArrayPlans as arrays
use Rattle.h5w_flush_laws.specs.Spaces.{Taken}
use Rattle.h5w_flush_laws.specs.Knowledge.{HeldMissed, Knows}
use Rattle.h5w_flush_laws.specs.Flushes.{IsBegun}
use Rattle.h5w_flush_laws.specs.Parts.{Parts, AreEnded, IsFlush, block_ranges, block_writes, flushed_to, pieces_of}
use Rattle.h5w_flush_laws.specs.Rows.{ArePlaced}
use Rattle.h5w_flush_laws.specs.Chunks.{AreChunks, chunks_for}
use Rattle.h5w_bt_nodes.specs.Blocks.{written}
use Rattle.h5w_bt_index.specs.Plans.{news}
use Rattle.h5w_tree_index_laws.specs.TreeImages.{AreSame}
use Rattle.h5w_index.specs.Views.{IndexView, an_array, a_tree, IsClean, IsSound, StandsOn, Stays, address_in, behind_of, fixed_of, header_place, kind_of}
use Rattle.h5w_index.specs.Steps.{IsPlan}
use Rattle.h5w_index.specs.Told.{SameMap}

-- the parts of a flush whose index is named already: this is the index once all is planned
abbrev pub index_parts : ℕ → IndexView → ℕ → List ℤ → List Write → List Used → List (ℕ × List ℕ) → List Write → ℕ → List Write → Parts
index_parts bytes w rows more writes chunks copies supers last fixed = record {
  rows = rows;
  more = more;
  writes = writes;
  chunks = chunks;
  copies = copies;
  supers = supers;
  end = last;
  in_place = fixed;
  named = None;
  address = λ key. address_in w key;
  fixed = fixed_of w;
  behind = behind_of bytes w;
}

-- the copies of a plan as blocks at their places
abbrev pub AreCopies : IndexView → List Move → List (ℕ × List ℕ) → Type 0
AreCopies (an_array v) ms copies = arrays.fresh ms ≡ block_ranges copies
AreCopies (a_tree p v) ms copies = copies ≡ written v.depth (news ms) v.root

-- What a session shows of its index: as it is when the chunks of the new rows have their addresses, and the plan of that.
pub record IsIndexPart (img : List ℕ) (m : Moment) (v : IndexView) (s : Space) (ms : List Move) (w : IndexView) (t : Space) (chunks : List Used) (copies : List (ℕ × List ℕ)) (fixed : List Write) : Type 0 where
  pub kind : m.dataset.layout.index ≡ kind_of v
  pub at_place : m.dataset.layout.address ≡ header_place v
  pub stay : m.fixed ≡ fixed_of v
  pub sound : IsSound v
  pub stands : StandsOn v img
  pub stays : Stays v s
  -- with the new chunks the index's ranges are those of the file, none of them more often
  pub behind : AreAmong (behind_of (chunk_bytes m.dataset) v) (chunks ++ m.behind)
  pub plan : IsPlan v s ms (block_writes copies) fixed w t
  pub copied : AreCopies v ms copies

-- the copies of a plan, as blocks
pub record HasCopies (v : IndexView) (ms : List Move) (copies : List Write) : Type 0 where
  pub placed : List (ℕ × List ℕ)
  pub writes : copies ≡ block_writes placed
  pub are : AreCopies v ms placed

-- a block in place is written whole
pub record IsWhole (us : List Used) (w : Write) : Type 0 where
  pub used : Used
  pub among : Among used us
  pub at_place : w.at ≡ used.place
  pub long : length w.piece ≡ used.len

-- What a plan leaves: the index is sound and clean, where it was, with the map that it had; its copies are blocks that end by the new end
-- of the file, and each write in place is the whole of a block in place.
pub record PlanTold (v : IndexView) (s : Space) (ms : List Move) (copies fixed : List Write) (w : IndexView) (t : Space) : Type 0 where
  pub sound : IsSound w
  pub clean : IsClean w
  pub kind : kind_of w ≡ kind_of v
  pub place : header_place w ≡ header_place v
  pub stay : fixed_of w ≡ fixed_of v
  pub map : SameMap v w
  pub rises : s.end ≤ t.end
  pub limit : t.limit ≡ s.limit
  pub copied : HasCopies v ms copies
  pub ends : AllEndBy t.end (block_ranges copied.placed)
  pub whole : All (IsWhole (fixed_of w)) fixed

-- What a session knows of its index when nothing is pending: it stands in the image, its map is that of the file's index, and its ranges
-- are the file's.
pub record Rests (img : List ℕ) (m : Moment) (old : Key → ℕ) (s : Space) (v : IndexView) : Type 0 where
  pub kind : m.dataset.layout.index ≡ kind_of v
  pub at_place : m.dataset.layout.address ≡ header_place v
  pub sound : IsSound v
  pub stands : StandsOn v img
  pub stays : Stays v s
  pub fixed : m.fixed ≡ fixed_of v
  pub behind : AreSame (behind_of (chunk_bytes m.dataset) v) m.behind
  pub map : (key : Key) → old key ≡ address_in v key

-- ---- Laws

abbrev pub PlanTells : Type 0
PlanTells = (v : IndexView) (s : Space) (ms : List Move) (copies fixed : List Write) (w : IndexView) (t : Space) → IsSound v → IsPlan v s ms copies fixed w t → PlanTold v s ms copies fixed w t

-- All of a flush whose index is named already: from what a session knows, the places of its new chunks, what the writes of the rows do,
-- and the plan of the index.
abbrev pub IndexIsFlush : Type 0
IndexIsFlush = (img name : List ℕ) (m : Moment) (old : Key → ℕ) (s b t : Space) (v w : IndexView) (ms : List Move) (rows : ℕ) (more : List ℤ) (writes : List Write) (places : List ChunkPlace) (copies : List (ℕ × List ℕ))
    (supers fixed : List Write) → Knows img name m old s → Taken s (chunks_for m old places) b → m.dataset.shape.rows < rows → rows < 2 ^ 64 → AreFew (with_rows rows m.dataset)
    → length (m.values ++ more) ≡ rows * m.dataset.shape.cols → ArePlaced img m old (index_parts (chunk_bytes m.dataset) w rows more writes (chunks_for m old places) copies supers t.end fixed) places
    → AreEnded m.super t.end supers → IsIndexPart img m v b ms w t (chunks_for m old places) copies fixed
    → IsFlush img m old s (index_parts (chunk_bytes m.dataset) w rows more writes (chunks_for m old places) copies supers t.end fixed) t

-- it rests, and is clean
pub record RestsClean (img : List ℕ) (m : Moment) (old : Key → ℕ) (s : Space) (v : IndexView) : Type 0 where
  pub rests : Rests img m old s v
  pub clean : IsClean v

-- Once all pieces of such a flush are shown the index rests, with the places as the flush left them: what was let go is not free yet.
abbrev pub IndexRestsThen : Type 0
IndexRestsThen = (img name : List ℕ) (m : Moment) (old : Key → ℕ) (s b t : Space) (v w : IndexView) (ms : List Move) (rows : ℕ) (more : List ℤ) (writes : List Write) (chunks : List Used) (copies : List (ℕ × List ℕ))
    (supers fixed : List Write) (last : ℕ) → (k : Knows img name m old s) → Taken s chunks b → AreChunks chunks
    → IsFlush img m old s (index_parts (chunk_bytes m.dataset) w rows more writes chunks copies supers last fixed) t → HeldMissed k.held writes → IsIndexPart img m v b ms w t chunks copies fixed
    → RestsClean (image img (pieces_of img m (index_parts (chunk_bytes m.dataset) w rows more writes chunks copies supers last fixed)))
    (flushed_to m (index_parts (chunk_bytes m.dataset) w rows more writes chunks copies supers last fixed)) (λ key. address_in w key) t w

-- and where what was let go becomes free
abbrev pub RestsFreed : Type 0
RestsFreed = (img : List ℕ) (m : Moment) (old : Key → ℕ) (s t : Space) (v : IndexView) → Commits s t → Rests img m old s v → Rests img m old t v

-- or where it is forgotten: neither free nor retired
abbrev pub RestsForgotten : Type 0
RestsForgotten = (img : List ℕ) (m : Moment) (old : Key → ℕ) (s : Space) (v : IndexView) → Rests img m old s v → Rests img m old (record s { retired = [] }) v

-- A session knows its file by the index's map, of which readers hold no more than what it has, and the index rests.
pub record Begins (img name : List ℕ) (m : Moment) (s : Space) (v : IndexView) : Type 0 where
  pub knows : Knows img name m (λ key. address_in v key) s
  pub held : knows.held ≡ m.behind
  pub rests : Rests img m (λ key. address_in v key) s v

-- So it is where a session begins with an index that stands, unchanged, at the place that the dataset of a file names, and the places
-- begin at the file's end.
abbrev pub IndexBegins : Type 0
IndexBegins = (img name : List ℕ) (m : Moment) (s : Space) (v : IndexView) → IsSound v → IsClean v → StandsOn v img → Represents img name m → m.dataset.layout.index ≡ kind_of v → m.dataset.layout.address ≡ header_place v
    → IsBegun m s → Begins img name m s v

-- A write that misses the ranges of the index's blocks leaves it, as the superblock's, and as one of a chunk's cells.
abbrev pub RestsMissed : Type 0
RestsMissed = (img name : List ℕ) (m : Moment) (old : Key → ℕ) (s : Space) (v : IndexView) (w : Write) → Knows img name m old s → ((u : Used) → Among u (m.fixed ++ m.behind) → u.chunk ≡ false → Misses w u.place u.len)
    → Rests img m old s v → Rests (apply w img) m old s v
