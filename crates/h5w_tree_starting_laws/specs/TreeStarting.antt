-- A file whose tree is not there yet: the layout names none, so all its chunks are absent. Its first flush makes the tree at new places.
use Rattle.std.specs.Prelude.{◌≡◌, ℕ, ◌+◌, ◌^◌, ◌<◌, false, List, [], ◌∷◌, ◌++◌, Some, ℤ}
use Rattle.h5w_model.specs.Images.{image}
use Rattle.h5w_model.specs.Trees.{bthd_bytes, bthd_len}
use Rattle.h5w_model.specs.Headers.{with_rows_bytes}
use Rattle.h5w_model.specs.Logs.{Log, appended}
use Rattle.h5w_model.specs.Findings.{Used, chunk_bytes}
use Rattle.h5w_model.specs.declared.cell.IndexKind.TheVariants.{Tree as a_tree}
use Rattle.h5w_model.specs.declared.piece.Write.{Write}
use Rattle.h5w_chunks.specs.declared.grid.ChunkPlace.{ChunkPlace}
use Rattle.h5w_step_laws.specs.Files.{chunk_0}
use Rattle.h5w_space.specs.Space.{Space}
use Rattle.h5w_cache.specs.declared.moves.Move.{Move}
use Rattle.h5w_step_laws.specs.Moments.{Moment}
use Rattle.h5w_step_laws.specs.Plans.{Flush}
use Rattle.h5w_step_laws.specs.Logs.{image_now}
use Rattle.h5w_step_laws.specs.Sessions.{Runs}
use Rattle.h5w_flush_laws.specs.Spaces.{Taken}
use Rattle.h5w_flush_laws.specs.Knowledge.{Knows}
use Rattle.h5w_flush_laws.specs.Parts.{IsFlush, Parts, block_writes, flushed_to, pieces_of}
use Rattle.h5w_first_flush_laws.specs.FirstFlushes.{IsFirstOver, RisesTo, UnnamedKnows, no_chunk}
use Rattle.h5w_bt.specs.declared.records.Record.{Record}
use Rattle.h5w_flush_laws.specs.Chunks.{chunks_for}
use Rattle.h5w_bt_index.specs.Marks.{Part, clean_of}
use Rattle.h5w_bt_index.specs.Index.{Index, IsClean, IsFilled, IsIndex, address_of, inserted, no_tree}
use Rattle.h5w_bt_nodes.specs.Blocks.{written}
use Rattle.h5w_bt_index.specs.Plans.{IsTreePlan, header_of, news}
use Rattle.h5w_tree_index_laws.specs.TreeImages.{AreAmong, SameNodes, behind_of, blank}
use Rattle.h5w_tree_index_laws.specs.TreeFlushes.{TreeRests, header_range}

-- What is known of such a file when nothing is pending: it is known as any other.
abbrev pub TreeStartKnows : List ℕ → List ℕ → Moment → Space → Type 0
TreeStartKnows img name m s = UnnamedKnows a_tree img name m s

-- No node of the tree was ever written: none has a place, and none is clean, but for the leaf of a tree without records.
pub record IsUnwritten (v : Index) : Type 0 where
  pub places : SameNodes no_tree v
  pub clean : (p : Part) → IsClean p v → p ≡ blank

-- The parts of a flush whose index is a tree that the header names with it; this is the tree once all is planned, and where its header
-- stands. No block is written again where it stands: none is there yet.
abbrev pub starting_parts : ℕ → ℕ → Index → ℕ → List ℤ → List Write → List Used → List (ℕ × List ℕ) → List Write → ℕ → Parts
starting_parts bytes place w rows more writes chunks copies supers last = record {
  rows = rows;
  more = more;
  writes = writes;
  chunks = chunks;
  copies = copies ++ (place, bthd_bytes (header_of w)) ∷ [];
  supers = supers;
  end = last;
  in_place = [];
  named = Some place;
  address = λ key. address_of w key;
  fixed = header_range place ∷ [];
  behind = behind_of bytes w;
}

-- by the places of the flush's chunks
abbrev pub parts_for : Moment → ℕ → Index → ℕ → List ℤ → List Write → List ChunkPlace → List (ℕ × List ℕ) → List Write → ℕ → Parts
parts_for m place w rows more writes places copies supers last = starting_parts (chunk_bytes m.dataset) place w rows more writes (chunks_for m no_chunk places) copies supers last

-- What a session shows of such a flush, over the places as they were before any were taken for it: `v` is the tree when the chunks of the
-- new rows have their addresses, some of which it got.
pub record IsTreeStart (img : List ℕ) (m : Moment) (base b : Space) (place : ℕ) (v : Index) (ms : List Move) (w : Index) (t : Space) (rows : ℕ) (more : List ℤ) (writes : List Write) (places : List ChunkPlace) (copies : List (ℕ × List ℕ))
    (fixed supers : List Write) : Type 0 where
  pub rising : RisesTo img m (parts_for m place w rows more writes places copies supers t.end) places
  -- the places of the header and of the new chunks
  pub taken : Taken base (header_range place ∷ chunks_for m no_chunk places) b
  pub ends : place + bthd_len < 2 ^ 64
  pub index : IsIndex v
  pub filled : IsFilled v
  pub unwritten : IsUnwritten v
  pub changed : clean_of v.depth v.root ≡ false
  -- its ranges are those of the new chunks, none of them more often
  pub behind : AreAmong (behind_of (chunk_bytes m.dataset) v) (chunks_for m no_chunk places)
  pub plan : IsTreePlan place v b ms (block_writes copies) fixed w t
  pub copied : copies ≡ written v.depth (news ms) v.root

-- ---- Laws

-- A tree without records is unwritten, and so is one with a record more, or with another.
pub record UnwrittenLaws : Type 0 where
  pub none : IsUnwritten no_tree
  pub inserted : (x : Record) (v : Index) → IsIndex v → IsIndex (inserted x v) → IsUnwritten v → IsUnwritten (inserted x v)

-- It is a flush.
abbrev pub TreeStartIsFlush : Type 0
TreeStartIsFlush = (img name : List ℕ) (m : Moment) (base b t : Space) (place : ℕ) (v w : Index) (ms : List Move) (rows : ℕ) (more : List ℤ) (writes : List Write) (places : List ChunkPlace) (copies : List (ℕ × List ℕ))
    (fixed supers : List Write) → TreeStartKnows img name m base → IsTreeStart img m base b place v ms w t rows more writes places copies fixed supers
    → IsFlush img m no_chunk base (parts_for m place w rows more writes places copies supers t.end) t

-- Its pieces are safe steps. Once all are shown, the session knows the file by its tree, which rests, with the places as the flush left
-- them: so each later flush is that of a tree that is there. And chunk 0 of the header is what its piece wrote.
pub record IsTreeStarted (img name : List ℕ) (m : Moment) (before : List Used) (t : Space) (place : ℕ) (w : Index) (f : Parts) : Type 0 where
  pub safe : Flush img m before (pieces_of img m f) (flushed_to m f) f.behind
  pub knows : Knows (image img (pieces_of img m f)) name (flushed_to m f) (λ key. address_of w key) t
  pub held : knows.held ≡ f.behind
  pub rests : TreeRests (image img (pieces_of img m f)) (flushed_to m f) (λ key. address_of w key) t place w
  pub header : chunk_0 (image img (pieces_of img m f)) m.place ≡ with_rows_bytes (chunk_0 img m.place) f.rows (Some place)

abbrev pub TreeStartLeads : Type 0
TreeStartLeads = (img name : List ℕ) (m : Moment) (base b t : Space) (place : ℕ) (v w : Index) (ms : List Move) (rows : ℕ) (more : List ℤ) (writes : List Write) (places : List ChunkPlace) (copies : List (ℕ × List ℕ))
    (fixed supers : List Write) → (k : TreeStartKnows img name m base) → IsTreeStart img m base b place v ms w t rows more writes places copies fixed supers
    → IsTreeStarted img name m k.knows.held t place w (parts_for m place w rows more writes places copies supers t.end)

-- The same over a session's log: a flush is planned of all values that were appended.
abbrev pub TreeStartRuns : Type 0
TreeStartRuns = (name : List ℕ) (log : Log) (m : Moment) (base b t : Space) (place : ℕ) (v w : Index) (ms : List Move) (rows : ℕ) (more : List ℤ) (writes : List Write) (places : List ChunkPlace) (copies : List (ℕ × List ℕ))
    (fixed supers : List Write) → (k : TreeStartKnows (image_now log) name m base) → Runs name log [] m k.knows.held → IsTreeStart (image_now log) m base b place v ms w t rows more writes places copies fixed supers
    → m.values ++ more ≡ appended log → IsFirstOver name log m t (parts_for m place w rows more writes places copies supers t.end)
