-- The plan of a tree's changed nodes as the index's part of a flush.
use Rattle.std.specs.Prelude.{◌≡◌, ◌≢◌, ℕ, ◌*◌, ◌^◌, ◌<◌, true, List, [], ◌∷◌, ◌++◌, length, map, None, Ok, ℤ}
use Rattle.h5w_model.specs.Images.{image}
use Rattle.h5w_model.specs.Numbers.{range, undefined}
use Rattle.h5w_model.specs.Programs.{eval}
use Rattle.h5w_model.specs.Tables.{tree_in_place}
use Rattle.h5w_model.specs.Trees.{bthd_at, bthd_len}
use Rattle.h5w_model.specs.Findings.{Used, chunk_bytes}
use Rattle.h5w_model.specs.Prefixed.{StaysDefined}
use Rattle.h5w_model.specs.declared.cell.Key.{Key}
use Rattle.h5w_model.specs.declared.cell.IndexKind.TheVariants.{Tree as a_tree}
use Rattle.h5w_model.specs.declared.piece.Write.{Write}
use Rattle.h5w_step_laws.specs.Ranges.{Among, AllAmong, block_at}
use Rattle.h5w_step_laws.specs.Needed.{AreFew}
use Rattle.h5w_chunks.specs.declared.grid.ChunkPlace.{ChunkPlace}
use Rattle.h5w_step_laws.specs.Files.{with_rows}
use Rattle.h5w_space.specs.Space.{Space, IsLive}
use Rattle.h5w_cache.specs.declared.moves.Move.{Move}
use Rattle.h5w_step_laws.specs.Moments.{Moment}
use Rattle.h5w_flush_laws.specs.Spaces.{AllLive, LetGo, Taken, extent_of}
use Rattle.h5w_flush_laws.specs.Knowledge.{HeldMissed, IsAsked, Knows}
use Rattle.h5w_flush_laws.specs.Parts.{Parts, AllUnseen, AreEnded, IndexFlushed, IsFlush, block_ranges, block_writes, flushed_to, pieces_of}
use Rattle.h5w_flush_laws.specs.Rows.{ArePlaced}
use Rattle.h5w_flush_laws.specs.Chunks.{AreChunks, chunks_for}
use Rattle.h5w_bt_index.specs.Marks.{clean_of}
use Rattle.h5w_bt_index.specs.Index.{Index, IsIndex, address_of, no_tree}
use Rattle.h5w_bt_nodes.specs.Blocks.{written}
use Rattle.h5w_bt_index.specs.Plans.{IsTreePlan, news}
use Rattle.h5w_tree_index_laws.specs.TreeImages.{AreAmong, StandsTree, behind_of, blocks_in_place, node_range}

-- What a reader finds by the header at its place is this tree, whatever total the header says: no reader looks at that, and the first flush
-- of a change writes the true one. The header of a tree without records names no root, whatever else it says.
pub record HeaderNames (at_place : ℕ) (v : Index) (img : List ℕ) : Type 0 where
  pub total : ℕ
  pub finds : eval img (tree_in_place at_place) ≡ Ok (blocks_in_place total v)

-- The nodes that did not change stand, and where none changed, the header names this tree.
pub record TreeStands (at_place : ℕ) (v : Index) (img : List ℕ) : Type 0 where
  pub nodes : StandsTree v img
  pub header : clean_of v.depth v.root ≡ true → HeaderNames at_place v img

-- the range of the header
abbrev pub header_range : ℕ → Used
header_range place = block_at place bthd_len

-- the parts of a flush whose index is a tree that is named already: this is the tree once all is planned, and where its header stands
abbrev pub tree_parts : ℕ → ℕ → Index → ℕ → List ℤ → List Write → List Used → List (ℕ × List ℕ) → List Write → ℕ → List Write → Parts
tree_parts bytes place w rows more writes chunks copies supers last fixed = record {
  rows = rows;
  more = more;
  writes = writes;
  chunks = chunks;
  copies = copies;
  supers = supers;
  end = last;
  in_place = fixed;
  named = None;
  address = λ key. address_of w key;
  fixed = header_range place ∷ [];
  behind = behind_of bytes w;
}

-- the ranges that nodes get
abbrev pub fresh : List Move → List Used
fresh ms = map (λ (m : Move). node_range m.new) ms

-- What a session shows of its tree: as it is when the chunks of the new rows have their addresses, and the plan of that.
pub record IsTreePart (img : List ℕ) (m : Moment) (place : ℕ) (v : Index) (s : Space) (ms : List Move) (w : Index) (t : Space) (chunks : List Used) (copies : List (ℕ × List ℕ)) (fixed : List Write) : Type 0 where
  pub kind : m.dataset.layout.index ≡ a_tree
  pub at_place : m.dataset.layout.address ≡ place
  pub defined : place ≢ undefined
  pub stay : m.fixed ≡ header_range place ∷ []
  pub index : IsIndex v
  pub stands : TreeStands place v img
  -- what the file uses is live in the places that the plan begins with
  pub live : (u : Used) → Among u (m.fixed ++ m.behind) → IsLive s (extent_of u)
  -- with the new chunks the tree's ranges are those of the file, none of them more often
  pub behind : AreAmong (behind_of (chunk_bytes m.dataset) v) (chunks ++ m.behind)
  pub plan : IsTreePlan place v s ms (block_writes copies) fixed w t
  pub copied : copies ≡ written v.depth (news ms) v.root

-- ---- Laws

-- A tree without records stands where its header says that there is none, as in a file that was just made.
abbrev pub TreeBegins : Type 0
TreeBegins = (img : List ℕ) (place : ℕ) → bthd_at (range img place bthd_len) place ≡ Ok (record { depth = 0; root = undefined; records = 0; total = 0 }) → TreeStands place no_tree img

-- The plan is what a flush asks of the index.
abbrev pub TreeFlushed : Type 0
TreeFlushed = (img name : List ℕ) (m : Moment) (old : Key → ℕ) (s b c t : Space) (place : ℕ) (v w : Index) (ms : List Move) (rows : ℕ) (more : List ℤ) (writes : List Write) (chunks : List Used) (copies : List (ℕ × List ℕ))
    (supers : List Write) (last : ℕ) (fixed : List Write) → Knows img name m old s → Taken s (chunks ++ block_ranges copies) c → last ≡ c.end → AreEnded m.super last supers → AllUnseen m writes → AreChunks chunks
    → ((key : Key) → IsAsked m.dataset key → StaysDefined (old key) (address_of w key)) → IsTreePart img m place v b ms w t chunks copies fixed
    → IndexFlushed img m old (tree_parts (chunk_bytes m.dataset) place w rows more writes chunks copies supers last fixed)

-- The places of a tree's plan: the copies' are taken, and what is let go was behind the header, and is no more.
pub record ArePlaces (m : Moment) (b : Space) (ms : List Move) (w : Index) (t : Space) : Type 0 where
  pub between : Space
  pub taken : Taken b (fresh ms) between
  pub left : List Used
  pub let_go : LetGo between left t
  pub left_before : AllAmong left m.behind
  pub left_after : (u : Used) → Among u left → ¬ Among u (behind_of (chunk_bytes m.dataset) w)

abbrev pub TreePlaces : Type 0
TreePlaces = (img name : List ℕ) (m : Moment) (old : Key → ℕ) (s b t : Space) (place : ℕ) (v w : Index) (ms : List Move) (chunks : List Used) (copies : List (ℕ × List ℕ)) (fixed : List Write)
    → Knows img name m old s → Taken s chunks b → AreChunks chunks → IsTreePart img m place v b ms w t chunks copies fixed → ArePlaces m b ms w t

-- All of a flush whose index is a tree that is named already: from what a session knows, the places of its new chunks, what the writes of
-- the rows do, and the tree's plan.
abbrev pub TreeIsFlush : Type 0
TreeIsFlush = (img name : List ℕ) (m : Moment) (old : Key → ℕ) (s b t : Space) (place : ℕ) (v w : Index) (ms : List Move) (rows : ℕ) (more : List ℤ) (writes : List Write) (places : List ChunkPlace)
    (copies : List (ℕ × List ℕ)) (supers fixed : List Write) → Knows img name m old s → Taken s (chunks_for m old places) b → m.dataset.shape.rows < rows → rows < 2 ^ 64 → AreFew (with_rows rows m.dataset)
    → length (m.values ++ more) ≡ rows * m.dataset.shape.cols → ArePlaced img m old (tree_parts (chunk_bytes m.dataset) place w rows more writes (chunks_for m old places) copies supers t.end fixed) places
    → AreEnded m.super t.end supers → IsTreePart img m place v b ms w t (chunks_for m old places) copies fixed
    → IsFlush img m old s (tree_parts (chunk_bytes m.dataset) place w rows more writes (chunks_for m old places) copies supers t.end fixed) t

-- What a session knows of its tree when nothing is pending: it is clean, and stands in the image; its map is that of the file's index,
-- and its ranges are the file's, and live.
pub record TreeRests (img : List ℕ) (m : Moment) (old : Key → ℕ) (s : Space) (place : ℕ) (v : Index) : Type 0 where
  pub kind : m.dataset.layout.index ≡ a_tree
  pub at_place : m.dataset.layout.address ≡ place
  pub defined : place ≢ undefined
  pub index : IsIndex v
  pub clean : clean_of v.depth v.root ≡ true
  pub stands : TreeStands place v img
  pub live : AllLive s (m.fixed ++ m.behind)
  pub fixed : m.fixed ≡ header_range place ∷ []
  pub behind : m.behind ≡ behind_of (chunk_bytes m.dataset) v
  pub map : (key : Key) → old key ≡ address_of v key

-- So it does again once all pieces of such a flush are shown, with the places as the flush left them: what was let go is not free yet.
abbrev pub TreeRestsThen : Type 0
TreeRestsThen = (img name : List ℕ) (m : Moment) (old : Key → ℕ) (s b t : Space) (place : ℕ) (v w : Index) (ms : List Move) (rows : ℕ) (more : List ℤ) (writes : List Write) (chunks : List Used)
    (copies : List (ℕ × List ℕ)) (supers fixed : List Write) (last : ℕ) → (k : Knows img name m old s) → AreChunks chunks
    → IsFlush img m old s (tree_parts (chunk_bytes m.dataset) place w rows more writes chunks copies supers last fixed) t → HeldMissed k.held writes → IsTreePart img m place v b ms w t chunks copies fixed
    → TreeRests (image img (pieces_of img m (tree_parts (chunk_bytes m.dataset) place w rows more writes chunks copies supers last fixed)))
    (flushed_to m (tree_parts (chunk_bytes m.dataset) place w rows more writes chunks copies supers last fixed)) (λ key. address_of w key) t place w
