-- The plan of an array's blocks as the index's part of a flush.
use Rattle.std.specs.Prelude.{◌≡◌, ℕ, ◌*◌, ◌^◌, ◌<◌, List, [], ◌++◌, length, None, ℤ}
use Rattle.h5w_model.specs.Images.{image}
use Rattle.h5w_model.specs.Findings.{Used, chunk_bytes}
use Rattle.h5w_model.specs.Prefixed.{StaysDefined}
use Rattle.h5w_model.specs.declared.cell.Key.{Key}
use Rattle.h5w_model.specs.declared.cell.IndexKind.TheVariants.{Array}
use Rattle.h5w_model.specs.declared.piece.Write.{Write}
use Rattle.h5w_step_laws.specs.Ranges.{Among, AllAmong}
use Rattle.h5w_step_laws.specs.Needed.{AreFew}
use Rattle.h5w_chunks.specs.declared.grid.ChunkPlace.{ChunkPlace}
use Rattle.h5w_step_laws.specs.Files.{with_rows}
use Rattle.h5w_space.specs.Space.{Space, Commits}
use Rattle.h5w_cache.specs.StoreLaws.{Standing}
use Rattle.h5w_cache.specs.Stores.{Store}
use Rattle.h5w_cache.specs.declared.moves.Move.{Move}
use Rattle.h5w_step_laws.specs.Moments.{Moment}
use Rattle.h5w_array_laws.specs.Among.{AreAmong}
use Rattle.h5w_array_laws.specs.ArrayStores.{IsArray, header_place, map_of, fixed_of, behind_of}
use Rattle.h5w_array_laws.specs.ArrayImages.{StandsArray, IsPlanned}
use Rattle.h5w_array_laws.specs.ArrayPlans.{fresh}
use Rattle.h5w_flush_laws.specs.Spaces.{Taken, LetGo}
use Rattle.h5w_flush_laws.specs.Knowledge.{HeldMissed, IsAsked, Knows}
use Rattle.h5w_flush_laws.specs.Parts.{Parts, AllUnseen, AreEnded, IndexFlushed, IsFlush, flushed_to, pieces_of, block_ranges, block_writes}
use Rattle.h5w_flush_laws.specs.Rows.{ArePlaced}
use Rattle.h5w_flush_laws.specs.Chunks.{AreChunks, chunks_for}

-- the parts of a flush whose index is an array that is named already: this is its store once all is planned
abbrev pub array_parts : ℕ → Store → ℕ → List ℤ → List Write → List Used → List (ℕ × List ℕ) → List Write → ℕ → List Write → Parts
array_parts bytes w rows more writes chunks copies supers last fixed = record {
  rows = rows;
  more = more;
  writes = writes;
  chunks = chunks;
  copies = copies;
  supers = supers;
  end = last;
  in_place = fixed;
  named = None;
  address = λ key. map_of w key.i;
  fixed = fixed_of w;
  behind = behind_of bytes w;
}

-- What a session shows of its array: its store when the chunks of the new rows have their addresses, and the plan of that.
pub record IsArrayPart (img : List ℕ) (m : Moment) (v : Store) (s : Space) (ms : List Move) (w : Store) (t : Space) (chunks : List Used) (copies : List (ℕ × List ℕ)) (fixed : List Write) : Type 0 where
  pub kind : m.dataset.layout.index ≡ Array
  pub at : m.dataset.layout.address ≡ header_place v
  pub stay : m.fixed ≡ fixed_of v
  pub stands : StandsArray v img
  -- with the new chunks the array's ranges are those of the file, none of them more often
  pub behind : AreAmong (behind_of (chunk_bytes m.dataset) v) (chunks ++ m.behind)
  pub plan : IsPlanned v s ms (block_writes copies) fixed w t
  pub copied : fresh ms ≡ block_ranges copies

-- ---- Laws

-- The plan is what a flush asks of the index.
abbrev pub ArrayFlushed : Type 0
ArrayFlushed = (img name : List ℕ) (m : Moment) (old : Key → ℕ) (s b c t : Space) (v w : Store) (ms : List Move) (rows : ℕ) (more : List ℤ) (writes : List Write) (chunks : List Used) (copies : List (ℕ × List ℕ))
    (supers : List Write) (last : ℕ) (fixed : List Write) → Knows img name m old s → Taken s (chunks ++ block_ranges copies) c → last ≡ c.end → AreEnded m.super last supers → AllUnseen m writes → AreChunks chunks
    → ((key : Key) → IsAsked m.dataset key → StaysDefined (old key) (map_of w key.i)) → IsArrayPart img m v b ms w t chunks copies fixed → IndexFlushed img m old (array_parts (chunk_bytes m.dataset) w rows more writes chunks copies supers last fixed)

-- The places of an array's plan: the copies' are taken, and what is let go was behind the blocks in place, and is no more.
pub record ArePlaces (m : Moment) (b : Space) (ms : List Move) (w : Store) (t : Space) : Type 0 where
  pub between : Space
  pub taken : Taken b (fresh ms) between
  pub left : List Used
  pub let_go : LetGo between left t
  pub left_before : AllAmong left m.behind
  pub left_after : (u : Used) → Among u left → ¬ Among u (behind_of (chunk_bytes m.dataset) w)

abbrev pub ArrayPlaces : Type 0
ArrayPlaces = (img : List ℕ) (m : Moment) (b t : Space) (v w : Store) (ms : List Move) (chunks : List Used) (copies : List (ℕ × List ℕ)) (fixed : List Write)
    → AreChunks chunks → IsArrayPart img m v b ms w t chunks copies fixed → ArePlaces m b ms w t

-- All of a flush whose index is an array that is named already: from what a session knows, the places of its new chunks, what the writes of the
-- rows do, and the array's plan.
abbrev pub ArrayIsFlush : Type 0
ArrayIsFlush = (img name : List ℕ) (m : Moment) (old : Key → ℕ) (s b t : Space) (v w : Store) (ms : List Move) (rows : ℕ) (more : List ℤ) (writes : List Write) (places : List ChunkPlace) (copies : List (ℕ × List ℕ))
    (supers fixed : List Write) → Knows img name m old s → Taken s (chunks_for m old places) b → m.dataset.shape.rows < rows → rows < 2 ^ 64 → AreFew (with_rows rows m.dataset)
    → length (m.values ++ more) ≡ rows * m.dataset.shape.cols → ArePlaced img m old (array_parts (chunk_bytes m.dataset) w rows more writes (chunks_for m old places) copies supers t.end fixed) places
    → AreEnded m.super t.end supers → IsArrayPart img m v b ms w t (chunks_for m old places) copies fixed
    → IsFlush img m old s (array_parts (chunk_bytes m.dataset) w rows more writes (chunks_for m old places) copies supers t.end fixed) t

-- What a session knows of its array when nothing is pending: its store is clean, and stands in the image; its map is that of the file's
-- index, and its ranges are the file's.
pub record ArrayRests (img : List ℕ) (m : Moment) (old : Key → ℕ) (s : Space) (v : Store) : Type 0 where
  pub kind : m.dataset.layout.index ≡ Array
  pub at : m.dataset.layout.address ≡ header_place v
  pub array : IsArray v
  pub clean : v.changed ≡ []
  pub stands : StandsArray v img
  pub standing : Standing v s
  pub fixed : m.fixed ≡ fixed_of v
  pub behind : m.behind ≡ behind_of (chunk_bytes m.dataset) v
  pub map : (key : Key) → old key ≡ map_of v key.i

-- So it does again once all pieces of such a flush are shown, with the places as the flush left them: what was let go is not free yet.
abbrev pub ArrayRestsThen : Type 0
ArrayRestsThen = (img name : List ℕ) (m : Moment) (old : Key → ℕ) (s b t : Space) (v w : Store) (ms : List Move) (rows : ℕ) (more : List ℤ) (writes : List Write) (chunks : List Used) (copies : List (ℕ × List ℕ))
    (supers fixed : List Write) (last : ℕ) → (k : Knows img name m old s) → AreChunks chunks
    → IsFlush img m old s (array_parts (chunk_bytes m.dataset) w rows more writes chunks copies supers last fixed) t → HeldMissed k.held writes → IsArrayPart img m v b ms w t chunks copies fixed
    → ArrayRests (image img (pieces_of img m (array_parts (chunk_bytes m.dataset) w rows more writes chunks copies supers last fixed)))
    (flushed_to m (array_parts (chunk_bytes m.dataset) w rows more writes chunks copies supers last fixed)) (λ key. map_of w key.i) t w

-- and where what was let go is free
abbrev pub ArrayRestsAgain : Type 0
ArrayRestsAgain = (img name : List ℕ) (m : Moment) (old : Key → ℕ) (s b t u : Space) (v w : Store) (ms : List Move) (rows : ℕ) (more : List ℤ) (writes : List Write) (chunks : List Used) (copies : List (ℕ × List ℕ))
    (supers fixed : List Write) (last : ℕ) → (k : Knows img name m old s) → AreChunks chunks
    → IsFlush img m old s (array_parts (chunk_bytes m.dataset) w rows more writes chunks copies supers last fixed) t → HeldMissed k.held writes → IsArrayPart img m v b ms w t chunks copies fixed → Commits t u
    → ArrayRests (image img (pieces_of img m (array_parts (chunk_bytes m.dataset) w rows more writes chunks copies supers last fixed)))
    (flushed_to m (array_parts (chunk_bytes m.dataset) w rows more writes chunks copies supers last fixed)) (λ key. map_of w key.i) u w
