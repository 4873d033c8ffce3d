-- The first flush of a file whose array is not there yet: the array's blocks are all new, and the header names it.
use Rattle.std.specs.Prelude.{◌≡◌, ◌≢◌, ℕ, ◌<◌, true, List, [], ◌∷◌, ◌++◌, Option, Some, ℤ}
use Rattle.std.specs.List.{All}
use Rattle.h5w_model.specs.Numbers.{undefined}
use Rattle.h5w_model.specs.Images.{image}
use Rattle.h5w_model.specs.Headers.{with_rows_bytes}
use Rattle.h5w_model.specs.Findings.{Used, chunk_bytes}
use Rattle.h5w_model.specs.Logs.{Log, appended}
use Rattle.h5w_model.specs.declared.piece.Write.{Write}
use Rattle.h5w_model.specs.Tables.{format_limits}
use Rattle.h5w_chunks.specs.declared.grid.ChunkPlace.{ChunkPlace}
use Rattle.h5w_step_laws.specs.Files.{chunk_0, commit_at}
use Rattle.h5w_space.specs.Space.{Space, Commits}
use Rattle.h5w_cache.specs.Stores.{Store, place_of, is_changed}
use Rattle.h5w_cache.specs.StoreLaws.{Standing}
use Rattle.h5w_cache.specs.declared.moves.Move.{Move}
use Rattle.h5w_step_laws.specs.Moments.{Moment}
use Rattle.h5w_step_laws.specs.Plans.{Flush}
use Rattle.h5w_step_laws.specs.Logs.{image_now}
use Rattle.h5w_step_laws.specs.Sessions.{Runs}
use Rattle.h5w_array_laws.specs.Among.{AreAmong}
use Rattle.h5w_array_laws.specs.Parts.{index_block, header, holder, number_of}
use Rattle.h5w_array_laws.specs.ArrayStores.{IsArray, place_at_part, bytes_at_part, header_place, map_of, fixed_of, behind_of}
use Rattle.h5w_array_laws.specs.ArrayImages.{IsPlanned}
use Rattle.h5w_array_laws.specs.ArrayPlans.{fresh, IsArrayPlan}
use Rattle.h5w_flush_laws.specs.Spaces.{Taken}
use Rattle.h5w_flush_laws.specs.Parts.{Parts, IsFlush, flushed_to, pieces_of, block_ranges, block_writes}
use Rattle.h5w_flush_laws.specs.Flushes.{Rests, shown_also, flush_planned}
use Rattle.h5w_flush_laws.specs.Chunks.{chunks_for}
use Rattle.h5w_array_flush_laws.specs.ArrayFlushes.{ArrayRests}
use Rattle.h5w_array_flush_laws.specs.ArrayBegins.{Begins}
use Rattle.h5w_first_flush_laws.specs.FirstFlushes.{RisesTo, no_chunk}
use Rattle.h5w_first_flush_laws.specs.Starting.{StartKnows}

-- the array's index block and its header, as blocks at new places
abbrev pub first_blocks : Store → List (ℕ × List ℕ)
first_blocks w = (place_at_part w index_block, bytes_at_part w index_block) ∷ (header_place w, bytes_at_part w header) ∷ []

-- The parts of the first flush of an array that is made with it; this is its store once all is planned. Behind the copies these blocks come at
-- new places; then these are written where they stand, and the header may name the array.
abbrev pub first_parts : ℕ → Store → ℕ → List ℤ → List Write → List Used → List (ℕ × List ℕ) → List (ℕ × List ℕ) → List Write → ℕ → List Write → Option ℕ → Parts
first_parts bytes w rows more writes chunks copies first supers last in_place named = record {
  rows = rows;
  more = more;
  writes = writes;
  chunks = chunks;
  copies = copies ++ first;
  supers = supers;
  end = last;
  in_place = in_place;
  named = named;
  address = λ key. map_of w key.i;
  fixed = fixed_of w;
  behind = behind_of bytes w;
}

-- Those where the header names it. No block is written again where it stands: none is there yet.
abbrev pub starting_parts : ℕ → Store → ℕ → List ℤ → List Write → List Used → List (ℕ × List ℕ) → List Write → ℕ → Parts
starting_parts bytes w rows more writes chunks copies supers last = first_parts bytes w rows more writes chunks copies (first_blocks w) supers last [] (Some (header_place w))

-- What a session shows of its array: `u` is its store at rest, `v` that when the chunks of the new rows have their addresses, and the plan
-- of that. The index block is changed: some chunk got an address.
pub record IsStartingPart (m : Moment) (u v : Store) (s : Space) (ms : List Move) (w : Store) (t : Space) (chunks : List Used) (copies : List (ℕ × List ℕ)) (fixed : List Write) : Type 0 where
  pub places : (n : ℕ) → place_of v n ≡ place_of u n
  pub changed : is_changed v (number_of index_block) ≡ true
  -- with the new chunks its ranges are those that it had, none of them more often
  pub behind : AreAmong (behind_of (chunk_bytes m.dataset) v) (chunks ++ behind_of (chunk_bytes m.dataset) u)
  pub plan : IsPlanned v s ms (block_writes copies) fixed w t
  pub copied : fresh ms ≡ block_ranges copies

-- the parts of a flush that begins with such a file, by the places of its chunks
abbrev pub parts_for : Moment → Store → ℕ → List ℤ → List Write → List ChunkPlace → List (ℕ × List ℕ) → List Write → ℕ → Parts
parts_for m w rows more writes places copies supers last = starting_parts (chunk_bytes m.dataset) w rows more writes (chunks_for m no_chunk places) copies supers last

-- What a session shows of such a flush, over the places as they were before any were taken for it.
pub record IsStart (img : List ℕ) (m : Moment) (base b : Space) (u v : Store) (ms : List Move) (w : Store) (t : Space) (rows : ℕ) (more : List ℤ) (writes : List Write) (places : List ChunkPlace) (copies : List (ℕ × List ℕ))
    (fixed supers : List Write) : Type 0 where
  pub rising : RisesTo img m (parts_for m w rows more writes places copies supers t.end) places
  -- the places of the array's two blocks and of the new chunks, in whatever order they were taken
  pub taken : Taken base (fixed_of u ++ chunks_for m no_chunk places) b
  pub part : IsStartingPart m u v b ms w t (chunks_for m no_chunk places) copies fixed

-- ---- Laws

-- where a block that has a chunk's slot is changed, so is the index block
abbrev pub HolderChanged : Type 0
HolderChanged = (v : Store) (i : ℕ) → IsArray v → i < format_limits.array → is_changed v (number_of (holder i)) ≡ true → is_changed v (number_of index_block) ≡ true

-- where a chunk has an address that it had not, and each chunk that got one has its slot in a changed block, so is the index block
abbrev pub NamedChanged : Type 0
NamedChanged = (u v : Store) (added : List ℕ) (i : ℕ) → IsArray v → All (λ j. (j < format_limits.array) × (is_changed v (number_of (holder j)) ≡ true)) added
    → ((k : ℕ) → All (λ j. j ≢ k) added → map_of v k ≡ map_of u k) → map_of u i ≡ undefined → map_of v i ≢ undefined → is_changed v (number_of index_block) ≡ true

-- What a session shows of its array is what the array's calls give: of a blank store `u`, that when the chunks have their addresses, and its
-- plan, whose copies are blocks.
pub record HasStartingPart (m : Moment) (u v : Store) (s : Space) (ms : List Move) (w : Store) (t : Space) (chunks : List Used) (cs fixed : List Write) : Type 0 where
  pub copies : List (ℕ × List ℕ)
  pub writes : cs ≡ block_writes copies
  pub part : IsStartingPart m u v s ms w t chunks copies fixed

abbrev pub StartPart : Type 0
StartPart = (m : Moment) (u v w : Store) (s t : Space) (ms : List Move) (chunks : List Used) (cs fixed : List Write) → IsArray v → Standing v s → ((n : ℕ) → place_of v n ≡ place_of u n)
    → is_changed v (number_of index_block) ≡ true → AreAmong (behind_of (chunk_bytes m.dataset) v) (chunks ++ behind_of (chunk_bytes m.dataset) u) → IsArrayPlan v s ms cs fixed w t
    → HasStartingPart m u v s ms w t chunks cs fixed

-- The plan of such an array writes its index block and then its header, each one piece, as the parts have them behind the copies.
abbrev pub StartPieces : Type 0
StartPieces = (img : List ℕ) (m : Moment) (s t : Space) (u v w : Store) (ms : List Move) (rows : ℕ) (more : List ℤ) (writes : List Write) (chunks : List Used) (copies : List (ℕ × List ℕ)) (fixed supers : List Write) (last : ℕ)
    → IsStartingPart m u v s ms w t chunks copies fixed
    → pieces_of img m (starting_parts (chunk_bytes m.dataset) w rows more writes chunks copies supers last)
    ≡ writes ++ (block_writes copies ++ (fixed ++ (supers ++ commit_at img m.place rows (Some (header_place w)) ∷ [])))

-- It is a flush.
abbrev pub StartIsFlush : Type 0
StartIsFlush = (img name : List ℕ) (m : Moment) (base b t : Space) (u v w : Store) (ms : List Move) (rows : ℕ) (more : List ℤ) (writes : List Write) (places : List ChunkPlace) (copies : List (ℕ × List ℕ))
    (fixed supers : List Write) → StartKnows img name m base u → IsStart img m base b u v ms w t rows more writes places copies fixed supers
    → IsFlush img m no_chunk base (parts_for m w rows more writes places copies supers t.end) t

-- Its pieces are safe steps. Once all are shown, the session knows the file by its array, which rests, with the places as the flush left
-- them and where what was let go is free: so each later flush is that of an array that is there. And chunk 0 of the header is what its
-- piece wrote.
pub record IsStarted (img name : List ℕ) (m : Moment) (held : List Used) (t : Space) (w : Store) (f : Parts) : Type 0 where
  pub safe : Flush img m held (pieces_of img m f) (flushed_to m f) f.behind
  pub begins : Begins (image img (pieces_of img m f)) name (flushed_to m f) t w
  pub freed : (v : Space) → Commits t v → Begins (image img (pieces_of img m f)) name (flushed_to m f) v w
  pub header : chunk_0 (image img (pieces_of img m f)) m.place ≡ with_rows_bytes (chunk_0 img m.place) f.rows f.named

abbrev pub StartLeads : Type 0
StartLeads = (img name : List ℕ) (m : Moment) (base b t : Space) (u v w : Store) (ms : List Move) (rows : ℕ) (more : List ℤ) (writes : List Write) (places : List ChunkPlace) (copies : List (ℕ × List ℕ))
    (fixed supers : List Write) → (k : StartKnows img name m base u) → IsStart img m base b u v ms w t rows more writes places copies fixed supers
    → IsStarted img name m k.knows.held t w (parts_for m w rows more writes places copies supers t.end)

-- The same over a session's log: a flush is planned of all values that were appended. After any of its pieces the log is that of a run with
-- the others pending (the laws of a session say so); after all of them the session rests, and so does its array.
pub record IsStartedOver (name : List ℕ) (log : Log) (m : Moment) (t : Space) (w : Store) (f : Parts) : Type 0 where
  pub runs : Runs name (flush_planned m f log) (pieces_of (image_now log) m f) (flushed_to m f) f.behind
  pub rests : (v : Space) → Commits t v → Rests name (shown_also (pieces_of (image_now log) m f) (flush_planned m f log)) (flushed_to m f) (λ key. map_of w key.i) v
  pub array : (v : Space) → Commits t v → ArrayRests (image_now (shown_also (pieces_of (image_now log) m f) (flush_planned m f log))) (flushed_to m f) (λ key. map_of w key.i) v w

abbrev pub StartRuns : Type 0
StartRuns = (name : List ℕ) (log : Log) (m : Moment) (base b t : Space) (u v w : Store) (ms : List Move) (rows : ℕ) (more : List ℤ) (writes : List Write) (places : List ChunkPlace) (copies : List (ℕ × List ℕ))
    (fixed supers : List Write) → (k : StartKnows (image_now log) name m base u) → Runs name log [] m k.knows.held → IsStart (image_now log) m base b u v ms w t rows more writes places copies fixed supers
    → m.values ++ more ≡ appended log → IsStartedOver name log m t w (parts_for m w rows more writes places copies supers t.end)
