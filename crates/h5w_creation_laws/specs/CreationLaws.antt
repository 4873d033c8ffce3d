-- The laws of a created file.
use Rattle.std.specs.Prelude.{◌≡◌, ◌≢◌, ℕ, ◌+◌, ◌≤◌, List, [], ◌∷◌, ◌++◌, length, Some, IfSome, Ok, ℤ}
use Rattle.h5w_model.specs.Images.{image, Holds, AllSized}
use Rattle.h5w_model.specs.Programs.{eval}
use Rattle.h5w_model.specs.Messages.{IntTypeFields, IsIntType}
use Rattle.h5w_model.specs.Integers.{cell_bytes_of, fill_value}
use Rattle.h5w_model.specs.Logs.{Log, shows, hist, shown, appended, flushed_in, and_now}
use Rattle.h5w_model.specs.Findings.{checked_root}
use Rattle.h5w_model.specs.Prefixed.{PrefixedEach, Still}
use Rattle.h5w_model.specs.declared.cell.IndexKind.TheVariants.{Array}
use Rattle.h5w_model.specs.declared.piece.Write.{Write}
use Rattle.h5w_space.specs.Space.{Space}
use Rattle.h5w_cache.specs.Stores.{Store}
use Rattle.h5w_cache.specs.StoreLaws.{Standing}
use Rattle.h5w_step_laws.specs.Files.{LayoutInChunk0}
use Rattle.h5w_step_laws.specs.Spelled.{IsSpellable}
use Rattle.h5w_step_laws.specs.Moments.{Represents}
use Rattle.h5w_step_laws.specs.Logs.{image_now}
use Rattle.h5w_flush_laws.specs.Knowledge.{IsMap, KnownHeld}
use Rattle.h5w_flush_laws.specs.Flushes.{IsBegun, Rests, shown_also}
use Rattle.h5w_array_laws.specs.ArrayStores.{IsCreated}
use Rattle.h5w_array_laws.specs.ArrayImages.{StandsArray, StartsArray, SaysArray}
use Rattle.h5w_creation_laws.specs.CreatedFiles.{CreatedFile, IsCreatable, fill_given, root_len, header_place, header_len, index_place, block_place, end_of, described_of, super_of, super_block, root_block, header_block, created_blocks, created_writes, created_moment, created_log, no_address}

-- ---- Sizes

-- each write ends by a place
abbrev pub WritesEndBy : ℕ → List Write → Type 0
WritesEndBy end [] = Unit {0}
WritesEndBy end (w ∷ ws) = (w.at + length w.piece ≤ end) × WritesEndBy end ws

-- each header has the length that is reckoned with; each block is one piece within the end; and the whole fits the least limit of a file
pub record AreLaidOut (f : CreatedFile) : Type 0 where
  pub spellable : IsSpellable (described_of f)
  pub super : length (super_block f).1 ≡ 48
  pub root : length (root_block f).1 ≡ root_len f
  pub header : length (header_block f).1 ≡ header_len f
  pub sized : AllSized (created_writes f)
  pub within : WritesEndBy (end_of f) (created_writes f)
  pub end : end_of f ≤ 1024

abbrev pub CreatedSizes : Type 0
CreatedSizes = (f : CreatedFile) → IsCreatable f → AreLaidOut f

-- a fill of the type: its bytes have the type's size, and are read as its value
pub record IsFillOf (v : ℤ) (t : IntTypeFields) : Type 0 where
  pub sized : IfSome (fill_given (Some v) t).value (λ bytes. length bytes ≡ t.size)
  pub value : fill_value (fill_given (Some v) t) t ≡ v

abbrev pub FillGiven : Type 0
FillGiven = (v : ℤ) (t : IntTypeFields) (bytes : List ℕ) → IsIntType t → cell_bytes_of v t ≡ Some bytes → IsFillOf v t

-- ---- The file

-- Once all pieces are shown, the image is the blocks up to the end-of-file address, and the file at its first moment: without rows, and
-- with an index in which no chunk has an address.
pub record IsNewFile (f : CreatedFile) (img : List ℕ) : Type 0 where
  pub blocks : Holds img (created_blocks f)
  pub size : length img ≡ end_of f
  pub represents : Represents img f.name (created_moment f)
  pub root : eval img (checked_root f.name (super_of f)) ≡ Ok (header_place f, (created_moment f).root)
  pub map : IsMap img (described_of f) no_address
  pub layout : LayoutInChunk0 img (header_place f)

abbrev pub CreatedStands : Type 0
CreatedStands = (f : CreatedFile) → IsCreatable f → IsNewFile f (image [] (created_writes f))

-- a session whose places begin at its end knows it, and readers hold no more than what it has
abbrev pub CreatedKnown : Type 0
CreatedKnown = (f : CreatedFile) (s : Space) → IsCreatable f → IsBegun (created_moment f) s
    → KnownHeld (image [] (created_writes f)) f.name (created_moment f) no_address s (created_moment f).behind

-- An array's blocks are those of a store that keeps the header and the index block at their places, as they were written.
pub record HasArray (f : CreatedFile) (v : Store) (img : List ℕ) : Type 0 where
  pub stands : StandsArray v img
  pub starts : StartsArray v
  pub says : SaysArray v (described_of f) img

abbrev pub CreatedArray : Type 0
CreatedArray = (f : CreatedFile) (v : Store) → IsCreatable f → f.index ≡ Array → IsCreated (index_place f) (block_place f) v → HasArray f v (image [] (created_writes f))

-- its two blocks are live in places that begin at the file's end, and apart
abbrev pub CreatedPlaces : Type 0
CreatedPlaces = (f : CreatedFile) (v : Store) (s : Space) → IsCreatable f → IsCreated (index_place f) (block_place f) v → IsBegun (created_moment f) s → f.index ≡ Array → Standing v s

-- ---- The log of a session that creates its file

-- these pieces of the creation are shown, and nothing else happened
pub record IsShown (f : CreatedFile) (done : List Write) (log : Log) : Type 0 where
  pub kept : log ≡ record (created_log f) { events = log.events }
  pub pieces : hist log.events ≡ done
  pub count : shown log.events ≡ length done
  pub image : image_now log ≡ image [] done
  pub appended : appended log ≡ []
  pub flushed : (k : ℕ) → flushed_in k [] log.events ≡ []

-- What is shown ends within the file. As long as pieces are pending, no reader finds a file, so that the log owes nothing, whatever happens
-- to what is pending. Once all are shown, the session rests.
pub record CreationLaws : Type 0 where
  pub shown : (f : CreatedFile) (done : List Write) → IsShown f done (shown_also done (created_log f))
  pub more : (f : CreatedFile) (done : List Write) (w : Write) → and_now (shows w) (shown_also done (created_log f)) ≡ shown_also (done ++ w ∷ []) (created_log f)
  pub fits : (f : CreatedFile) (done pending : List Write) → IsCreatable f → done ++ pending ≡ created_writes f → length (image [] done) ≤ end_of f
  pub prefixed : (f : CreatedFile) (done pending : List Write) → done ++ pending ≡ created_writes f → pending ≢ [] → PrefixedEach f.name (shown_also done (created_log f))
  pub still : (f : CreatedFile) (done pending : List Write) → done ++ pending ≡ created_writes f → pending ≢ [] → Still f.name (shown_also done (created_log f))
  pub rests : (f : CreatedFile) (s : Space) → IsCreatable f → IsBegun (created_moment f) s
      → (r : Rests f.name (shown_also (created_writes f) (created_log f)) (created_moment f) no_address s) × (r.knows.held ≡ (created_moment f).behind)
