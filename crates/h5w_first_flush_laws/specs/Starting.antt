-- What a session knows of a file whose array is not there yet: the layout names none, so all its chunks are absent.
use Rattle.std.specs.Prelude.{◌≡◌, ℕ, ◌+◌, ◌^◌, ◌<◌, ◌≤◌, List, [], ◌∷◌}
use Rattle.h5w_model.specs.Numbers.{undefined}
use Rattle.h5w_model.specs.Arrays.{eahd_len, eaib_len}
use Rattle.h5w_model.specs.Images.{apply}
use Rattle.h5w_model.specs.Findings.{Used}
use Rattle.h5w_model.specs.declared.cell.Key.{Key}
use Rattle.h5w_model.specs.declared.cell.IndexKind.TheVariants.{Array}
use Rattle.h5w_model.specs.declared.piece.Write.{Write}
use Rattle.h5w_step_laws.specs.Ranges.{block_at}
use Rattle.h5w_space.specs.Space.{Space, Commits}
use Rattle.h5w_cache.specs.Stores.{Store, place_of}
use Rattle.h5w_cache.specs.StoreLaws.{Standing}
use Rattle.h5w_step_laws.specs.Files.{LayoutInChunk0}
use Rattle.h5w_step_laws.specs.Moments.{Moment, Represents}
use Rattle.h5w_step_laws.specs.Steps.{Ends}
use Rattle.h5w_array_laws.specs.Among.{AreAmong}
use Rattle.h5w_array_laws.specs.ArrayStores.{IsArray, IsCreated, map_of, fixed_of, behind_of}
use Rattle.h5w_flush_laws.specs.Spaces.{Taken}
use Rattle.h5w_flush_laws.specs.Flushes.{IsBegun}
use Rattle.h5w_flush_laws.specs.Knowledge.{Knows}
use Rattle.h5w_first_flush_laws.specs.FirstFlushes.{IsUnnamed, no_chunk}

-- an array without chunks, of whose blocks the header and the index block alone have places
pub record IsBlank (v : Store) : Type 0 where
  pub map : (i : ℕ) → map_of v i ≡ undefined
  pub unplaced : (n : ℕ) → n < 845 → place_of v n ≡ undefined
  pub behind : (bytes : ℕ) → behind_of bytes v ≡ []

-- What is known of such a file when nothing is pending: it is known as any other, and a blank array is kept for it, of which nothing is
-- written. Its places need not be taken yet.
pub record StartKnows (img name : List ℕ) (m : Moment) (s : Space) (v : Store) : Type 0 where
  pub knows : Knows img name m no_chunk s
  pub unnamed : IsUnnamed Array m.dataset
  pub blank : IsBlank v

-- The same where the places of the array's two blocks were taken, over the places `base`; `s` are those of now: the two are live, and meet
-- nothing of the file.
pub record StartRests (img name : List ℕ) (m : Moment) (base s : Space) (v : Store) : Type 0 where
  pub start : StartKnows img name m base v
  pub taken : Taken base (fixed_of v) s
  pub array : IsArray v
  pub standing : Standing v s

-- ---- Laws

-- An array that was just made is blank.
abbrev pub CreatedBlank : Type 0
CreatedBlank = (at place : ℕ) (v : Store) → IsCreated at place v → at < undefined → place < undefined → IsBlank v

-- It is the map of the index that is not there.
abbrev pub BlankMap : Type 0
BlankMap = (v : Store) → IsBlank v → ◌≡◌ {A = Key → ℕ} (λ key. map_of v key.i) no_chunk

-- A session begins with such a file: the places begin at its end, and readers hold no more than what it has.
abbrev pub StartBegins : Type 0
StartBegins = (img name : List ℕ) (m : Moment) (s : Space) (v : Store) → Represents img name m → IsUnnamed Array m.dataset → LayoutInChunk0 img m.place → IsBegun m s → IsBlank v
    → (x : StartKnows img name m s v) × (x.knows.held ≡ m.behind)

-- A file that is known by the map of a blank array is known so.
abbrev pub StartOf : Type 0
StartOf = (img name : List ℕ) (m : Moment) (address : Key → ℕ) (s : Space) (v : Store) → (k : Knows img name m address s) → IsUnnamed Array m.dataset → IsBlank v → ((key : Key) → address key ≡ map_of v key.i)
    → (x : StartKnows img name m s v) × (x.knows.held ≡ k.held)

-- The superblock with other flags leaves that known.
abbrev pub StartEnds : Type 0
StartEnds = (img name : List ℕ) (m n : Moment) (s : Space) (v : Store) (w : Write) → (k : StartKnows img name m s v) → Ends img m w n → n.super.end ≤ s.end → (x : StartKnows (apply w img) name n s v) × (x.knows.held ≡ k.knows.held)

-- So do places where what was let go is free.
abbrev pub StartFreed : Type 0
StartFreed = (img name : List ℕ) (m : Moment) (s t : Space) (v : Store) → (k : StartKnows img name m s v) → Commits s t → (x : StartKnows img name m t v) × (x.knows.held ≡ k.knows.held)

-- A change of a blank array that leaves its map, its places and its ranges leaves it blank, as where blocks are held and then memory runs out.
abbrev pub BlankHeld : Type 0
BlankHeld = (v u : Store) → IsBlank v → ((i : ℕ) → map_of u i ≡ map_of v i) → ((n : ℕ) → place_of u n ≡ place_of v n) → ((bytes : ℕ) → behind_of bytes u ≡ behind_of bytes v) → IsBlank u

-- Two places are taken, and an array is made there.
abbrev pub StartTakes : Type 0
StartTakes = (img name : List ℕ) (m : Moment) (base s : Space) (at place : ℕ) (v u : Store) → (k : StartKnows img name m base v) → Taken base (block_at at eahd_len ∷ block_at place eaib_len ∷ []) s
    → IsCreated at place u → at + eahd_len < 2 ^ 64 → place + eaib_len < 2 ^ 64 → (x : StartRests img name m base s u) × (x.start.knows.held ≡ k.knows.held)

-- Where they were taken before the flush, the superblock with other flags, an array that is held and places that are free leave that known.
pub record RestsStay : Type 0 where
  pub ends : (img name : List ℕ) (m n : Moment) (base s : Space) (v : Store) (w : Write) → (r : StartRests img name m base s v) → Ends img m w n → n.super.end ≤ base.end
      → (x : StartRests (apply w img) name n base s v) × (x.start.knows.held ≡ r.start.knows.held)
  pub held : (img name : List ℕ) (m : Moment) (base s : Space) (v u : Store) → (r : StartRests img name m base s v) → IsArray u → ((i : ℕ) → map_of u i ≡ map_of v i)
      → ((n : ℕ) → place_of u n ≡ place_of v n) → ((bytes : ℕ) → behind_of bytes u ≡ behind_of bytes v) → (Standing v s → Standing u s)
      → (x : StartRests img name m base s u) × (x.start.knows.held ≡ r.start.knows.held)
  pub freed : (img name : List ℕ) (m : Moment) (base s t : Space) (v : Store) → (r : StartRests img name m base s v) → Commits s t → (x : StartRests img name m base t v) × (x.start.knows.held ≡ r.start.knows.held)

-- Places that were taken together are taken in any order.
abbrev pub TakenAgain : Type 0
TakenAgain = (s t : Space) (us vs : List Used) → Taken s us t → AreAmong us vs → AreAmong vs us → Taken s vs t
