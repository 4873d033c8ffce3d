-- What a session knows of its file when nothing is pending.
use Rattle.std.specs.Prelude.{◌≡◌, ◌≢◌, ℕ, ◌<◌, ◌≤◌, false, List, length, Ok}
use Rattle.h5w_model.specs.Numbers.{undefined}
use Rattle.h5w_model.specs.Images.{AllMiss}
use Rattle.h5w_model.specs.Programs.{eval}
use Rattle.h5w_model.specs.Datasets.{Described}
use Rattle.h5w_model.specs.Tables.{InPlace, in_place, address_behind, keys_across}
use Rattle.h5w_model.specs.Findings.{Used}
use Rattle.h5w_model.specs.declared.cell.Key.{Key}
use Rattle.h5w_model.specs.declared.piece.Write.{Write}
use Rattle.h5w_step_laws.specs.Ranges.{Among, AllAmong, AllSome}
use Rattle.h5w_step_laws.specs.Indexes.{IsNamed}
use Rattle.h5w_space.specs.Space.{Space}
use Rattle.h5w_step_laws.specs.Files.{LayoutInChunk0}
use Rattle.h5w_step_laws.specs.Moments.{Moment, all_used, moved_of, Represents}
use Rattle.h5w_step_laws.specs.Steps.{OffAll, Clear}
use Rattle.h5w_flush_laws.specs.Spaces.{AllLive}

-- a key of a chunk of the dataset, one of the keys that stand side by side
pub record IsAsked (d : Described) (key : Key) : Type 0 where
  pub named : IsNamed d key
  pub across : key.j < keys_across d

-- each key's address behind these blocks in place
abbrev pub AnswersBy : List ℕ → Described → InPlace → (Key → ℕ) → Type 0
AnswersBy img d blocks address = (key : Key) → IsNamed d key → eval img (address_behind blocks key) ≡ Ok (address key)

-- the index of the image is this map from keys to addresses
pub record IsMap (img : List ℕ) (d : Described) (address : Key → ℕ) : Type 0 where
  pub blocks : InPlace
  pub read : eval img (in_place d) ≡ Ok blocks
  pub answers : AnswersBy img d blocks address

-- no two keys have one chunk
abbrev pub IsOnce : Described → (Key → ℕ) → Type 0
IsOnce d address = (k l : Key) → IsAsked d k → IsAsked d l → address k ≢ undefined → address l ≡ address k → l ≡ k

-- What readers may hold of what stood behind the blocks in place since the last header piece: all that stands there, and maybe more;
-- it is off what never moves, meets no chunk, and its places are live.
pub record Holding (m : Moment) (s : Space) (held : List Used) : Type 0 where
  pub reaches : AllAmong m.behind held
  pub off_front : OffAll held (moved_of m)
  pub clear : Clear held m
  pub some : AllSome held
  pub live : AllLive s held

-- writes that meet no block that is held
abbrev pub HeldMissed : List Used → List Write → Type 0
HeldMissed held ws = (u : Used) → Among u held → u.chunk ≡ false → AllMiss ws u.place u.len

-- What a session knows of its file when nothing is pending: the image is the file; the index's map, which the session keeps; its places,
-- which are taken over none of the file's ranges; and what readers may hold, which after a header piece is no more than what the file has.
pub record Knows (img name : List ℕ) (m : Moment) (address : Key → ℕ) (s : Space) : Type 0 where
  pub file : Represents img name m
  pub index : IsMap img m.dataset address
  pub live : AllLive s (all_used m)
  pub ended : m.super.end ≤ s.end
  pub covered : s.end ≤ length img
  pub held : List Used
  pub holding : Holding m s held
  -- an index address that is not there yet can be written with the rows
  pub layout : m.dataset.layout.address ≡ undefined → LayoutInChunk0 img m.place

-- It is known, and these are what readers may hold.
pub record KnownHeld (img name : List ℕ) (m : Moment) (address : Key → ℕ) (s : Space) (held : List Used) : Type 0 where
  pub knows : Knows img name m address s
  pub is : knows.held ≡ held

-- ---- Laws

-- In a file, whose ranges do not meet, no two keys have one chunk, whatever the index and whoever made it.
abbrev pub FileOnce : Type 0
FileOnce = (img name : List ℕ) (m : Moment) (address : Key → ℕ) → Represents img name m → IsMap img m.dataset address → IsOnce m.dataset address
