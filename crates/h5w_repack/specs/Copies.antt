-- What the copying of a planned file does to a source and a new file.
use Rattle.std.specs.Prelude.{◌≡◌, ℕ, ◌+◌, ◌≤◌, List, [], ◌∷◌, length, map, option_map}
use Rattle.std.specs.List.{All}
use Rattle.h5w_model.specs.declared.piece.Write.{Write}
use Rattle.h5w_image.specs.View.{DiskState, Looked, Wrote, put}
use Rattle.h5w_looks.specs.Still.{IsStill}
use Rattle.h5w_packing.specs.Jobs.{IsJobBehind, place_of, size_of, write_of, writes_of}
use Rattle.h5w_packing.specs.declared.job.Job.{Job}
use Rattle.h5w_packing.specs.declared.job.Job.TheVariants.{Chunk, Block}
use Rattle.h5w_repack.specs.Pairs.{PairView}
use Rattle.h5w_repack.specs.declared.error.CopyError.{CopyError}
use Rattle.h5w_repack.specs.declared.error.CopyError.TheVariants.{From, To, OutOfMemory}

-- the disk after puts into the file of a name, the oldest first: each is a write, with the count of faults that stood before it
abbrev pub put_each : List ℕ → List (Write × ℕ) → DiskState → DiskState
put_each name [] d = d
put_each name (p ∷ ps) d = put_each name ps (put name p.0 p.1 d)

-- These pieces were written to the new file, one after another, and nothing else was done to it, nor to the source.
pub record Carries (ws : List Write) (u v : PairView) : Type 0 where
  pub from : Looked u.from v.from
  pub name : v.name ≡ u.name
  pub wrote : Wrote ws u.to v.to
  pub puts : List (Write × ℕ)
  pub are : map (λ (p : Write × ℕ). p.0) puts ≡ ws
  pub disk : v.to.disk ≡ option_map (put_each u.name puts) u.to.disk

-- none of these is written before the end of the superblock's place
abbrev pub AreBehind : List Write → Type 0
AreBehind ws = All (λ (w : Write). 48 ≤ w.at) ws

-- Some pieces were written, all of them behind the superblock's place.
pub record CarriesSome (u v : PairView) : Type 0 where
  pub writes : List Write
  pub behind : AreBehind writes
  pub carries : Carries writes u v

-- all that a job copies stands in the source
abbrev pub IsInside : List ℕ → Job → Type 0
IsInside img (Chunk from to len) = from + len ≤ length img
IsInside img (Block w) = Unit {0}

-- A job was done: its piece was written. Where the source tells its bytes, nobody else writes it, and all that is copied stands in it, the
-- piece is what the job says.
pub record IsDone (j : Job) (u v : PairView) : Type 0 where
  pub bytes : List ℕ
  pub size : length bytes ≡ size_of j
  pub carries : Carries (record { at = place_of j; piece = bytes } ∷ []) u v
  pub are : (img : List ℕ) → IsStill u.from img → IsInside img j → record { at = place_of j; piece = bytes } ≡ write_of img j

-- Jobs were done, one after another.
pub record AreDone (js : List Job) (u v : PairView) : Type 0 where
  pub writes : List Write
  pub count : length writes ≡ length js
  pub behind : All IsJobBehind js → AreBehind writes
  pub carries : Carries writes u v
  pub are : (img : List ℕ) → IsStill u.from img → All (IsInside img) js → writes ≡ writes_of img js

-- a failed look or write; want of memory is known before the first of them
abbrev pub IsFault : CopyError → Type 0
IsFault From = Unit {0}
IsFault To = Unit {0}
IsFault OutOfMemory = ⊥
