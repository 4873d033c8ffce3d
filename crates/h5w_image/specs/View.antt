-- What a thing outside that holds an image, or a disk, tells of itself, and what its calls leave.
use Rattle.std.specs.Prelude.{ℕ, ◌+◌, ◌≤◌, ◌≡◌, Bool, List, [], ◌∷◌, ◌++◌, length, IsTrue, IfSome, IsSome, Option}
use Rattle.std.specs.Option.{option_map, unwrap_or}
use Rattle.std.specs.Ordering.{nat_cmp}
use Rattle.std.specs.Cmp.Lexicographic.{slice_cmp}
use Rattle.std.specs.FinMap as map
use Rattle.h5w_model.specs.Numbers.{range}
use Rattle.h5w_model.specs.Images.{apply, image}
use Rattle.h5w_model.specs.declared.piece.Write.{Write}

-- a finite map from names to byte lists
abbrev pub Files : Type 0
Files = map.FinMap (slice_cmp nat_cmp) (List ℕ)

-- what a disk tells: its files, and of each put that was Ok the count of faults that stood before it, the oldest first
pub record DiskState : Type 0 where
  pub files : Files
  pub puts : List ℕ

-- what contracts see of an image
pub record ImageView : Type 0 where
  -- its bytes, where it tells them
  pub bytes : Option (List ℕ)
  -- the writes that were seen, the oldest first, where it tells them
  pub history : Option (List Write)
  -- the disk of which it is one file, where it is one and tells it
  pub disk : Option DiskState
  -- nobody else writes it
  pub alone : Bool
  -- how often it failed
  pub faults : ℕ
  -- the references that it works through, the outermost first
  pub through : List ℕ
  -- the room that is reserved: so many pieces, which end by this place
  pub pieces : ℕ
  pub end : ℕ

-- the image is as before; it may have failed, and may have more room
pub record Same (v w : ImageView) : Type 0 where
  pub bytes : w.bytes ≡ v.bytes
  pub history : w.history ≡ v.history
  pub disk : w.disk ≡ v.disk
  pub alone : w.alone ≡ v.alone
  pub faults : v.faults ≤ w.faults
  pub through : w.through ≡ v.through
  pub pieces : v.pieces ≤ w.pieces
  pub end : v.end ≤ w.end

-- these writes were added to the history, and the bytes are the image after them; each used the room of one piece
pub record Wrote (ws : List Write) (v w : ImageView) : Type 0 where
  pub bytes : w.bytes ≡ option_map (λ b. image b ws) v.bytes
  pub history : w.history ≡ option_map (λ h. h ++ ws) v.history
  pub alone : w.alone ≡ v.alone
  pub faults : v.faults ≤ w.faults
  pub through : w.through ≡ v.through
  pub pieces : v.pieces ≤ w.pieces + length ws
  pub end : v.end ≤ w.end

-- nothing is new but what others wrote since: the history that was seen only grows
pub record Looked (v w : ImageView) : Type 0 where
  pub grown : (ws : List Write) × (w.bytes ≡ option_map (λ b. image b ws) v.bytes) × (w.history ≡ option_map (λ h. h ++ ws) v.history)
  pub still : IsTrue v.alone → Same v w
  pub alone : w.alone ≡ v.alone
  pub faults : v.faults ≤ w.faults
  pub through : w.through ≡ v.through
  pub pieces : v.pieces ≤ w.pieces
  pub end : v.end ≤ w.end

-- these are the image's bytes from a place on, len of them, fewer only where it ends
abbrev pub GivesRange : ImageView → ℕ → ℕ → List ℕ → Type 0
GivesRange v at len bytes = IfSome v.bytes (λ b. bytes ≡ range b at len)

-- what contracts see of a disk
pub record DiskView : Type 0 where
  pub told : Option DiskState
  -- how often it failed
  pub faults : ℕ
  -- the references that it works through, the outermost first
  pub through : List ℕ
  -- the room that is reserved: so many puts, which end by this place in the file of a name
  pub pieces : ℕ
  pub end : List ℕ → ℕ

-- after a call that used the room of n puts the disk tells this; all else is as before, but for more faults and room
pub record Leaves (n : ℕ) (after : Option DiskState) (v w : DiskView) : Type 0 where
  pub told : w.told ≡ after
  pub faults : v.faults ≤ w.faults
  pub through : w.through ≡ v.through
  pub pieces : v.pieces ≤ w.pieces + n
  pub end : (name : List ℕ) → v.end name ≤ w.end name

-- the bytes of the file of this name, where it is there
abbrev pub file : DiskState → List ℕ → Option (List ℕ)
file d name = map.get d.files name

-- the file is there, where the disk tells its files
abbrev pub IsThere : DiskView → List ℕ → Type 0
IsThere v name = IfSome v.told (λ d. IsSome (file d name))

-- with a file of this name without bytes
abbrev pub made : List ℕ → DiskState → DiskState
made name d = record d { files = map.insert d.files name [] }

-- with the write applied to the file of this name; these faults stood before
abbrev pub put : List ℕ → Write → ℕ → DiskState → DiskState
put name w faults d = record d { files = map.insert d.files name (apply w (unwrap_or (file d name) [])); puts = d.puts ++ faults ∷ [] }

-- these are the file's bytes from a place on, len of them, fewer only where it ends
abbrev pub FileGivesRange : DiskView → List ℕ → ℕ → ℕ → List ℕ → Type 0
FileGivesRange v name at len bytes = IfSome v.told (λ d. bytes ≡ range (unwrap_or (file d name) []) at len)
