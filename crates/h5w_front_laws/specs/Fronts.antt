-- A file that says that it is written, and the pieces that leave it so.
use Rattle.std.specs.Prelude.{◌≡◌, ◌⊎◌, ℕ, ◌/◌, ◌%◌, List, [], ◌∷◌, length, Ok}
use Rattle.h5w_model.specs.Images.{Misses}
use Rattle.h5w_model.specs.Numbers.{range}
use Rattle.h5w_model.specs.Superblock.{super_at}
use Rattle.h5w_model.specs.declared.piece.Write.{Write}
use Rattle.h5w_model.specs.declared.root.Super.{Super}

-- a superblock of version 3 with both flags of a writer: bit 0, open for writing, and bit 2, open for SWMR writing
pub record SaysWritten (root : Super) : Type 0 where
  pub version : root.version ≡ 3
  pub writing : root.flags % 2 ≡ 1
  pub swmr : root.flags / 4 % 2 ≡ 1

-- the file says that it is written
pub record IsLeftOpen (img : List ℕ) : Type 0 where
  pub root : Super
  pub read : super_at (range img 0 48) ≡ Ok root
  pub says : SaysWritten root

-- the piece is a superblock that says so
pub record RewritesFront (w : Write) : Type 0 where
  pub place : w.at ≡ 0
  pub len : length w.piece ≡ 48
  pub root : Super
  pub read : super_at w.piece ≡ Ok root
  pub says : SaysWritten root

-- a piece misses the superblock, or writes one that says so
abbrev pub KeepsFront : Write → Type 0
KeepsFront w = Misses w 0 48 ⊎ RewritesFront w

abbrev pub AllKeepFront : List Write → Type 0
AllKeepFront [] = Unit {0}
AllKeepFront (w ∷ ws) = KeepsFront w × AllKeepFront ws
