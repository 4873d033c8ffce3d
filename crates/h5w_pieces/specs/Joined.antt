-- All pieces of a first flush in their order, and which of them names the index.
use Rattle.std.specs.Prelude.{◌≡◌, ◌≢◌, ℕ, min, List, [], ◌∷◌, ◌++◌, length, Option, None, Some, IsSome}
use Rattle.h5w_model.specs.Numbers.{undefined}
use Rattle.h5w_model.specs.declared.piece.Write.{Write}

-- an option's element, where there is one
abbrev pub option_list : {A : Type 0} → Option A → List A
option_list None = []
option_list (Some x) = x ∷ []

-- Who names what is made: where the layout names no index, the dataset header names it; else the array's header names the index block, and is
-- the last block in place, which is written when the file has its end.
pub record IsNaming (address at : ℕ) (naming : Option ℕ) : Type 0 where
  pub unnamed : address ≡ undefined → naming ≡ Some at
  pub named : address ≢ undefined → naming ≡ None

-- All pieces of a first flush, the dataset header's last: the blocks in place come before the superblock, but for the last of them where the
-- array's header is there.
pub record AreJoined (naming : Option ℕ) (rows copies fixed supers : List Write) (header : Write) (ws : List Write) : Type 0 where
  pub front : List Write
  pub behind : List Write
  pub cut : front ++ behind ≡ fixed
  pub unnamed : IsSome naming → behind ≡ []
  pub named : naming ≡ None → length behind ≡ min 1 (length fixed)
  pub all : ws ≡ rows ++ (copies ++ (front ++ (supers ++ (behind ++ header ∷ []))))
