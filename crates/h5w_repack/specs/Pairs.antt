-- What contracts see of a source and a new file.
use Rattle.std.specs.Prelude.{◌≡◌, ℕ, List, [], ◌∷◌, option_map}
use Rattle.h5w_model.specs.declared.piece.Write.{Write}
use Rattle.h5w_image.specs.View.{ImageView, Wrote, put}

-- both as images; and the name of the new file, where it is one of a disk
pub record PairView : Type 0 where
  pub from : ImageView
  pub to : ImageView
  pub name : List ℕ

-- A piece was written; where the new file is one of a disk that tells its files, it was put into the file of this name.
pub record PutsOne (name : List ℕ) (w : Write) (u v : ImageView) : Type 0 where
  pub wrote : Wrote (w ∷ []) u v
  pub disk : v.disk ≡ option_map (put name w u.faults) u.disk
