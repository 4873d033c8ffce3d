-- The image of a file is valid for the names of all its datasets together, at each position.
use Rattle.std.specs.Prelude.{ℕ, ◌≤◌, List, length, map, take}
use Rattle.h5w_model.specs.Images.{image}
use Rattle.h5w_model.specs.declared.piece.Write.{Write}
use Rattle.h5w_several_laws.specs.Together.{IsAllValid}
use Rattle.h5w_writer.specs.Sessions.{Session}

-- Once so many of these pieces are shown over these bytes, from the first position on, no finding applies to these names.
abbrev pub AreValidFrom : ℕ → List ℕ → List (List ℕ) → List Write → Type 0
AreValidFrom first img names ws = (p : ℕ) → first ≤ p → p ≤ length ws → IsAllValid (image img (take p ws)) names

abbrev pub names_in : List Session → List (List ℕ)
names_in ss = map (λ (s : Session). s.name) ss
