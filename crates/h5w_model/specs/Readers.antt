-- A reader over the images of a log: its looks at positions, and when the dataset header is the same.
use Rattle.std.specs.Prelude.{◌≡◌, ℕ, ◌≤◌, List, [], ◌∷◌, length, map}
use Rattle.h5w_model.specs.Numbers.{range}
use Rattle.h5w_model.specs.Programs.{Look, IsLookAt}
use Rattle.h5w_model.specs.Headers.{header_view}
use Rattle.h5w_model.specs.Logs.{Log, hist}
use Rattle.h5w_model.specs.Prefixed.{image_at}

-- a look, and the position of the log at which it was taken
pub record Placed : Type 0 where
  pub position : ℕ
  pub look : Look

-- Looks of a call that begins at a position: their positions never fall, and each gives the bytes of the image there.
abbrev pub IsCall : Log → ℕ → List Placed → Type 0
IsCall log from [] = Unit {0}
IsCall log from (l ∷ ls) =
    (from ≤ l.position) × (l.position ≤ length (hist log.events)) × IsLookAt (image_at log l.position) l.look × IsCall log l.position ls

abbrev pub looks_of : List Placed → List Look
looks_of ls = map (λ l. l.look) ls

-- what counts of a look at the dataset header at a place
abbrev pub header_at : Log → ℕ → ℕ → List ℕ
header_at log place p = header_view (range (image_at log p) place 512)

-- the dataset header is the same at two positions
abbrev pub Quiet : Log → ℕ → ℕ → ℕ → Type 0
Quiet log place p q = header_at log place q ≡ header_at log place p
