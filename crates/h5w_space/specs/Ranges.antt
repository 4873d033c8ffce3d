-- The range of some bytes at a place.
use Rattle.std.specs.Prelude.{ℕ, ◌==◌, List, [], ◌∷◌, if◌then◌else◌}
use Rattle.h5w_model.specs.Numbers.{undefined}
use Rattle.h5w_space.specs.Space.{extent}
use Rattle.h5w_space.specs.declared.Extent.{Extent}

-- the range of so many bytes at a place, if it is one
abbrev pub range_at : ℕ → ℕ → List Extent
range_at place len = if place == undefined then [] else extent place len ∷ []
