-- A walk upward: the list of the blocks that were reached, none of them twice.
use Rattle.std.specs.Prelude.{◌≡◌, ◌<◌, ◌^◌, ℕ, List, [], ◌∷◌, ◌++◌, nat_eq, if◌then◌else◌}
use Rattle.std.specs.List.{All, Contains, IsDistinct, list_any}
use Rattle.h5w_deps.specs.declared.Edge.{Edge}
use Rattle.h5w_deps.specs.Edges.{edge}

-- the list with this block, which is put behind it where it is not there
abbrev pub noted : List ℕ → ℕ → List ℕ
noted blocks block = if list_any (nat_eq block) blocks then blocks else blocks ++ block ∷ []

-- the list grew by each parent of a block, and by nothing else
pub record Follows (edges : List Edge) (block : ℕ) (old new : List ℕ) : Type 0 where
  pub added : List ℕ
  pub grown : new ≡ old ++ added
  pub parents : All (λ p. Contains edges (edge block p)) added
  pub below : All (λ p. p < 2 ^ 32) added
  pub whole : (p : ℕ) → Contains edges (edge block p) → Contains new p
  pub once : IsDistinct nat_eq old → IsDistinct nat_eq new
