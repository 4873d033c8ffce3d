-- Bytes without one byte.
use Rattle.std.specs.Prelude.{◌≡◌, ℕ, false, List, [], ◌∷◌, ◌==◌}

-- no byte of the list is this one
abbrev pub Lacks : ℕ → List ℕ → Type 0
Lacks byte [] = Unit {0}
Lacks byte (b ∷ bs) = ((b == byte) ≡ false) × Lacks byte bs
