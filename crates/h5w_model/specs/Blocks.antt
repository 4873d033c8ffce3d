-- What the blocks of both indexes have in common: a signature in front, and a sum behind.
use Rattle.std.specs.Prelude.{◌≡◌, ◌⊎◌, ℕ, Bool, List, [], ◌∷◌, length, take, nat_eq, nat_le, Result, Ok, Err}
use Rattle.std.specs.List.{starts_with}
use Rattle.h5w_model.specs.Checksum.{is_sealed, sums_of}
use Rattle.h5w_model.specs.declared.refusal.BlockFault.{BlockFault}
use Rattle.h5w_model.specs.declared.refusal.BlockFault.TheVariants.{Cut, Signature, Sum, OutOfMemory}

-- the tests that come first for a block of this length, in this order; the fields' tests come after them
abbrev pub block_tests : List ℕ → ℕ → List ℕ → List (Bool × BlockFault)
block_tests signature len b =
    (nat_le len (length b), Cut len (length b))
    ∷ (starts_with nat_eq b signature, Signature (take 4 b))
    ∷ (is_sealed (take len b), Sum (sums_of (take len b)))
    ∷ []

-- an answer, with its value as `view` shows it, is what the definition gives, unless memory ran out
abbrev pub Gives : {A B : Type 0} → (A → B) → Result A BlockFault → Result B BlockFault → Type 0
Gives view (Ok x) given = given ≡ Ok (view x)
Gives view (Err fault) given = (fault ≡ OutOfMemory) ⊎ (given ≡ Err fault)
