-- Chunk addresses that a reader knows: beginning with them finds what beginning with none finds.
use Rattle.std.specs.Prelude.{◌≡◌, ◌≢◌, ◌⊎◌, ℕ, List, [], ◌∷◌, Result, Ok}
use Rattle.h5w_model.specs.Numbers.{undefined}
use Rattle.h5w_model.specs.Programs.{Prog, eval, and_then, Visit, visits}
use Rattle.h5w_model.specs.Datasets.{Described}
use Rattle.h5w_model.specs.Tables.{in_place, address_behind, table_of}
use Rattle.h5w_model.specs.Calls.{table_from}
use Rattle.h5w_model.specs.declared.cell.Key.{Key}
use Rattle.h5w_model.specs.declared.refusal.ReadError.{ReadError}

-- the address of a chunk, from the blocks in place on
abbrev pub address_of : Described → Key → Prog (Result ℕ ReadError)
address_of d k = and_then (in_place d) (λ p. address_behind p k)

-- each address that is known and defined is the one that the image gives
abbrev pub AreKnown : List ℕ → Described → List ℕ → List Key → Type 0
AreKnown img d known [] = Unit {0}
AreKnown img d [] (k ∷ ks) = Unit {0}
AreKnown img d (a ∷ known) (k ∷ ks) = (a ≢ undefined → eval img (address_of d k) ≡ Ok a) × AreKnown img d known ks

-- these visits are some of those, in their order
abbrev pub AreAmong : List Visit → List Visit → Type 0
AreAmong [] ws = Unit {0}
AreAmong (v ∷ vs) [] = ⊥
AreAmong (v ∷ vs) (w ∷ ws) = ((v ≡ w) × AreAmong vs ws) ⊎ AreAmong (v ∷ vs) ws

-- Where what is known is right, the addresses from it on are those of the image, and nothing is looked at that is not
-- looked at without it. From nothing on it is the same program.
pub record KnownAddresses : Type 0 where
  pub gives : (img : List ℕ) (d : Described) (known : List ℕ) (ks : List Key) → AreKnown img d known ks → eval img (table_from known d ks) ≡ eval img (table_of d ks)
  pub looks : (img : List ℕ) (d : Described) (known : List ℕ) (ks : List Key) → AreKnown img d known ks → AreAmong (visits img (table_from known d ks)) (visits img (table_of d ks))
  pub from_nothing : (d : Described) (ks : List Key) → table_from [] d ks ≡ table_of d ks
