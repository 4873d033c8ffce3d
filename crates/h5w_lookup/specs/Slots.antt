-- What is left of the addresses of chunks, behind the blocks in place.
use Rattle.std.specs.Prelude.{ℕ, zero, suc, ◌+◌, ◌-◌, ◌/◌, ◌%◌, List, [], ◌∷◌, ◌++◌, length, get_or, ◌==◌, if◌then◌else◌, Result, Ok}
use Rattle.h5w_model.specs.Programs.{Prog, ret, and_then, lowered, Kept}
use Rattle.h5w_model.specs.Numbers.{undefined}
use Rattle.h5w_model.specs.Datasets.{Described}
use Rattle.h5w_model.specs.Tables.{Reading, InPlace, address_behind, keys_across, needed}
use Rattle.h5w_lookup.specs.Unknown.{needed_with}
use Rattle.h5w_model.specs.declared.cell.Key.{Key}
use Rattle.h5w_model.specs.declared.refusal.ReadError.{ReadError}

-- the key of chunk i, where so many keys stand side by side
abbrev pub key_of : ℕ → ℕ → Key
key_of across i = record { i = i / across; j = i % across }

-- the address of chunk i, unless it is known
abbrev pub known_or : InPlace → ℕ → List ℕ → ℕ → Prog (Result ℕ ReadError)
known_or p across known i = if get_or known i undefined == undefined then address_behind p (key_of across i) else ret (Ok (get_or known i undefined))

-- the addresses of n chunks from chunk i on, behind those that were found
abbrev pub slots_from : InPlace → ℕ → List ℕ → ℕ → ℕ → List ℕ → Prog (Result (List ℕ) ReadError)
slots_from p across known zero i done = ret (Ok done)
slots_from p across known (suc n) i done = and_then (known_or p across known i) (λ a. slots_from p across known n (i + 1) (done ++ a ∷ []))

-- a dataset with these addresses
abbrev pub answered : ℕ → Described → List ℕ → Prog (Result Reading ReadError)
answered at d table = ret (Ok (record { place = at; dataset = d; table = table }))

-- the needed addresses from chunk i on, with these blocks kept
unfoldable pub slots_rest : ℕ → List ℕ → Described → InPlace → List Kept → ℕ → List ℕ → Prog (Result Reading ReadError)
slots_rest at known d p ks i done = lowered 16 ks (and_then (slots_from p (keys_across d) known (needed d - i) i done) (answered at d))

-- from chunk i on
abbrev pub slots_left : ℕ → List ℕ → Described → InPlace → ℕ → List ℕ → Prog (Result Reading ReadError)
slots_left at known d p i done = and_then (slots_from p (keys_across d) known (needed d - i) i done) (answered at d)

-- from the chunk on that is the first without a known address, but for those of which one was found
abbrev pub found_left : ℕ → List ℕ → Described → InPlace → List ℕ → Prog (Result Reading ReadError)
found_left at known d p found = slots_left at known d p (length (needed_with known d found)) (needed_with known d found)

-- what comes behind the address of that chunk
abbrev pub after_found : ℕ → List ℕ → Described → InPlace → List ℕ → ℕ → Prog (Result Reading ReadError)
after_found at known d p found a = found_left at known d p (found ++ a ∷ [])
