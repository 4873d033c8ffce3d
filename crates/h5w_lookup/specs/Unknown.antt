-- Which chunks have no known address, by the addresses that are known of the first chunks.
use Rattle.std.specs.Prelude.{ℕ, zero, suc, ◌+◌, List, [], ◌∷◌, ◌++◌, length, take, drop, ◌==◌, if◌then◌else◌}
use Rattle.h5w_model.specs.Numbers.{undefined}
use Rattle.h5w_model.specs.Datasets.{Described}
use Rattle.h5w_model.specs.Tables.{needed}

-- the numbers of the absent ones among these addresses, which begin at chunk i
abbrev pub absent_from : ℕ → List ℕ → List ℕ
absent_from i [] = []
absent_from i (a ∷ table) = if a == undefined then i ∷ absent_from (i + 1) table else absent_from (i + 1) table

-- the number of the chunk without a known address before which n such stand; behind the known addresses are more of them
abbrev pub unknown_at : List ℕ → ℕ → ℕ
unknown_at [] n = n
unknown_at (a ∷ table) zero = if a == undefined then 0 else suc (unknown_at table zero)
unknown_at (a ∷ table) (suc n) = if a == undefined then suc (unknown_at table n) else suc (unknown_at table (suc n))

-- the known addresses with those that were found of the first chunks without one, up to the next without one
abbrev pub with_found : List ℕ → List ℕ → List ℕ
with_found [] found = found
with_found (a ∷ table) [] = if a == undefined then [] else a ∷ with_found table []
with_found (a ∷ table) (f ∷ found) = if a == undefined then f ∷ with_found table found else a ∷ with_found table (f ∷ found)

-- the table with these put in
abbrev pub put_in : List ℕ → List ℕ → List ℕ
put_in known found = with_found known found ++ drop (unknown_at known (length found)) known

-- the needed ones of the known addresses with those that were found
abbrev pub needed_with : List ℕ → Described → List ℕ → List ℕ
needed_with known d found = take (needed d) (with_found known found)
