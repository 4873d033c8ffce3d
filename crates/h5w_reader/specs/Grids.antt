-- What is left of a read of rows of a dataset of two dimensions.
use Rattle.std.specs.Prelude.{◌≡◌, ◌≤◌, ℕ, zero, suc, ◌+◌, ◌-◌, ◌/◌, length, get_or, List, [], ◌∷◌, ◌++◌, map, nat_lt, if◌then◌else◌, Option, Some, None, Result, Ok, Err, ℤ}
use Rattle.std.specs.List.{range_with_len}
use Rattle.h5w_model.specs.Programs.{Prog, ret, and_then}
use Rattle.h5w_model.specs.Datasets.{Described}
use Rattle.h5w_model.specs.Tables.{Reading, chunks_across}
use Rattle.h5w_model.specs.Calls.{chunk_range, first_in_band, touched_from, touched_to, value_from}
use Rattle.h5w_model.specs.declared.refusal.ReadError.{ReadError}
use Rattle.h5w_model.specs.declared.refusal.ReadError.TheVariants.{Damaged}
use Rattle.h5w_model.specs.declared.refusal.BlockFault.TheVariants.{Cut}
use Rattle.h5w_lookup.specs.Looks.{plain}
use Rattle.h5w_reader.specs.Bands.{rows_in_band, end_band}

-- the value of a cell of a band, from the ranges of the band's chunks
abbrev pub grid_value : Reading → ℕ → List (Option (List ℕ)) → ℕ → ℕ → ℤ
grid_value r from os row column = value_from r from (get_or os (column / r.dataset.layout.chunk_cols) None) row column

-- the values of n columns of a row, from one on
abbrev pub row_values : Reading → ℕ → List (Option (List ℕ)) → ℕ → ℕ → ℕ → List ℤ
row_values r from os row column n = map (grid_value r from os row) (range_with_len column n)

-- those of n whole rows
abbrev pub rows_values : Reading → ℕ → List (Option (List ℕ)) → ℕ → ℕ → List ℤ
rows_values r from os row zero = []
rows_values r from os row (suc n) = row_values r from os row 0 r.dataset.shape.cols ++ rows_values r from os (row + 1) n

-- those of a band
abbrev pub grid_values : Reading → ℕ → ℕ → ℕ → List (Option (List ℕ)) → List ℤ
grid_values r i from to os = rows_values r from os (first_in_band r.dataset i from) (rows_in_band r i from to)

-- the ranges of n chunks of a band, from one on, behind those that were found
abbrev pub chunks_from : Reading → ℕ → ℕ → ℕ → ℕ → ℕ → List (Option (List ℕ)) → (List (Option (List ℕ)) → Prog (Result (List ℤ) ReadError)) → Prog (Result (List ℤ) ReadError)
chunks_from r i from to zero j os next = next os
chunks_from r i from to (suc n) j os next = and_then (chunk_range r i j from to) (λ o. chunks_from r i from to n (j + 1) (os ++ o ∷ []) next)

-- n bands from band i on, behind the values of those before
abbrev pub grids_from : Reading → ℕ → ℕ → ℕ → ℕ → List ℤ → Prog (Result (List ℤ) ReadError)
grids_from r from to zero i done = ret (Ok done)
grids_from r from to (suc n) i done = chunks_from r i from to (chunks_across r.dataset) 0 [] (λ os. grids_from r from to n (i + 1) (done ++ grid_values r i from to os))

-- what comes behind the ranges of a band
abbrev pub behind_band : Reading → ℕ → ℕ → ℕ → List ℤ → List (Option (List ℕ)) → Prog (Result (List ℤ) ReadError)
behind_band r from to i done os = grids_from r from to (end_band r to - (i + 1)) (i + 1) (done ++ grid_values r i from to os)

-- from chunk j of band i on, with the ranges of those before
unfoldable pub grid_rest : Reading → ℕ → ℕ → ℕ → ℕ → List ℤ → List (Option (List ℕ)) → Prog (Result (List ℤ) ReadError)
grid_rest r from to i j done os = plain (chunks_from r i from to (chunks_across r.dataset - j) j os (behind_band r from to i done))

-- from a band on
unfoldable pub bands_rest : Reading → ℕ → ℕ → ℕ → List ℤ → Prog (Result (List ℤ) ReadError)
bands_rest r from to i done = plain (grids_from r from to (end_band r to - i) i done)

-- how many bytes of a chunk are asked for
abbrev pub touched_len : Described → ℕ → ℕ → ℕ → ℕ → ℕ
touched_len d i j from to = touched_to d i j to - touched_from d i j from

-- the same, given the bytes of the range of chunk j, which begins at a place
unfoldable pub grid_given : Reading → ℕ → ℕ → ℕ → ℕ → List ℤ → List (Option (List ℕ)) → ℕ → List ℕ → Prog (Result (List ℤ) ReadError)
grid_given r from to i j done os place b =
    let len = touched_len r.dataset i j from to in
    if nat_lt (length b) len then ret (Err (Damaged place (Cut len (length b))))
    else grid_rest r from to i (j + 1) done (os ++ Some b ∷ [])

-- each range has the bytes that are asked for
abbrev pub AreWhole : Described → ℕ → ℕ → ℕ → List (Option (List ℕ)) → Type 0
AreWhole d i from to os = (j : ℕ) (b : List ℕ) → get_or os j None ≡ Some b → touched_len d i j from to ≤ length b
