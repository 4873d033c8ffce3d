-- A read of rows of two dimensions, band by band, is what the definition gathers and makes values of.
use Rattle.std.proofs.Common.{◌≡◌, ℕ, zero, suc, ◌+◌, ◌-◌, ◌*◌, ◌/◌, ◌%◌, ◌<◌, ◌≤◌, List, [], ◌∷◌, ◌++◌, length, map, take, drop, get_or, Option, None, Result, Ok, inl, inr, refl, sym, ◌∙◌, ap, append_assoc, arith}
use Rattle.std.specs.Prelude.{ℤ, flat_map}
use Rattle.std.specs.List.{range_with_len}
use Rattle.std.proofs.lemmas.List.{append-nil, map-append, length-append, take_at, drop_at, get_or-drop, get_or-take}
use Rattle.std.proofs.lemmas.Bool.{cases_lt}
use Rattle.std.proofs.lemmas.Nat.{le-div, div-add-mod', div-mul-add, mod-mul-add}
use Rattle.h5w_model.specs.Programs.{Prog, ret, and_then}
use Rattle.h5w_model.specs.Datasets.{Described}
use Rattle.h5w_model.specs.Tables.{Reading, each_of, chunks_across}
use Rattle.h5w_model.specs.Calls.{chunk_range, first_in_band, last_in_band, value_from, values_from, values_call}
use Rattle.h5w_model.specs.declared.refusal.ReadError.{ReadError}
use Rattle.h5w_lookup.specs.Looks.{plain}
use Rattle.h5w_reader.specs.Bands.{rows_in_band, end_band}
use Rattle.h5w_reader.specs.Grids.{grid_value, row_values, rows_values, grid_values, chunks_from, grids_from, bands_rest}
use Rattle.h5w_reader.proofs.BandLemmas.{band_begins, band_behind, band_ends, band_next, band_of, range_split, map_alike}
use Rattle.h5w_reader.proofs.ValueLemmas.{key_range, and_then_assoc}

-- a dataset with columns
pub record IsGrid (d : Described) : Type 0 where
  pub cols : 0 < d.shape.cols
  pub chunk_rows : 0 < d.layout.chunk_rows
  pub chunk_cols : 0 < d.layout.chunk_cols

-- the chunks side by side in a band
abbrev side_keys : ℕ → ℕ → ℕ → List (ℕ × ℕ)
side_keys i from n = map (λ j. (i, j)) (range_with_len from n)

-- those of n bands
abbrev grid_keys : ℕ → ℕ → ℕ → List (ℕ × ℕ)
grid_keys across i n = flat_map (λ row. side_keys row 0 across) (range_with_len i n)

-- ---- The ranges of a band

side_each : (r : Reading) (from to i n j : ℕ) (ks : List (ℕ × ℕ)) (os : List (Option (List ℕ))) (f : List (Option (List ℕ)) → Prog (Result (List ℤ) ReadError))
    → and_then (each_of (key_range r from to) (side_keys i j n ++ ks)) (λ rs. f (os ++ rs)) ≡ chunks_from r i from to n j os (λ xs. and_then (each_of (key_range r from to) ks) (λ rs. f (xs ++ rs)))
side_each r from to i zero j ks os f = refl
side_each r from to i (suc n) j ks os f =
    let p = chunk_range r i j from to in
    let rest = each_of (key_range r from to) (side_keys i (j + 1) n ++ ks) in
    and_then_assoc p (λ o. and_then rest (λ xs. ret (Ok (o ∷ xs)))) (λ rs. f (os ++ rs))
    ∙ ap (λ (next : Option (List ℕ) → Prog (Result (List ℤ) ReadError)). and_then p next)
    (λ t o. (and_then_assoc rest (λ xs. ret (Ok (o ∷ xs))) (λ rs. f (os ++ rs))
    ∙ ap (λ (next : List (Option (List ℕ)) → Prog (Result (List ℤ) ReadError)). and_then rest next) (λ u rs. ap f (sym (append_assoc os (o ∷ []) rs)) u)
    ∙ side_each r from to i n (j + 1) ks (os ++ o ∷ []) f) t)

-- what comes next is asked of so many ranges alone
chunks_alike : (r : Reading) (from to i n j m : ℕ) (os : List (Option (List ℕ))) (f g : List (Option (List ℕ)) → Prog (Result (List ℤ) ReadError))
    → ((xs : List (Option (List ℕ))) → length xs ≡ m → f xs ≡ g xs) → length os + n ≡ m → chunks_from r i from to n j os f ≡ chunks_from r i from to n j os g
chunks_alike r from to i zero j m os f g h e = h os (omega arith)
chunks_alike r from to i (suc n) j m os f g h e =
    ap (λ (next : Option (List ℕ) → Prog (Result (List ℤ) ReadError)). and_then (chunk_range r i j from to) next)
    (λ t o. (chunks_alike r from to i n (j + 1) m (os ++ o ∷ []) f g h (ap (λ k. k + n) (length-append os (o ∷ [])) ∙ (omega arith))) t)

-- ---- Band by band

-- the values of n bands from their ranges
abbrev bands_values : Reading → ℕ → ℕ → ℕ → ℕ → List (Option (List ℕ)) → List ℤ
bands_values r from to zero i os = []
bands_values r from to (suc n) i os = grid_values r i from to (take (chunks_across r.dataset) os) ++ bands_values r from to n (i + 1) (drop (chunks_across r.dataset) os)

bands_each : (r : Reading) (from to n i : ℕ) (done : List ℤ) (f : List (Option (List ℕ)) → List ℤ)
    → ((os : List (Option (List ℕ))) → length os ≡ n * chunks_across r.dataset → f os ≡ done ++ bands_values r from to n i os)
    → and_then (each_of (key_range r from to) (grid_keys (chunks_across r.dataset) i n)) (λ os. ret (Ok (f os))) ≡ grids_from r from to n i done
bands_each r from to zero i done f h =
    ap (λ (vs : List ℤ). let p : Prog (Result (List ℤ) ReadError) = ret (Ok vs) in p) (h [] (omega arith) ∙ append-nil done)
bands_each r from to (suc n) i done f h =
    let across = chunks_across r.dataset in
    let rest = each_of (key_range r from to) (grid_keys across (i + 1) n) in
    let count : suc n * across ≡ across + n * across = grind arith in
    side_each r from to i across 0 (grid_keys across (i + 1) n) [] (λ os. ret (Ok (f os)))
    ∙ chunks_alike r from to i across 0 across [] (λ xs. and_then rest (λ rs. ret (Ok (f (xs ++ rs))))) (λ xs. grids_from r from to n (i + 1) (done ++ grid_values r i from to xs))
    (λ xs long.
    bands_each r from to n (i + 1) (done ++ grid_values r i from to xs) (λ rs. f (xs ++ rs))
    (λ rs e.
    h (xs ++ rs) (length-append xs rs ∙ (omega arith))
    ∙ ap (λ ys. done ++ (grid_values r i from to ys ++ bands_values r from to n (i + 1) (drop across (xs ++ rs)))) (take_at xs rs across long)
    ∙ ap (λ ys. done ++ (grid_values r i from to xs ++ bands_values r from to n (i + 1) ys)) (drop_at xs rs across long)
    ∙ sym (append_assoc done (grid_values r i from to xs) (bands_values r from to n (i + 1) rs))))
    (omega arith)

-- ---- The values of all rows

-- the value of a cell from the ranges of the bands from band i on
abbrev cell_by : Reading → ℕ → ℕ → List (Option (List ℕ)) → ℕ → ℕ → ℤ
cell_by r from i os row column =
    value_from r from (get_or os ((row / r.dataset.layout.chunk_rows - i) * chunks_across r.dataset + column / r.dataset.layout.chunk_cols) None) row column

abbrev rows_by : Reading → ℕ → ℕ → List (Option (List ℕ)) → ℕ → ℕ → List ℤ
rows_by r from i os row zero = []
rows_by r from i os row (suc n) = map (cell_by r from i os row) (range_with_len 0 r.dataset.shape.cols) ++ rows_by r from i os (row + 1) n

rows_by_split : (r : Reading) (from i : ℕ) (os : List (Option (List ℕ))) (row m n : ℕ) → rows_by r from i os row (m + n) ≡ rows_by r from i os row m ++ rows_by r from i os (row + m) n
rows_by_split r from i os row zero n = ap (λ k. rows_by r from i os row k) (let e : zero + n ≡ n = omega arith in e) ∙ ap (λ k. rows_by r from i os k n) (let e : row ≡ row + zero = omega arith in e)
rows_by_split r from i os row (suc m) n =
    let cells = map (cell_by r from i os row) (range_with_len 0 r.dataset.shape.cols) in
    ap (λ k. rows_by r from i os row k) (let e : suc m + n ≡ suc (m + n) = omega arith in e)
    ∙ ap (λ (vs : List ℤ). cells ++ vs) (rows_by_split r from i os (row + 1) m n ∙ ap (λ k. rows_by r from i os (row + 1) m ++ rows_by r from i os k n) (let e : row + 1 + m ≡ row + suc m = omega arith in e))
    ∙ sym (append_assoc cells (rows_by r from i os (row + 1) m) (rows_by r from i os (row + suc m) n))

-- a function over a range that begins further on
map_shift : {A : Type 0} (f g : ℕ → A) (a b n : ℕ) → ((k : ℕ) → k < n → f (a + k) ≡ g (b + k)) → map f (range_with_len a n) ≡ map g (range_with_len b n)
map_shift f g a b zero h = refl
map_shift {A} f g a b (suc n) h =
    ap (λ (x : A). x ∷ map f (range_with_len (a + 1) n)) (ap f (let e : a ≡ a + 0 = omega arith in e) ∙ h 0 (omega arith) ∙ ap g (let e : b + 0 ≡ b = omega arith in e))
    ∙ ap (λ (xs : List A). g b ∷ xs) (map_shift f g (a + 1) (b + 1) n
    (λ k less. ap f (let e : a + 1 + k ≡ a + (k + 1) = omega arith in e) ∙ h (k + 1) (omega arith) ∙ ap g (let e : b + (k + 1) ≡ b + 1 + k = omega arith in e)))

abbrev cell_of : Reading → ℕ → ℕ → List (Option (List ℕ)) → ℕ → ℤ
cell_of r from i os k = cell_by r from i os (k / r.dataset.shape.cols) (k % r.dataset.shape.cols)

cells_row : (r : Reading) (from i : ℕ) (os : List (Option (List ℕ))) (row : ℕ)
    → map (cell_of r from i os) (range_with_len (row * r.dataset.shape.cols) r.dataset.shape.cols) ≡ map (cell_by r from i os row) (range_with_len 0 r.dataset.shape.cols)
cells_row r from i os row =
    let cols = r.dataset.shape.cols in
    map_shift (cell_of r from i os) (cell_by r from i os row) (row * cols) 0 cols
    (λ k less.
    ap (λ m. cell_by r from i os m ((row * cols + k) % cols)) (div-mul-add row cols k less)
    ∙ ap (cell_by r from i os row) (mod-mul-add row cols k less ∙ (let e : k ≡ 0 + k = omega arith in e)))

cells_rows : (r : Reading) (from i : ℕ) (os : List (Option (List ℕ))) (row n : ℕ) → map (cell_of r from i os) (range_with_len (row * r.dataset.shape.cols) (n * r.dataset.shape.cols)) ≡ rows_by r from i os row n
cells_rows r from i os row zero = ap (λ k. map (cell_of r from i os) (range_with_len (row * r.dataset.shape.cols) k)) (let e : zero * r.dataset.shape.cols ≡ 0 = omega arith in e)
cells_rows r from i os row (suc n) =
    let cols = r.dataset.shape.cols in
    let more : suc n * cols ≡ cols + n * cols = grind arith in
    let next : row * cols + cols ≡ (row + 1) * cols = grind arith in
    ap (λ k. map (cell_of r from i os) (range_with_len (row * cols) k)) more
    ∙ ap (map (cell_of r from i os)) (range_split (row * cols) cols (n * cols))
    ∙ map-append (cell_of r from i os) (range_with_len (row * cols) cols) (range_with_len (row * cols + cols) (n * cols))
    ∙ ap (λ (vs : List ℤ). vs ++ map (cell_of r from i os) (range_with_len (row * cols + cols) (n * cols))) (cells_row r from i os row)
    ∙ ap (λ k. map (cell_by r from i os row) (range_with_len 0 cols) ++ map (cell_of r from i os) (range_with_len k (n * cols))) next
    ∙ ap (λ (vs : List ℤ). map (cell_by r from i os row) (range_with_len 0 cols) ++ vs) (cells_rows r from i os (row + 1) n)

-- the column of a chunk that is needed
pub column_below : (d : Described) (column : ℕ) → IsGrid d → column < d.shape.cols → column / d.layout.chunk_cols < chunks_across d
column_below d column grid less =
    let wide = d.layout.chunk_cols in
    let some = grid.chunk_cols in
    let whole : column / wide * wide + column % wide ≡ column = div-add-mod' column wide in
    let one : (column / wide + 1) * wide ≡ column / wide * wide + wide = grind arith in
    let up : column / wide + 1 ≤ (d.shape.cols + wide - 1) / wide = le-div (column / wide + 1) (d.shape.cols + wide - 1) wide some (omega arith) in
    omega arith

-- rows of the first band
rows_here : (r : Reading) (from i : ℕ) (os : List (Option (List ℕ))) (row n : ℕ) → IsGrid r.dataset → i * r.dataset.layout.chunk_rows ≤ row → row + n ≤ (i + 1) * r.dataset.layout.chunk_rows
    → rows_by r from i os row n ≡ rows_values r from (take (chunks_across r.dataset) os) row n
rows_here r from i os row zero grid low high = refl
rows_here r from i os row (suc n) grid low high =
    let d = r.dataset in
    let across = chunks_across d in
    let here : row / d.layout.chunk_rows ≡ i = band_of i d.layout.chunk_rows row low (omega arith) in
    ap (λ (vs : List ℤ). vs ++ rows_by r from i os (row + 1) n)
    (map_alike (cell_by r from i os row) (grid_value r from (take across os) row) 0 d.shape.cols
    (λ column above below.
    let place : (row / d.layout.chunk_rows - i) * across + column / d.layout.chunk_cols ≡ column / d.layout.chunk_cols = ap (λ m. m * across + column / d.layout.chunk_cols) (let e : row / d.layout.chunk_rows - i ≡ 0 = omega arith in e) ∙ (omega arith) in
    ap (λ m. value_from r from (get_or os m None) row column) place
    ∙ ap (λ o. value_from r from o row column) (sym (get_or-take across os (column / d.layout.chunk_cols) None (column_below d column grid (omega arith))))))
    ∙ ap (λ (vs : List ℤ). row_values r from (take across os) row 0 d.shape.cols ++ vs) (rows_here r from i os (row + 1) n grid (omega arith) (omega arith))

-- rows behind it
rows_there : (r : Reading) (from i : ℕ) (os : List (Option (List ℕ))) (row n : ℕ) → IsGrid r.dataset → (i + 1) * r.dataset.layout.chunk_rows ≤ row
    → rows_by r from i os row n ≡ rows_by r from (i + 1) (drop (chunks_across r.dataset) os) row n
rows_there r from i os row zero grid low = refl
rows_there r from i os row (suc n) grid low =
    let d = r.dataset in
    let across = chunks_across d in
    let there : i + 1 ≤ row / d.layout.chunk_rows = le-div (i + 1) row d.layout.chunk_rows grid.chunk_rows low in
    ap (λ (vs : List ℤ). vs ++ rows_by r from i os (row + 1) n)
    (map_alike (cell_by r from i os row) (cell_by r from (i + 1) (drop across os) row) 0 d.shape.cols
    (λ column above below.
    let band : row / d.layout.chunk_rows - i ≡ row / d.layout.chunk_rows - (i + 1) + 1 = omega arith in
    let more : (row / d.layout.chunk_rows - (i + 1) + 1) * across ≡ across + (row / d.layout.chunk_rows - (i + 1)) * across = grind arith in
    let place : (row / d.layout.chunk_rows - i) * across + column / d.layout.chunk_cols ≡ across + ((row / d.layout.chunk_rows - (i + 1)) * across + column / d.layout.chunk_cols) =
    ap (λ m. m * across + column / d.layout.chunk_cols) band ∙ ap (λ m. m + column / d.layout.chunk_cols) more ∙ (omega arith) in
    ap (λ m. value_from r from (get_or os m None) row column) place
    ∙ ap (λ o. value_from r from o row column) (sym (get_or-drop across os ((row / d.layout.chunk_rows - (i + 1)) * across + column / d.layout.chunk_cols) None))))
    ∙ ap (λ (vs : List ℤ). map (cell_by r from (i + 1) (drop across os) row) (range_with_len 0 d.shape.cols) ++ vs) (rows_there r from i os (row + 1) n grid (omega arith))

-- all rows from band i on, in order
abbrev rows_left : Reading → ℕ → ℕ → ℕ → List (Option (List ℕ)) → List ℤ
rows_left r from to i os = rows_by r from i os (first_in_band r.dataset i from) (to - first_in_band r.dataset i from)

rows_bands : (r : Reading) (from to n i : ℕ) (os : List (Option (List ℕ))) → IsGrid r.dataset → from < to → from / r.dataset.layout.chunk_rows ≤ i → n ≡ end_band r to - i
    → rows_left r from to i os ≡ bands_values r from to n i os
rows_bands r from to zero i os grid some low e =
    let rows = r.dataset.layout.chunk_rows in
    let behind : to ≤ i * rows = band_behind i rows to grid.chunk_rows (omega arith) in
    ap (λ m. rows_by r from i os (first_in_band r.dataset i from) m) (let z : to - first_in_band r.dataset i from ≡ 0 = omega arith in z)
rows_bands r from to (suc n) i os grid some low e =
    let d = r.dataset in
    let rows = d.layout.chunk_rows in
    let across = chunks_across d in
    let first = first_in_band d i from in
    let last = last_in_band d i to in
    let size : 0 < rows = grid.chunk_rows in
    let high : i ≤ (to - 1) / rows = omega arith in
    let begins : i * rows < to = band_begins i rows to size (omega arith) high in
    let ends : from < (i + 1) * rows = band_ends i rows from size low in
    let next : (i + 1) * rows ≡ i * rows + rows = band_next i rows in
    let count : to - first ≡ rows_in_band r i from to + (to - last) = omega arith in
    let middle : first + rows_in_band r i from to ≡ last = omega arith in
    let behind : rows_by r from i os last (to - last) ≡ rows_left r from to (i + 1) (drop across os) = elim (cases_lt to ((i + 1) * rows)) [
      | inl h ↦
          let none : to - last ≡ 0 = omega arith in
          let gone : to - first_in_band d (i + 1) from ≡ 0 = omega arith in
          ap (λ m. rows_by r from i os last m) none ∙ sym (ap (λ m. rows_by r from (i + 1) (drop across os) (first_in_band d (i + 1) from) m) gone)
      | inr h ↦
          let same : last ≡ first_in_band d (i + 1) from = omega arith in
          rows_there r from i os last (to - last) grid (omega arith) ∙ ap (λ m. rows_by r from (i + 1) (drop across os) m (to - m)) same
    ] in
    ap (λ m. rows_by r from i os first m) count
    ∙ rows_by_split r from i os first (rows_in_band r i from to) (to - last)
    ∙ ap (λ (vs : List ℤ). vs ++ rows_by r from i os (first + rows_in_band r i from to) (to - last)) (rows_here r from i os first (rows_in_band r i from to) grid (omega arith) (omega arith))
    ∙ ap (λ m. grid_values r i from to (take across os) ++ rows_by r from i os m (to - last)) middle
    ∙ ap (λ (vs : List ℤ). grid_values r i from to (take across os) ++ vs) (behind ∙ rows_bands r from to n (i + 1) (drop across os) grid some (omega arith) (omega arith))

-- ---- The call

pub call_grid : (r : Reading) (from count : ℕ) → IsGrid r.dataset → 0 < count → values_call r from count ≡ bands_rest r from (from + count) (from / r.dataset.layout.chunk_rows) []
unfolding bands_rest
call_grid r from count grid some =
    let to = from + count in
    let rows = r.dataset.layout.chunk_rows in
    let i = from / rows in
    let n = end_band r to - i in
    let less : from < to = omega arith in
    let begins : i * rows ≤ from = omega (arith, div-add-mod' from rows) in
    let first : from ≡ first_in_band r.dataset i from = omega arith in
    ap plain (bands_each r from to n i [] (values_from r from to)
    (λ os e. cells_rows r from i os from (to - from) ∙ ap (λ m. rows_by r from i os m (to - m)) first ∙ rows_bands r from to n i os grid less (omega arith) refl))
