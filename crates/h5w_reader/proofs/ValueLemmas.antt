-- A read of rows, band by band, is what the definition gathers and makes values of.
use Rattle.std.proofs.Common.{◌≡◌, ℕ, zero, suc, ◌+◌, ◌-◌, ◌*◌, ◌/◌, ◌%◌, ◌<◌, ◌≤◌, List, [], ◌∷◌, ◌++◌, length, map, get_or, Option, None, Result, Ok, Err, inl, inr, refl, sym, ◌∙◌, ap, append_assoc, arith}
use Rattle.std.specs.Prelude.{ℤ, flat_map}
use Rattle.std.specs.List.{range_with_len}
use Rattle.std.proofs.lemmas.List.{append-nil, map-append}
use Rattle.std.proofs.lemmas.Bool.{cases_lt}
use Rattle.std.proofs.lemmas.Nat.{le-div, div-add-mod'}
use Rattle.h5w_model.specs.Programs.{Prog, ret, whole, counted, stored, bind, and_then}
use Rattle.h5w_model.specs.Datasets.{Described}
use Rattle.h5w_model.specs.Tables.{Reading, each_of, chunks_across}
use Rattle.h5w_model.specs.Calls.{chunk_range, first_in_band, last_in_band, touched_keys, value_from, values_from, values_call}
use Rattle.h5w_model.specs.declared.refusal.ReadError.{ReadError}
use Rattle.h5w_lookup.specs.Looks.{plain}
use Rattle.h5w_reader.specs.Values.{rows_in_band, band_values, bands_from, end_band, rows_rest}
use Rattle.h5w_reader.proofs.BandLemmas.{band_begins, band_behind, band_ends, band_next, band_of, range_split, map_alike}

-- a dataset of one column
pub record IsLine (d : Described) : Type 0 where
  pub cols : d.shape.cols ≡ 1
  pub chunk_cols : d.layout.chunk_cols ≡ 1
  pub chunk_rows : 0 < d.layout.chunk_rows

-- ---- Programs one after another

bind_assoc : {A B C : Type 0} (p : Prog A) (f : A → Prog B) (g : B → Prog C) → bind (bind p f) g ≡ bind p (λ a. bind (f a) g)
bind_assoc (ret a) f g = refl
bind_assoc (whole at n next) f g = ap (whole at n) (λ i b. bind_assoc (next b) f g i)
bind_assoc (counted at counts next) f g = ap (counted at counts) (λ i b. bind_assoc (next b) f g i)
bind_assoc (stored kind at n next) f g = ap (stored kind at n) (λ i b. bind_assoc (next b) f g i)

-- what follows an answer
abbrev pub follow : {A B E : Type 0} → (A → Prog (Result B E)) → Result A E → Prog (Result B E)
follow f r = elim r [ Ok a ↦ f a | Err e ↦ ret (Err e) ]

follow_twice : {A B C E : Type 0} (f : A → Prog (Result B E)) (g : B → Prog (Result C E)) (r : Result A E) → bind (follow f r) (follow g) ≡ follow (λ a. and_then (f a) g) r
follow_twice f g (Ok a) = refl
follow_twice f g (Err e) = refl

pub and_then_assoc : {A B C E : Type 0} (p : Prog (Result A E)) (f : A → Prog (Result B E)) (g : B → Prog (Result C E)) → and_then (and_then p f) g ≡ and_then p (λ a. and_then (f a) g)
and_then_assoc {A} {B} {C} {E} p f g = bind_assoc p (follow f) (follow g) ∙ ap (λ (h : Result A E → Prog (Result C E)). bind p h) (λ i r. follow_twice f g r i)

-- ---- The ranges, one after another

-- the bands' chunks
abbrev band_keys : ℕ → ℕ → List (ℕ × ℕ)
band_keys i n = map (λ row. (row, 0)) (range_with_len i n)

-- the values of n bands from their ranges
abbrev values_of : Reading → ℕ → ℕ → ℕ → ℕ → List (Option (List ℕ)) → List ℤ
values_of r from to zero i os = []
values_of r from to (suc n) i [] = []
values_of r from to (suc n) i (o ∷ os) = band_values r i from to o ++ values_of r from to n (i + 1) os

abbrev pub key_range : Reading → ℕ → ℕ → ℕ × ℕ → Prog (Result (Option (List ℕ)) ReadError)
key_range r from to k = chunk_range r k.0 k.1 from to

-- values that are made of all ranges at the end, or band by band
each_values : (r : Reading) (from to n i : ℕ) (done : List ℤ) (f : List (Option (List ℕ)) → List ℤ)
    → ((os : List (Option (List ℕ))) → length os ≡ n → f os ≡ done ++ values_of r from to n i os)
    → and_then (each_of (key_range r from to) (band_keys i n)) (λ os. ret (Ok (f os))) ≡ bands_from r from to n i done
each_values r from to zero i done f h =
    ap (λ (vs : List ℤ). let p : Prog (Result (List ℤ) ReadError) = ret (Ok vs) in p) (h [] refl ∙ append-nil done)
each_values r from to (suc n) i done f h =
    let p = chunk_range r i 0 from to in
    let rest = each_of (key_range r from to) (band_keys (i + 1) n) in
    and_then_assoc p (λ o. and_then rest (λ os. ret (Ok (o ∷ os)))) (λ os. ret (Ok (f os)))
    ∙ ap (λ (next : Option (List ℕ) → Prog (Result (List ℤ) ReadError)). and_then p next)
    (λ t o. (and_then_assoc rest (λ os. ret (Ok (o ∷ os))) (λ os. ret (Ok (f os)))
    ∙ each_values r from to n (i + 1) (done ++ band_values r i from to o) (λ os. f (o ∷ os))
    (λ os e. h (o ∷ os) (ap suc e) ∙ sym (append_assoc done (band_values r i from to o) (values_of r from to n (i + 1) os)))) t)

-- ---- The values of all rows

-- the value of a row from the ranges of the bands from band i on
abbrev by_row : Reading → ℕ → ℕ → List (Option (List ℕ)) → ℕ → ℤ
by_row r from i os row = value_from r from (get_or os (row / r.dataset.layout.chunk_rows - i) None) row 0

-- the rows of bands from band i on, in order
abbrev rows_from : Reading → ℕ → ℕ → ℕ → List ℕ
rows_from r from to i = range_with_len (first_in_band r.dataset i from) (to - first_in_band r.dataset i from)

-- those of the first band, and the others
rows_band : (r : Reading) (from to i : ℕ) → IsLine r.dataset → from < to → from / r.dataset.layout.chunk_rows ≤ i → i ≤ (to - 1) / r.dataset.layout.chunk_rows
    → rows_from r from to i ≡ range_with_len (first_in_band r.dataset i from) (rows_in_band r i from to) ++ rows_from r from to (i + 1)
rows_band r from to i line some low high =
    let rows = r.dataset.layout.chunk_rows in
    let first = first_in_band r.dataset i from in
    let begins : i * rows < to = band_begins i rows to line.chunk_rows (omega arith) high in
    let ends : from < (i + 1) * rows = band_ends i rows from line.chunk_rows low in
    let next : (i + 1) * rows ≡ i * rows + rows = band_next i rows in
    let size : 0 < rows = line.chunk_rows in
    let last = last_in_band r.dataset i to in
    let count : to - first ≡ rows_in_band r i from to + (to - last) = omega arith in
    let middle : first + rows_in_band r i from to ≡ last = omega arith in
    let other : range_with_len last (to - last) ≡ rows_from r from to (i + 1) = elim (cases_lt to ((i + 1) * rows)) [
      | inl h ↦
          let none : to - last ≡ 0 = omega arith in
          let gone : to - first_in_band r.dataset (i + 1) from ≡ 0 = omega arith in
          ap (range_with_len last) none ∙ sym (ap (range_with_len (first_in_band r.dataset (i + 1) from)) gone)
      | inr h ↦
          let same : last ≡ first_in_band r.dataset (i + 1) from = omega arith in
          ap (λ m. range_with_len m (to - m)) same
    ] in
    ap (range_with_len first) count
    ∙ range_split first (rows_in_band r i from to) (to - last)
    ∙ ap (λ m. range_with_len first (rows_in_band r i from to) ++ range_with_len m (to - last)) middle
    ∙ ap (λ (xs : List ℕ). range_with_len first (rows_in_band r i from to) ++ xs) other

rows_values : (r : Reading) (from to n i : ℕ) (os : List (Option (List ℕ))) → IsLine r.dataset → from < to → from / r.dataset.layout.chunk_rows ≤ i → n ≡ end_band r to - i → length os ≡ n
    → map (by_row r from i os) (rows_from r from to i) ≡ values_of r from to n i os
rows_values r from to zero i os line some low e count =
    let rows = r.dataset.layout.chunk_rows in
    let behind : to ≤ i * rows = band_behind i rows to line.chunk_rows (omega arith) in
    let none : to - first_in_band r.dataset i from ≡ 0 = omega arith in
    ap (λ m. map (by_row r from i os) (range_with_len (first_in_band r.dataset i from) m)) none
rows_values r from to (suc n) i [] line some low e count = absurd (omega arith)
rows_values r from to (suc n) i (o ∷ os) line some low e count =
    let rows = r.dataset.layout.chunk_rows in
    let first = first_in_band r.dataset i from in
    let high : i ≤ (to - 1) / rows = omega arith in
    let ends : from < (i + 1) * rows = band_ends i rows from line.chunk_rows low in
    let next : (i + 1) * rows ≡ i * rows + rows = band_next i rows in
    let size : 0 < rows = line.chunk_rows in
    ap (map (by_row r from i (o ∷ os))) (rows_band r from to i line some low high)
    ∙ map-append (by_row r from i (o ∷ os)) (range_with_len first (rows_in_band r i from to)) (rows_from r from to (i + 1))
    ∙ ap (λ (vs : List ℤ). vs ++ map (by_row r from i (o ∷ os)) (rows_from r from to (i + 1)))
    (map_alike (by_row r from i (o ∷ os)) (λ row. value_from r from o row 0) first (rows_in_band r i from to)
    (λ row above below.
    let here : row / rows ≡ i = band_of i rows row (omega arith) (omega arith) in
    let index : row / rows - i ≡ 0 = omega arith in
    ap (λ k. value_from r from (get_or (o ∷ os) k None) row 0) index))
    ∙ ap (λ (vs : List ℤ). band_values r i from to o ++ vs)
    (map_alike (by_row r from i (o ∷ os)) (by_row r from (i + 1) os) (first_in_band r.dataset (i + 1) from) (to - first_in_band r.dataset (i + 1) from)
    (λ row above below.
    let there : i + 1 ≤ row / rows = le-div (i + 1) row rows size (omega arith) in
    let index : row / rows - i ≡ suc (row / rows - (i + 1)) = omega arith in
    ap (λ k. value_from r from (get_or (o ∷ os) k None) row 0) index)
    ∙ rows_values r from to n (i + 1) os line some (omega arith) (omega arith) (omega arith))

-- the same by the definition's places
abbrev values_by : Reading → ℕ → ℕ → List (Option (List ℕ)) → ℕ → ℕ → ℕ → List ℤ
values_by r from to os cols across wide =
    map (λ k. value_from r from (get_or os ((k / cols / r.dataset.layout.chunk_rows - from / r.dataset.layout.chunk_rows) * across + k % cols / wide) None) (k / cols) (k % cols))
    (range_with_len (from * cols) ((to - from) * cols))

pub across_one : (d : Described) → IsLine d → chunks_across d ≡ 1
across_one d line = rw (line.cols, line.chunk_cols) refl

values_line : (r : Reading) (from to : ℕ) (os : List (Option (List ℕ))) → IsLine r.dataset → from < to → length os ≡ end_band r to - from / r.dataset.layout.chunk_rows
    → values_from r from to os ≡ values_of r from to (end_band r to - from / r.dataset.layout.chunk_rows) (from / r.dataset.layout.chunk_rows) os
values_line r from to os line some count =
    let rows = r.dataset.layout.chunk_rows in
    let i = from / rows in
    let begins : i * rows ≤ from = omega (arith, div-add-mod' from rows) in
    let first : from ≡ first_in_band r.dataset i from = omega arith in
    ap (λ m. values_by r from to os m (chunks_across r.dataset) r.dataset.layout.chunk_cols) line.cols
    ∙ ap (λ m. values_by r from to os 1 m r.dataset.layout.chunk_cols) (across_one r.dataset line)
    ∙ ap (λ m. values_by r from to os 1 1 m) line.chunk_cols
    ∙ ap (map (λ k. value_from r from (get_or os ((k / 1 / rows - i) * 1 + k % 1 / 1) None) (k / 1) (k % 1)))
    (ap (λ m. range_with_len m ((to - from) * 1)) (let e : from * 1 ≡ from = omega arith in e) ∙ ap (range_with_len from) (let e : (to - from) * 1 ≡ to - from = omega arith in e))
    ∙ map_alike (λ k. value_from r from (get_or os ((k / 1 / rows - i) * 1 + k % 1 / 1) None) (k / 1) (k % 1)) (by_row r from i os) from (to - from)
    (λ k low high.
    let row : k / 1 ≡ k = omega arith in
    let column : k % 1 ≡ 0 = omega arith in
    let place : (k / rows - i) * 1 + 0 / 1 ≡ k / rows - i = omega arith in
    ap (λ m. value_from r from (get_or os ((m / rows - i) * 1 + k % 1 / 1) None) m (k % 1)) row
    ∙ ap (λ m. value_from r from (get_or os ((k / rows - i) * 1 + m / 1) None) k m) column
    ∙ ap (λ m. value_from r from (get_or os m None) k 0) place)
    ∙ ap (λ m. map (by_row r from i os) (range_with_len m (to - m))) first
    ∙ rows_values r from to (end_band r to - i) i os line some (omega arith) refl count

-- ---- The call

abbrev keys_across : ℕ → List ℕ → List (ℕ × ℕ)
keys_across across rows = flat_map (λ i. map (λ j. (i, j)) (range_with_len 0 across)) rows

keys_line : (rows : List ℕ) → keys_across 1 rows ≡ map (λ row. (row, 0)) rows
keys_line [] = refl
keys_line (i ∷ is) = ap (λ (ks : List (ℕ × ℕ)). (i, 0) ∷ ks) (keys_line is)

pub call_line : (r : Reading) (from count : ℕ) → IsLine r.dataset → 0 < count → values_call r from count ≡ rows_rest r from (from + count) (from / r.dataset.layout.chunk_rows) []
unfolding rows_rest
call_line r from count line some =
    let to = from + count in
    let i = from / r.dataset.layout.chunk_rows in
    let n = end_band r to - i in
    let keys : touched_keys r from to ≡ band_keys i n = ap (λ m. keys_across m (range_with_len i n)) (across_one r.dataset line) ∙ keys_line (range_with_len i n) in
    let less : from < to = omega arith in
    ap (λ (ks : List (ℕ × ℕ)). plain (and_then (each_of (key_range r from to) ks) (λ os. ret (Ok (values_from r from to os))))) keys
    ∙ ap plain (each_values r from to n i [] (values_from r from to) (λ os e. values_line r from to os line less e))

keys_none : (rows : List ℕ) → keys_across 0 rows ≡ []
keys_none [] = refl
keys_none (i ∷ is) = keys_none is

-- without columns there are no values
pub call_none : (r : Reading) (from count : ℕ) → chunks_across r.dataset ≡ 0 → r.dataset.shape.cols ≡ 0 → values_call r from count ≡ ret (Ok [])
call_none r from count none cols =
    let to = from + count in
    let rows = range_with_len (from / r.dataset.layout.chunk_rows) (end_band r to - from / r.dataset.layout.chunk_rows) in
    let keys : touched_keys r from to ≡ [] = ap (λ m. keys_across m rows) none ∙ keys_none rows in
    let zero_cells : (to - from) * r.dataset.shape.cols ≡ 0 = rw cols (omega arith) in
    ap (λ (ks : List (ℕ × ℕ)). plain (and_then (each_of (key_range r from to) ks) (λ os. ret (Ok (values_from r from to os))))) keys
    ∙ ap (λ m. let p : Prog (Result (List ℤ) ReadError) = ret (Ok (map (λ k. value_from r from (get_or [] ((k / r.dataset.shape.cols / r.dataset.layout.chunk_rows - from / r.dataset.layout.chunk_rows) * chunks_across r.dataset + k % r.dataset.shape.cols / r.dataset.layout.chunk_cols) None) (k / r.dataset.shape.cols) (k % r.dataset.shape.cols)) (range_with_len (from * r.dataset.shape.cols) m))) in p) zero_cells
