-- A read of values over looks at one image that may end before some of its chunks do.
use Rattle.std.proofs.Common.{◌≡◌, ◌≢◌, ℕ, zero, suc, ◌+◌, ◌-◌, ◌*◌, ◌/◌, ◌%◌, ◌^◌, ◌<◌, ◌≤◌, min, cond, List, [], ◌∷◌, ◌++◌, length, take, drop, map, Option, Some, None, Result, Ok, Err, refl, sym, ◌∙◌, ap, subst, inl, inr, arith}
use Rattle.std.specs.Prelude.{◌==◌, ℤ, pos, nat_lt, slice_get}
use Rattle.std.specs.List.{AllByRecursion, range_with_len}
use Rattle.std.proofs.lemmas.Bool.{cond-true, cond-false, cases_Bool, cases_lt, eqb-false, eq-eqb, ne_eqb, lt-ltb}
use Rattle.std.proofs.lemmas.List.{get_or-drop, length-take-le, length-drop}
use Rattle.std.proofs.lemmas.List.FromFn.{length-map-range_with_len, get_or-map-range_with_len}
use Rattle.std.proofs.lemmas.Nat.{div-mul-add, mod-mul-add, div-add-mod'}
use Rattle.std.proofs.lemmas.Option.{slice_get-get_or}
use Rattle.std.proofs.Math.Nat.{mod-lt, div-lt_iff_lt-mul}
use Rattle.h5w_model.specs.Numbers.{range, undefined}
use Rattle.h5w_model.specs.Integers.{value_at, fill_value}
use Rattle.h5w_model.specs.Programs.{Prog, ret, whole, counted, eval, and_then}
use Rattle.h5w_model.specs.Datasets.{Described, then_also}
use Rattle.h5w_model.specs.Tables.{Reading, Shows, format_limits, cell, cell_offset, chunk_address, chunks_across, value_in, each_of}
use Rattle.h5w_model.specs.Calls.{none_of, last_in_band, last_column, chunk_range, touched_keys, values_from, values_call}
use Rattle.h5w_model.specs.declared.refusal.ReadError.{ReadError}
use Rattle.h5w_model.specs.declared.refusal.ReadError.TheVariants.{Damaged}
use Rattle.h5w_model.specs.declared.refusal.BlockFault.TheVariants.{Cut}
use Rattle.h5w_laws.proofs.ProgramLemmas.{eval_and_then}
use Rattle.h5w_laws.proofs.LoweringLemmas.{length_range, lowered_still}
use Rattle.h5w_reader_laws.specs.Partly.{AreCells, IsInside, PartlyReads, address_at, cut_range, touched_len, touched_place}
use Rattle.h5w_reader_laws.proofs.KeyLemmas.{Sound, sound_shown, grid_get}
use Rattle.h5w_reader_laws.proofs.MomentLemmas.{steps, get_take}
use Rattle.h5w_reader_laws.proofs.ChunkLemmas.{IsTouched, band_of, corners, cell_in_range}
use Rattle.h5w_reader_laws.proofs.CellLemmas.{below_product}
use Rattle.h5w_reader_laws.proofs.RangeLemmas.{some_size, same_address, keys_touched, touched_by}
use Rattle.h5w_reader_laws.proofs.StillLemmas.{still_takes}
use Rattle.h5w_reader_laws.proofs.EndLemmas.{plain_values}
use Rattle.h5w_reader_laws.proofs.StillReads.{AskedStill, HasCells, chunk_here, values_inside}

-- ---- The values of the cells

-- the value of the cell at a number, counted row by row; 0 if its bytes are not all inside the image
abbrev value_of : List ℕ → Reading → ℕ → ℤ
value_of img r k = elim (cell img r (k / r.dataset.shape.cols) (k % r.dataset.shape.cols)) as (λ _. ℤ) [ Some v ↦ v | None ↦ pos 0 ]

abbrev rows_before : List ℕ → Reading → ℕ → List ℤ
rows_before img r to = map (value_of img r) (range_with_len 0 (to * r.dataset.shape.cols))

pub all_at : {X : Type 0} (P : X → Type 0) (xs : List X) (n : ℕ) (x : X) → AllByRecursion P xs → slice_get xs n ≡ Some x → P x
all_at P [] n x all is = absurd cc
all_at {X} P (y ∷ ys) zero x all is = subst P (let e : y ≡ x = same y x is in e) all.0
  where
    same : {X : Type 0} (y x : X) → ◌≡◌ {A = Option X} (Some y) (Some x) → y ≡ x
    same y x h = cc
all_at P (y ∷ ys) (suc n) x all is = all_at P ys n x all.1 is

-- the touched range of the chunk of a row and a column
key_inside : (img : List ℕ) (r : Reading) (first to row col : ℕ) → AskedStill img r first to → first ≤ row → row < to → col < r.dataset.shape.cols
    → AllByRecursion {X = ℕ × ℕ} (IsInside img r first to) (touched_keys r first to) → IsInside img r first to (row / r.dataset.layout.chunk_rows, col / r.dataset.layout.chunk_cols)
key_inside img r first to row col q low high column inside =
    let d : Described = r.dataset in
    let i : ℕ = row / d.layout.chunk_rows in
    let j : ℕ = col / d.layout.chunk_cols in
    let a : ℕ = first / d.layout.chunk_rows in
    let b : ℕ = (to - 1) / d.layout.chunk_rows in
    let across : ℕ = chunks_across d in
    let t = touched_by d first to row col q.good low high column in
    let key : slice_get (touched_keys r first to) ((i - a) * across + j) ≡ Some (a + (i - a), j) =
    grid_get {X = ℕ × ℕ} (λ i j. (i, j)) across a (b + 1 - a) (i - a) j (omega (arith, t.first, t.last)) t.column in
    let same : a + (i - a) ≡ i = omega (arith, t.first) in
    let key_of : ℕ → Option (ℕ × ℕ) = λ x. Some (x, j) in
    all_at {X = ℕ × ℕ} (IsInside img r first to) (touched_keys r first to) ((i - a) * across + j) (i, j) inside (key ∙ ap key_of same)

-- the cell of a row and a column in such a range has a value
cell_inside : (img : List ℕ) (r : Reading) (first to row col : ℕ) → AskedStill img r first to → first ≤ row → row < to → col < r.dataset.shape.cols
    → IsInside img r first to (row / r.dataset.layout.chunk_rows, col / r.dataset.layout.chunk_cols) → (v : ℤ) × (cell img r row col ≡ Some v)
cell_inside img r first to row col q low high column inside =
    let d : Described = r.dataset in
    let i : ℕ = row / d.layout.chunk_rows in
    let j : ℕ = col / d.layout.chunk_cols in
    let a : ℕ = chunk_address r row col in
    let place : ℕ = a + cell_offset d row col in
    let size : ℕ = d.int_type.size in
    let bytes : List ℕ = range img place size in
    let rows = band_of i d.layout.chunk_rows row q.good.rows refl in
    let cols = band_of j d.layout.chunk_cols col q.good.cols refl in
    let same : a ≡ address_at r (i, j) = same_address r i j row col q.good.rows q.good.cols rows cols in
    let fill : Option ℤ = Some (fill_value d.fill d.int_type) in
    elim (cases_Bool (a == undefined)) [
      | inl none ↦ (fill_value d.fill d.int_type, cond-true (a == undefined) fill (value_in img d place) none)
      | inr there ↦
          let defined : a ≢ undefined = eqb-false a undefined there in
          let fits : touched_place r first (i, j) + touched_len r first to (i, j) ≤ length img = elim inside [ inl none ↦ absurd (defined (same ∙ none)) | inr fits ↦ fits ] in
          let t = touched_by d first to row col q.good low high column in
          let c = cell_in_range d first to i j row col q.good q.some t low high column rows cols in
          let full : length bytes ≡ size = length_range img place size ∙ (let e : min size (length img - place) ≡ size = omega (arith, fits, same, c.above, c.within) in e) in (
            value_at bytes d.int_type,
            cond-false (a == undefined) fill (value_in img d place) there
                ∙ cond-true (length bytes == size) (Some (value_at bytes d.int_type)) None (eq-eqb (length bytes) size full),
          )
    ]

-- so the list of all values has them
has_cells : (img : List ℕ) (r : Reading) (first to : ℕ) (q : AskedStill img r first to) → AllByRecursion {X = ℕ × ℕ} (IsInside img r first to) (touched_keys r first to)
    → HasCells img r (rows_before img r to) first to
has_cells img r first to q inside row col low high column =
    let cols : ℕ = r.dataset.shape.cols in
    let k : ℕ = row * cols + col in
    let n : ℕ = to * cols in
    let v = cell_inside img r first to row col q low high column (key_inside img r first to row col q low high column inside) in
    let below : k < n = below_product row col to cols high column in
    let long : length (rows_before img r to) ≡ n = length-map-range_with_len (value_of img r) 0 n in
    let there : cell img r (k / cols) (k % cols) ≡ Some v.0 =
    ap (λ x. cell img r x (k % cols)) (div-mul-add row cols col column) ∙ ap (λ x. cell img r row x) (mod-mul-add row cols col column) ∙ v.1 in
    let is : value_of img r k ≡ v.0 = ap (λ (o : Option ℤ). elim o as (λ _. ℤ) [ Some v ↦ v | None ↦ pos 0 ]) there in
    record {
      value = v.0;
      shown = v.1;
      listed =
          slice_get-get_or (rows_before img r to) k (pos 0) (omega arith)
          ∙ ap Some (get_or-map-range_with_len (value_of img r) 0 n k k (pos 0) below (omega arith) ∙ is);
    }

get_part : (xs : List ℤ) (m n k : ℕ) → k < n → m + k < length xs → slice_get (take n (drop m xs)) k ≡ slice_get xs (m + k)
get_part xs m n k low inside =
    get_take n (drop m xs) k low ∙ slice_get-get_or (drop m xs) k (pos 0) (omega (arith, length-drop m xs))
    ∙ ap Some (get_or-drop m xs k (pos 0)) ∙ sym (slice_get-get_or xs (m + k) (pos 0) inside)

-- ---- A read whose ranges are all inside

asked : (img name : List ℕ) (r : Reading) (first count : ℕ) → length img ≤ 2 ^ 64 → Shows format_limits img name r → 1 ≤ count → first + count ≤ r.dataset.shape.rows
    → AskedStill img r first (first + count)
asked img name r first count fits shows some within =
    let s = steps format_limits img name r shows in
    record { good = sound_shown img name r.place r.dataset s.place s.header; fits = fits; some = omega arith; within = within }

are_cells : (img : List ℕ) (r : Reading) (first count : ℕ) (q : AskedStill img r first (first + count))
    → AllByRecursion {X = ℕ × ℕ} (IsInside img r first (first + count)) (touched_keys r first (first + count))
    → AreCells img r first count (take (count * r.dataset.shape.cols) (drop (first * r.dataset.shape.cols) (rows_before img r (first + count))))
are_cells img r first count q inside =
    let cols : ℕ = r.dataset.shape.cols in
    let to : ℕ = first + count in
    let xs : List ℤ = rows_before img r to in
    let all : to * cols ≡ first * cols + count * cols = omega arith in
    let long : length xs ≡ to * cols = length-map-range_with_len (value_of img r) 0 (to * cols) in
    let enough : count * cols ≤ length (drop (first * cols) xs) = omega (arith, length-drop (first * cols) xs) in
    let counts : length (take (count * cols) (drop (first * cols) xs)) ≡ count * cols = length-take-le (count * cols) (drop (first * cols) xs) enough in
    record {
      count = counts;
      each = λ k low.
          let below : k < count * cols = omega arith in
          let by = in_row count cols k below in
          let h = has_cells img r first to q inside (first + k / cols) (k % cols) (omega arith) (omega (arith, by.0)) by.1 in
          let e : (first + k / cols) * cols + k % cols ≡ first * cols + k =
          (let m : (first + k / cols) * cols + k % cols ≡ first * cols + (k / cols * cols + k % cols) = omega arith in m) ∙ ap (λ n. first * cols + n) (div-add-mod' k cols) in
          h.shown ∙ sym h.listed ∙ ap (slice_get xs) e ∙ sym (get_part xs (first * cols) (count * cols) k below (omega arith));
    }
  where
    in_row : (count cols k : ℕ) → k < count * cols → (k / cols < count) × (k % cols < cols)
    in_row count zero k h = absurd (omega arith)
    in_row count (suc c) k h = let wide : 0 < suc c = omega arith in ((div-lt_iff_lt-mul wide).1 h, mod-lt k wide)

-- ---- A range that the image cuts

stops : {A B E : Type 0} (img : List ℕ) (p : Prog (Result A E)) (f : A → Prog (Result B E)) (e : E) → eval img p ≡ Err e → eval img (and_then p f) ≡ Err e
stops {A} {B} {E} img p f e h = eval_and_then img p f ∙ ap (λ (x : Result A E). then_also x (λ a. eval img (f a))) h

-- a touched range has at least one cell
some_len : (r : Reading) (first to : ℕ) (k : ℕ × ℕ) → Sound r.dataset → first < to → IsTouched r.dataset first to k.0 k.1 → 0 < touched_len r first to k
some_len r first to k good some touched =
    let d : Described = r.dataset in
    let c = corners d first to k.0 k.1 good some touched in
    let row : ℕ = last_in_band d k.0 to - 1 in
    let col : ℕ = last_column d k.1 - 1 in
    let last = cell_in_range d first to k.0 k.1 row col good some touched (omega (arith, c.first_row.high, c.last_row.low, some)) c.below c.inside c.last_row c.last_col in
    omega (arith, last.within, some_size d.int_type.size good.size)

past_end : (a b : ℕ) → (a ≤ b → ⊥) → b < a
past_end a b h = elim (cases_lt b a) [ inl low ↦ low | inr high ↦ absurd (h high) ]

cut_here : (img : List ℕ) (r : Reading) (first to : ℕ) (k : ℕ × ℕ) → AskedStill img r first to → IsTouched r.dataset first to k.0 k.1 → (IsInside img r first to k → ⊥)
    → eval img (chunk_range r k.0 k.1 first to) ≡ Err (cut_range img r first to k)
cut_here img r first to k q touched outside =
    let d : Described = r.dataset in
    let address : ℕ = address_at r k in
    let place : ℕ = touched_place r first k in
    let len : ℕ = touched_len r first to k in
    let bytes : List ℕ = range img place len in
    let told : List ℕ → Result (Option (List ℕ)) ReadError = λ b. cond (nat_lt (length b) len) (Err (Damaged place (Cut len (length b)))) (Ok (Some b)) in
    let reads : Prog (Result (Option (List ℕ)) ReadError) = whole place len (λ b. ret (told b)) in
    let refuses : Prog (Result (Option (List ℕ)) ReadError) = counted address none_of (λ b. ret (Err (Damaged address (Cut len 0)))) in
    let outer : Prog (Result (Option (List ℕ)) ReadError) = cond (nat_lt (2 ^ 64) (place + len)) refuses reads in
    let at_address : ReadError = Damaged address (Cut len 0) in
    let at_range : ReadError = Damaged place (Cut len (length bytes)) in
    let defined : address ≢ undefined = λ none. outside (inl none) in
    let past : length img < place + len = past_end (place + len) (length img) (λ le. outside (inr le)) in
    let short : length bytes < len = omega (arith, past, length_range img place len, some_len r first to k q.good q.some touched) in
    ap (eval img) (cond-false (address == undefined) (ret (Ok None)) outer (ne_eqb address undefined defined))
    ∙ elim (cases_Bool (nat_lt (2 ^ 64) (place + len))) [
      | inl t ↦ ap (eval img) (cond-true (nat_lt (2 ^ 64) (place + len)) refuses reads t) ∙ ap Err (sym (cond-true (nat_lt (2 ^ 64) (place + len)) at_address at_range t))
      | inr f ↦
          ap (eval img) (cond-false (nat_lt (2 ^ 64) (place + len)) refuses reads f)
          ∙ cond-true (nat_lt (length bytes) len) (Err at_range) (Ok (Some bytes)) (lt-ltb (length bytes) len short)
          ∙ ap Err (sym (cond-false (nat_lt (2 ^ 64) (place + len)) at_address at_range f))
    ]

-- the first such chunk ends the read
cut_after : (img : List ℕ) (r : Reading) (first to : ℕ) (before after : List (ℕ × ℕ)) (k : ℕ × ℕ) → AskedStill img r first to
    → AllByRecursion {X = ℕ × ℕ} (λ k. IsTouched r.dataset first to k.0 k.1) (before ++ k ∷ after) → AllByRecursion {X = ℕ × ℕ} (IsInside img r first to) before
    → (IsInside img r first to k → ⊥) → eval img (each_of (λ k. chunk_range r k.0 k.1 first to) (before ++ k ∷ after)) ≡ Err (cut_range img r first to k)
cut_after img r first to [] after k q touched inside outside =
    let each : ℕ × ℕ → Prog (Result (Option (List ℕ)) ReadError) = λ k. chunk_range r k.0 k.1 first to in
    stops img (each k) (λ o. and_then (each_of each after) (λ os. ret (Ok (o ∷ os)))) (cut_range img r first to k) (cut_here img r first to k q touched.0 outside)
cut_after img r first to (b ∷ bs) after k q touched inside outside =
    let each : ℕ × ℕ → Prog (Result (Option (List ℕ)) ReadError) = λ k. chunk_range r k.0 k.1 first to in
    let e : ReadError = cut_range img r first to k in
    let rest : List (ℕ × ℕ) = bs ++ k ∷ after in
    let one = chunk_here img r first to b.0 b.1 q touched.0 inside.0 in
    eval_and_then img (each b) (λ o. and_then (each_of each rest) (λ os. ret (Ok (o ∷ os))))
    ∙ ap (λ (x : Result (Option (List ℕ)) ReadError). then_also x (λ o. eval img (and_then (each_of each rest) (λ os. ret (Ok (o ∷ os)))))) one.gives
    ∙ stops img (each_of each rest) (λ os. ret (Ok (one.part ∷ os))) e (cut_after img r first to bs after k q touched.1 inside.1 outside)

-- ---- The law

pub partly_reads : PartlyReads
partly_reads = record {
  whole = λ img name r first count ls a fits shows some within all takes inside.
      let q = asked img name r first count fits shows some within in
      let xs : List ℤ = rows_before img r (first + count) in (
        take (count * r.dataset.shape.cols) (drop (first * r.dataset.shape.cols) xs),
        still_takes img (values_call r first count) ls a (plain_values r first count) all takes
            ∙ values_inside img r xs first count q (has_cells img r first (first + count) q inside) inside,
        are_cells img r first count q inside,
      );
  cut = λ img name r first count ls a fits shows some within all takes before after k keys inside outside.
      let q = asked img name r first count fits shows some within in
      let to : ℕ = first + count in
      let each : ℕ × ℕ → Prog (Result (Option (List ℕ)) ReadError) = λ k. chunk_range r k.0 k.1 first to in
      let done : List (Option (List ℕ)) → Prog (Result (List ℤ) ReadError) = λ ranges. ret (Ok (values_from r first to ranges)) in
      let touched = subst (λ (ks : List (ℕ × ℕ)). AllByRecursion {X = ℕ × ℕ} (λ k. IsTouched r.dataset first to k.0 k.1) ks) keys (keys_touched r.dataset first to q.some q.good) in
      let e : ReadError = cut_range img r first to k in
      let given = ap (λ (ks : List (ℕ × ℕ)). eval img (each_of each ks)) keys ∙ cut_after img r first to before after k q touched inside outside in
      still_takes img (values_call r first count) ls a (plain_values r first count) all takes
      ∙ lowered_still img 0 [] (and_then (each_of each (touched_keys r first to)) done) q.fits tt
      ∙ stops img (each_of each (touched_keys r first to)) done e given;
}
