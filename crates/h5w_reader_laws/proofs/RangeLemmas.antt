-- The values of rows, from the ranges of their chunks.
use Rattle.std.proofs.Common.{◌≡◌, ℕ, zero, suc, ◌+◌, ◌-◌, ◌*◌, ◌/◌, ◌%◌, ◌<◌, ◌≤◌, true, List, [], ◌∷◌, take, drop, map, get_or, Option, Some, None, refl, sym, ◌∙◌, ap, subst, arith}
use Rattle.std.specs.Prelude.{◌==◌, ℤ, slice_get, slice_index_or}
use Rattle.std.specs.List.{AllByRecursion, range_with_len, flat_map}
use Rattle.std.proofs.lemmas.Bool.{cond-true, eq-eqb}
use Rattle.std.proofs.lemmas.Nat.{le-div, div-add-mod'}
use Rattle.std.proofs.Math.Nat.{div-mul-le_self, div-lt_iff_lt-mul, mod-lt}
use Rattle.h5w_model.specs.Numbers.{range, undefined}
use Rattle.h5w_model.specs.Integers.{value_at, fill_value}
use Rattle.h5w_model.specs.Messages.{is_int_size}
use Rattle.h5w_model.specs.Datasets.{Described}
use Rattle.h5w_model.specs.Tables.{Reading, chunks_across, cell, cell_offset, chunk_address, value_in}
use Rattle.h5w_model.specs.Calls.{touched_from, touched_keys, value_from, values_from}
use Rattle.h5w_reader_laws.proofs.KeyLemmas.{Sound, grid_all, grid_get}
use Rattle.h5w_reader_laws.proofs.ChunkLemmas.{quotient_is, IsBand, band_of, IsTouched}
use Rattle.h5w_reader_laws.proofs.CellLemmas.{HasCell}

-- ---- One chunk

-- an integer has bytes
pub some_size : (n : ℕ) → is_int_size n ≡ true → 0 < n
some_size zero h = absurd cc
some_size (suc n) h = omega arith

pub same_address : (r : Reading) (i j row col : ℕ) → 0 < r.dataset.layout.chunk_rows → 0 < r.dataset.layout.chunk_cols → IsBand i r.dataset.layout.chunk_rows row → IsBand j r.dataset.layout.chunk_cols col
    → chunk_address r row col ≡ chunk_address r (i * r.dataset.layout.chunk_rows) (j * r.dataset.layout.chunk_cols)
same_address r i j row col some_rows some_cols rows cols =
    let n : ℕ = r.dataset.layout.chunk_rows in
    let m : ℕ = r.dataset.layout.chunk_cols in
    let a : row / n ≡ i * n / n = quotient_is i n row rows.low rows.high ∙ sym (quotient_is i n (i * n) (omega arith) (omega arith)) in
    let b : col / m ≡ j * m / m = quotient_is j m col cols.low cols.high ∙ sym (quotient_is j m (j * m) (omega arith) (omega arith)) in
    ap (λ x. get_or r.table (x * chunks_across r.dataset + col / m) undefined) a ∙ ap (λ y. get_or r.table (i * n / n * chunks_across r.dataset + y) undefined) b

some_is : (v w : ℤ) → ◌≡◌ {A = Option ℤ} (Some v) (Some w) → v ≡ w
some_is v w h = cc

-- the range of a chunk gives the values of its cells in these rows
abbrev pub IsPart : List ℕ → Reading → ℕ → ℕ → ℕ × ℕ → Option (List ℕ) → Type 0
IsPart img r first to key o =
    (row col : ℕ) (v : ℤ) → first ≤ row → row < to → col < r.dataset.shape.cols → IsBand key.0 r.dataset.layout.chunk_rows row → IsBand key.1 r.dataset.layout.chunk_cols col
    → cell img r row col ≡ Some v → value_from r first o row col ≡ v

-- a chunk without an address has fill values
pub none_part : (img : List ℕ) (r : Reading) (first to i j : ℕ) → Sound r.dataset
    → chunk_address r (i * r.dataset.layout.chunk_rows) (j * r.dataset.layout.chunk_cols) ≡ undefined → IsPart img r first to (i, j) None
none_part img r first to i j good none row col v low high inside rows cols shown =
    let d : Described = r.dataset in
    let a : ℕ = chunk_address r row col in
    let is : a ≡ undefined = same_address r i j row col good.rows good.cols rows cols ∙ none in
    some_is (fill_value d.fill d.int_type) v
    (sym (cond-true (a == undefined) (Some (fill_value d.fill d.int_type)) (value_in img d (a + cell_offset d row col)) (eq-eqb a undefined is)) ∙ shown)

-- a range that has the bytes of each touched cell in its place
pub some_part : (img : List ℕ) (r : Reading) (first to i j : ℕ) (bytes : List ℕ)
    → ((row col : ℕ) (v : ℤ) → first ≤ row → row < to → col < r.dataset.shape.cols → IsBand i r.dataset.layout.chunk_rows row → IsBand j r.dataset.layout.chunk_cols col → cell img r row col ≡ Some v
    → value_at (range bytes (cell_offset r.dataset row col - touched_from r.dataset i j first) r.dataset.int_type.size) r.dataset.int_type ≡ v)
    → IsPart img r first to (i, j) (Some bytes)
some_part img r first to i j bytes has row col v low high inside rows cols shown =
    let d : Described = r.dataset in
    let at : ℕ → ℕ → ℤ = λ x y. value_at (range bytes (cell_offset d row col - touched_from d x y first) d.int_type.size) d.int_type in
    ap (λ x. at x (col / d.layout.chunk_cols)) (quotient_is i d.layout.chunk_rows row rows.low rows.high) ∙ ap (λ y. at i y) (quotient_is j d.layout.chunk_cols col cols.low cols.high)
    ∙ has row col v low high inside rows cols shown

-- ---- All touched chunks

-- each key with the range of its chunk
abbrev pub Parts : List ℕ → Reading → ℕ → ℕ → List (ℕ × ℕ) → List (Option (List ℕ)) → Type 0
Parts img r first to [] [] = Unit {0}
Parts img r first to [] (o ∷ os) = ⊥
Parts img r first to (k ∷ ks) [] = ⊥
Parts img r first to (k ∷ ks) (o ∷ os) = IsPart img r first to k o × Parts img r first to ks os

-- the range of a key by its number
part_at : (img : List ℕ) (r : Reading) (first to : ℕ) (keys : List (ℕ × ℕ)) (ranges : List (Option (List ℕ))) (n : ℕ) (k : ℕ × ℕ)
    → Parts img r first to keys ranges → slice_get keys n ≡ Some k → IsPart img r first to k (slice_index_or ranges n None)
part_at img r first to [] ranges n k parts is = absurd cc
part_at img r first to (x ∷ xs) [] n k parts is = absurd parts
part_at img r first to (x ∷ xs) (o ∷ os) zero k parts is =
    let same : x ≡ k = key_is x k is in
    subst (λ y. IsPart img r first to y o) same parts.0
  where
    key_is : (x k : ℕ × ℕ) → ◌≡◌ {A = Option (ℕ × ℕ)} (Some x) (Some k) → x ≡ k
    key_is x k h = cc
part_at img r first to (x ∷ xs) (o ∷ os) (suc n) k parts is = part_at img r first to xs os n k parts.1 is

-- ---- The values

drop_one : (n : ℕ) (xs : List ℤ) (x : ℤ) → slice_get xs n ≡ Some x → drop n xs ≡ x ∷ drop (suc n) xs
drop_one n [] x h = absurd cc
drop_one zero (y ∷ ys) x h = let e : y ≡ x = some_is y x h in ap (λ z. z ∷ ys) e
drop_one (suc n) (y ∷ ys) x h = drop_one n ys x h

-- values that are those of a list, one after another
listed : (f : ℕ → ℤ) (xs : List ℤ) (from count : ℕ) → ((k : ℕ) → from ≤ k → k < from + count → slice_get xs k ≡ Some (f k)) → map f (range_with_len from count) ≡ take count (drop from xs)
listed f xs from zero h = refl
listed f xs from (suc count) h =
    let more : suc from ≡ from + 1 = omega arith in
    ap (λ (ys : List ℤ). f from ∷ ys) (listed f xs (from + 1) count (λ k low high. h k (omega arith) (omega arith)))
    ∙ ap (λ n. f from ∷ take count (drop n xs)) (sym more)
    ∙ ap (take (suc count)) (sym (drop_one from xs (f from) (h from (omega arith) (omega arith))))

-- a place in the list of values, by its row and its column
record ByRow (first to cols k : ℕ) : Type 0 where
  wide : 0 < cols
  low : first ≤ k / cols
  high : k / cols < to
  column : k % cols < cols

by_row : (first to cols k : ℕ) → first < to → first * cols ≤ k → k < first * cols + (to - first) * cols → ByRow first to cols k
by_row first to zero k some low high = absurd (omega arith)
by_row first to (suc c) k some low high =
    let cols : ℕ = suc c in
    let wide : 0 < cols = omega arith in
    let e : first + (to - first) ≡ to = omega arith in
    let all : (first + (to - first)) * cols ≡ to * cols = ap (λ n. n * cols) e in
    record { wide = wide; low = le-div first k cols wide low; high = (div-lt_iff_lt-mul wide).1 (omega arith); column = mod-lt k wide }

div_mono : (a b n : ℕ) → 0 < n → a ≤ b → a / n ≤ b / n
div_mono a b n some h = le-div (a / n) b n some (let l : a / n * n ≤ a = div-mul-le_self a n in omega (arith, l))

-- the chunk of a touched row
pub touched_by : (d : Described) (first to row col : ℕ) → Sound d → first ≤ row → row < to → col < d.shape.cols
    → IsTouched d first to (row / d.layout.chunk_rows) (col / d.layout.chunk_cols)
touched_by d first to row col good low high inside =
    let n : ℕ = d.layout.chunk_cols in
    let l : col / n * n ≤ col = div-mul-le_self col n in
    record {
      first = div_mono first row d.layout.chunk_rows good.rows low;
      last = div_mono row (to - 1) d.layout.chunk_rows good.rows (omega arith);
      column = let c : col / n + 1 ≤ (d.shape.cols + n - 1) / n = le-div (col / n + 1) (d.shape.cols + n - 1) n good.cols (omega (arith, good.cols)) in omega (arith, c);
    }

pub keys_touched : (d : Described) (first to : ℕ) → first < to → Sound d
    → AllByRecursion {X = ℕ × ℕ} (λ k. IsTouched d first to k.0 k.1)
    (flat_map (λ i. map (λ j. (i, j)) (range_with_len 0 (chunks_across d))) (range_with_len (first / d.layout.chunk_rows) ((to - 1) / d.layout.chunk_rows + 1 - first / d.layout.chunk_rows)))
keys_touched d first to some good =
    let a : ℕ = first / d.layout.chunk_rows in
    let b : ℕ = (to - 1) / d.layout.chunk_rows in
    let l : a ≤ b = div_mono first (to - 1) d.layout.chunk_rows good.rows (omega arith) in
    grid_all {X = ℕ × ℕ} (λ k. IsTouched d first to k.0 k.1) (λ i j. (i, j)) (chunks_across d) a (b + 1) a (b + 1 - a) (omega arith) (omega arith)
    (λ i j low high inside. record { first = low; last = omega arith; column = inside })

-- each value, from the range of its chunk
value_told : (img : List ℕ) (r : Reading) (xs : List ℤ) (first to : ℕ) (ranges : List (Option (List ℕ))) (k : ℕ) → Sound r.dataset → first < to
    → ((row col : ℕ) → first ≤ row → row < to → col < r.dataset.shape.cols → HasCell img r xs row col) → Parts img r first to (touched_keys r first to) ranges
    → first * r.dataset.shape.cols ≤ k → k < first * r.dataset.shape.cols + (to - first) * r.dataset.shape.cols
    → slice_get xs k
    ≡ Some (value_from r first
    (slice_index_or ranges
    ((k / r.dataset.shape.cols / r.dataset.layout.chunk_rows - first / r.dataset.layout.chunk_rows) * chunks_across r.dataset + k % r.dataset.shape.cols / r.dataset.layout.chunk_cols) None)
    (k / r.dataset.shape.cols) (k % r.dataset.shape.cols))
value_told img r xs first to ranges k good some has parts low high =
    let d : Described = r.dataset in
    let cols : ℕ = d.shape.cols in
    let row : ℕ = k / cols in
    let col : ℕ = k % cols in
    let by = by_row first to cols k some low high in
    let i : ℕ = row / d.layout.chunk_rows in
    let j : ℕ = col / d.layout.chunk_cols in
    let t = touched_by d first to row col good by.low by.high by.column in
    let a : ℕ = first / d.layout.chunk_rows in
    let b : ℕ = (to - 1) / d.layout.chunk_rows in
    let across : ℕ = chunks_across d in
    let number : ℕ = (i - a) * across + j in
    let key : slice_get (touched_keys r first to) number ≡ Some (a + (i - a), j) =
    grid_get {X = ℕ × ℕ} (λ i j. (i, j)) across a (b + 1 - a) (i - a) j (omega (arith, t.first, t.last)) t.column in
    let same : a + (i - a) ≡ i = omega (arith, t.first) in
    let key_of : ℕ → Option (ℕ × ℕ) = λ x. Some (x, j) in
    let part = part_at img r first to (touched_keys r first to) ranges number (i, j) parts (key ∙ ap key_of same) in
    let v = has row col by.low by.high by.column in
    ap (λ n. slice_get xs n) (sym (div-add-mod' k cols)) ∙ v.listed
    ∙ ap Some (sym (part row col v.value by.low by.high by.column (band_of i d.layout.chunk_rows row good.rows refl) (band_of j d.layout.chunk_cols col good.cols refl) v.shown))

-- and so all of them
pub values_told : (img : List ℕ) (r : Reading) (xs : List ℤ) (first to : ℕ) (ranges : List (Option (List ℕ))) → Sound r.dataset → first < to
    → ((row col : ℕ) → first ≤ row → row < to → col < r.dataset.shape.cols → HasCell img r xs row col) → Parts img r first to (touched_keys r first to) ranges
    → values_from r first to ranges ≡ take ((to - first) * r.dataset.shape.cols) (drop (first * r.dataset.shape.cols) xs)
values_told img r xs first to ranges good some has parts =
    let d : Described = r.dataset in
    let cols : ℕ = d.shape.cols in
    listed (λ k. value_from r first
    (slice_index_or ranges ((k / cols / d.layout.chunk_rows - first / d.layout.chunk_rows) * chunks_across d + k % cols / d.layout.chunk_cols) None) (k / cols) (k % cols))
    xs (first * cols) ((to - first) * cols) (λ k low high. value_told img r xs first to ranges k good some has parts low high)
