-- Where the cells of touched rows stand in their chunk.
use Rattle.std.proofs.Common.{◌≡◌, ℕ, ◌+◌, ◌-◌, ◌*◌, ◌/◌, ◌%◌, ◌<◌, ◌≤◌, Bool, true, false, refl, sym, ◌∙◌, ap, subst, inl, inr, arith}
use Rattle.std.specs.Prelude.{◌==◌, ◌||◌}
use Rattle.std.proofs.lemmas.Bool.{cases_Bool, eqb-true}
use Rattle.std.proofs.lemmas.Nat.{div-mul-add}
use Rattle.std.proofs.Math.Nat.{mul-le-mul_right, div-mul-le_self, lt-div-mul-add, mod-eq-sub-div-mul}
use Rattle.h5w_model.specs.Messages.{is_int_size}
use Rattle.h5w_model.specs.Datasets.{Described}
use Rattle.h5w_model.specs.Tables.{chunks_across, cell_offset}
use Rattle.h5w_model.specs.Calls.{first_in_band, last_in_band, last_column, touched_from, touched_to}
use Rattle.h5w_reader_laws.proofs.KeyLemmas.{Sound}

-- ---- Quotients

pub quotient_is : (i n x : ℕ) → i * n ≤ x → x < i * n + n → x / n ≡ i
quotient_is i n x low high =
    let e : i * n + (x - i * n) ≡ x = omega arith in
    ap (λ y. y / n) (sym e) ∙ div-mul-add i n (x - i * n) (omega arith)

remainder_is : (i n x : ℕ) → x / n ≡ i → x % n ≡ x - i * n
remainder_is i n x h = mod-eq-sub-div-mul x n ∙ ap (λ q. x - q * n) h

-- what has this quotient
pub record IsBand (i n x : ℕ) : Type 0 where
  pub low : i * n ≤ x
  pub high : x < i * n + n

pub band_of : (i n x : ℕ) → 0 < n → x / n ≡ i → IsBand i n x
band_of i n x some h = record {
  low = subst (λ q. q * n ≤ x) h (div-mul-le_self x n);
  high = subst (λ q. x < q * n + n) h (lt-div-mul-add {a = x} some);
}

-- ---- A touched chunk

-- the chunk at these numbers has cells of the rows from `from` up to but not including `to`
pub record IsTouched (d : Described) (from to i j : ℕ) : Type 0 where
  pub first : from / d.layout.chunk_rows ≤ i
  pub last : i ≤ (to - 1) / d.layout.chunk_rows
  pub column : j < chunks_across d

-- its first touched row, its last touched row and its last column
pub record Corners (d : Described) (from to i j : ℕ) : Type 0 where
  pub first_row : IsBand i d.layout.chunk_rows (first_in_band d i from)
  pub last_row : IsBand i d.layout.chunk_rows (last_in_band d i to - 1)
  pub below : last_in_band d i to - 1 < to
  pub last_col : IsBand j d.layout.chunk_cols (last_column d j - 1)
  pub inside : last_column d j - 1 < d.shape.cols

pub corners : (d : Described) (from to i j : ℕ) → Sound d → from < to → IsTouched d from to i j → Corners d from to i j
corners d from to i j sound some touched =
    let rows : ℕ = d.layout.chunk_rows in
    let cols : ℕ = d.layout.chunk_cols in
    let a : from < from / rows * rows + rows = lt-div-mul-add {a = from} sound.rows in
    let b : from / rows * rows ≤ i * rows = mul-le-mul_right rows touched.first in
    let c : i * rows ≤ (to - 1) / rows * rows = mul-le-mul_right rows touched.last in
    let e : (to - 1) / rows * rows ≤ to - 1 = div-mul-le_self (to - 1) rows in
    let f : (j + 1) * cols ≤ chunks_across d * cols = mul-le-mul_right cols (let g : j + 1 ≤ chunks_across d = omega (arith, touched.column) in g) in
    let g : chunks_across d * cols ≤ d.shape.cols + cols - 1 = div-mul-le_self (d.shape.cols + cols - 1) cols in
    let k : j * cols < d.shape.cols = omega (arith, sound.cols) in
    record {
      first_row = record { low = omega arith; high = omega (arith, sound.rows) };
      last_row = record { low = omega (arith, sound.rows); high = omega (arith, sound.rows) };
      below = omega (arith, sound.rows);
      last_col = record { low = omega (arith, sound.cols); high = omega (arith, sound.cols) };
      inside = omega (arith, sound.cols);
    }

-- a cell is no later in its chunk than one of a later row and a later column
index_le : (a b c e n : ℕ) → a ≤ b → c ≤ e → a * n + c ≤ b * n + e
index_le a b c e n h g = let p : a * n ≤ b * n = mul-le-mul_right n h in omega arith

-- integers of 1, 2, 4 or 8 bytes do not lie across two looks of 512 bytes
one_look_has : (size q : ℕ) → is_int_size size ≡ true → (512 * (q * size / 512) ≤ q * size) × (q * size + size ≤ 512 * (q * size / 512) + 512)
one_look_has size q is =
    elim (cases_Bool (size == 1)) [
      | inl t ↦ by 1 (eqb-true size 1 t) (omega arith, omega arith)
      | inr f ↦ elim (cases_Bool (size == 2)) [
        | inl t ↦ by 2 (eqb-true size 2 t) (omega arith, omega arith)
        | inr g ↦ elim (cases_Bool (size == 4)) [
          | inl t ↦ by 4 (eqb-true size 4 t) (omega arith, omega arith)
          | inr h ↦ by 8 (eqb-true size 8 (last (size == 1) (size == 2) (size == 4) (size == 8) is f g h)) (omega arith, omega arith)
        ]
      ]
    ]
  where
    by : (n : ℕ) → size ≡ n → (512 * (q * n / 512) ≤ q * n) × (q * n + n ≤ 512 * (q * n / 512) + 512) → (512 * (q * size / 512) ≤ q * size) × (q * size + size ≤ 512 * (q * size / 512) + 512)
    by n e h = subst (λ m. (512 * (q * m / 512) ≤ q * m) × (q * m + m ≤ 512 * (q * m / 512) + 512)) (sym e) h

    last : (a b c e : Bool) → (a || b || c || e) ≡ true → a ≡ false → b ≡ false → c ≡ false → e ≡ true
    last a b c true is f g h = refl
    last true b c false is f g h = absurd cc
    last false true c false is f g h = absurd cc
    last false false true false is f g h = absurd cc
    last false false false false is f g h = absurd cc

-- where a touched cell stands in the range of its chunk that is looked at
pub record InRange (start stop offset size : ℕ) : Type 0 where
  pub above : start ≤ offset
  pub look : ℕ
  pub low : 512 * look ≤ offset - start
  pub high : offset - start + size ≤ 512 * look + 512
  pub within : offset - start + size ≤ stop - start

in_range : (first index last size : ℕ) → is_int_size size ≡ true → first ≤ index → index ≤ last → InRange (first * size) (last * size + size) (index * size) size
in_range first index last size is low high =
    let q : ℕ = index - first in
    let a : first + q ≡ index = omega arith in
    let b : (first + q) * size ≡ index * size = ap (λ n. n * size) a in
    let c : index * size ≤ last * size = mul-le-mul_right size high in
    let e : index * size - first * size ≡ q * size = omega arith in
    let fits = one_look_has size q is in
    record {
      above = omega arith;
      look = q * size / 512;
      low = subst (λ n. 512 * (q * size / 512) ≤ n) (sym e) fits.0;
      high = subst (λ n. n + size ≤ 512 * (q * size / 512) + 512) (sym e) fits.1;
      within = omega arith;
    }

abbrev index_of : Described → ℕ → ℕ → ℕ
index_of d row column = row % d.layout.chunk_rows * d.layout.chunk_cols + column % d.layout.chunk_cols

rest_le : (i n x y : ℕ) → IsBand i n x → IsBand i n y → x ≤ y → x % n ≤ y % n
rest_le i n x y h g le =
    let a : x % n ≡ x - i * n = remainder_is i n x (quotient_is i n x h.low h.high) in
    let b : y % n ≡ y - i * n = remainder_is i n y (quotient_is i n y g.low g.high) in
    omega arith

pub cell_in_range : (d : Described) (from to i j row column : ℕ) → Sound d → from < to → IsTouched d from to i j
    → from ≤ row → row < to → column < d.shape.cols → IsBand i d.layout.chunk_rows row → IsBand j d.layout.chunk_cols column
    → InRange (touched_from d i j from) (touched_to d i j to) (cell_offset d row column) d.int_type.size
cell_in_range d from to i j row column sound some touched low high inside rows cols =
    let c = corners d from to i j sound some touched in
    let n : ℕ = d.layout.chunk_cols in
    let first : IsBand j n (j * n) = record { low = omega arith; high = omega (arith, sound.cols) } in
    in_range (index_of d (first_in_band d i from) (j * n)) (index_of d row column) (index_of d (last_in_band d i to - 1) (last_column d j - 1)) d.int_type.size sound.size
    (index_le (first_in_band d i from % d.layout.chunk_rows) (row % d.layout.chunk_rows) (j * n % n) (column % n) n
    (rest_le i d.layout.chunk_rows (first_in_band d i from) row c.first_row rows (omega (arith, rows.low)))
    (rest_le j n (j * n) column first cols cols.low))
    (index_le (row % d.layout.chunk_rows) ((last_in_band d i to - 1) % d.layout.chunk_rows) (column % n) ((last_column d j - 1) % n) n
    (rest_le i d.layout.chunk_rows row (last_in_band d i to - 1) rows c.last_row (omega (arith, rows.high)))
    (rest_le j n column (last_column d j - 1) cols c.last_col (omega (arith, cols.high))))
