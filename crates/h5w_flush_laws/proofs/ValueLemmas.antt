-- Cells of values and of the fill, as they are read.
use Rattle.std.proofs.Common.{◌≡◌, ◌≢◌, ◌⊎◌, ℕ, zero, suc, ◌+◌, ◌-◌, ◌*◌, ◌/◌, ◌^◌, ◌<◌, Bool, true, false, eqb, List, [], ◌∷◌, ◌++◌, length, Option, Some, None, refl, sym, ◌∙◌, ap, subst, inl, inr, arith, replicate}
use Rattle.std.specs.Prelude.{◌==◌, nat_le, if◌then◌else◌, unwrap_or, ℤ, pos, ◌-ℤ◌, slice_get}
use Rattle.std.proofs.lemmas.Bool.{cond-true, cond-false, eq-eqb}
use Rattle.std.proofs.lemmas.Bool.Decides.{eqb_tells}
use Rattle.h5w_model.specs.Numbers.{num, range, undefined}
use Rattle.h5w_model.specs.Images.{At}
use Rattle.h5w_model.specs.Messages.{IntTypeFields, IsIntType}
use Rattle.h5w_model.specs.Integers.{in_order, signed_of, span_of, value_at, cell_bytes_of, fill_cell_value, fill_value}
use Rattle.h5w_model.specs.Datasets.{Described}
use Rattle.h5w_model.specs.Tables.{value_in, cell_offset}
use Rattle.h5w_model.proofs.IntegerLemmas.{int_sizes, length-cell_bytes_of}
use Rattle.h5w_model.proofs.NumberLemmas.{range-append-left, range-append-right}
use Rattle.h5w_chunks.specs.Runs.{run_bytes}
use Rattle.h5w_chunks.specs.Grids.{FitsType, cells_of, fill_cell}
use Rattle.h5w_step_laws.proofs.SessionLaws.{lt-leb-false}
use Rattle.h5w_flush_laws.proofs.CellLemmas.{cell_by}

-- ---- Zeros

signed_zero : (signed : Bool) (m : ℕ) → 0 < m / 2 → signed_of signed m 0 ≡ pos 0
signed_zero false m some = refl
signed_zero true m some = cond-false (nat_le (m / 2) 0) (pos 0 -ℤ pos m) (pos 0) (lt-leb-false (m / 2) 0 some)

zeros : (big : Bool) (n : ℕ) → (n ≡ 1) ⊎ ((n ≡ 2) ⊎ ((n ≡ 4) ⊎ (n ≡ 8))) → num (in_order big (replicate n 0)) ≡ 0
unfolding num
zeros big n is = go is
  where
    one : (b : Bool) → num (in_order b (replicate 1 0)) ≡ 0
    one true = refl
    one false = refl

    two : (b : Bool) → num (in_order b (replicate 2 0)) ≡ 0
    two true = refl
    two false = refl

    four : (b : Bool) → num (in_order b (replicate 4 0)) ≡ 0
    four true = refl
    four false = refl

    eight : (b : Bool) → num (in_order b (replicate 8 0)) ≡ 0
    eight true = refl
    eight false = refl

    go : (n ≡ 1) ⊎ ((n ≡ 2) ⊎ ((n ≡ 4) ⊎ (n ≡ 8))) → num (in_order big (replicate n 0)) ≡ 0
    go (inl e) = subst (λ k. num (in_order big (replicate k 0)) ≡ 0) (sym e) (one big)
    go (inr (inl e)) = subst (λ k. num (in_order big (replicate k 0)) ≡ 0) (sym e) (two big)
    go (inr (inr (inl e))) = subst (λ k. num (in_order big (replicate k 0)) ≡ 0) (sym e) (four big)
    go (inr (inr (inr e))) = subst (λ k. num (in_order big (replicate k 0)) ≡ 0) (sym e) (eight big)

half_some : (n : ℕ) → (n ≡ 1) ⊎ ((n ≡ 2) ⊎ ((n ≡ 4) ⊎ (n ≡ 8))) → 0 < 256 ^ n / 2
half_some n (inl e) = subst (λ k. 0 < 256 ^ k / 2) (sym e) (omega arith)
half_some n (inr (inl e)) = subst (λ k. 0 < 256 ^ k / 2) (sym e) (omega arith)
half_some n (inr (inr (inl e))) = subst (λ k. 0 < 256 ^ k / 2) (sym e) (omega arith)
half_some n (inr (inr (inr e))) = subst (λ k. 0 < 256 ^ k / 2) (sym e) (omega arith)

pub zero_value : (t : IntTypeFields) → IsIntType t → value_at (replicate t.size 0) t ≡ pos 0
unfolding value_at
zero_value t typed =
    let is = int_sizes t.size typed in
    ap (signed_of t.signed (span_of t)) (zeros t.big t.size is) ∙ signed_zero t.signed (span_of t) (half_some t.size is)

pub fill_read : (d : Described) → IsIntType d.int_type → value_at (fill_cell d) d.int_type ≡ fill_value d.fill d.int_type
fill_read d typed = go d.fill.value
  where
    go : (v : Option (List ℕ)) → value_at (unwrap_or v (replicate d.int_type.size 0)) d.int_type ≡ fill_cell_value v d.int_type
    go None = zero_value d.int_type typed
    go (Some bytes) = refl

-- ---- What stands at a place

pub value_there : (img : List ℕ) (d : Described) (place : ℕ) (bytes : List ℕ) → At img place bytes → length bytes ≡ d.int_type.size → value_in img d place ≡ Some (value_at bytes d.int_type)
value_there img d place bytes there long =
    let size : ℕ = d.int_type.size in
    let is : range img place size ≡ bytes = ap (range img place) (sym long) ∙ there in
    let read : List ℕ → Option ℤ = λ b. if length b == size then Some (value_at b d.int_type) else None in
    ap read is ∙ cond-true (length bytes == size) (Some (value_at bytes d.int_type)) None (eq-eqb (length bytes) size long)

pub cell_there : (img : List ℕ) (d : Described) (address row column : ℕ) (bytes : List ℕ) → address ≢ undefined → At img (address + cell_offset d row column) bytes → length bytes ≡ d.int_type.size
    → cell_by img d address row column ≡ Some (value_at bytes d.int_type)
cell_there img d address row column bytes defined there long = go (eqb_tells address undefined)
  where
    go : ((eqb address undefined ≡ true) × (address ≡ undefined)) ⊎ ((eqb address undefined ≡ false) × (address ≢ undefined)) → cell_by img d address row column ≡ Some (value_at bytes d.int_type)
    go (inl t) = absurd (defined t.1)
    go (inr t) =
        cond-false (address == undefined) (Some (fill_value d.fill d.int_type)) (value_in img d (address + cell_offset d row column)) t.0
        ∙ value_there img d (address + cell_offset d row column) bytes there long

pub cell_absent : (img : List ℕ) (d : Described) (address row column : ℕ) → address ≡ undefined → cell_by img d address row column ≡ Some (fill_value d.fill d.int_type)
cell_absent img d address row column e = cond-true (address == undefined) (Some (fill_value d.fill d.int_type)) (value_in img d (address + cell_offset d row column)) (eq-eqb address undefined e)

-- ---- The cells of some values

-- the cell of the i-th value
pub record CellOf (d : Described) (values : List ℤ) (i : ℕ) (v : ℤ) : Type 0 where
  pub bytes : List ℕ
  pub spelled : cell_bytes_of v d.int_type ≡ Some bytes
  pub there : range (cells_of d values) (i * d.int_type.size) d.int_type.size ≡ bytes

first_range : (b rest : List ℕ) (size : ℕ) → length b ≡ size → range (b ++ rest) (0 * size) size ≡ b
first_range b rest size long =
    let none : 0 * size ≡ 0 = omega arith in
    ap (λ at. range (b ++ rest) at size) none ∙ range-append-left b rest 0 size (omega (arith, long)) ∙ whole b size long
  where
    whole : (b : List ℕ) (n : ℕ) → length b ≡ n → range b 0 n ≡ b
    whole b n e = subst (λ k. range b 0 k ≡ b) e (all b)
      where
        all : (b : List ℕ) → range b 0 (length b) ≡ b
        all [] = refl
        all (x ∷ xs) = ap (λ ys. x ∷ ys) (all xs)

pub cell_of : (d : Described) (values : List ℤ) (i : ℕ) (v : ℤ) → ((k : ℕ) (w : ℤ) → slice_get values k ≡ Some w → FitsType d w) → slice_get values i ≡ Some v → CellOf d values i v
unfolding run_bytes
cell_of d [] i v fit found = absurd cc
cell_of d (x ∷ xs) zero v fit found =
    let fits = fit zero v found in
    let size : ℕ = d.int_type.size in
    let same : x ≡ v = some_same x v found in
    let long = length-cell_bytes_of v d.int_type fits.0 fits.1 in
    let own : unwrap_or (cell_bytes_of x d.int_type) [] ≡ fits.0 = ap (λ y. unwrap_or (cell_bytes_of y d.int_type) []) same ∙ ap (λ r. unwrap_or r []) fits.1 in
    record {
      bytes = fits.0;
      spelled = fits.1;
      there = ap (λ (b : List ℕ). range (b ++ cells_of d xs) (0 * size) size) own ∙ first_range fits.0 (cells_of d xs) size long;
    }
  where
    some_same : (x v : ℤ) → ◌≡◌ {A = Option ℤ} (Some x) (Some v) → x ≡ v
    some_same x v e = cc
cell_of d (x ∷ xs) (suc i) v fit found =
    let size : ℕ = d.int_type.size in
    let fits = fit zero x refl in
    let rest = cell_of d xs i v (λ k w is. fit (suc k) w is) found in
    let long : length (unwrap_or (cell_bytes_of x d.int_type) []) ≡ size = ap (λ r. length (unwrap_or r [])) fits.1 ∙ length-cell_bytes_of x d.int_type fits.0 fits.1 in
    let own : List ℕ = unwrap_or (cell_bytes_of x d.int_type) [] in
    let next : suc i * size ≡ size + i * size = omega arith in
    let less : suc i * size - size ≡ i * size = omega arith in
    record {
      bytes = rest.bytes;
      spelled = rest.spelled;
      there = range-append-right own (cells_of d xs) size (suc i * size) size long (omega (arith, next)) ∙ ap (λ at. range (cells_of d xs) at size) less ∙ rest.there;
    }
