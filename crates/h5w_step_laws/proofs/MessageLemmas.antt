-- A dataspace with other rows, and a layout with another index address, are read as such.
use Rattle.std.proofs.Common.{◌≡◌, ◌⊎◌, ℕ, ◌+◌, ◌*◌, ◌^◌, ◌<◌, ◌≤◌, true, false, cond, ◌&&◌, ◌||◌, List, length, take, drop, Ok, refl, ap, sym, ◌∙◌, subst, inl, inr, arith}
use Rattle.std.specs.Prelude.{◌==◌, nat_le, nat_lt, nat_eq}
use Rattle.std.specs.List.{starts_with}
use Rattle.std.specs.Cmp.Lexicographic.{pointwise}
use Rattle.std.proofs.lemmas.Bool.{cases_Bool, leb-true, eqb-true}
use Rattle.std.proofs.Math.Nat.{mul-le-mul_right}
use Rattle.h5w_model.specs.Numbers.{num, range, field}
use Rattle.h5w_model.specs.Headers.{has, with_number, index_address_place}
use Rattle.h5w_model.specs.Messages.{byte, unlimited, ShapeFields, shape_tests, shape_fields, shape_at, IntTypeFields, LayoutFields, index_of, index_bytes, chunk_size, chunk_cols_at, index_place, address_place, layout_tests, layout_fields, layout_at}
use Rattle.h5w_model.proofs.HeaderLemmas.{drop-with_number}
use Rattle.h5w_model.proofs.CheckedLemmas.{checked-ok, checked-passed}
use Rattle.h5w_laws.proofs.PlaceLemmas.{one_index_place}
use Rattle.h5w_step_laws.proofs.NumberLemmas.{length_number, number_beside, field_beside, number_read}

-- ---- The dataspace

field_behind : (b : List ℕ) (q v i n : ℕ) → q + 8 ≤ length b → q + 8 ≤ i → field (with_number b q v) i n ≡ field b i n
field_behind b q v i n h low = ap (λ (x : List ℕ). num (take n x)) (drop-with_number b q v i low h)

rank_bounds : (n : ℕ) → ((n == 1) || (n == 2)) ≡ true → (1 ≤ n) × (n ≤ 2)
rank_bounds n h = go (cases_Bool (n == 1))
  where
    go : ((n == 1) ≡ true) ⊎ ((n == 1) ≡ false) → (1 ≤ n) × (n ≤ 2)
    go (inl one) = let e = eqb-true n 1 one in (omega arith, omega arith)
    go (inr other) = let e = eqb-true n 2 (ap (λ s. s || (n == 2)) (sym other) ∙ h) in (omega arith, omega arith)

-- a dataspace that is read
pub record IsSpace (body : List ℕ) (s : ShapeFields) : Type 0 where
  pub long : 12 ≤ length body
  pub some : 1 ≤ s.rank

pub is_space : (body : List ℕ) (s : ShapeFields) → shape_at body ≡ Ok s → IsSpace body s
unfolding shape_at shape_tests shape_fields
is_space body s h =
    let c = checked-passed (shape_tests body) (shape_fields body) s h in
    let bounds = rank_bounds (byte body 1) c.0.1.1.0 in
    let low = bounds.0 in
    record { long = omega (arith, leb-true (4 + 16 * byte body 1) (length body) c.0.1.1.1.1.1.0); some = subst (λ (f : ShapeFields). 1 ≤ f.rank) c.1 low }

pub shape_kept : (body : List ℕ) (s : ShapeFields) (rows : ℕ) → rows < 2 ^ 64 → shape_at body ≡ Ok s → shape_at (with_number body 4 rows) ≡ Ok (record s { rows = rows })
unfolding shape_at shape_tests shape_fields
shape_kept body s rows fits h =
    let c = checked-passed (shape_tests body) (shape_fields body) s h in
    let t = c.0 in
    let long = (is_space body s h).long in
    let bounds = rank_bounds (byte body 1) t.1.1.0 in
    let low = bounds.0 in
    let new = with_number body 4 rows in
    let size : length new ≡ length body = length_number body 4 rows (omega arith) in
    let b0 : byte new 0 ≡ byte body 0 = field_beside body 4 rows 0 1 (omega arith) (omega arith) (inr (omega arith)) in
    let b1 : byte new 1 ≡ byte body 1 = field_beside body 4 rows 1 1 (omega arith) (omega arith) (inr (omega arith)) in
    let b2 : byte new 2 ≡ byte body 2 = field_beside body 4 rows 2 1 (omega arith) (omega arith) (inr (omega arith)) in
    let b3 : byte new 3 ≡ byte body 3 = field_beside body 4 rows 3 1 (omega arith) (omega arith) (inr (omega arith)) in
    let f12 : field new 12 8 ≡ field body 12 8 = field_behind body 4 rows 12 8 (omega arith) (omega arith) in
    let f28 : field new 28 8 ≡ field body 28 8 = field_behind body 4 rows 28 8 (omega arith) (omega arith) in
    let most : field new (4 + 8 * byte new 1) 8 ≡ field body (4 + 8 * byte body 1) 8 =
    ap (λ (n : ℕ). field new (4 + 8 * n) 8) b1 ∙ field_behind body 4 rows (4 + 8 * byte body 1) 8 (omega arith) (omega arith) in
    checked-ok (shape_tests new) (shape_fields new) (
      ap (λ n. nat_le 4 n) size ∙ t.0,
      (
        ap (λ n. n == 2) b0 ∙ t.1.0,
        (
          ap (λ n. (n == 1) || (n == 2)) b1 ∙ t.1.1.0,
          (
            ap (λ n. has n 1) b2 ∙ t.1.1.1.0,
            (
              ap (λ n. n == 1) b3 ∙ t.1.1.1.1.0,
              (
                (λ i. nat_le (4 + 16 * b1 i) (size i)) ∙ t.1.1.1.1.1.0,
                (ap (λ n. n == unlimited) most ∙ t.1.1.1.1.1.1.0, ((λ i. (b1 i == 1) || (f28 i == unlimited) || (f28 i == f12 i)) ∙ t.1.1.1.1.1.1.1.0, tt)),
              ),
            ),
          ),
        ),
      ),
    )
    ∙ (λ i. Ok (record { rank = b1 i; rows = number_read body 4 rows (omega arith) fits i; cols = cond (b1 i == 1) 1 (f12 i); growing = (b1 i == 2) && (f28 i == unlimited) }))
    ∙ ap (λ (f : ShapeFields). Ok (record f { rows = rows })) c.1

-- ---- The layout

-- the rows do not count
pub layout_by_rows : (body : List ℕ) (s : ShapeFields) (t : IntTypeFields) (rows : ℕ) → layout_at body (record s { rows = rows }) t ≡ layout_at body s t
unfolding layout_at layout_fields
layout_by_rows body s t rows = refl

one_size_more : (j w : ℕ) → (j + 1) * w ≡ j * w + w
one_size_more j w = grind arith

size_within : (j count w : ℕ) → j < count → 5 + j * w + w ≤ 5 + count * w
size_within j count w h =
    let step : (j + 1) * w ≤ count * w = mul-le-mul_right w (omega (arith, h)) in
    let one = one_size_more j w in
    omega (arith, step, one)

pub layout_kept : (body : List ℕ) (s : ShapeFields) (t : IntTypeFields) (l : LayoutFields) (index : ℕ) → 1 ≤ s.rank → index < 2 ^ 64 → layout_at body s t ≡ Ok l
    → layout_at (with_number body (index_address_place body) index) s t ≡ Ok (record l { address = index })
unfolding layout_at layout_fields
layout_kept body s t l index some fits h =
    let c = checked-passed (layout_tests body s t) (layout_fields body s) l h in
    let p = c.0 in
    let place = one_index_place body s t l h in
    let k = index_address_place body in
    let is : k ≡ address_place body s = place.written ∙ sym (ap (λ (f : LayoutFields). f.place) c.1) in
    let room : k + 8 ≤ length body = subst (λ (n : ℕ). n + 8 ≤ length body) (sym place.written) place.inside in
    let new = with_number body k index in
    let ys = index_bytes (index_of s) in
    let w = byte body 4 in
    let size : length new ≡ length body = length_number body k index room in
    let ip : index_place body + length ys ≡ k = sym is in
    let stated : byte body 3 ≡ s.rank + 1 = eqb-true (byte body 3) (s.rank + 1) p.1.1.1.0 in
    let b0 : byte new 0 ≡ byte body 0 = field_beside body k index 0 1 room (omega arith) (inr (omega arith)) in
    let b1 : byte new 1 ≡ byte body 1 = field_beside body k index 1 1 room (omega arith) (inr (omega arith)) in
    let b3 : byte new 3 ≡ byte body 3 = field_beside body k index 3 1 room (omega arith) (inr (omega arith)) in
    let b4 : byte new 4 ≡ w = field_beside body k index 4 1 room (omega arith) (inr (omega arith)) in
    let same_place : index_place new ≡ index_place body = λ i. 5 + b3 i * b4 i in
    let sizes : (j : ℕ) → j ≤ s.rank → chunk_size new j ≡ chunk_size body j = λ j low.
    let within : 5 + j * w + w ≤ 5 + byte body 3 * w = size_within j (byte body 3) w (omega arith) in
    ap (λ (n : ℕ). field new (5 + j * n) n) b4 ∙ field_beside body k index (5 + j * w) w room (omega arith) (inr (omega arith)) in
    let first = sizes 0 (omega arith) in
    let cols : chunk_cols_at new s ≡ chunk_cols_at body s = ap (λ n. cond (s.rank == 1) 1 n) (sizes 1 some) in
    let last = sizes s.rank (omega arith) in
    let spelled : range new (index_place body) (length ys) ≡ range body (index_place body) (length ys) =
    number_beside body k index (index_place body) (length ys) room (omega arith) (inr (omega arith)) in
    let end : address_place new s ≡ address_place body s = ap (λ n. n + length ys) same_place in
    let read : field new (address_place new s) 8 ≡ index =
    ap (λ (n : ℕ). field new n 8) (end ∙ sym is) ∙ number_read body k index (omega arith) fits in
    checked-ok (layout_tests new s t) (layout_fields new s) (
      (λ i. nat_lt (same_place i) (size i)) ∙ p.0,
      (
        ap (λ n. n == 4) b0 ∙ p.1.0,
        (
          ap (λ n. n == 2) b1 ∙ p.1.1.0,
          (
            ap (λ n. n == s.rank + 1) b3 ∙ p.1.1.1.0,
            (
              ap (λ n. nat_le 1 n && nat_le n 8) b4 ∙ p.1.1.1.1.0,
              (
                ap (nat_lt 0) first ∙ p.1.1.1.1.1.0,
                (
                  ap (nat_lt 0) cols ∙ p.1.1.1.1.1.1.0,
                  (
                    ap (λ n. n == t.size) last ∙ p.1.1.1.1.1.1.1.0,
                    (
                      (λ i. nat_lt (first i * cols i * t.size) (2 ^ 32)) ∙ p.1.1.1.1.1.1.1.1.0,
                      (
                        ap (λ n. starts_with nat_eq (drop n new) ys) same_place ∙ ap (λ (x : List ℕ). pointwise nat_eq ys x) spelled ∙ p.1.1.1.1.1.1.1.1.1.0,
                        ((λ i. nat_le (same_place i + length ys + 8) (size i)) ∙ p.1.1.1.1.1.1.1.1.1.1.0, tt),
                      ),
                    ),
                  ),
                ),
              ),
            ),
          ),
        ),
      ),
    )
    ∙ (λ i. Ok (record { chunk_rows = first i; chunk_cols = cols i; index = index_of s; address = read i; place = end i }))
    ∙ ap (λ (f : LayoutFields). Ok (record f { address = index })) c.1
