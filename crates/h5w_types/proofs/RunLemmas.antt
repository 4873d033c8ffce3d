-- Runs of values, cell by cell.
use Rattle.std.proofs.Common.{◌≡◌, ℕ, zero, suc, ◌+◌, ◌*◌, ◌/◌, ◌%◌, ◌^◌, ◌<◌, ◌≤◌, List, [], ◌∷◌, ◌++◌, length, take, drop, replicate, get_or, Option, Some, None, Bool, true, false, ◌&&◌, ℤ, pos, negsuc, ◌-◌, sym, refl, ap, ◌∙◌, arith, rules, tests, length-append, drop-cons}
use Rattle.std.proofs.Math.Nat.{pow-succ'}
use Rattle.std.proofs.lemmas.Bool.{cond-false, cond-true}
use Rattle.std.proofs.lemmas.List.{append_assoc, append-nil, drop_all, drop_at, length-take-le, take_all, take_at}
use Rattle.std.specs.Int.Signed.{le_z, lt_z}
use Rattle.std.specs.Option.{unwrap_or}
use Rattle.h5w_model.specs.Integers.{cell_bytes_of, cell_of, in_order, is_in_span, span_of, unsigned_of}
use Rattle.h5w_model.specs.Numbers.{le}
use Rattle.h5w_model.specs.declared.cell.Cell.{Cell}
use Rattle.h5w_model.specs.Lawful.{first_outside}
use Rattle.h5w_model.specs.Messages.{IntTypeFields}
use Rattle.h5w_model.proofs.IntegerLemmas.{cell_bytes-cell_of, length-cell_bytes_of, length-in_order, some_cell}
use Rattle.h5w_model.proofs.NumberLemmas.{length-le}
use Rattle.h5w_types.specs.Runs.{run_bytes}

-- the first value that is outside, by whether this one has a cell
abbrev pub by_cell : IntTypeFields → ℕ → ℤ → List ℤ → Option (List ℕ) → Option (ℕ × ℤ)
by_cell t i v vs (Some b) = first_outside t (i + 1) vs
by_cell t i v vs None = Some (i, v)

pub first_outside-cons : (t : IntTypeFields) (i : ℕ) (v : ℤ) (vs : List ℤ) → first_outside t i (v ∷ vs) ≡ by_cell t i v vs (cell_bytes_of v t)
first_outside-cons t i v vs = refl

pub record HasCell (t : IntTypeFields) (i : ℕ) (v : ℤ) (vs : List ℤ) : Type 0 where
  pub bytes : List ℕ
  pub is : cell_bytes_of v t ≡ Some bytes
  pub rest : first_outside t (i + 1) vs ≡ None

has_cell : (t : IntTypeFields) (i : ℕ) (v : ℤ) (vs : List ℤ) (o : Option (List ℕ)) → cell_bytes_of v t ≡ o → by_cell t i v vs o ≡ None → HasCell t i v vs
has_cell t i v vs (Some b) is inside = record { bytes = b; is = is; rest = inside }
has_cell t i v vs None is inside = cc

pub first_has_cell : (t : IntTypeFields) (i : ℕ) (v : ℤ) (vs : List ℤ) → first_outside t i (v ∷ vs) ≡ None → HasCell t i v vs
first_has_cell t i v vs inside = has_cell t i v vs (cell_bytes_of v t) refl (sym (first_outside-cons t i v vs) ∙ inside)

-- where no value is outside each has a cell
pub fits_each : (t : IntTypeFields) (i : ℕ) (vs : List ℤ) → first_outside t i vs ≡ None → (k : ℕ) → k < length vs → (b : List ℕ) × (cell_bytes_of (get_or vs k (pos 0)) t ≡ Some b)
fits_each t i [] inside k below = absurd (omega arith)
fits_each t i (v ∷ vs) inside zero below = let first = first_has_cell t i v vs inside in (first.bytes, first.is)
fits_each t i (v ∷ vs) inside (suc k) below = fits_each t (i + 1) vs (first_has_cell t i v vs inside).rest k (omega arith)

-- how long their cells are
pub length-run_bytes : (t : IntTypeFields) (i : ℕ) (vs : List ℤ) → first_outside t i vs ≡ None → length (run_bytes t vs) ≡ length vs * t.size
unfolding run_bytes
length-run_bytes t i [] inside = omega arith
length-run_bytes t i (v ∷ vs) inside =
    let first = first_has_cell t i v vs inside in
    let cell : length (unwrap_or (cell_bytes_of v t) []) ≡ t.size = ap (λ (o : Option (List ℕ)). length (unwrap_or o [])) first.is ∙ length-cell_bytes_of v t first.bytes first.is in
    length-append (unwrap_or (cell_bytes_of v t) []) (run_bytes t vs) ∙ omega (arith, cell, length-run_bytes t (i + 1) vs first.rest)

run_bytes-drop : (t : IntTypeFields) (values : List ℤ) (i : ℕ) → i < length values → run_bytes t (drop i values) ≡ unwrap_or (cell_bytes_of (get_or values i (pos 0)) t) [] ++ run_bytes t (drop (i + 1) values)
unfolding run_bytes
run_bytes-drop t [] i inside = absurd (omega arith)
run_bytes-drop t (v ∷ vs) zero inside = refl
run_bytes-drop t (v ∷ vs) (suc i) inside =
    run_bytes-drop t vs i (omega arith) ∙ ap (λ (n : ℕ). unwrap_or (cell_bytes_of (get_or vs i (pos 0)) t) [] ++ run_bytes t (drop n (v ∷ vs))) (let e : suc (i + 1) ≡ suc i + 1 = omega arith in e)

-- a cell more is put
pub run_more : (t : IntTypeFields) (before done all bytes : List ℕ) (values : List ℤ) (i : ℕ) → i < length values → cell_bytes_of (get_or values i (pos 0)) t ≡ Some bytes
    → done ≡ before ++ bytes → before ++ run_bytes t (drop i values) ≡ all → done ++ run_bytes t (drop (i + 1) values) ≡ all
run_more t before done all bytes values i inside is added goes =
    let rest = run_bytes t (drop (i + 1) values) in
    let value : unwrap_or (cell_bytes_of (get_or values i (pos 0)) t) [] ≡ bytes = ap (λ (o : Option (List ℕ)). unwrap_or o []) is in
    ap (λ (x : List ℕ). x ++ rest) added ∙ append_assoc before bytes rest
    ∙ ap (λ (b : List ℕ). before ++ (b ++ rest)) (sym value) ∙ ap (λ (r : List ℕ). before ++ r) (sym (run_bytes-drop t values i inside)) ∙ goes

-- all cells are put
pub run_all : (t : IntTypeFields) (done all : List ℕ) (values : List ℤ) (i : ℕ) → length values ≤ i → done ++ run_bytes t (drop i values) ≡ all → done ≡ all
unfolding run_bytes
run_all t done all values i past goes = sym (append-nil done) ∙ ap (λ (vs : List ℤ). done ++ run_bytes t vs) (sym (drop_all i values past)) ∙ goes

-- ---- By the least value of a type and the first number above the greatest

not_low : (a b : ℤ) → lt_z a b ≡ true → le_z b a ≡ false
not_low (pos m) (pos n) e = search (rules, tests)
not_low (pos m) (negsuc n) e = cc
not_low (negsuc m) (pos n) e = refl
not_low (negsuc m) (negsuc n) e = search (rules, tests)

not_high : (a b : ℤ) → le_z b a ≡ true → lt_z a b ≡ false
not_high (pos m) (pos n) e = search (rules, tests)
not_high (pos m) (negsuc n) e = refl
not_high (negsuc m) (pos n) e = cc
not_high (negsuc m) (negsuc n) e = search (rules, tests)

low : (a b : ℤ) → lt_z a b ≡ false → le_z b a ≡ true
low (pos m) (pos n) e = search (rules, tests)
low (pos m) (negsuc n) e = refl
low (negsuc m) (pos n) e = cc
low (negsuc m) (negsuc n) e = search (rules, tests)

high : (a b : ℤ) → le_z b a ≡ false → lt_z a b ≡ true
high (pos m) (pos n) e = search (rules, tests)
high (pos m) (negsuc n) e = cc
high (negsuc m) (pos n) e = refl
high (negsuc m) (negsuc n) e = search (rules, tests)

-- these are the bounds of the type
abbrev AreBounds : IntTypeFields → ℤ → ℤ → Type 0
AreBounds t least above = (v : ℤ) → is_in_span t.signed (span_of t) v ≡ (le_z least v && lt_z v above)

first_here : (t : IntTypeFields) (i : ℕ) (v : ℤ) (vs : List ℤ) → is_in_span t.signed (span_of t) v ≡ false → first_outside t i (v ∷ vs) ≡ Some (i, v)
unfolding cell_bytes_of
first_here t i v vs e = ap (by_cell t i v vs) (cond-false (is_in_span t.signed (span_of t) v) (Some (in_order t.big (le t.size (unsigned_of (span_of t) v)))) None e)

first_later : (t : IntTypeFields) (i : ℕ) (v : ℤ) (vs : List ℤ) → is_in_span t.signed (span_of t) v ≡ true → first_outside t i (v ∷ vs) ≡ first_outside t (i + 1) vs
unfolding cell_bytes_of
first_later t i v vs e = ap (by_cell t i v vs) (cond-true (is_in_span t.signed (span_of t) v) (Some (in_order t.big (le t.size (unsigned_of (span_of t) v)))) None e)

cons_at : (values : List ℤ) (i : ℕ) → i < length values → drop i values ≡ get_or values i (pos 0) ∷ drop (i + 1) values
cons_at values i inside = drop-cons values i (pos 0) inside ∙ ap (λ (n : ℕ). get_or values i (pos 0) ∷ drop n values) (let e : suc i ≡ i + 1 = omega arith in e)

outside_at : (t : IntTypeFields) (values : List ℤ) (i : ℕ) → i < length values → is_in_span t.signed (span_of t) (get_or values i (pos 0)) ≡ false
    → first_outside t i (drop i values) ≡ Some (i, get_or values i (pos 0))
outside_at t values i inside e = ap (λ (vs : List ℤ). first_outside t i vs) (cons_at values i inside) ∙ first_here t i (get_or values i (pos 0)) (drop (i + 1) values) e

-- a value below the least is outside
pub below_least : (t : IntTypeFields) (least above : ℤ) (values : List ℤ) (i : ℕ) → AreBounds t least above → i < length values
    → lt_z (get_or values i (pos 0)) least ≡ true → first_outside t i (drop i values) ≡ Some (i, get_or values i (pos 0))
below_least t least above values i bounds inside e =
    let v = get_or values i (pos 0) in
    outside_at t values i inside (bounds v ∙ ap (λ (b : Bool). b && lt_z v above) (not_low v least e))

-- and one above the greatest
pub above_greatest : (t : IntTypeFields) (least above : ℤ) (values : List ℤ) (i : ℕ) → AreBounds t least above → i < length values
    → lt_z (get_or values i (pos 0)) least ≡ false → le_z above (get_or values i (pos 0)) ≡ true
    → first_outside t i (drop i values) ≡ Some (i, get_or values i (pos 0))
above_greatest t least above values i bounds inside l e =
    let v = get_or values i (pos 0) in
    outside_at t values i inside (bounds v ∙ ap (λ (b : Bool). b && lt_z v above) (low v least l) ∙ not_high v above e)

-- one between is inside
pub between : (t : IntTypeFields) (least above : ℤ) (values : List ℤ) (i : ℕ) → AreBounds t least above → i < length values
    → lt_z (get_or values i (pos 0)) least ≡ false → le_z above (get_or values i (pos 0)) ≡ false
    → first_outside t i (drop i values) ≡ first_outside t (i + 1) (drop (i + 1) values)
between t least above values i bounds inside l e =
    let v = get_or values i (pos 0) in
    ap (λ (vs : List ℤ). first_outside t i vs) (cons_at values i inside)
    ∙ first_later t i v (drop (i + 1) values) (bounds v ∙ ap (λ (b : Bool). b && lt_z v above) (low v least l) ∙ high v above e)

-- ---- Cells one by one

zeros : (k : ℕ) → le k 0 ≡ replicate k 0
unfolding le
zeros zero = refl
zeros (suc k) = ap (λ (bs : List ℕ). 0 ∷ bs) (zeros k)

-- in more bytes than a number needs the others are 0
le-wide : (w k n : ℕ) → n < 256 ^ w → le (w + k) n ≡ le w n ++ replicate k 0
unfolding le
le-wide zero k n fits =
    let none : n ≡ 0 = omega arith in
    let all : 0 + k ≡ k = omega arith in
    (λ i. le (all i) (none i)) ∙ zeros k
le-wide (suc w) k n fits =
    let p : 256 ^ suc w ≡ 256 * 256 ^ w = pow-succ' 256 w in
    let one : suc w + k ≡ suc (w + k) = omega arith in
    ap (λ (m : ℕ). le m n) one ∙ ap (λ (bs : List ℕ). n % 256 ∷ bs) (le-wide w k (n / 256) (omega arith))

-- the first of 8 bytes are those of the number, and the others are 0
pub le-eight : (s n : ℕ) → s ≤ 8 → n < 256 ^ s → le 8 n ≡ le s n ++ replicate (8 - s) 0
le-eight s n short fits = ap (λ (k : ℕ). le k n) (let e : 8 ≡ s + (8 - s) = omega arith in e) ∙ le-wide s (8 - s) n fits

-- a cell whose first bytes are those of the number in the type's order, and whose others are 0
pub cell-is : (big : Bool) (s n : ℕ) → s ≤ 8 → n < 256 ^ s → record { bytes = in_order big (take s (le 8 n)) ++ drop s (le 8 n); size = s } ≡ cell_of (in_order big (le s n))
cell-is big s n short fits =
    let wide = le-eight s n short fits in
    let long : length (le s n) ≡ s = length-le s n in
    let first : take s (le 8 n) ≡ le s n = ap (take s) wide ∙ take_at (le s n) (replicate (8 - s) 0) s long in
    let rest : drop s (le 8 n) ≡ replicate (8 - s) 0 = ap (drop s) wide ∙ drop_at (le s n) (replicate (8 - s) 0) s long in
    let size : length (in_order big (le s n)) ≡ s = length-in_order big (le s n) ∙ long in
    (λ i. record { bytes = in_order big (first i) ++ rest i; size = s })
    ∙ (λ i. record { bytes = in_order big (le s n) ++ replicate (8 - sym size i) 0; size = sym size i })

-- each of the values is one of the type
pub in_span_each : (t : IntTypeFields) (vs : List ℤ) → first_outside t 0 vs ≡ None → (k : ℕ) → k < length vs → is_in_span t.signed (span_of t) (get_or vs k (pos 0)) ≡ true
in_span_each t vs inside k below =
    let fits = fits_each t 0 vs inside k below in
    (some_cell (get_or vs k (pos 0)) t fits.0 fits.1).0

-- the bytes of the cell of a value's number
pub cell_put : (t : IntTypeFields) (v : ℤ) (n : ℕ) (cell : Cell) → is_in_span t.signed (span_of t) v ≡ true → n ≡ unsigned_of (span_of t) v
    → cell ≡ cell_of (in_order t.big (le t.size n)) → cell_bytes_of v t ≡ Some (take t.size cell.bytes)
unfolding cell_bytes_of
cell_put t v n cell inside number made =
    let bytes = in_order t.big (le t.size n) in
    let long : length bytes ≡ t.size = length-in_order t.big (le t.size n) ∙ length-le t.size n in
    let same : take t.size cell.bytes ≡ bytes =
    ap (λ (c : Cell). take t.size c.bytes) made ∙ ap (λ (k : ℕ). take k (bytes ++ replicate (8 - length bytes) 0)) (sym long) ∙ cell_bytes-cell_of bytes in
    cond-true (is_in_span t.signed (span_of t) v) (Some (in_order t.big (le t.size (unsigned_of (span_of t) v)))) None inside
    ∙ ap (λ (k : ℕ). Some (in_order t.big (le t.size k))) (sym number) ∙ ap (λ (b : List ℕ). Some b) (sym same)

-- room for the values that are left is room for this one and for those behind it
pub one_less : (n i size : ℕ) → i < n → (n - i) * size ≡ size + (n - (i + 1)) * size
one_less n i size below =
    let e : n - i ≡ (n - (i + 1)) + 1 = omega arith in
    ap (λ (k : ℕ). k * size) e ∙ one_more (n - (i + 1)) size
  where
    one_more : (k size : ℕ) → (k + 1) * size ≡ size + k * size
    one_more k size = grind arith

-- the cell of a value, by its number
pub cell_of_number : (t : IntTypeFields) (v : ℤ) (n : ℕ) → is_in_span t.signed (span_of t) v ≡ true → n ≡ unsigned_of (span_of t) v → cell_bytes_of v t ≡ Some (in_order t.big (le t.size n))
unfolding cell_bytes_of
cell_of_number t v n inside number =
    cond-true (is_in_span t.signed (span_of t) v) (Some (in_order t.big (le t.size (unsigned_of (span_of t) v)))) None inside
    ∙ ap (λ (k : ℕ). Some (in_order t.big (le t.size k))) (sym number)

-- a cell more is written at its place
pub write_more : (t : IntTypeFields) (before now all bytes : List ℕ) (values : List ℤ) (i : ℕ) → i < length values → length before ≡ length values * t.size → length bytes ≡ t.size → cell_bytes_of (get_or values i (pos 0)) t ≡ Some bytes
    → now ≡ (take (i * t.size) before ++ bytes) ++ drop (i * t.size + t.size) before → take (i * t.size) before ++ run_bytes t (drop i values) ≡ all → take ((i + 1) * t.size) now ++ run_bytes t (drop (i + 1) values) ≡ all
write_more t before now all bytes values i inside sized long is written goes =
    let size = t.size in
    let less = one_less (length values) i size inside in
    let split = part (length values) i size inside in
    let next : (i + 1) * size ≡ i * size + size = grind arith in
    let front = length-take-le (i * size) before (omega (arith, split, sized)) in
    let done : take ((i + 1) * size) now ≡ take (i * size) before ++ bytes =
    ap (take ((i + 1) * size)) written
    ∙ take_at (take (i * size) before ++ bytes) (drop (i * size + size) before) ((i + 1) * size) (length-append (take (i * size) before) bytes ∙ omega (arith, front, long, next)) in
    run_more t (take (i * size) before) (take ((i + 1) * size) now) all bytes values i inside is done goes
  where
    part : (n i size : ℕ) → i < n → i * size + (n - i) * size ≡ n * size
    part n i size below = both i (n - i) size ∙ ap (λ (k : ℕ). k * size) (let e : i + (n - i) ≡ n = omega arith in e)
      where
        both : (j k size : ℕ) → j * size + k * size ≡ (j + k) * size
        both j k size = grind arith

-- all cells are written
pub write_all : (t : IntTypeFields) (now all : List ℕ) (values : List ℤ) (i : ℕ) → length values ≤ i → i ≤ length values → length now ≡ length values * t.size → take (i * t.size) now ++ run_bytes t (drop i values) ≡ all → now ≡ all
write_all t now all values i past within sized goes =
    let same : i ≡ length values = omega arith in
    let size = t.size in
    sym (take_all (i * size) now (let e = ap (λ (k : ℕ). k * size) same in omega (arith, e, sized))) ∙ run_all t (take (i * size) now) all values i past goes

-- the cells of one value are its own
pub run-one : (t : IntTypeFields) (v : ℤ) (bytes : List ℕ) → cell_bytes_of v t ≡ Some bytes → bytes ≡ run_bytes t (v ∷ [])
unfolding run_bytes
run-one t v bytes is = sym (append-nil (unwrap_or (cell_bytes_of v t) []) ∙ ap (λ (o : Option (List ℕ)). unwrap_or o []) is)

-- ---- Runs in parts

-- no value is outside, wherever the count begins
none_at : (t : IntTypeFields) (i j : ℕ) (vs : List ℤ) → first_outside t i vs ≡ None → first_outside t j vs ≡ None
none_at t i j [] inside = refl
none_at t i j (v ∷ vs) inside =
    let h = first_has_cell t i v vs inside in
    first_outside-cons t j v vs ∙ ap (by_cell t j v vs) h.is ∙ none_at t (i + 1) (j + 1) vs h.rest

front_none : (t : IntTypeFields) (i : ℕ) (a b : List ℤ) → first_outside t i (a ++ b) ≡ None → first_outside t i a ≡ None
front_none t i [] b inside = refl
front_none t i (v ∷ a) b inside =
    let h = first_has_cell t i v (a ++ b) inside in
    first_outside-cons t i v a ∙ ap (by_cell t i v a) h.is ∙ front_none t (i + 1) a b h.rest

rest_none : (t : IntTypeFields) (i : ℕ) (a b : List ℤ) → first_outside t i (a ++ b) ≡ None → first_outside t i b ≡ None
rest_none t i [] b inside = inside
rest_none t i (v ∷ a) b inside =
    let h = first_has_cell t i v (a ++ b) inside in
    none_at t (i + 1) i b (rest_none t (i + 1) a b h.rest)

run_bytes-append : (t : IntTypeFields) (a b : List ℤ) → run_bytes t (a ++ b) ≡ run_bytes t a ++ run_bytes t b
unfolding run_bytes
run_bytes-append t [] b = refl
run_bytes-append t (v ∷ a) b =
    let cell = unwrap_or (cell_bytes_of v t) [] in
    ap (λ (bs : List ℕ). cell ++ bs) (run_bytes-append t a b) ∙ sym (append_assoc cell (run_bytes t a) (run_bytes t b))

-- the values that are left, of which these are the next
pub record Parted (t : IntTypeFields) (part behind : List ℤ) : Type 0 where
  pub front : first_outside t 0 part ≡ None
  pub rest : first_outside t 0 behind ≡ None
  pub len : length (run_bytes t part) ≡ length part * t.size
  pub room : (length part + length behind) * t.size ≡ length part * t.size + length behind * t.size

pub parted : (t : IntTypeFields) (left part behind : List ℤ) → left ≡ part ++ behind → first_outside t 0 left ≡ None → Parted t part behind
parted t left part behind is inside =
    let all : first_outside t 0 (part ++ behind) ≡ None = sym (ap (first_outside t 0) is) ∙ inside in
    let front = front_none t 0 part behind all in
    record { front = front; rest = rest_none t 0 part behind all; len = length-run_bytes t 0 part front; room = both (length part) (length behind) t.size }
  where
    both : (j k size : ℕ) → (j + k) * size ≡ j * size + k * size
    both j k size = grind arith

-- the next part is put
pub part_more : (t : IntTypeFields) (before done all : List ℕ) (left part behind : List ℤ) → left ≡ part ++ behind → done ≡ before ++ run_bytes t part → before ++ run_bytes t left ≡ all → done ++ run_bytes t behind ≡ all
part_more t before done all left part behind is added goes =
    ap (λ (x : List ℕ). x ++ run_bytes t behind) added ∙ append_assoc before (run_bytes t part) (run_bytes t behind)
    ∙ ap (λ (x : List ℕ). before ++ x) (sym (run_bytes-append t part behind)) ∙ ap (λ (vs : List ℤ). before ++ run_bytes t vs) (sym is) ∙ goes

-- all parts are put
pub part_all : (t : IntTypeFields) (done all : List ℕ) (left : List ℤ) → length left ≡ 0 → done ++ run_bytes t left ≡ all → done ≡ all
unfolding run_bytes
part_all t done all [] none goes = sym (append-nil done) ∙ goes
part_all t done all (v ∷ left) none goes = absurd (omega arith)
