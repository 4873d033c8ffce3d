-- The integers of a type and their bytes, both ways.
use Rattle.std.proofs.Common.{◌≡◌, ℕ, zero, suc, ◌+◌, ◌-◌, ◌*◌, ◌/◌, ◌^◌, ◌<◌, ◌≤◌, Bool, true, false, List, length, get_or, replicate, Some, None, refl, ap, sym, ◌∙◌, ◌⊎◌, subst, arith}
use Rattle.std.specs.Prelude.{ℤ, pos, negsuc, ◌-ℤ◌}
use Rattle.std.proofs.Math.Nat.{pow-succ'}
use Rattle.std.proofs.lemmas.Bool.{cond-true}
use Rattle.std.proofs.lemmas.Option.{cond_some}
use Rattle.std.proofs.lemmas.Bool.Decides.{nat_tests}
use Rattle.std.proofs.lemmas.Int.{ints}
use Rattle.std.proofs.lemmas.List.{reverse-reverse, length-reverse, get_or-reverse, get_or_default, take_at}
use Rattle.h5w_model.specs.Numbers.{AreBytes, num, le}
use Rattle.h5w_model.specs.Messages.{IntTypeFields, IsIntType, is_int_size}
use Rattle.h5w_model.specs.Integers.{in_order, signed_of, span_of, value_at, is_in_span, unsigned_of, cell_bytes_of, cell_bytes, cell_of}
use Rattle.h5w_model.proofs.NumberLemmas.{length-le, AreBytes-le, num-le, num-lt, le-num}

-- an integer has 1, 2, 4 or 8 bytes
pub int_sizes : (n : ℕ) → is_int_size n ≡ true → (n ≡ 1) ⊎ ((n ≡ 2) ⊎ ((n ≡ 4) ⊎ (n ≡ 8)))
int_sizes n h = grind (arith, nat_tests)

pub int_size_bounds : (n : ℕ) → is_int_size n ≡ true → (1 ≤ n) × (n ≤ 8)
int_size_bounds n h = let s = int_sizes n h in (omega arith, omega arith)

-- the two halves of the numbers of n bytes
pub half_span : (n : ℕ) → 1 ≤ n → 256 ^ n / 2 + 256 ^ n / 2 ≡ 256 ^ n
half_span zero h = absurd (omega arith)
half_span (suc n) h = let p : 256 ^ suc n ≡ 256 * 256 ^ n = pow-succ' 256 n in omega arith

pub negated : (m n : ℕ) → n < m → pos n -ℤ pos m ≡ negsuc (m - suc n)
negated m n h = omega (arith, ints)

-- a number below m is in the type as it is read
pub is_in_span-signed_of : (signed : Bool) (m n : ℕ) → m / 2 + m / 2 ≡ m → n < m → is_in_span signed m (signed_of signed m n) ≡ true
is_in_span-signed_of false m n even below = grind (arith, nat_tests, ints)
is_in_span-signed_of true m n even below = grind (arith, nat_tests, ints)

pub unsigned_of-signed_of : (signed : Bool) (m n : ℕ) → n < m → unsigned_of m (signed_of signed m n) ≡ n
unsigned_of-signed_of false m n below = refl
unsigned_of-signed_of true m n below = grind (arith, nat_tests, ints, negated)

pub unsigned_of-lt : (signed : Bool) (m : ℕ) (v : ℤ) → m / 2 + m / 2 ≡ m → is_in_span signed m v ≡ true → unsigned_of m v < m
unsigned_of-lt false m (pos n) even fits = grind (arith, nat_tests, ints)
unsigned_of-lt false m (negsuc n) even fits = grind (arith, nat_tests, ints)
unsigned_of-lt true m (pos n) even fits = grind (arith, nat_tests, ints)
unsigned_of-lt true m (negsuc n) even fits = grind (arith, nat_tests, ints)

pub signed_of-unsigned_of : (signed : Bool) (m : ℕ) (v : ℤ) → m / 2 + m / 2 ≡ m → is_in_span signed m v ≡ true → signed_of signed m (unsigned_of m v) ≡ v
signed_of-unsigned_of false m (pos n) even fits = refl
signed_of-unsigned_of false m (negsuc n) even fits = grind (arith, nat_tests, ints)
signed_of-unsigned_of true m (pos n) even fits = grind (arith, nat_tests, ints)
signed_of-unsigned_of true m (negsuc n) even fits = grind (arith, nat_tests, ints)

pub in_order-in_order : (big : Bool) (bytes : List ℕ) → in_order big (in_order big bytes) ≡ bytes
in_order-in_order false bytes = refl
in_order-in_order true bytes = reverse-reverse bytes

pub length-in_order : (big : Bool) (bytes : List ℕ) → length (in_order big bytes) ≡ length bytes
length-in_order false bytes = refl
length-in_order true bytes = length-reverse bytes

pub AreBytes-in_order : (big : Bool) (bytes : List ℕ) → AreBytes bytes → AreBytes (in_order big bytes)
AreBytes-in_order false bytes all = all
AreBytes-in_order true bytes all = λ k d h.
    let len = length-reverse bytes in
    let below : k < length bytes = omega arith in
    rw (get_or-reverse bytes k d below) (all (length bytes - 1 - k) d (omega arith))

pub num_in_order-lt : (bytes : List ℕ) (t : IntTypeFields) → AreBytes bytes → length bytes ≡ t.size → num (in_order t.big bytes) < span_of t
num_in_order-lt bytes t all len =
    subst (λ (n : ℕ). num (in_order t.big bytes) < 256 ^ n) (length-in_order t.big bytes ∙ len) (num-lt (in_order t.big bytes) (AreBytes-in_order t.big bytes all))

pub some_cell : (v : ℤ) (t : IntTypeFields) (bytes : List ℕ) → cell_bytes_of v t ≡ Some bytes → (is_in_span t.signed (span_of t) v ≡ true) × (in_order t.big (le t.size (unsigned_of (span_of t) v)) ≡ bytes)
unfolding cell_bytes_of
some_cell v t bytes e = cond_some (is_in_span t.signed (span_of t) v) (in_order t.big (le t.size (unsigned_of (span_of t) v))) bytes e

-- a value's bytes are as many as the type's size
pub length-cell_bytes_of : (v : ℤ) (t : IntTypeFields) (bytes : List ℕ) → cell_bytes_of v t ≡ Some bytes → length bytes ≡ t.size
length-cell_bytes_of v t bytes e =
    let h = some_cell v t bytes e in
    sym (ap length h.1) ∙ length-in_order t.big (le t.size (unsigned_of (span_of t) v)) ∙ length-le t.size (unsigned_of (span_of t) v)

-- a value's bytes are read as that value
pub value_at-cell_bytes_of : (v : ℤ) (t : IntTypeFields) (bytes : List ℕ) → IsIntType t → cell_bytes_of v t ≡ Some bytes → value_at bytes t ≡ v
unfolding value_at
value_at-cell_bytes_of v t bytes typed e =
    let h = some_cell v t bytes e in
    let even = half_span t.size (int_size_bounds t.size typed).0 in
    let n = unsigned_of (span_of t) v in
    let read : num (in_order t.big bytes) ≡ n =
    ap (λ (b : List ℕ). num (in_order t.big b)) (sym h.1)
    ∙ ap num (in_order-in_order t.big (le t.size n))
    ∙ num-le t.size n (unsigned_of-lt t.signed (span_of t) v even h.0) in
    ap (signed_of t.signed (span_of t)) read ∙ signed_of-unsigned_of t.signed (span_of t) v even h.0

-- what bytes are read as is a value of the type
pub is_in_span-value_at : (bytes : List ℕ) (t : IntTypeFields) → IsIntType t → AreBytes bytes → length bytes ≡ t.size → is_in_span t.signed (span_of t) (value_at bytes t) ≡ true
unfolding value_at
is_in_span-value_at bytes t typed all len =
    let even = half_span t.size (int_size_bounds t.size typed).0 in
    is_in_span-signed_of t.signed (span_of t) (num (in_order t.big bytes)) even (num_in_order-lt bytes t all len)

-- and has those bytes
pub cell_bytes_of-value_at : (bytes : List ℕ) (t : IntTypeFields) → IsIntType t → AreBytes bytes → length bytes ≡ t.size → cell_bytes_of (value_at bytes t) t ≡ Some bytes
unfolding cell_bytes_of value_at
cell_bytes_of-value_at bytes t typed all len =
    let low = in_order t.big bytes in
    let back : in_order t.big (le t.size (unsigned_of (span_of t) (value_at bytes t))) ≡ bytes =
    ap (λ (n : ℕ). in_order t.big (le t.size n)) (unsigned_of-signed_of t.signed (span_of t) (num low) (num_in_order-lt bytes t all len))
    ∙ ap (λ (w : ℕ). in_order t.big (le w (num low))) (sym (length-in_order t.big bytes ∙ len))
    ∙ ap (in_order t.big) (le-num low (AreBytes-in_order t.big bytes all))
    ∙ in_order-in_order t.big bytes in
    cond-true (is_in_span t.signed (span_of t) (value_at bytes t)) (Some (in_order t.big (le t.size (unsigned_of (span_of t) (value_at bytes t))))) None (is_in_span-value_at bytes t typed all len)
    ∙ ap (λ (b : List ℕ). Some b) back

pub cell_bytes-cell_of : (bytes : List ℕ) → cell_bytes (cell_of bytes) ≡ bytes
cell_bytes-cell_of bytes = take_at bytes (replicate (8 - length bytes) 0) (length bytes) refl

-- a list whose items are bytes at one default
pub AreBytes-each : (bytes : List ℕ) → ((k : ℕ) → get_or bytes k 0 < 256) → AreBytes bytes
AreBytes-each bytes h = λ k d below. subst (λ (b : ℕ). b < 256) (get_or_default bytes k 0 d below) (h k)
