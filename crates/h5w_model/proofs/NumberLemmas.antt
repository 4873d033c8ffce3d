-- Numbers and their bytes, and fields of lists that are put together.
use Rattle.std.proofs.Common.{◌≡◌, ℕ, zero, suc, ◌+◌, ◌-◌, ◌*◌, ◌/◌, ◌%◌, ◌^◌, ◌<◌, ◌≤◌, List, [], ◌∷◌, ◌++◌, length, get_or, take, drop, replicate, refl, ap, sym, inl, inr, ◌∙◌, arith, rules, pow-add}
use Rattle.std.proofs.Math.Nat.{one-le-pow, pow-succ'}
use Rattle.std.proofs.Math.Pow.{pow_mono}
use Rattle.std.proofs.lemmas.Bool.{cases_lt, lt-ltb}
use Rattle.std.proofs.lemmas.Bool.Decides.{nat_tests}
use Rattle.std.proofs.lemmas.List.{take-append-le, drop-append-le, take_all, drop_at, take-take, drop-take, drop-drop, drop_more, drop-replicate, length-drop, length-take, length-append}
use Rattle.std.proofs.Math.Seq.{drop-nil}
use Rattle.std.proofs.lemmas.List.Elements.{All-nil, All-cons, All-head, All-tail, All-take, All-drop}
use Rattle.h5w_model.specs.Numbers.{AreBytes, num, le, range, field, halvings, width_of}

-- a number in w bytes has w bytes
pub length-le : (w v : ℕ) → length (le w v) ≡ w
unfolding le
length-le zero v = refl
length-le (suc w) v = let e = length-le w (v / 256) in omega (arith, e)

-- each of them is a byte
pub AreBytes-le : (w v : ℕ) → AreBytes (le w v)
unfolding le
AreBytes-le zero v = All-nil (λ (b : ℕ). b < 256)
AreBytes-le (suc w) v = All-cons (λ (b : ℕ). b < 256) (v % 256) (le w (v / 256)) (omega arith) (AreBytes-le w (v / 256))

-- a number that fits is read back
pub num-le : (w v : ℕ) → v < 256 ^ w → num (le w v) ≡ v
unfolding num le
num-le zero v h = omega arith
num-le (suc w) v h =
    let p : 256 ^ suc w ≡ 256 * 256 ^ w = pow-succ' 256 w in
    let fits : v / 256 < 256 ^ w = omega arith in
    let e = num-le w (v / 256) fits in
    omega (arith, e)

-- the number of n bytes fits n bytes
pub num-lt : (bs : List ℕ) → AreBytes bs → num bs < 256 ^ length bs
unfolding num
num-lt [] all = omega arith
num-lt (b ∷ bs) all =
    let p : 256 ^ suc (length bs) ≡ 256 * 256 ^ length bs = pow-succ' 256 (length bs) in
    let first = All-head (λ (b : ℕ). b < 256) b bs all in
    let rest = num-lt bs (All-tail (λ (b : ℕ). b < 256) b bs all) in
    omega arith

-- the bytes of a number in as many bytes are those bytes
pub le-num : (bs : List ℕ) → AreBytes bs → le (length bs) (num bs) ≡ bs
unfolding num le
le-num [] all = refl
le-num (b ∷ bs) all =
    let first = All-head (λ (b : ℕ). b < 256) b bs all in
    let rest = le-num bs (All-tail (λ (b : ℕ). b < 256) b bs all) in
    let low : (b + 256 * num bs) % 256 ≡ b = omega arith in
    let high : (b + 256 * num bs) / 256 ≡ num bs = omega arith in
    rw (low, high, rest) refl

-- the number of one byte
pub num-one : (b : ℕ) → num (b ∷ []) ≡ b
unfolding num
num-one b = omega arith

-- a field of one byte
pub field-byte : (b : List ℕ) (at : ℕ) → at < length b → field b at 1 ≡ get_or b at 0
field-byte b at h = rw (drop_more b at 0 h) (num-one (get_or b at 0))

-- a field of bytes fits its width
pub field-lt : (b : List ℕ) (at w : ℕ) → AreBytes b → at + w ≤ length b → field b at w < 256 ^ w
field-lt b at w all h =
    let len : length (range b at w) ≡ w = search (rules, length-take, length-drop, arith) in
    let below = num-lt (range b at w) (All-take (λ (b : ℕ). b < 256) w (drop at b) (All-drop (λ (b : ℕ). b < 256) at b all)) in
    rw len at below

-- a part of the front of a list
pub range-take : (b : List ℕ) (m at n : ℕ) → at + n ≤ m → range (take m b) at n ≡ range b at n
range-take b m at n h =
    let split : m ≡ at + (m - at) = omega arith in
    let short : n ≤ m - at = omega arith in
    ap (λ (k : ℕ). take n (drop at (take k b))) split
    ∙ ap (take n) (drop-take at (m - at) b)
    ∙ take-take n (m - at) (drop at b) short

-- a part before what was put behind
pub range-append-left : (a c : List ℕ) (at n : ℕ) → at + n ≤ length a → range (a ++ c) at n ≡ range a at n
range-append-left a c at n h =
    let short : n ≤ length (drop at a) = omega (arith, length-drop at a) in
    ap (take n) (drop-append-le at a c (omega arith)) ∙ take-append-le n (drop at a) c short

-- a part behind what was put before
pub range-append-right : (a c : List ℕ) (k at n : ℕ) → length a ≡ k → k ≤ at → range (a ++ c) at n ≡ range c (at - k) n
range-append-right a c k at n len h =
    let split : at ≡ k + (at - k) = omega arith in
    ap (λ (i : ℕ). take n (drop i (a ++ c))) split
    ∙ ap (take n) (sym (drop-drop (at - k) k (a ++ c)))
    ∙ ap (λ (xs : List ℕ). take n (drop (at - k) xs)) (drop_at a c k len)

-- a field of the front of a list
pub field-take : (b : List ℕ) (m at w : ℕ) → at + w ≤ m → field (take m b) at w ≡ field b at w
field-take b m at w h = ap num (range-take b m at w h)

-- a field before what was put behind
pub field-append-left : (a c : List ℕ) (at w : ℕ) → at + w ≤ length a → field (a ++ c) at w ≡ field a at w
field-append-left a c at w h = ap num (range-append-left a c at w h)

-- a field behind what was put before
pub field-append-right : (a c : List ℕ) (k at w : ℕ) → length a ≡ k → k ≤ at → field (a ++ c) at w ≡ field c (at - k) w
field-append-right a c k at w len h = ap num (range-append-right a c k at w len h)

-- the whole of a number's bytes
pub field-le : (w v : ℕ) → v < 256 ^ w → field (le w v) 0 w ≡ v
field-le w v fits =
    let whole : take w (le w v) ≡ le w v = take_all w (le w v) (omega (arith, length-le w v)) in
    ap num whole ∙ num-le w v fits

-- the number that was written behind a, whatever follows
pub field-at : (a c : List ℕ) (at w v : ℕ) → length a ≡ at → v < 256 ^ w → field ((a ++ le w v) ++ c) at w ≡ v
field-at a c at w v len fits =
    let l : length (a ++ le w v) ≡ length a + length (le w v) = length-append a (le w v) in
    let inside : at + w ≤ length (a ++ le w v) = omega (arith, l, length-le w v) in
    let here : at - at ≡ 0 = omega arith in
    field-append-left (a ++ le w v) c at w inside
    ∙ field-append-right a (le w v) at at w len (omega arith)
    ∙ ap (λ (i : ℕ). field (le w v) i w) here
    ∙ field-le w v fits

pub num-zeros : (n w : ℕ) → num (take w (replicate n 0)) ≡ 0
unfolding num
num-zeros n zero = refl
num-zeros zero (suc w) = refl
num-zeros (suc n) (suc w) = omega (arith, num-zeros n w)

-- zeros that follow count as no bytes do
pub field-padded : (bs : List ℕ) (n at w : ℕ) → field (bs ++ replicate n 0) at w ≡ field bs at w
unfolding num
field-padded [] n at w =
    ap (λ (bs : List ℕ). num (take w bs)) (drop-replicate at n 0) ∙ num-zeros (n - at) w
    ∙ sym (ap (λ (bs : List ℕ). num (take w bs)) (drop-nil at) ∙ num-zeros 0 w)
field-padded (b ∷ bs) n zero zero = refl
field-padded (b ∷ bs) n zero (suc w) = ap (λ (rest : ℕ). b + 256 * rest) (field-padded bs n zero w)
field-padded (b ∷ bs) n (suc at) w = field-padded bs n at w

pub halvings-small : (n m : ℕ) → m < 2 → halvings (suc n) m ≡ 0
unfolding halvings
halvings-small n m h = rw (lt-ltb m 2 h) refl

pub halvings-large : (n m : ℕ) → 2 ≤ m → halvings (suc n) m ≡ suc (halvings n (m / 2))
unfolding halvings
halvings-large n m h = grind (arith, nat_tests)

pub doubled : (k j : ℕ) → j ≡ suc k → 2 ^ j ≡ 2 * 2 ^ k
doubled k j e = ap (λ (i : ℕ). 2 ^ i) e ∙ pow-succ' 2 k

-- halving finds the powers of 2 that m lies between
pub halvings-spans : (n m : ℕ) → 1 ≤ m → m < 2 ^ (n + 1) → (2 ^ halvings n m ≤ m) × (m < 2 ^ (halvings n m + 1))
unfolding halvings
halvings-spans zero m low high = (low, high)
halvings-spans (suc n) m low high =
    elim (cases_lt m 2) [
      | inl small ↦ rw (halvings-small n m small) (low, small)
      | inr large ↦
          let p : 2 ^ (suc n + 1) ≡ 2 * 2 ^ (n + 1) = doubled (n + 1) (suc n + 1) (omega arith) in
          let rest = halvings-spans n (m / 2) (omega arith) (omega arith) in
          let q : 2 ^ suc (halvings n (m / 2)) ≡ 2 * 2 ^ halvings n (m / 2) = pow-succ' 2 (halvings n (m / 2)) in
          let r : 2 ^ (suc (halvings n (m / 2)) + 1) ≡ 2 * 2 ^ (halvings n (m / 2) + 1) = doubled (halvings n (m / 2) + 1) (suc (halvings n (m / 2)) + 1) (omega arith) in
          rw (halvings-large n m large) (omega arith, omega arith)
    ]

-- m lies between two powers of 2 in one way
pub same_power : (m k j : ℕ) → 2 ^ k ≤ m → m < 2 ^ (k + 1) → 2 ^ j ≤ m → m < 2 ^ (j + 1) → k ≡ j
same_power m k j klow khigh jlow jhigh =
    elim (cases_lt k j) [
      | inl below ↦ let h : 2 ^ (k + 1) ≤ 2 ^ j = pow_mono (omega arith) in omega arith
      | inr above ↦
          elim (cases_lt j k) [
            | inl below ↦ let h : 2 ^ (j + 1) ≤ 2 ^ k = pow_mono (omega arith) in omega arith
            | inr same ↦ omega arith
          ]
    ]

-- the highest power of 2 within m is what halving finds
pub halvings-is : (n m k : ℕ) → 2 ^ k ≤ m → m < 2 ^ (k + 1) → m < 2 ^ (n + 1) → halvings n m ≡ k
halvings-is n m k low high fits =
    let some : 1 ≤ 2 ^ k = one-le-pow k 2 (omega arith) in
    let spans = halvings-spans n m (omega arith) fits in
    same_power m (halvings n m) k spans.0 spans.1 low high

-- n bytes are 8 n bits
pub bits : (n : ℕ) → 256 ^ n ≡ 2 ^ (8 * n)
bits zero = refl
bits (suc n) =
    let more : 8 * suc n ≡ 8 * n + 8 = omega arith in
    rw (pow-succ' 256 n, bits n, more, pow-add 2 (8 * n) 8) (omega arith)

-- the width of a number: it fits that many bytes, and no fewer
pub width_of-spans : (m : ℕ) → 1 ≤ m → m < 2 ^ 64 → (256 ^ (width_of m - 1) ≤ m) × (m < 256 ^ width_of m)
unfolding width_of
width_of-spans m low high =
    let spans = halvings-spans 63 m low high in
    let h : ℕ = halvings 63 m in
    let below : 2 ^ (8 * (h / 8)) ≤ 2 ^ h = pow_mono (omega arith) in
    let above : 2 ^ (h + 1) ≤ 2 ^ (8 * (h / 8 + 1)) = pow_mono (omega arith) in
    let one_less : h / 8 + 1 - 1 ≡ h / 8 = omega arith in (
      rw (one_less, bits (h / 8)) (omega arith),
      rw (bits (h / 8 + 1)) (omega arith),
    )

-- it is 1 to 8 bytes
pub width_of-within : (m : ℕ) → 1 ≤ m → m < 2 ^ 64 → (1 ≤ width_of m) × (width_of m ≤ 8)
unfolding width_of
width_of-within m low high =
    let spans = halvings-spans 63 m low high in
    let h : ℕ = halvings 63 m in
    elim (cases_lt h 64) [
      | inl few ↦ (omega arith, omega arith)
      | inr many ↦ let above : 2 ^ 64 ≤ 2 ^ h = pow_mono many in absurd (omega arith)
    ]

-- the width of m by the greatest power of 2 within m
pub width_of-is : (m k : ℕ) → 2 ^ k ≤ m → m < 2 ^ (k + 1) → m < 2 ^ 64 → width_of m ≡ k / 8 + 1
unfolding width_of
width_of-is m k low high fits = ap (λ (h : ℕ). h / 8 + 1) (halvings-is 63 m k low high fits)
