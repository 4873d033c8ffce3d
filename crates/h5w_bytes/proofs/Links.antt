-- The numbers and bytes of `byteorder` are those of the definitions.
use Rattle.std.proofs.Common.{◌≡◌, ℕ, zero, suc, ◌+◌, ◌*◌, ◌/◌, ◌%◌, ◌^◌, ◌-◌, ◌≤◌, List, [], ◌∷◌, length, take, drop, refl, ap, sym, ◌∙◌, arith}
use Rattle.std.proofs.lemmas.List.{length-drop, take_rest}
use Rattle.std.proofs.Math.Nat.{div-div-eq-div-mul, div-one, pow-suc}
use Rattle.std.specs.Int.{byte_at, bytes_low_first}
use Rattle.byteorder.specs.Endian.{little_number, little_bytes}
use Rattle.byteorder.specs.Numbers.{little_from-cons}
use Rattle.h5w_model.specs.Numbers.{num, le, field}

-- the number in the first w bytes
pub little_number-num : (w : ℕ) (bs : List ℕ) → w ≤ length bs → little_number w bs ≡ num (take w bs)
unfolding num
little_number-num zero bs h = refl
little_number-num (suc w) [] h = omega arith
little_number-num (suc w) (b ∷ bs) h =
    ap (λ (rest : ℕ). b + 256 * rest) (little_from-cons 0 w b bs ∙ little_number-num w bs (omega arith))

byte_at-div : (i v : ℕ) → byte_at i v ≡ v / 256 ^ i % 256
byte_at-div zero v = ap (λ (x : ℕ). x % 256) (sym (div-one v))
byte_at-div (suc i) v = refl

-- k bytes from byte i upward are those of what is left above the bytes below i
bytes_low_first-le : (k i v : ℕ) → bytes_low_first i k v ≡ le k (v / 256 ^ i)
unfolding le
bytes_low_first-le zero i v = refl
bytes_low_first-le (suc k) i v =
    let left : v / 256 ^ suc i ≡ v / 256 ^ i / 256 = ap (λ (p : ℕ). v / p) (pow-suc 256 i) ∙ sym (div-div-eq-div-mul v (256 ^ i) 256) in
    rw (byte_at-div i v, bytes_low_first-le k (suc i) v, left) refl

-- the w bytes of a number
pub little_bytes-le : (w v : ℕ) → little_bytes w v ≡ le w v
little_bytes-le w v = bytes_low_first-le w 0 v ∙ ap (le w) (div-one v)

-- the number that begins the bytes from place `at` on
pub little_number-field : (b : List ℕ) (at w : ℕ) → at + w ≤ length b → little_number w (take (length b - at) (drop at b)) ≡ field b at w
little_number-field b at w inside =
    let long : length (drop at b) ≡ length b - at = length-drop at b in
    ap (little_number w) (take_rest b at) ∙ little_number-num w (drop at b) (omega arith)
