-- Numbers of digits, and their limits.
use Rattle.std.proofs.Common.{ℕ, suc, ◌+◌, ◌-◌, ◌*◌, ◌%◌, ◌^◌, ◌++◌, ◌<◌, ◌≤◌, ◌≡◌, Bool, true, false, not, ◌||◌, eqb, leb, le-leb, List, [], ◌∷◌, length, take, get_or, Option, Some, None, ℤ, sym, refl, ap, subst, ◌∙◌, arith, tests}
use Rattle.std.specs.Prelude.{option_and_then, slice_range}
use Rattle.std.specs.List.{list_all}
use Rattle.std.specs.Char.{digit_value}
use Rattle.std.specs.Str.Parse.{AllDigits, digits_value, digits_value_after}
use Rattle.std.specs.Float.Numeral.{digits_len}
use Rattle.std.proofs.Math.Nat.{pow-le-pow_right}
use Rattle.std.proofs.lemmas.Bool.{eqb-true, ne_eqb, not-true}
use Rattle.std.proofs.lemmas.List.{length-take-le, get_or-take}
use Rattle.std.proofs.lemmas.Int.Digits.{digits_value-lt}
use Rattle.std.proofs.lemmas.Str.Parse.{digit_from_value}
use Rattle.core.proofs.dec2flt.DigitsLemmas.{is_digit as digit_of}
use Rattle.core.proofs.dec2flt.Rows.{AllDigits-digits_len}
use Rattle.h5w_input.specs.Bytes.{Lacks}
use Rattle.h5w_input.specs.Lines.{below, below_zero, is_digit, natural_of, number_from, value_of}
use Rattle.h5w_input.specs.WordLists.{BeginsWith}

pub number_from_ge : (n : ℕ) (ds : List ℕ) → n ≤ number_from n ds
number_from_ge n [] = omega arith
number_from_ge n (d ∷ ds) = omega (arith, number_from_ge (10 * n + (d - 48)) ds)

-- a number that is too great already stays so
pub below_past : (limit n : ℕ) (ds : List ℕ) → limit ≤ n → below limit (Some (number_from n ds)) ≡ None
below_past limit n ds h = let past : limit ≤ number_from n ds = omega (arith, number_from_ge n ds) in grind (arith, tests)

-- a limit above another adds nothing
pub below_below : (low high : ℕ) (o : Option ℕ) → low ≤ high → below low (below high o) ≡ below low o
below_below low high None h = refl
below_below low high (Some n) h = grind (arith, tests)

-- ---- Numbers of few digits

-- each digit is one of ours
pub all_are : (ds : List ℕ) → AllDigits 10 ds → list_all is_digit ds ≡ true
all_are [] h = refl
all_are (d ∷ ds) h = let range = digit_from_value d h.0 in let e : is_digit d ≡ true = (digit_of d range.0 range.1).0 in rw e (all_are ds h.1)

-- their value is ours
pub value_is : (n : ℕ) (ds : List ℕ) → AllDigits 10 ds → digits_value_after 10 n ds ≡ number_from n ds
value_is n [] h = refl
value_is n (d ∷ ds) h = let range = digit_from_value d h.0 in
    value_is (n * 10 + digit_value d) ds h.1 ∙ ap (λ m. number_from m ds) (omega (arith, (digit_of d range.0 range.1).1))

-- no digit is a space, or the end of a line
pub digits_lack : (byte : ℕ) (ds : List ℕ) → byte < 48 → AllDigits 10 ds → Lacks byte ds
digits_lack byte [] low h = tt
digits_lack byte (d ∷ ds) low h = let range = digit_from_value d h.0 in (ne_eqb d byte (λ e. omega arith), digits_lack byte ds low h.1)

-- so few digits make a number below 2^64
pub digits_small : (ds : List ℕ) → AllDigits 10 ds → length ds ≤ 18 → digits_value 10 ds < 2 ^ 64
digits_small ds h few = let most : 10 ^ length ds ≤ 10 ^ 18 = pow-le-pow_right (omega arith) few in omega (arith, digits_value-lt 10 ds h)

lean_one : (d : ℕ) (t : Bool) → eqb d 48 ≡ t → 48 ≤ d → d ≤ 57 → natural_of (d ∷ []) ≡ Some (number_from 0 (d ∷ []))
lean_one d true e low high = let is : d ≡ 48 = eqb-true d 48 e in rw is refl
lean_one d false e low high = let digit : is_digit d ≡ true = (digit_of d low high).0 in rw e (rw digit refl)

lean_more : (d c : ℕ) (ds : List ℕ) → AllDigits 10 (d ∷ c ∷ ds) → length (d ∷ c ∷ ds) ≤ 18 → eqb d 48 ≡ false → natural_of (d ∷ c ∷ ds) ≡ Some (number_from 0 (d ∷ c ∷ ds))
lean_more d c ds h few e =
    let range = digit_from_value d h.0 in
    let digit : is_digit d ≡ true = (digit_of d range.0 range.1).0 in
    let others : list_all is_digit (c ∷ ds) ≡ true = all_are (c ∷ ds) h.1 in
    let short : leb (length (c ∷ ds)) 38 ≡ true = le-leb _ _ (omega arith) in
    rw e (rw digit (rw others (rw short refl)))

-- digits without a zero before them are a number
pub lean : (ds : List ℕ) → AllDigits 10 ds → 1 ≤ length ds → length ds ≤ 18 → (eqb (length ds) 1 || not (eqb (get_or ds 0 0) 48)) ≡ true → natural_of ds ≡ Some (number_from 0 ds)
lean [] h some few l = absurd (omega arith)
lean (d ∷ []) h some few l = let range = digit_from_value d h.0 in lean_one d (eqb d 48) refl range.0 range.1
lean (d ∷ c ∷ ds) h some few l = let two : eqb (length (d ∷ c ∷ ds)) 1 ≡ false = ne_eqb _ _ (λ e. omega (arith, e)) in lean_more d c ds h few (not-true (eqb d 48) (rw two at l))

-- what the first digits of some bytes spell
pub begins_natural : (line : List ℕ) (len n : ℕ) → len ≡ digits_len line → len ≤ length line → n ≡ (0 * 10 ^ (len - 0) + digits_value 10 (slice_range line 0 len)) % 2 ^ 64 → 1 ≤ len → len ≤ 18
    → (eqb len 1 || not (eqb (get_or line 0 0) 48)) ≡ true → BeginsWith natural_of 18 line len n
begins_natural line len n is within value some few l =
    let ds : List ℕ = take len line in
    let digits : AllDigits 10 ds = AllDigits-digits_len line len (omega arith) in
    let long : length ds ≡ len = length-take-le len line within in
    let first : get_or ds 0 0 ≡ get_or line 0 0 = get_or-take len line 0 0 some in
    let piece : slice_range line 0 len ≡ ds = (let none : len - 0 ≡ len = omega arith in ap (λ k. take k line) none) in
    let read : n ≡ digits_value 10 ds = omega (arith, value, ap (digits_value 10) piece, digits_small ds digits (omega arith)) in
    record {
      within = within;
      some = some;
      few = omega arith;
      lacks = digits_lack 32 ds (omega arith) digits;
      line = digits_lack 10 ds (omega arith) digits;
      value = lean ds digits (omega arith) (omega arith) (rw (long, first) l) ∙ ap Some (sym (value_is 0 ds digits) ∙ sym read);
    }

signed_value : (o : Option ℕ) (n : ℕ) (v : ℤ) → o ≡ Some n → below_zero n ≡ Some v → option_and_then below_zero o ≡ Some v
signed_value o n v e z = ap (option_and_then below_zero) e ∙ z

-- the same behind a sign
pub begins_negative : (line ds : List ℕ) (len n : ℕ) (v : ℤ) → line ≡ 45 ∷ ds → BeginsWith natural_of 18 ds len n → Some v ≡ below_zero n → BeginsWith value_of 19 line (len + 1) v
begins_negative line ds len n v is l z = let more : len + 1 ≡ suc len = omega arith in
    subst (λ (xs : List ℕ). BeginsWith value_of 19 xs (len + 1) v) (sym is) (subst (λ (k : ℕ). BeginsWith value_of 19 (45 ∷ ds) k v) (sym more) (record {
      within = omega (arith, l.within);
      some = omega arith;
      few = omega (arith, l.few);
      lacks = (refl, l.lacks);
      line = (refl, l.line);
      value = signed_value (natural_of (take len ds)) n v l.value (sym z);
    }))
