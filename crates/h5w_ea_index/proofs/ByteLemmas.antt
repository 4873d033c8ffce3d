-- Numbers in the bytes of a block, after one is written.
use Rattle.std.proofs.Common.{◌≡◌, ◌≢◌, ◌⊎◌, inl, inr, ℕ, zero, suc, ◌+◌, ◌-◌, ◌*◌, ◌^◌, ◌<◌, ◌≤◌, List, [], ◌∷◌, ◌++◌, length, take, drop, get_or, true, refl, sym, ap, ◌∙◌, arith, length-append, length-take, length-drop}
use Rattle.std.proofs.lemmas.List.{drop-drop, drop-take, take-take}
use Rattle.std.proofs.Math.ListN.{set}
use Rattle.h5w_model.specs.Numbers.{le, num, field, range}
use Rattle.h5w_model.specs.Arrays.{numbers_in}
use Rattle.h5w_model.specs.Checksum.{is_sealed}
use Rattle.h5w_model.proofs.NumberLemmas.{length-le, field-at, range-take, range-append-left, range-append-right}
use Rattle.h5w_model.proofs.ChecksumLemmas.{is_sealed-sealed_block}
use Rattle.h5w_cache.specs.Blocks.{with_number}

-- ---- One number is written

pub length-with_number : (o x : ℕ) (b : List ℕ) → o + 8 ≤ length b → length (with_number o x b) ≡ length b
length-with_number o x b h =
    let a = length-append (take o b ++ le 8 x) (drop (o + 8) b) in
    let c = length-append (take o b) (le 8 x) in
    let l = length-le 8 x in
    let t = length-take o b in
    let d = length-drop (o + 8) b in
    omega arith

front_length : (o x : ℕ) (b : List ℕ) → o + 8 ≤ length b → length (take o b ++ le 8 x) ≡ o + 8
front_length o x b h =
    let c = length-append (take o b) (le 8 x) in
    let l = length-le 8 x in
    let t = length-take o b in
    omega arith

pub field-with_number : (o x : ℕ) (b : List ℕ) → o + 8 ≤ length b → x < 2 ^ 64 → field (with_number o x b) o 8 ≡ x
field-with_number o x b h fits = field-at (take o b) (drop (o + 8) b) o 8 x (let t = length-take o b in omega arith) fits

-- the q bytes from place p on, and the eight from o on, have none in common
abbrev pub Off : ℕ → ℕ → ℕ → ℕ → Type 0
Off p q o n = (p + q ≤ o) ⊎ (o + n ≤ p)

whole_range : (b : List ℕ) (p q : ℕ) (o : ℕ) → o + 8 ≤ p → range (drop (o + 8) b) (p - (o + 8)) q ≡ range b p q
whole_range b p q o h =
    ap (take q) (drop-drop (p - (o + 8)) (o + 8) b ∙ (let e : o + 8 + (p - (o + 8)) ≡ p = omega arith in ap (λ i. drop i b) e))

pub range-with_number : (o x : ℕ) (b : List ℕ) (p q : ℕ) → o + 8 ≤ length b → Off p q o 8 → range (with_number o x b) p q ≡ range b p q
range-with_number o x b p q h (inl before) =
    range-append-left (take o b ++ le 8 x) (drop (o + 8) b) p q (let l = front_length o x b h in omega arith)
    ∙ range-append-left (take o b) (le 8 x) p q (let t = length-take o b in omega arith)
    ∙ range-take b o p q before
range-with_number o x b p q h (inr after) =
    range-append-right (take o b ++ le 8 x) (drop (o + 8) b) (o + 8) p q (front_length o x b h) after ∙ whole_range b p q o after

pub field-with_other : (o x : ℕ) (b : List ℕ) (p : ℕ) → o + 8 ≤ length b → Off p 8 o 8 → field (with_number o x b) p 8 ≡ field b p 8
field-with_other o x b p h off = ap num (range-with_number o x b p 8 h off)

pub take-with_number : (o x : ℕ) (b : List ℕ) (n : ℕ) → o + 8 ≤ length b → n ≤ o → take n (with_number o x b) ≡ take n b
take-with_number o x b n h le = range-with_number o x b 0 n h (inl (omega arith))

-- ---- Numbers one after another

pub numbers_in-same : (b c : List ℕ) (n p : ℕ) → range b p (8 * n) ≡ range c p (8 * n) → numbers_in b n p ≡ numbers_in c n p
unfolding numbers_in
numbers_in-same b c zero p h = refl
numbers_in-same b c (suc n) p h =
    let here : (l : List ℕ) → range (range l p (8 * suc n)) 0 8 ≡ range l p 8 = λ l. take-take 8 (8 * suc n) (drop p l) (omega arith) in
    let there : (l : List ℕ) → range (range l p (8 * suc n)) 8 (8 * n) ≡ range l (p + 8) (8 * n) = λ l.
    ap (λ k. range (take k (drop p l)) 8 (8 * n)) (let e : 8 * suc n ≡ 8 + 8 * n = omega arith in e) ∙ ap (take (8 * n)) (drop-take 8 (8 * n) (drop p l)) ∙ take-take (8 * n) (8 * n) (drop 8 (drop p l)) (omega arith)
    ∙ ap (take (8 * n)) (drop-drop 8 p l) in
    let first : field b p 8 ≡ field c p 8 = ap num (sym (here b) ∙ ap (λ (l : List ℕ). range l 0 8) h ∙ here c) in
    let rest : numbers_in b n (p + 8) ≡ numbers_in c n (p + 8) = numbers_in-same b c n (p + 8) (sym (there b) ∙ ap (λ (l : List ℕ). range l 8 (8 * n)) h ∙ there c) in
    λ i. first i ∷ rest i

pub get_or-numbers_in : (b : List ℕ) (n p j d : ℕ) → j < n → get_or (numbers_in b n p) j d ≡ field b (p + 8 * j) 8
unfolding numbers_in
get_or-numbers_in b zero p j d h = absurd (omega arith)
get_or-numbers_in b (suc n) p zero d h = let e : p ≡ p + 8 * 0 = omega arith in ap (λ q. field b q 8) e
get_or-numbers_in b (suc n) p (suc j) d h = get_or-numbers_in b n (p + 8) j d (omega arith) ∙ (let e : p + 8 + 8 * j ≡ p + 8 * suc j = omega arith in ap (λ q. field b q 8) e)

pub numbers_in-with_other : (o x : ℕ) (b : List ℕ) (n p : ℕ) → o + 8 ≤ length b → Off p (8 * n) o 8 → numbers_in (with_number o x b) n p ≡ numbers_in b n p
numbers_in-with_other o x b n p h off = numbers_in-same (with_number o x b) b n p (range-with_number o x b p (8 * n) h off)

-- one of them is written
pub numbers_in-with_number : (x : ℕ) (b : List ℕ) (n p j : ℕ) → j < n → p + 8 * n ≤ length b → x < 2 ^ 64 → numbers_in (with_number (p + 8 * j) x b) n p ≡ set (numbers_in b n p) j x
unfolding numbers_in
numbers_in-with_number x b zero p j lt h fits = absurd (omega arith)
numbers_in-with_number x b (suc n) p zero lt h fits =
    let e : p + 8 * 0 ≡ p = omega arith in
    let first : field (with_number (p + 8 * 0) x b) p 8 ≡ x = ap (λ o. field (with_number o x b) p 8) e ∙ field-with_number p x b (omega arith) fits in
    let rest : numbers_in (with_number (p + 8 * 0) x b) n (p + 8) ≡ numbers_in b n (p + 8) = numbers_in-with_other (p + 8 * 0) x b n (p + 8) (omega arith) (inr (omega arith)) in
    λ i. first i ∷ rest i
numbers_in-with_number x b (suc n) p (suc j) lt h fits =
    let e : p + 8 * suc j ≡ p + 8 + 8 * j = omega arith in
    let first : field (with_number (p + 8 * suc j) x b) p 8 ≡ field b p 8 = field-with_other (p + 8 * suc j) x b p (omega arith) (inl (omega arith)) in
    let rest : numbers_in (with_number (p + 8 * suc j) x b) n (p + 8) ≡ set (numbers_in b n (p + 8)) j x =
    ap (λ o. numbers_in (with_number o x b) n (p + 8)) e ∙ numbers_in-with_number x b n (p + 8) j (omega arith) (omega arith) fits in
    λ i. first i ∷ rest i
