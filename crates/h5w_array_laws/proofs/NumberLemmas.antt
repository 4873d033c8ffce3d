-- Numbers of eight bytes in a block: one by one, after one was written, and after the sum was written anew.
use Rattle.std.proofs.Common.{◌≡◌, ℕ, zero, suc, ◌+◌, ◌-◌, ◌*◌, ◌^◌, ◌<◌, ◌≤◌, true, List, ◌++◌, length, get_or, take, drop, replicate, sym, ap, ◌∙◌, subst, arith, append-nil, length-append}
use Rattle.std.proofs.lemmas.List.{drop_all, length-drop, length-take, same_lists}
use Rattle.h5w_model.specs.Numbers.{num, le, range, field}
use Rattle.h5w_model.specs.Checksum.{is_sealed, sealed_block, sum_of}
use Rattle.h5w_model.specs.Images.{apply, Apart}
use Rattle.h5w_model.specs.Arrays.{numbers_in}
use Rattle.h5w_model.specs.declared.piece.Write.{Write}
use Rattle.h5w_model.proofs.NumberLemmas.{length-le, num-le, range-append-left, range-take}
use Rattle.h5w_model.proofs.ChecksumLemmas.{is_sealed-sealed_block, length-sealed_block}
use Rattle.h5w_model.proofs.ImageLemmas.{At-apply, range-apply_missed}
use Rattle.h5w_model.proofs.ArrayLemmas.{length-numbers_in}
use Rattle.h5w_cache.specs.Blocks.{with_number, sealed_front}

-- ---- One by one

pub numbers_in-get : (b : List ℕ) (n place k d : ℕ) → k < n → get_or (numbers_in b n place) k d ≡ field b (place + 8 * k) 8
unfolding numbers_in
numbers_in-get b zero place k d h = absurd (omega arith)
numbers_in-get b (suc n) place zero d h = let e : place ≡ place + 8 * 0 = omega arith in ap (λ p. field b p 8) e
numbers_in-get b (suc n) place (suc k) d h =
    let e : (place + 8) + 8 * k ≡ place + 8 * suc k = omega arith in
    numbers_in-get b n (place + 8) k d (omega arith) ∙ ap (λ p. field b p 8) e

-- the same numbers, where each is the same
pub numbers_in-same : (b c : List ℕ) (n place other : ℕ) → ((k : ℕ) → k < n → field c (other + 8 * k) 8 ≡ field b (place + 8 * k) 8) → numbers_in c n other ≡ numbers_in b n place
numbers_in-same b c n place other h =
    same_lists (numbers_in c n other) (numbers_in b n place) (length-numbers_in c n other ∙ sym (length-numbers_in b n place))
    (λ k d l.
    let low : k < n = omega (arith, l, length-numbers_in c n other) in
    numbers_in-get c n other k d low ∙ h k low ∙ sym (numbers_in-get b n place k d low))

-- ---- One that was written

-- it is a write
pub with_number-write : (place v : ℕ) (b : List ℕ) → place + 8 ≤ length b → with_number place v b ≡ apply (record { at = place; piece = le 8 v }) b
unfolding apply
with_number-write place v b h =
    let none : 0 ≡ place - length b = omega arith in
    ap (λ l. (l ++ le 8 v) ++ drop (place + 8) b) (sym (append-nil (take place b)))
    ∙ ap (λ k. ((take place b ++ replicate k 0) ++ le 8 v) ++ drop (place + 8) b) none
    ∙ ap (λ k. ((take place b ++ replicate (place - length b) 0) ++ le 8 v) ++ drop (place + k) b) (sym (length-le 8 v))

pub length-with_number : (place v : ℕ) (b : List ℕ) → place + 8 ≤ length b → length (with_number place v b) ≡ length b
length-with_number place v b h = simp (length-append, length-take, length-drop, length-le) (omega arith)

-- bytes beside it
pub range-with_number : (place v : ℕ) (b : List ℕ) (at n : ℕ) → place + 8 ≤ length b → Apart place 8 at n → at + n ≤ length b → range (with_number place v b) at n ≡ range b at n
range-with_number place v b at n h apart inside =
    let w : Write = record { at = place; piece = le 8 v } in
    ap (λ l. range l at n) (with_number-write place v b h)
    ∙ range-apply_missed w b at n (subst (λ k. Apart place k at n) (sym (length-le 8 v)) apart) inside

-- itself
pub field-with_number : (place v : ℕ) (b : List ℕ) → place + 8 ≤ length b → v < 2 ^ 64 → field (with_number place v b) place 8 ≡ v
field-with_number place v b h fits =
    let w : Write = record { at = place; piece = le 8 v } in
    ap (λ l. field l place 8) (with_number-write place v b h)
    ∙ ap (λ k. field (apply w b) place k) (sym (length-le 8 v))
    ∙ ap num (At-apply w b)
    ∙ num-le 8 v fits

-- ---- After the sum was written

-- the whole of a block is its front
pub sealed_front-all : (n : ℕ) (b : List ℕ) → length b ≡ n → sealed_front n b ≡ sealed_block (take (n - 4) b)
sealed_front-all n b h = ap (λ l. sealed_block (take (n - 4) b) ++ l) (drop_all n b (omega arith)) ∙ append-nil (sealed_block (take (n - 4) b))

pub length-sealed_front : (n : ℕ) (b : List ℕ) → length b ≡ n → 4 ≤ n → length (sealed_front n b) ≡ n
length-sealed_front n b h low =
    ap length (sealed_front-all n b h) ∙ length-sealed_block (take (n - 4) b)
    ∙ (let e : length (take (n - 4) b) + 4 ≡ n = omega (arith, length-take (n - 4) b) in e)

pub is_sealed-sealed_front : (n : ℕ) (b : List ℕ) → length b ≡ n → is_sealed (sealed_front n b) ≡ true
is_sealed-sealed_front n b h = ap is_sealed (sealed_front-all n b h) ∙ is_sealed-sealed_block (take (n - 4) b)

-- bytes before the sum
pub range-sealed_front : (n : ℕ) (b : List ℕ) (at m : ℕ) → length b ≡ n → at + m + 4 ≤ n → range (sealed_front n b) at m ≡ range b at m
range-sealed_front n b at m h inside =
    ap (λ l. range l at m) (sealed_front-all n b h)
    ∙ range-append-left (take (n - 4) b) (le 4 (sum_of (take (n - 4) b))) at m (omega (arith, length-take (n - 4) b))
    ∙ range-take b (n - 4) at m (omega arith)
