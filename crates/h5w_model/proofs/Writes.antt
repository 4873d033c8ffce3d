-- Parts of a list that are written one behind the other.
use Rattle.std.proofs.Common.{◌≡◌, ℕ, suc, ◌+◌, ◌-◌, ◌*◌, ◌<◌, ◌≤◌, List, [], ◌∷◌, ◌++◌, length, get_or, take, drop, refl, ap, sym, ◌∙◌, append_assoc, length-append, arith}
use Rattle.std.proofs.lemmas.List.{take_at, drop-drop, drop_at, length-take-le, append-nil, take_more}
use Rattle.std.proofs.lemmas.Grind.{flat_map-append}
use Rattle.std.proofs.Math.Nat.{mul-le-mul_left, mul-add}
use Rattle.std.specs.List.{flat_map}
use Rattle.h5w_model.specs.Numbers.{le}
use Rattle.h5w_model.proofs.NumberLemmas.{length-le}

-- what is left behind a longer front
pub drop_behind : (a c : List ℕ) (k m : ℕ) → length a ≡ k → k ≤ m → drop m (a ++ c) ≡ drop (m - k) c
drop_behind a c k m len le =
    let split : m ≡ length a + (m - k) = omega arith in
    ap (λ (n : ℕ). drop n (a ++ c)) split ∙ sym (drop-drop (m - k) (length a) (a ++ c)) ∙ ap (drop (m - k)) (drop_at a c (length a) refl)

-- y is written right behind x, which was written from place `from` on
pub written_more : (b x y : List ℕ) (from to end : ℕ) → from + length x ≡ to → to + length y ≡ end → end ≤ length b → (take to ((take from b ++ x) ++ drop to b) ++ y) ++ drop end ((take from b ++ x) ++ drop to b) ≡ (take from b ++ (x ++ y)) ++ drop end b
written_more b x y from to end first second inside =
    let front : length (take from b ++ x) ≡ to = omega (arith, length-append (take from b) x, length-take-le from b (omega arith)) in
    let kept : take to ((take from b ++ x) ++ drop to b) ≡ take from b ++ x = take_at (take from b ++ x) (drop to b) to front in
    let rest : drop end ((take from b ++ x) ++ drop to b) ≡ drop end b =
    drop_behind (take from b ++ x) (drop to b) to end front (omega arith)
    ∙ drop-drop (end - to) to b
    ∙ ap (λ (n : ℕ). drop n b) (omega arith) in
    rw (kept, rest) (ap (λ (l : List ℕ). l ++ drop end b) (append_assoc (take from b) x y))

-- numbers of w bytes one after another
pub length-flat_map_le : (w : ℕ) (ns : List ℕ) → length (flat_map (le w) ns) ≡ w * length ns
length-flat_map_le w [] = omega arith
length-flat_map_le w (n ∷ ns) =
    let one = length-le w n in
    let more = length-flat_map_le w ns in
    let product : w * suc (length ns) ≡ w * length ns + w = omega arith in
    length-append (le w n) (flat_map (le w) ns) ∙ omega arith

-- one number more
pub numbers_more : (b l new : List ℕ) (from w i n : ℕ) (ns : List ℕ) → i < length ns → n ≡ get_or ns i 0 → from + w * length ns ≤ length b → l ≡ (take from b ++ flat_map (le w) (take i ns)) ++ drop (from + w * i) b → new ≡ (take (from + w * i) l ++ le w n) ++ drop (from + w * i + w) l → new ≡ (take from b ++ flat_map (le w) (take (i + 1) ns)) ++ drop (from + w * (i + 1)) b
numbers_more b l new from w i n ns below is inside before after =
    let x = flat_map (le w) (take i ns) in
    let long : length x ≡ w * i = length-flat_map_le w (take i ns) ∙ ap (λ (k : ℕ). w * k) (length-take-le i ns (omega arith)) in
    let one = length-le w n in
    let next : w * (i + 1) ≡ w * i + w = mul-add w i 1 ∙ omega arith in
    let room : w * (i + 1) ≤ w * length ns = mul-le-mul_left w (omega arith) in
    let more = written_more b x (le w n) from (from + w * i) (from + w * i + w) (omega arith) (omega arith) (omega arith) in
    let joined : x ++ le w n ≡ flat_map (le w) (take (i + 1) ns) =
    rw (take_more ns i 0 below, ← is) (sym (flat_map-append (le w) (take i ns) (n ∷ []) ∙ ap (λ (y : List ℕ). x ++ y) (append-nil (le w n)))) in
    let place : from + w * i + w ≡ from + w * (i + 1) = omega arith in
    after
    ∙ ap (λ (m : List ℕ). (take (from + w * i) m ++ le w n) ++ drop (from + w * i + w) m) before
    ∙ more
    ∙ ap (λ (y : List ℕ). (take from b ++ y) ++ drop (from + w * i + w) b) joined
    ∙ ap (λ (k : ℕ). (take from b ++ flat_map (le w) (take (i + 1) ns)) ++ drop k b) place

-- y is written right behind the front x
pub written_then : (b before after x y : List ℕ) (to end : ℕ) → length x ≡ to → to + length y ≡ end → end ≤ length b → before ≡ x ++ drop to b → after ≡ (take to before ++ y) ++ drop end before → after ≡ (x ++ y) ++ drop end b
written_then b before after x y to end first second inside front e =
    e
    ∙ ap (λ (l : List ℕ). (take to l ++ y) ++ drop end l) front
    ∙ written_more b x y 0 to end (omega arith) second inside
