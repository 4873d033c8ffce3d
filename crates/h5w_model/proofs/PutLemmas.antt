-- A spelling that is written field by field: the bytes so far, then what stood there before.
use Rattle.std.proofs.Common.{◌≡◌, ℕ, ◌+◌, List, ◌++◌, length, take, drop, sym, ap, ◌∙◌}
use Rattle.std.proofs.lemmas.List.{take_at, drop_at, drop-drop}
use Rattle.h5w_model.specs.Checksum.{sealed_block}

-- one more field behind the front
pub put-next : (old cur front bytes : List ℕ) (at w : ℕ) → cur ≡ front ++ drop at old → length front ≡ at → (take at cur ++ bytes) ++ drop (at + w) cur ≡ (front ++ bytes) ++ drop (at + w) old
put-next old cur front bytes at w e n =
    let head : take at cur ≡ front = ap (take at) e ∙ take_at front (drop at old) at n in
    let tail : drop (at + w) cur ≡ drop (at + w) old =
    sym (drop-drop w at cur) ∙ ap (λ l. drop w (drop at l)) e ∙ ap (drop w) (drop_at front (drop at old) at n) ∙ drop-drop w at old in
    ap (λ l. (l ++ bytes) ++ drop (at + w) cur) head ∙ ap (λ l. (front ++ bytes) ++ l) tail

-- the sum behind the whole body
pub put-sealed : (old cur body : List ℕ) (n : ℕ) → cur ≡ body ++ drop n old → length body ≡ n → sealed_block (take n cur) ++ drop (n + 4) cur ≡ sealed_block body ++ drop (n + 4) old
put-sealed old cur body n e len =
    let head : take n cur ≡ body = ap (take n) e ∙ take_at body (drop n old) n len in
    let tail : drop (n + 4) cur ≡ drop (n + 4) old =
    sym (drop-drop 4 n cur) ∙ ap (λ l. drop 4 (drop n l)) e ∙ ap (drop 4) (drop_at body (drop n old) n len) ∙ drop-drop 4 n old in
    ap (λ l. sealed_block l ++ drop (n + 4) cur) head ∙ ap (λ l. sealed_block body ++ l) tail
