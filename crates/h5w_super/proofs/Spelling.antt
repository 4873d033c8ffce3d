-- A superblock as `encode` puts it together.
use Rattle.std.proofs.Common.{◌≡◌, ℕ, ◌-◌, List, [], ◌∷◌, ◌++◌, length, take, drop, replicate, refl, ap, ◌∙◌}
use borrow.Rule.Slice.PartMut.{put_mid}
use Rattle.h5w_model.specs.Numbers.{le, undefined}
use Rattle.h5w_model.specs.Checksum.{sealed_block}
use Rattle.h5w_model.specs.Superblock.{super_signature, super_bytes}
use Rattle.h5w_model.specs.declared.root.Super.{Super}

-- the signature and the four bytes behind it, and zeros
pub front : (s : Super) (first second : List ℕ) → first ≡ super_signature → second ≡ s.version ∷ 8 ∷ 8 ∷ s.flags ∷ []
    → put_mid 8 4 (put_mid 0 8 (replicate 48 0) first) second ≡ (super_signature ++ (s.version ∷ 8 ∷ 8 ∷ s.flags ∷ [])) ++ replicate 36 0
front s first second e f = rw (e, f) refl

-- the four numbers behind them, and the sum
pub spelled : (s : Super) (a b c d e f : List ℕ)
    → a ≡ (super_signature ++ (s.version ∷ 8 ∷ 8 ∷ s.flags ∷ [])) ++ replicate 36 0
    → b ≡ (take 12 a ++ le 8 0) ++ drop 20 a
    → c ≡ (take 20 b ++ le 8 undefined) ++ drop 28 b
    → d ≡ (take 28 c ++ le 8 s.end) ++ drop 36 c
    → e ≡ (take 36 d ++ le 8 s.root) ++ drop 44 d
    → f ≡ sealed_block (take (length e - 4) e)
    → f ≡ super_bytes s
unfolding le
spelled s a b c d e f is_a is_b is_c is_d is_e is_f =
    let b_is : b ≡ _ = is_b ∙ ap (λ (l : List ℕ). (take 12 l ++ le 8 0) ++ drop 20 l) is_a in
    let c_is = is_c ∙ ap (λ (l : List ℕ). (take 20 l ++ le 8 undefined) ++ drop 28 l) b_is in
    let d_is = is_d ∙ ap (λ (l : List ℕ). (take 28 l ++ le 8 s.end) ++ drop 36 l) c_is in
    let e_is = is_e ∙ ap (λ (l : List ℕ). (take 36 l ++ le 8 s.root) ++ drop 44 l) d_is in
    is_f ∙ ap (λ (l : List ℕ). sealed_block (take (length l - 4) l)) e_is
