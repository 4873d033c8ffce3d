-- The lists of a store.
use Rattle.std.proofs.Common.{◌≡◌, ℕ, zero, suc, ◌+◌, ◌≤◌, Bool, false, cond, not, List, [], ◌∷◌, ◌++◌, length, get_or, replicate, refl, sym, ap, subst, ◌∙◌, arith, length-append}
use Rattle.std.proofs.lemmas.List.{length-replicate}
use Rattle.std.proofs.lemmas.List.Sums.{count_by-le-length}
use Rattle.std.specs.Prelude.{Option, None, IsSome, IfSome}
use Rattle.h5w_model.specs.Numbers.{undefined}
use Rattle.h5w_cache.specs.Blocks.{BlockView}
use Rattle.h5w_cache.specs.Stores.{IsStore, FitsAddresses}

default_there : {A : Type 0} (k n : ℕ) (d : A) → get_or (replicate k d) n d ≡ d
default_there zero n d = refl
default_there (suc k) zero d = refl
default_there (suc k) (suc n) d = default_there k n d

-- more of the default is not seen
pub default_more : {A : Type 0} (xs : List A) (k n : ℕ) (d : A) → get_or (xs ++ replicate k d) n d ≡ get_or xs n d
default_more [] k n d = default_there k n d
default_more (x ∷ xs) k zero d = refl
default_more (x ∷ xs) k (suc n) d = default_more xs k n d

pub IsStore-grown : (blocks more_blocks : List (Option BlockView)) (places more_places : List ℕ) (marks more_marks : List Bool) (changed : List ℕ) (k capacity wider : ℕ)
    → more_blocks ≡ blocks ++ replicate k None → more_places ≡ places ++ replicate k undefined → more_marks ≡ marks ++ replicate k false
    → IsStore blocks places marks changed capacity → length changed + (length blocks + k) ≤ wider → IsStore more_blocks more_places more_marks changed wider
IsStore-grown blocks more_blocks places more_places marks more_marks changed k capacity wider eb ep em s room =
    let nb : length more_blocks ≡ length blocks + k = ap length eb ∙ length-append blocks (replicate k None) ∙ ap (λ n. length blocks + n) (length-replicate k None) in
    let np : length more_places ≡ length places + k = ap length ep ∙ length-append places (replicate k undefined) ∙ ap (λ n. length places + n) (length-replicate k undefined) in
    let nm : length more_marks ≡ length marks + k = ap length em ∙ length-append marks (replicate k false) ∙ ap (λ n. length marks + n) (length-replicate k false) in
    let block : (n : ℕ) → get_or more_blocks n None ≡ get_or blocks n None = λ n. ap (λ l. get_or l n None) eb ∙ default_more blocks k n None in
    let place : (n : ℕ) → get_or more_places n undefined ≡ get_or places n undefined = λ n. ap (λ l. get_or l n undefined) ep ∙ default_more places k n undefined in
    let mark : (n : ℕ) → get_or more_marks n false ≡ get_or marks n false = λ n. ap (λ l. get_or l n false) em ∙ default_more marks k n false in
    let ep : length places ≡ length blocks = s.each_place in
    let em : length marks ≡ length blocks = s.each_mark in
    let few = count_by-le-length not more_marks in
    record {
      each_place = omega arith;
      each_mark = omega arith;
      once = λ n. s.once n ∙ ap (λ b. cond b 1 0) (sym (mark n));
      kept = λ n h. subst IsSome (sym (block n)) (s.kept n (sym (mark n) ∙ h));
      fits = λ n. subst (λ (o : Option BlockView). IfSome o (FitsAddresses (get_or more_places n undefined))) (sym (block n)) (subst (λ (p : ℕ). IfSome (get_or blocks n None) (FitsAddresses p)) (sym (place n)) (s.fits n));
      room = omega arith;
    }
