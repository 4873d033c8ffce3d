-- Programs of which nothing is kept, before others that keep blocks.
use Rattle.std.proofs.Common.{◌+◌, ◌/◌, [], ℕ, List, Result, Ok, Err, ◌≡◌, refl, sym, ◌∙◌, ap}
use Rattle.h5w_model.specs.Programs.{Prog, ret, whole, counted, stored, bind, and_then, cut_up, below_end, Kept, lowered}
use Rattle.h5w_laws.specs.Programs.{IsUnstored}
use Rattle.h5w_laws.proofs.LoweringLemmas.{pieces_bind}
use Rattle.h5w_lookup.specs.Looks.{plain}

-- no store changes them
pub unstored_plain : {A : Type 0} (cap : ℕ) (ks : List Kept) (p : Prog A) → IsUnstored p → lowered cap ks p ≡ plain p
unstored_plain cap ks (ret a) h = refl
unstored_plain cap ks (whole at len next) h = ap (cut_up at len) (λ i b. unstored_plain cap ks (next b) (h b) i)
unstored_plain cap ks (counted at counts next) h = ap (whole at (below_end at 512)) (λ i b. unstored_plain cap ks (next (counts b)) (h (counts b)) i)
unstored_plain cap ks (stored kind at len next) h = absurd h

-- what follows has the store as it was before them
pub unstored_bind : {A B : Type 0} (cap : ℕ) (ks : List Kept) (p : Prog A) (f : A → Prog B) → IsUnstored p → lowered cap ks (bind p f) ≡ bind (plain p) (λ a. lowered cap ks (f a))
unstored_bind cap ks (ret a) f h = refl
unstored_bind cap ks (whole at len next) f h =
    ap (cut_up at len) (λ i b. unstored_bind cap ks (next b) f (h b) i)
    ∙ sym (pieces_bind (below_end at len / 512 + 1) at (below_end at len) [] (λ b. plain (next b)) (λ a. lowered cap ks (f a)))
unstored_bind cap ks (counted at counts next) f h = ap (whole at (below_end at 512)) (λ i b. unstored_bind cap ks (next (counts b)) f (h (counts b)) i)
unstored_bind cap ks (stored kind at len next) f h = absurd h

unfoldable pub after : {A B E : Type 0} → (A → Prog (Result B E)) → Result A E → Prog (Result B E)
after f r = elim r [ Ok a ↦ f a | Err e ↦ ret (Err e) ]

after_lowered : {A B E : Type 0} (cap : ℕ) (ks : List Kept) (f : A → Prog (Result B E)) (r : Result A E) → lowered cap ks (after f r) ≡ after (λ a. lowered cap ks (f a)) r
unfolding after
after_lowered cap ks f (Ok a) = refl
after_lowered cap ks f (Err e) = refl

pub unstored_then : {A B E : Type 0} (cap : ℕ) (ks : List Kept) (p : Prog (Result A E)) (f : A → Prog (Result B E)) → IsUnstored p → lowered cap ks (and_then p f) ≡ and_then (plain p) (λ a. lowered cap ks (f a))
unfolding after
unstored_then {A} {B} {E} cap ks p f h = unstored_bind cap ks p (after f) h ∙ ap (λ (k : Result A E → Prog (Result B E)). bind (plain p) k) (λ i r. after_lowered cap ks f r i)
