-- What calls of a source or a sink leave.
use Rattle.std.proofs.Common.{ℕ, ◌+◌, ◌≤◌, ◌≡◌, List, [], ◌++◌, take, drop, Option, Some, None, Result, Ok, Err, sym, subst, refl, ap, ◌∙◌, inl, inr}
use Rattle.std.specs.Result.{OnErr, OnOk}
use Rattle.std.proofs.lemmas.List.{append_assoc, append-nil, take-append-drop, drop-drop}
use Rattle.h5w_text.specs.Streams.{SinkView, GaveSome, Grows}

-- what was copied from the front of the bytes left, and the rest
pub front_and_rest : (at n : ℕ) (bytes out : List ℕ) → take n out ≡ take n (drop at bytes) → drop at bytes ≡ take n out ++ drop (at + n) bytes
front_and_rest at n bytes out e =
    sym (take-append-drop n (drop at bytes)) ∙ ap (λ l. l ++ drop n (drop at bytes)) (sym e) ∙ ap (λ l. take n out ++ l) (drop-drop n at bytes)

pub grows_nothing : (b : Option (List ℕ)) → Grows [] b b
grows_nothing None = inl refl
grows_nothing (Some b) = inr (ap Some (sym (append-nil b)))

-- a call that failed and wrote nothing
pub gave_nothing : {T E : Type 0} (r : Result T E) (bytes : List ℕ) (v w : SinkView) → w.written ≡ v.written → v.faults ≤ w.faults → w.through ≡ v.through → OnErr r (GaveSome bytes v w)
gave_nothing (Ok x) bytes v w e f g = tt
gave_nothing (Err x) bytes v w e f g = (0, record { written = subst (λ (b : Option (List ℕ)). Grows [] v.written b) (sym e) (grows_nothing v.written); faults = f; through = g })

-- three texts, one behind the other
pub three_texts : {T E : Type 0} (r : Result T E) (out name a b one two new : List ℕ) → one ≡ out ++ name → two ≡ one ++ a → OnOk r (new ≡ two ++ b) → OnOk r (new ≡ out ++ (name ++ a ++ b))
three_texts (Ok x) out name a b one two new p q e = e ∙ ap (λ l. l ++ b) (q ∙ ap (λ l. l ++ a) p ∙ append_assoc out name a) ∙ append_assoc out (name ++ a) b
three_texts (Err x) out name a b one two new p q e = tt
