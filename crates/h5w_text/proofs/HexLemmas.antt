-- Hexadecimal digits, one after another, and numbers behind a text.
use Rattle.std.proofs.Common.{◌≡◌, ℕ, zero, suc, ◌-◌, ◌/◌, ◌%◌, ◌≤◌, List, [], ◌∷◌, ◌++◌, Result, Ok, Err, refl, sym, ap, ◌∙◌, arith, append_assoc, append-nil}
use Rattle.std.specs.Prelude.{OnOk, codes, flat_map}
use Rattle.h5w_model.specs.declared.refusal.BlockFault.{BlockFault}
use Rattle.h5w_model.specs.declared.refusal.ReadError.{ReadError}
use Rattle.h5w_model.specs.declared.refusal.ReadError.TheVariants.{Damaged}
use Rattle.h5w_text.specs.Replies.{spaced}
use Rattle.h5w_text.specs.Refusals.{fault_words, hex_digit, hex_digits, refusal_words}

-- the last digit behind those before it
pub hex_more : (out mid new : List ℕ) (digits n d : ℕ) → 1 ≤ digits → mid ≡ out ++ hex_digits (digits - 1) (n / 16) → d ≡ hex_digit (n % 16) → new ≡ mid ++ d ∷ [] → new ≡ out ++ hex_digits digits n
hex_more out mid new zero n d some before is e = absurd (omega (arith, some))
hex_more out mid new (suc k) n d some before is e =
    let less : suc k - 1 ≡ k = omega arith in
    e ∙ ap (λ m. m ++ d ∷ []) (before ∙ ap (λ j. out ++ hex_digits j (n / 16)) less) ∙ append_assoc out (hex_digits k (n / 16)) (d ∷ []) ∙ ap (λ x. out ++ (hex_digits k (n / 16) ++ x ∷ [])) is

right_and_left : (n a b c d : List ℕ) → n ++ (a ++ (b ++ (c ++ (d ++ [])))) ≡ (((n ++ a) ++ b) ++ c) ++ d
right_and_left n a b c d = simp (append_assoc, append-nil) refl

-- four numbers behind a text
pub four_numbers : {T E : Type 0} (r : Result T E) (out new name : List ℕ) (a b c d : ℕ) → OnOk r (new ≡ out ++ (name ++ flat_map spaced (a ∷ b ∷ c ∷ d ∷ [])))
    → OnOk r (new ≡ out ++ (name ++ spaced a ++ spaced b ++ spaced c ++ spaced d))
four_numbers (Ok x) out new name a b c d e = e ∙ ap (λ l. out ++ l) (right_and_left name (spaced a) (spaced b) (spaced c) (spaced d))
four_numbers (Err x) out new name a b c d e = tt

-- why a block is damaged, behind its place
pub damaged_text : {T E : Type 0} (r : Result T E) (out mid new : List ℕ) (error : ReadError) (at : ℕ) (why : BlockFault) → error ≡ Damaged at why
    → mid ≡ out ++ (codes "error damaged" ++ flat_map spaced (at ∷ [])) → OnOk r (new ≡ mid ++ fault_words why) → OnOk r (new ≡ out ++ refusal_words error)
damaged_text (Ok x) out mid new error at why is first e =
    e ∙ ap (λ l. l ++ fault_words why) (first ∙ ap (λ a. out ++ (codes "error damaged" ++ a)) (append-nil (spaced at)))
    ∙ append_assoc out (codes "error damaged" ++ spaced at) (fault_words why) ∙ ap (λ x. out ++ refusal_words x) (sym is)
damaged_text (Err x) out mid new error at why is first e = tt
