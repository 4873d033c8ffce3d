-- Texts of values.
use Rattle.std.proofs.Common.{ℕ, suc, ◌+◌, ◌<◌, ◌++◌, ◌≡◌, List, [], ◌∷◌, length, take, get_or, ℤ, pos, negsuc, refl, sym, ap, ◌∙◌}
use Rattle.std.specs.Prelude.{decimal, flat_map}
use Rattle.std.specs.Fmt.{signed_decimal}
use Rattle.std.proofs.lemmas.List.{append_assoc, flat_map_more, take_more}
use Rattle.h5w_text.specs.Replies.{spaced_value}
use Rattle.h5w_text.specs.Table.{value_text}

-- a value as the library spells it
pub value_text_is : (v : ℤ) → signed_decimal v ≡ value_text v
value_text_is (pos n) = refl
value_text_is (negsuc n) = refl

-- a space and a value behind some bytes
pub spaced_value_is : (front : List ℕ) (v : ℤ) → (front ++ 32 ∷ []) ++ value_text v ≡ front ++ spaced_value v
spaced_value_is front (pos n) = append_assoc front (32 ∷ []) (decimal n)
spaced_value_is front (negsuc n) = append_assoc front (32 ∷ []) (45 ∷ decimal (suc n))

-- ---- Texts one after another

-- one more behind those that were added
pub more_texts : {A : Type 0} (text : A → List ℕ) (d : A) (xs : List A) (i : ℕ) (old out new : List ℕ) → i < length xs → out ≡ old ++ flat_map text (take i xs) → new ≡ out ++ text (get_or xs i d)
    → new ≡ old ++ flat_map text (take (i + 1) xs)
more_texts text d xs i old out new below before is =
    is ∙ ap (λ t. t ++ text (get_or xs i d)) before ∙ flat_map_more text old (take i xs) (get_or xs i d) ∙ ap (λ l. old ++ flat_map text l) (sym (take_more xs i d below))
