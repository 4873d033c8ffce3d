-- How a line is cut into words.
use Rattle.std.proofs.Common.{ℕ, suc, zero, ◌+◌, ◌-◌, ◌<◌, ◌≤◌, ◌≡◌, true, false, cond, List, [], ◌∷◌, ◌++◌, length, take, drop, get_or, eqb, eq-eqb, Option, Some, None, ℤ, sym, refl, ap, subst, ◌∙◌, arith, length-drop}
use Rattle.std.specs.Prelude.{option_and_then, option_map, unwrap_or}
use Rattle.std.proofs.lemmas.Bool.{eqb-true, false_from_ne_true}
use Rattle.std.proofs.lemmas.List.{append_assoc, append-nil, take-append-drop, take_all}
use Rattle.memchr.specs.Find.{IsFirstByte, is_byte}
use Rattle.h5w_input.specs.Bytes.{Lacks}
use Rattle.h5w_input.specs.Lines.{split_from, value_of, values_of, words_of}
use Rattle.h5w_input.specs.WordLists.{LeadsWith, FirstSpells, words_left}

-- bytes before the first place of one lack it
lacks_before : (byte n : ℕ) (bytes : List ℕ) → n ≤ length bytes → ((k : ℕ) → k < n → ¬ (eqb (get_or bytes k 0) byte ≡ true)) → Lacks byte (take n bytes)
lacks_before byte zero bytes low h = tt
lacks_before byte (suc n) [] low h = absurd (omega arith)
lacks_before byte (suc n) (x ∷ xs) low h = (false_from_ne_true (eqb x byte) (h 0 (omega arith)), lacks_before byte n xs (omega arith) (λ k below. h (suc k) (omega arith)))

found_at : (byte n : ℕ) (bytes : List ℕ) → n < length bytes → eqb (get_or bytes n 0) byte ≡ true → drop n bytes ≡ byte ∷ drop (n + 1) bytes
found_at byte n [] low e = absurd (omega arith)
found_at byte zero (x ∷ xs) low e = ap (λ b. b ∷ xs) (eqb-true x byte e)
found_at byte (suc n) (x ∷ xs) low e = let next : suc n + 1 ≡ suc (n + 1) = omega arith in rw next (found_at byte n xs (omega arith) e)

-- what a search for a byte says of the first place
pub first_lacks : (byte : ℕ) (bytes : List ℕ) (found : Option ℕ) → IsFirstByte (is_byte byte) bytes found → Lacks byte (take (unwrap_or found (length bytes)) bytes)
first_lacks byte bytes None h = lacks_before byte (length bytes) bytes (omega arith) (λ k below. h k (omega arith) below)
first_lacks byte bytes (Some n) h = lacks_before byte n bytes (omega (arith, h.0.high)) (λ k below. h.0.before k (omega arith) below)

pub first_found : (byte : ℕ) (bytes : List ℕ) (found : Option ℕ) → IsFirstByte (is_byte byte) bytes found → unwrap_or found (length bytes) < length bytes
    → drop (unwrap_or found (length bytes)) bytes ≡ byte ∷ drop (unwrap_or found (length bytes) + 1) bytes
first_found byte bytes None h low = absurd (omega arith)
first_found byte bytes (Some n) h low = found_at byte n bytes h.0.high h.1

pub first_within : (byte : ℕ) (bytes : List ℕ) (found : Option ℕ) → IsFirstByte (is_byte byte) bytes found → unwrap_or found (length bytes) ≤ length bytes
first_within byte bytes None h = omega arith
first_within byte bytes (Some n) h = omega (arith, h.0.high)

pub split_lacks : (byte : ℕ) (front xs : List ℕ) → Lacks byte xs → split_from byte front xs ≡ (front ++ xs) ∷ []
split_lacks byte front [] h = ap (λ l. l ∷ []) (sym (append-nil front))
split_lacks byte front (x ∷ xs) h = rw h.0 (split_lacks byte (front ++ x ∷ []) xs h.1 ∙ ap (λ l. l ∷ []) (append_assoc front (x ∷ []) xs))

pub split_cut : (byte : ℕ) (front xs rest : List ℕ) → Lacks byte xs → split_from byte front (xs ++ byte ∷ rest) ≡ (front ++ xs) ∷ split_from byte [] rest
split_cut byte front [] rest h = rw (eq-eqb byte byte refl) (ap (λ l. l ∷ split_from byte [] rest) (sym (append-nil front)))
split_cut byte front (x ∷ xs) rest h = rw h.0 (split_cut byte (front ++ x ∷ []) xs rest h.1 ∙ ap (λ l. l ∷ split_from byte [] rest) (append_assoc front (x ∷ []) xs))

-- a line up to its first space
pub words_cut : (line : List ℕ) (place : ℕ) → Lacks 32 (take place line) → drop place line ≡ 32 ∷ drop (place + 1) line → words_of line ≡ take place line ∷ words_of (drop (place + 1) line)
words_cut line place h e =
    ap words_of (sym (take-append-drop place line) ∙ ap (λ l. take place line ++ l) e) ∙ split_cut 32 [] (take place line) (drop (place + 1) line) h

-- a line without a space
pub words_end : (line : List ℕ) (place : ℕ) → Lacks 32 (take place line) → length line ≤ place → words_of line ≡ line ∷ []
words_end line place h all = let same : take place line ≡ line = take_all place line all in
    ap words_of (sym same) ∙ split_lacks 32 [] (take place line) h ∙ ap (λ l. l ∷ []) same

-- as words_cut, with the rest as a slice up to the line's end
pub words_next : (words : List (List ℕ)) (line : List ℕ) (place : ℕ) → words ≡ words_of line → Lacks 32 (take place line) → drop place line ≡ 32 ∷ drop (place + 1) line → words ≡ take place line ∷ words_of (take (length line - (place + 1)) (drop (place + 1) line))
words_next words line place e h cut = let all : take (length line - (place + 1)) (drop (place + 1) line) ≡ drop (place + 1) line = take_all _ _ (omega (arith, length-drop (place + 1) line)) in
    e ∙ words_cut line place h cut ∙ ap (λ l. take place line ∷ words_of l) (sym all)

-- a line's first word is a value, and others follow it
pub first_of_more : (words : List (List ℕ)) (line : List ℕ) (len : ℕ) (v : ℤ) → words ≡ words_of line → LeadsWith value_of line len v → len < length line → FirstSpells v words (words_left (Some (take (length line - (len + 1)) (drop (len + 1) line))))
first_of_more words line len v e l more = let rest : List (List ℕ) = words_of (take (length line - (len + 1)) (drop (len + 1) line)) in
    rw (words_next words line len e l.lacks (l.ends more)) (record { values = ap (λ o. option_and_then (λ x. option_map (λ vs. x ∷ vs) (values_of rest)) o) l.value; fewer = omega arith })

-- the line's only word is one
pub first_alone : (words : List (List ℕ)) (line : List ℕ) (len : ℕ) (v : ℤ) → words ≡ words_of line → LeadsWith value_of line len v → len ≡ length line → FirstSpells v words []
first_alone words line len v e l all =
    let same : take len line ≡ line = take_all len line (omega arith) in
    let value : value_of line ≡ Some v = subst (λ (w : List ℕ). value_of w ≡ Some v) same l.value in
    rw (e ∙ words_end line len l.lacks (omega arith)) (record { values = ap (λ o. option_and_then (λ x. option_map (λ vs. x ∷ vs) (Some [])) o) value; fewer = omega arith })

-- a line of so many bytes has at most one word more
pub words_most : (byte : ℕ) (front bytes : List ℕ) → length (split_from byte front bytes) ≤ length bytes + 1
words_most byte front [] = omega arith
words_most byte front (b ∷ bs) = elim (eqb b byte) as (λ t. length (cond t (front ∷ split_from byte [] bs) (split_from byte (front ++ b ∷ []) bs)) ≤ length (b ∷ bs) + 1) [
  | true ↦ omega (arith, words_most byte [] bs)
  | false ↦ omega (arith, words_most byte (front ++ b ∷ []) bs)
]

pub most_left : (words : List (List ℕ)) (line : List ℕ) → words ≡ words_of line → length words ≤ length line + 1
most_left words line e = rw e (words_most 32 [] line)
