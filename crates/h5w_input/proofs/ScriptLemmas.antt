-- Lines of a script, word by word.
use Rattle.std.proofs.Common.{ℕ, suc, ◌%◌, ◌<◌, ◌≤◌, ◌≡◌, true, false, cond, eqb, leb, eq-eqb, List, [], ◌∷◌, ◌++◌, length, take, subst, Option, Some, None, ℤ, sym, refl, ap, ◌∙◌, arith, rules}
use Rattle.std.proofs.lemmas.Bool.{ne_eqb}
use Rattle.std.proofs.lemmas.Bool.Decides.{nat_tests}
use Rattle.std.specs.Prelude.{◌≢◌, option_map, option_and_then, unwrap_or}
use Rattle.std.proofs.lemmas.List.{append_assoc, take_all}
use Rattle.h5w_model.specs.Lawful.{Line, adds, shows_up_to}
use Rattle.h5w_input.specs.Bytes.{Lacks}
use Rattle.h5w_input.specs.Lines.{line_limit, value_of, values_of, words_of}
use Rattle.h5w_input.specs.Scripts.{alone, append_of, by_word, number_line_of, of_words, on_reader_of, positive_of, reader_of, rows_of, script_line_of, write_of}
use Rattle.h5w_input.proofs.WordLemmas.{words_end}

write_cases : (k : List ℕ) (o : Option ℕ) → positive_of k ≡ o → (ws : List (List ℕ)) → write_of (k ∷ ws) ≡ option_and_then (λ n. alone (shows_up_to n) ws) o
write_cases k None e [] = ap (option_map shows_up_to) e
write_cases k (Some n) e [] = ap (option_map shows_up_to) e
write_cases k None e (w ∷ ws) = refl
write_cases k (Some n) e (w ∷ ws) = refl

pub write_is : (k : List ℕ) (ws : List (List ℕ)) → write_of (k ∷ ws) ≡ option_and_then (λ n. alone (shows_up_to n) ws) (positive_of k)
write_is k ws = write_cases k (positive_of k) refl ws

reader_cases : (line : ℕ → Line) (r : List ℕ) (o : Option ℕ) → reader_of r ≡ o → (ws : List (List ℕ)) → on_reader_of line (r ∷ ws) ≡ option_and_then (λ n. alone (line n) ws) o
reader_cases line r None e [] = ap (option_map line) e
reader_cases line r (Some n) e [] = ap (option_map line) e
reader_cases line r None e (w ∷ ws) = refl
reader_cases line r (Some n) e (w ∷ ws) = refl

pub on_reader_is : (line : ℕ → Line) (r : List ℕ) (ws : List (List ℕ)) → on_reader_of line (r ∷ ws) ≡ option_and_then (λ n. alone (line n) ws) (reader_of r)
on_reader_is line r ws = reader_cases line r (reader_of r) refl ws

-- the values of a list's first word and of the others
pub values_more : (front : List ℤ) (v : ℤ) (o : Option (List ℤ)) → option_map (λ vs. front ++ vs) (option_map (λ vs. v ∷ vs) o) ≡ option_map (λ vs. (front ++ v ∷ []) ++ vs) o
values_more front v None = refl
values_more front v (Some vs) = ap Some (sym (append_assoc front (v ∷ []) vs))

some_same : {X : Type 0} (d x y : X) → Some x ≡ Some y → x ≡ y
some_same d x y e = ap (λ o. unwrap_or o d) e

length_values_cases : (ws : List (List ℕ)) (v : Option ℤ) (o : Option (List ℤ)) (vs : List ℤ) → ((us : List ℤ) → o ≡ Some us → length us ≡ length ws) → option_and_then (λ x. option_map (λ us. x ∷ us) o) v ≡ Some vs → length vs ≡ suc (length ws)
length_values_cases ws None o vs h e = absurd (search (rules, e))
length_values_cases ws (Some v) None vs h e = absurd (search (rules, e))
length_values_cases ws (Some v) (Some us) vs h e = ap length (sym (some_same [] (v ∷ us) vs e)) ∙ ap suc (h us refl)

pub length_values : (ws : List (List ℕ)) (vs : List ℤ) → values_of ws ≡ Some vs → length vs ≡ length ws
length_values [] vs e = ap length (sym (some_same [] [] vs e))
length_values (w ∷ ws) vs e = length_values_cases ws (value_of w) (values_of ws) vs (λ us. length_values ws us) e

pub rows_empty : (columns : ℕ) (ws : List (List ℕ)) (vs : List ℤ) → values_of ws ≡ Some vs → length vs ≡ 0 → rows_of columns ws ≡ None
rows_empty columns [] vs e none = refl
rows_empty columns (w ∷ ws) vs e none = absurd (omega (arith, length_values (w ∷ ws) vs e))

pub rows_uneven : (columns : ℕ) (ws : List (List ℕ)) (vs : List ℤ) → values_of ws ≡ Some vs → length vs % columns ≢ 0 → rows_of columns ws ≡ None
rows_uneven columns [] vs e uneven = refl
rows_uneven columns (w ∷ ws) vs e uneven =
    let test : eqb (length (w ∷ ws) % columns) 0 ≡ false = ne_eqb _ _ (λ z. uneven (ap (λ n. n % columns) (length_values (w ∷ ws) vs e) ∙ z)) in rw test refl

pub rows_even : (columns : ℕ) (ws : List (List ℕ)) (vs : List ℤ) → values_of ws ≡ Some vs → 1 ≤ length vs → length vs % columns ≡ 0 → rows_of columns ws ≡ Some vs
rows_even columns [] vs e some even = absurd (omega (arith, length_values [] vs e))
rows_even columns (w ∷ ws) vs e some even =
    let test : eqb (length (w ∷ ws) % columns) 0 ≡ true = eq-eqb _ _ (sym (ap (λ n. n % columns) (length_values (w ∷ ws) vs e)) ∙ even) in rw test e

pub append_some : (columns : ℕ) (ws : List (List ℕ)) (vs : List ℤ) → rows_of columns ws ≡ Some vs → append_of columns ws ≡ Some (adds vs)
append_some columns ws vs e = ap (option_map adds) e

pub append_none : (columns : ℕ) (ws : List (List ℕ)) → rows_of columns ws ≡ None → append_of columns ws ≡ None
append_none columns ws e = ap (option_map adds) e

-- ---- A line of numbers

pub numbers_none : (columns : ℕ) (line : List ℕ) → length line ≡ 0 → number_line_of columns line ≡ Some []
unfolding number_line_of
numbers_none columns [] e = refl
numbers_none columns (b ∷ bs) e = absurd (cc)

pub numbers_long : (columns : ℕ) (line : List ℕ) → line_limit < length line → number_line_of columns line ≡ None
unfolding number_line_of
numbers_long columns [] h = absurd (omega (arith, h))
numbers_long columns (b ∷ bs) h = let test : leb (length (b ∷ bs)) line_limit ≡ false = grind (arith, nat_tests) in rw test refl

pub numbers_are : (columns : ℕ) (line : List ℕ) → 1 ≤ length line → length line ≤ line_limit → number_line_of columns line ≡ rows_of columns (words_of line)
unfolding number_line_of
numbers_are columns [] some h = absurd (omega (arith, some))
numbers_are columns (b ∷ bs) some h = let test : leb (length (b ∷ bs)) line_limit ≡ true = grind (arith, nat_tests) in rw test refl

-- a line that is too long
pub script_long : (columns : ℕ) (line : List ℕ) → line_limit < length line → script_line_of columns line ≡ None
unfolding script_line_of
script_long columns line h = let test : leb (length line) line_limit ≡ false = grind (arith, nat_tests) in rw test refl

pub script_none : (columns : ℕ) (line : List ℕ) → words_of line ≡ [] → script_line_of columns line ≡ None
unfolding script_line_of
script_none columns line e = elim (leb (length line) line_limit) as (λ t. cond t (of_words columns (words_of line)) None ≡ None) [ true ↦ ap (of_words columns) e | false ↦ refl ]

pub script_some : (columns : ℕ) (line name : List ℕ) (ws : List (List ℕ)) → length line ≤ line_limit → words_of line ≡ name ∷ ws → script_line_of columns line ≡ by_word columns name ws
unfolding script_line_of
script_some columns line name ws h e = let test : leb (length line) line_limit ≡ true = grind (arith, nat_tests) in rw test (ap (of_words columns) e)

-- a line of one value
pub one_value : (word : List ℕ) (v : ℤ) → 1 ≤ length word → length word ≤ line_limit → Lacks 32 word → value_of word ≡ Some v → number_line_of 1 word ≡ Some (v ∷ [])
one_value word v some short lacks is =
    let whole : Lacks 32 (take (length word) word) = subst (λ (w : List ℕ). Lacks 32 w) (sym (take_all (length word) word (omega arith))) lacks in
    numbers_are 1 word some short ∙ ap (rows_of 1) (words_end word (length word) whole (omega arith))
    ∙ rows_even 1 (word ∷ []) (v ∷ []) (ap (option_and_then (λ (x : ℤ). Some (x ∷ []))) is) (omega arith) (omega arith)
