-- Names that are taken one after another.
use Rattle.std.proofs.Common.{◌≡◌, ◌⊎◌, ℕ, suc, ◌+◌, ◌<◌, ◌≤◌, Bool, true, false, List, [], ◌∷◌, ◌++◌, length, get_or, take, drop, map, eqb, add-one, drop-cons, Some, None, refl, sym, ap, ap₂, ◌∙◌, subst, inl, inr, arith}
use Rattle.std.specs.Prelude.{not, ◌&&◌, ◌||◌, nat_le, nat_lt, Contains, IsTrue, ◌↔◌}
use Rattle.std.specs.List.{list_all, list_any}
use Rattle.std.specs.Cmp.Lexicographic.{same_text}
use Rattle.std.proofs.lemmas.Bool.{and_parts, and_cases, and_from, and_left, and_right, or_cases, or_parts, or_from, or_left, or_right, not-true, not-false, not_from_true, not_from_false, cond-true, cond-false, cases_Bool, lt-leb, le-leb, ltb-true, ltb-false, leb-true}
use Rattle.std.proofs.lemmas.Cmp.{nat_list_eq_equiv}
use Rattle.std.proofs.lemmas.List.{length-append, map-append, take-append-drop, take_all}
use Rattle.std.proofs.lemmas.List.Splits.{length-slice_split}
use Rattle.std.proofs.Math.Seq.{take-suc}
use Rattle.std.proofs.lemmas.List.Folds.{list_all-append, list_any-append, list_any_at}
use Rattle.h5w_input.specs.Scripts.{is_word}
use Rattle.h5w_words.specs.Arguments.{link_names_in}
use Rattle.h5w_words.specs.Names.{are_distinct, are_link_names, is_link_byte, is_link_name, is_name, is_name_byte, may_follow, parts_of}

-- names of links that are taken so far
pub record AreTaken (names : List (List ℕ)) : Type 0 where
  pub few : nat_le (length names) 8 ≡ true
  pub links : list_all is_link_name names ≡ true
  pub distinct : are_distinct names ≡ true

pub none_taken : AreTaken []
none_taken = record { few = refl; links = refl; distinct = refl }

-- what their number is
pub at_most_8 : (names : List (List ℕ)) → AreTaken names → length names ≤ 8
at_most_8 names t = leb-true (length names) 8 t.few

-- the first of two names is the second, where the second is the first
turned : (a b : List ℕ) → is_word a b ≡ is_word b a
turned a b = nat_list_eq_equiv.symm b a

-- a name that is there already stands twice
twice : (xs ys : List (List ℕ)) (x : List ℕ) → list_any (is_word x) xs ≡ true → are_distinct (xs ++ x ∷ ys) ≡ false
twice [] ys x h = cc
twice (w ∷ ws) ys x h = cases (twice ws ys x) (or_cases (is_word x w) (list_any (is_word x) ws) h)
  where
    here : is_word x w ≡ true → list_any (is_word w) (ws ++ x ∷ ys) ≡ true
    here e = list_any-append (is_word w) ws (x ∷ ys) ∙ or_right (list_any (is_word w) ws) (is_word w x || list_any (is_word w) ys) (or_left (is_word w x) (list_any (is_word w) ys) (turned w x ∙ e))

    cases : (list_any (is_word x) ws ≡ true → are_distinct (ws ++ x ∷ ys) ≡ false) → (is_word x w ≡ true) ⊎ (list_any (is_word x) ws ≡ true)
        → (not (list_any (is_word w) (ws ++ x ∷ ys)) && are_distinct (ws ++ x ∷ ys)) ≡ false
    cases among (inl e) = and_left _ _ (not_from_true _ (here e))
    cases among (inr e) = and_right _ _ (among e)

-- a name that is not there yet
once : (xs : List (List ℕ)) (x : List ℕ) → are_distinct xs ≡ true → list_any (is_word x) xs ≡ false → are_distinct (xs ++ x ∷ []) ≡ true
once [] x d h = refl
once (w ∷ ws) x d h =
    let parts = and_parts (not (list_any (is_word w) ws)) (are_distinct ws) d in
    let others = or_parts (is_word x w) (list_any (is_word x) ws) h in
    let lacks : list_any (is_word w) (ws ++ x ∷ []) ≡ false =
    list_any-append (is_word w) ws (x ∷ []) ∙ or_from (list_any (is_word w) ws) (is_word w x || false) (not-true _ parts.0) (or_from (is_word w x) false (turned w x ∙ others.0) refl) in
    and_from _ _ (not_from_false _ lacks) (once ws x parts.1 others.1)

longer : (xs ys : List (List ℕ)) (x : List ℕ) → nat_lt (length xs) 8 ≡ false → nat_le (length (xs ++ x ∷ ys)) 8 ≡ false
longer xs ys x h = lt-leb (length (xs ++ x ∷ ys)) 8 (omega (arith, ltb-false (length xs) 8 h, length-append xs (x ∷ ys)))

no_link : (xs ys : List (List ℕ)) (x : List ℕ) → is_link_name x ≡ false → list_all is_link_name (xs ++ x ∷ ys) ≡ false
no_link xs ys x h = list_all-append is_link_name xs (x ∷ ys) ∙ and_right (list_all is_link_name xs) _ (and_left (is_link_name x) _ h)

-- a name that may not follow some first ones is in no list of names of links behind them
stopped : (xs ys : List (List ℕ)) (x : List ℕ) → may_follow xs x ≡ false → are_link_names (xs ++ x ∷ ys) ≡ false
stopped xs ys x h = cases (and_cases (nat_lt (length xs) 8) (is_link_name x && not (list_any (is_word x) xs)) h)
  where
    few : Bool
    few = nat_le 1 (length (xs ++ x ∷ ys)) && nat_le (length (xs ++ x ∷ ys)) 8

    good : Bool
    good = list_all is_link_name (xs ++ x ∷ ys) && are_distinct (xs ++ x ∷ ys)

    behind : (is_link_name x ≡ false) ⊎ (not (list_any (is_word x) xs) ≡ false) → good ≡ false
    behind (inl e) = and_left _ _ (no_link xs ys x e)
    behind (inr e) = and_right _ _ (twice xs ys x (not-false _ e))

    cases : (nat_lt (length xs) 8 ≡ false) ⊎ ((is_link_name x && not (list_any (is_word x) xs)) ≡ false) → (few && good) ≡ false
    cases (inl e) = and_left few good (and_right _ _ (longer xs ys x e))
    cases (inr e) = and_right few good (behind (and_cases (is_link_name x) (not (list_any (is_word x) xs)) e))

-- one that may follow
followed : (xs : List (List ℕ)) (x : List ℕ) → AreTaken xs → may_follow xs x ≡ true → AreTaken (xs ++ x ∷ [])
followed xs x t h =
    let first = and_parts (nat_lt (length xs) 8) (is_link_name x && not (list_any (is_word x) xs)) h in
    let more = and_parts (is_link_name x) (not (list_any (is_word x) xs)) first.1 in
    record {
      few = le-leb (length (xs ++ x ∷ [])) 8 (omega (arith, ltb-true (length xs) 8 first.0, length-append xs (x ∷ [])));
      links = list_all-append is_link_name xs (x ∷ []) ∙ and_from (list_all is_link_name xs) _ t.links (and_from (is_link_name x) true more.0 refl);
      distinct = once xs x t.distinct (not-true _ more.1);
    }

all_taken : (xs : List (List ℕ)) → AreTaken xs → 1 ≤ length xs → are_link_names xs ≡ true
all_taken xs t some = and_from _ _ (and_from _ _ (le-leb 1 (length xs) some) t.few) (and_from _ _ t.links t.distinct)

-- whether a name is among others
held : (xs : List (List ℕ)) (x : List ℕ) → Contains xs x → list_any (is_word x) xs ≡ true
held xs x (k, within, same) = list_any_at (is_word x) xs k x within (ap (λ w. is_word x w) same ∙ nat_list_eq_equiv.refl x)

there : (xs : List (List ℕ)) (x : List ℕ) → list_any (is_word x) xs ≡ true → Contains xs x
there [] x h = cc
there (w ∷ ws) x h = cases (there ws x) (or_cases (is_word x w) (list_any (is_word x) ws) h)
  where
    cases : (list_any (is_word x) ws ≡ true → Contains ws x) → (is_word x w ≡ true) ⊎ (list_any (is_word x) ws ≡ true) → Contains (w ∷ ws) x
    cases among (inl e) = (0, omega arith, same_text w x (sym e))
    cases among (inr e) = let c = among e in (suc c.0, omega (arith, c.1), c.2)

has_is : (xs : List (List ℕ)) (x : List ℕ) (r : Bool) → (IsTrue r ↔ Contains xs x) → r ≡ list_any (is_word x) xs
has_is xs x true h = sym (held xs x (h.0 refl))
has_is xs x false h = sym (lacks (cases_Bool (list_any (is_word x) xs)))
  where
    lacks : (list_any (is_word x) xs ≡ true) ⊎ (list_any (is_word x) xs ≡ false) → list_any (is_word x) xs ≡ false
    lacks (inl e) = let no : IsTrue false = h.1 (there xs x e) in cc
    lacks (inr e) = e

-- ---- The parts of a text, one after another

-- the names of the first parts, and the next one
one_more : {X : Type 0} (f : X → List ℕ) (names : List (List ℕ)) (parts : List X) (i : ℕ) (d : X) → i < length parts → names ≡ map f (take i parts)
    → names ++ f (get_or parts i d) ∷ [] ≡ map f (take (i + 1) parts)
one_more f names parts i d inside same =
    let more : take (i + 1) parts ≡ take i parts ++ get_or parts i d ∷ [] = subst (λ n. take n parts ≡ take i parts ++ get_or parts i d ∷ []) (sym (add-one i)) (take-suc parts i d inside) in
    ap (λ l. l ++ f (get_or parts i d) ∷ []) same ∙ sym (map-append f (take i parts) (get_or parts i d ∷ [])) ∙ ap (map f) (sym more)

-- one more is taken
pub next_taken : {X : Type 0} (f : X → List ℕ) (names new : List (List ℕ)) (parts : List X) (i : ℕ) (d : X) (x y : List ℕ) → i < length parts → names ≡ map f (take i parts) → AreTaken names
    → x ≡ f (get_or parts i d) → y ≡ f (get_or parts i d) → may_follow names x ≡ true → new ≡ names ++ y ∷ [] → (new ≡ map f (take (i + 1) parts)) × AreTaken new
next_taken f names new parts i d x y inside same t first second follows is =
    let here : new ≡ names ++ f (get_or parts i d) ∷ [] = is ∙ ap (λ w. names ++ w ∷ []) second in
    (here ∙ one_more f names parts i d inside same, subst AreTaken (sym here) (followed names (f (get_or parts i d)) t (subst (λ w. may_follow names w ≡ true) first follows)))

-- all parts are taken
whole_names : {X : Type 0} (f : X → List ℕ) (text : List ℕ) (names : List (List ℕ)) (parts : List X) (i : ℕ) → length parts ≤ i → names ≡ map f (take i parts) → map f parts ≡ parts_of text → names ≡ parts_of text
whole_names f text names parts i all same cut = same ∙ ap (map f) (take_all i parts all) ∙ cut

pub some_parts : {X : Type 0} (f : X → List ℕ) (text : List ℕ) (names : List (List ℕ)) (parts : List X) (i : ℕ) → length parts ≤ i → names ≡ map f (take i parts) → map f parts ≡ parts_of text → 1 ≤ length names
some_parts f text names parts i all same cut = omega (arith, ap length (whole_names f text names parts i all same cut), length-slice_split (λ b. eqb b 44) text)

pub all_parts : {X : Type 0} (f : X → List ℕ) (text : List ℕ) (names : List (List ℕ)) (parts : List X) (i : ℕ) → length parts ≤ i → names ≡ map f (take i parts) → map f parts ≡ parts_of text → AreTaken names
    → link_names_in text ≡ Some names
all_parts f text names parts i all same cut t =
    let whole = whole_names f text names parts i all same cut in
    let good : are_link_names (parts_of text) ≡ true = subst (λ l. are_link_names l ≡ true) whole (all_taken names t (some_parts f text names parts i all same cut)) in
    cond-true (are_link_names (parts_of text)) (Some (parts_of text)) None good ∙ ap Some (sym whole)

-- one of them may not follow those before it
pub not_all : {X : Type 0} (f : X → List ℕ) (text : List ℕ) (names : List (List ℕ)) (parts : List X) (i : ℕ) (d : X) {x : List ℕ} → i < length parts → names ≡ map f (take i parts) → map f parts ≡ parts_of text
    → x ≡ f (get_or parts i d) → may_follow names x ≡ false → link_names_in text ≡ None
not_all f text names parts i d inside same cut first refused =
    let cutting : parts ≡ take i parts ++ get_or parts i d ∷ drop (suc i) parts = sym (take-append-drop i parts) ∙ ap (λ l. take i parts ++ l) (drop-cons parts i d inside) in
    let whole : parts_of text ≡ names ++ f (get_or parts i d) ∷ map f (drop (suc i) parts) =
    sym cut ∙ ap (map f) cutting ∙ map-append f (take i parts) (get_or parts i d ∷ drop (suc i) parts) ∙ ap (λ l. l ++ f (get_or parts i d) ∷ map f (drop (suc i) parts)) (sym same) in
    let bad : are_link_names (parts_of text) ≡ false = subst (λ l. are_link_names l ≡ false) (sym whole) (stopped names (map f (drop (suc i) parts)) (f (get_or parts i d)) (subst (λ w. may_follow names w ≡ false) first refused)) in
    cond-false (are_link_names (parts_of text)) (Some (parts_of text)) None bad

-- a name that has room, and that a link may have
pub unless_held : (xs : List (List ℕ)) (x : List ℕ) (r : Bool) → nat_lt (length xs) 8 ≡ true → is_link_name x ≡ true → (IsTrue r ↔ Contains xs x) → not r ≡ may_follow xs x
unless_held xs x r room link has = ap not (has_is xs x r has) ∙ sym (ap₂ (λ (a b : Bool). a && (b && not (list_any (is_word x) xs))) room link)

-- names of links in a text are such
pub sound_names : (text : List ℕ) (names : List (List ℕ)) → link_names_in text ≡ Some names → are_link_names names ≡ true
sound_names text names h = go (cases_Bool (are_link_names (parts_of text)))
  where
    some_is : (xs ys : List (List ℕ)) → Some xs ≡ Some ys → xs ≡ ys
    some_is xs ys e = cc

    none_is : (xs : List (List ℕ)) → None ≡ Some xs → ⊥
    none_is xs e = cc

    go : (are_link_names (parts_of text) ≡ true) ⊎ (are_link_names (parts_of text) ≡ false) → are_link_names names ≡ true
    go (inl e) = subst (λ l. are_link_names l ≡ true) (some_is (parts_of text) names (sym (cond-true (are_link_names (parts_of text)) (Some (parts_of text)) None e) ∙ h)) e
    go (inr e) = absurd (none_is names (sym (cond-false (are_link_names (parts_of text)) (Some (parts_of text)) None e) ∙ h))

-- how long a name is
pub name_bounds : (x : List ℕ) → is_name x ≡ true → (1 ≤ length x) × (length x ≤ 64)
name_bounds x h =
    let sizes = and_parts (nat_le 1 (length x) && nat_le (length x) 64) (list_all is_name_byte x) h in
    let both = and_parts (nat_le 1 (length x)) (nat_le (length x) 64) sizes.0 in
    (leb-true 1 (length x) both.0, leb-true (length x) 64 both.1)

-- how long a name of a link is
pub link_bounds : (x : List ℕ) → is_link_name x ≡ true → (1 ≤ length x) × (length x ≤ 255)
link_bounds x h =
    let sizes = and_parts (nat_le 1 (length x) && nat_le (length x) 255) (list_all is_link_byte x) h in
    let both = and_parts (nat_le 1 (length x)) (nat_le (length x) 255) sizes.0 in
    (leb-true 1 (length x) both.0, leb-true (length x) 255 both.1)

-- how many names of links there are
pub some_names : (names : List (List ℕ)) → are_link_names names ≡ true → (1 ≤ length names) × (length names ≤ 8)
some_names names h =
    let counts = and_parts (nat_le 1 (length names) && nat_le (length names) 8) (list_all is_link_name names && are_distinct names) h in
    let both = and_parts (nat_le 1 (length names)) (nat_le (length names) 8) counts.0 in
    (leb-true 1 (length names) both.0, leb-true (length names) 8 both.1)
