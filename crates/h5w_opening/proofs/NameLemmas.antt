-- The links of several names.
use Rattle.std.proofs.Common.{◌≡◌, ℕ, suc, List, [], ◌∷◌, length, Option, Some, None, Result, Ok, Err, refl, sym, ◌∙◌, ap, subst}
use Rattle.h5w_model.specs.Datasets.{FoundMessage, linked, all_linked, same_link, then_also, refused_as}
use Rattle.h5w_model.specs.declared.refusal.ReadError.{ReadError}
use Rattle.h5w_headers.specs.Linked.{Led, led_by, LinksAre}
use Rattle.h5w_headers.proofs.RanLemmas.{step_ok, step_err}
use Rattle.h5w_opening.specs.Fronts.{places_by, unlike}
use Rattle.h5w_opening.specs.declared.error.OpenError.TheVariants.{Read}

-- the places, where no name is refused
by_led : List ℕ → Option ReadError → Result (List ℕ) ReadError
by_led places None = Ok places
by_led places (Some e) = Err e

-- what the first name's link gives, beside what the others give
abbrev first_led : Led → Result ℕ ReadError → Led
first_led led q = elim q as (λ _. Led) [ Ok place ↦ (place ∷ led.0, led.1) | Err e ↦ ([], Some e) ]

one_more : (at : ℕ) (places : List ℕ) (refused : Option ReadError) → then_also (by_led places refused) (λ rest. Ok (at ∷ rest)) ≡ by_led (at ∷ places) refused
unfolding by_led
one_more at places None = refl
one_more at places (Some e) = refl

first : (q : Result ℕ ReadError) (r : Result (List ℕ) ReadError) (led : Led) → r ≡ by_led led.0 led.1 → then_also q (λ at. then_also r (λ rest. Ok (at ∷ rest))) ≡ by_led (first_led led q).0 (first_led led q).1
unfolding by_led
first (Ok at) r led h = ap (λ (x : Result (List ℕ) ReadError). then_also x (λ rest. Ok (at ∷ rest))) h ∙ one_more at led.0 led.1
first (Err e) r led h = refl

all_led : (names : List (List ℕ)) (ms : List FoundMessage) → all_linked names ms ≡ by_led (led_by (λ name. linked name ms) names).0 (led_by (λ name. linked name ms) names).1
unfolding by_led
all_led [] ms = refl
all_led (name ∷ names) ms = first (linked name ms) (all_linked names ms) (led_by (λ name. linked name ms) names) (all_led names ms)

told : (names : List (List ℕ)) (ms : List FoundMessage) (places : List ℕ) (refused : Option ReadError) → LinksAre names ms places refused → all_linked names ms ≡ by_led places refused
told names ms places refused e = all_led names ms ∙ ap (λ (l : Led). by_led l.0 l.1) (sym e)

pub places_refused : (names : List (List ℕ)) (ms : List FoundMessage) (places : List ℕ) (e : ReadError) → LinksAre names ms places (Some e) → places_by names ms ≡ Err (Read e)
unfolding by_led
places_refused names ms places e are = step_err (refused_as Read (all_linked names ms)) (Read e) (λ ps. unlike ps (same_link ps)) (ap (refused_as Read) (told names ms places (Some e) are))

pub places_unlike : (names : List (List ℕ)) (ms : List FoundMessage) (places : List ℕ) (same : Option (ℕ × ℕ)) → LinksAre names ms places None → same_link places ≡ same → places_by names ms ≡ unlike places same
unfolding by_led
places_unlike names ms places same are e =
    step_ok (refused_as Read (all_linked names ms)) places (λ ps. unlike ps (same_link ps)) (ap (refused_as Read) (told names ms places None are)) ∙ ap (unlike places) e

abbrev one_refused : ReadError → Option ReadError
one_refused e = Some e

led_len : (names : List (List ℕ)) (ms : List FoundMessage) → (led_by (λ name. linked name ms) names).1 ≡ None → length (led_by (λ name. linked name ms) names).0 ≡ length names
led_len [] ms h = refl
led_len (name ∷ names) ms h = go (linked name ms) (led_len names ms) h
  where
    go : (q : Result ℕ ReadError) → ((led_by (λ name. linked name ms) names).1 ≡ None → length (led_by (λ name. linked name ms) names).0 ≡ length names) → (first_led (led_by (λ name. linked name ms) names) q).1 ≡ None
        → length (first_led (led_by (λ name. linked name ms) names) q).0 ≡ suc (length names)
    go (Ok at) rest none = ap suc (rest none)
    go (Err e) rest none = let clash : one_refused e ≡ None = none in absurd cc

pub places_count : (names : List (List ℕ)) (ms : List FoundMessage) (places : List ℕ) → LinksAre names ms places None → length places ≡ length names
places_count names ms places are =
    subst (λ (l : Led). l.1 ≡ None → length l.0 ≡ length names) (sym are) (led_len names ms) refl

pub none_of : {A : Type 0} (o : Option A) → ((a : A) → o ≡ Some a → ⊥) → o ≡ None
none_of (Some a) h = absurd (h a refl)
none_of None h = refl
