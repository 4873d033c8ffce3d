-- Where the links of several names lead.
use Rattle.std.specs.Prelude.{◌≡◌, ℕ, List, [], ◌∷◌, Option, Some, None, Result, Ok, Err}
use Rattle.h5w_model.specs.Datasets.{FoundMessage, linked}
use Rattle.h5w_model.specs.declared.refusal.ReadError.{ReadError}
use Rattle.h5w_headers.specs.declared.linked.Linked.{Linked}

-- places, in the order of the names, up to the first name that is refused; and that refusal
abbrev pub Led : Type 0
Led = List ℕ × Option ReadError

-- what some names give by themselves, name after name
abbrev pub led_by : (List ℕ → Result ℕ ReadError) → List (List ℕ) → Led
led_by at [] = ([], None)
led_by at (name ∷ names) = elim (at name) [ Ok place ↦ (place ∷ (led_by at names).0, (led_by at names).1) | Err e ↦ ([], Some e) ]

-- where these are the places, and that is what is refused
abbrev pub LinksAre : List (List ℕ) → List FoundMessage → List ℕ → Option ReadError → Type 0
LinksAre names ms places refused = (places, refused) ≡ led_by (λ name. linked name ms) names

-- where no name is looked for, as the links are refused
abbrev pub not_led : ReadError → List (List ℕ) → Led
not_led e [] = ([], None)
not_led e (name ∷ names) = ([], Some e)

abbrev pub linked_of : Linked → Led
linked_of l = (l.places.items, l.refused)
