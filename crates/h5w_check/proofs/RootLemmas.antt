-- The root header, and the places that links give.
use Rattle.std.proofs.Common.{◌≡◌, ℕ, Bool, true, false, cond, List, [], ◌∷◌, ◌++◌, Option, Some, None, Result, Ok, Err, refl, sym, ◌∙◌, ap}
use Rattle.std.specs.Prelude.{◌==◌}
use Rattle.std.specs.List.{list_any}
use Rattle.h5w_model.specs.Programs.{ret, eval}
use Rattle.h5w_model.specs.Datasets.{FoundMessage, HeaderFields, root_header, linked, then_also, refused_as}
use Rattle.h5w_model.specs.Findings.{Used, Finding, found, bad_root, no_link, same_header, header_ranges, checked_links, checked_names}
use Rattle.h5w_model.specs.declared.root.Super.{Super}
use Rattle.h5w_model.specs.declared.refusal.ReadError.{ReadError}
use Rattle.h5w_laws.proofs.ProgramLemmas.{eval_bind}
use Rattle.h5w_headers.specs.Linked.{Led, led_by, LinksAre}
use Rattle.h5w_check.specs.Headers.{finding_for}
use Rattle.h5w_check.specs.Ranges.{after}
use Rattle.h5w_check.specs.Roots.{met_again, names_after}

-- ---- Links

-- by the first place that is met again, the places, and what is refused
told_by : ℕ → Option ℕ → List ℕ → Option ReadError → Result (List ℕ) Finding
told_by root (Some place) places refused = Err (found same_header place)
told_by root None places (Some e) = Err (found no_link root)
told_by root None places None = Ok places

one_more : (root place : ℕ) (met : Option ℕ) (places : List ℕ) (refused : Option ReadError)
    → then_also (told_by root met places refused) (λ rest. Ok (place ∷ rest)) ≡ told_by root met (place ∷ places) refused
unfolding told_by
one_more root place (Some again) places refused = refl
one_more root place None places (Some e) = refl
one_more root place None places None = refl

-- what the first name's link gives, beside what the others give
abbrev first_led : Led → Result ℕ ReadError → Led
first_led led r = elim r as (λ _. Led) [ Ok place ↦ (place ∷ led.0, led.1) | Err e ↦ ([], Some e) ]

-- what comes once the first name's link is known
abbrev link_then : ℕ → List ℕ → List (List ℕ) → List FoundMessage → ℕ → Result (List ℕ) Finding
link_then root before names ms place =
    cond (list_any (λ a. a == place) before) (Err (found same_header place)) (then_also (checked_links root (before ++ place ∷ []) names ms) (λ rest. Ok (place ∷ rest)))

link_met : (root place : ℕ) (before : List ℕ) (led : Led) (r : Result (List ℕ) Finding) (c : Bool) → r ≡ told_by root (met_again (before ++ place ∷ []) led.0) led.0 led.1
    → cond c (Err (found same_header place)) (then_also r (λ rest. Ok (place ∷ rest))) ≡ told_by root (cond c (Some place) (met_again (before ++ place ∷ []) led.0)) (place ∷ led.0) led.1
unfolding told_by
link_met root place before led r true h = refl
link_met root place before led r false h =
    ap (λ (q : Result (List ℕ) Finding). then_also q (λ rest. Ok (place ∷ rest))) h ∙ one_more root place (met_again (before ++ place ∷ []) led.0) led.0 led.1

link_told : (root : ℕ) (before : List ℕ) (names : List (List ℕ)) (ms : List FoundMessage) (led : Led) (r : Result ℕ ReadError)
    → ((place : ℕ) → checked_links root (before ++ place ∷ []) names ms ≡ told_by root (met_again (before ++ place ∷ []) led.0) led.0 led.1)
    → then_also (refused_as (λ e. found no_link root) r) (link_then root before names ms) ≡ told_by root (met_again before (first_led led r).0) (first_led led r).0 (first_led led r).1
unfolding told_by
link_told root before names ms led (Ok place) h = link_met root place before led (checked_links root (before ++ place ∷ []) names ms) (list_any (λ a. a == place) before) (h place)
link_told root before names ms led (Err e) h = refl

links_told : (root : ℕ) (before : List ℕ) (names : List (List ℕ)) (ms : List FoundMessage)
    → let led : Led = led_by (λ name. linked name ms) names in checked_links root before names ms ≡ told_by root (met_again before led.0) led.0 led.1
unfolding told_by
links_told root before [] ms = refl
links_told root before (name ∷ names) ms = link_told root before names ms (led_by (λ name. linked name ms) names) (linked name ms) (λ place. links_told root (before ++ place ∷ []) names ms)

told_led : (root : ℕ) (led : Led) (places : List ℕ) (refused : Option ReadError) (met : Option ℕ) → (places, refused) ≡ led → met ≡ met_again [] places
    → told_by root (met_again [] led.0) led.0 led.1 ≡ told_by root met places refused
told_led root led places refused met e m =
    ap (λ (l : Led). told_by root (met_again [] l.0) l.0 l.1) (sym e) ∙ ap (λ (o : Option ℕ). told_by root o places refused) (sym m)

pub links_met : (root : ℕ) (names : List (List ℕ)) (ms : List FoundMessage) (places : List ℕ) (refused : Option ReadError) (place : ℕ)
    → LinksAre names ms places refused → Some place ≡ met_again [] places → checked_links root [] names ms ≡ Err (found same_header place)
unfolding told_by
links_met root names ms places refused place e m = links_told root [] names ms ∙ told_led root (led_by (λ name. linked name ms) names) places refused (Some place) e m

pub links_lost : (root : ℕ) (names : List (List ℕ)) (ms : List FoundMessage) (places : List ℕ) (f : ReadError)
    → LinksAre names ms places (Some f) → None ≡ met_again [] places → checked_links root [] names ms ≡ Err (found no_link root)
unfolding told_by
links_lost root names ms places f e m = links_told root [] names ms ∙ told_led root (led_by (λ name. linked name ms) names) places (Some f) None e m

pub links_all : (root : ℕ) (names : List (List ℕ)) (ms : List FoundMessage) (places : List ℕ)
    → LinksAre names ms places None → None ≡ met_again [] places → checked_links root [] names ms ≡ Ok places
unfolding told_by
links_all root names ms places e m = links_told root [] names ms ∙ told_led root (led_by (λ name. linked name ms) names) places None None e m

pub none_met : (o p : Option ℕ) → ((place : ℕ) → o ≡ Some place → ⊥) → o ≡ p → None ≡ p
none_met None p h e = e
none_met (Some place) p h e = absurd (h place refl)

-- ---- The root header

-- what follows the root header's messages
abbrev pub root_rest : List (List ℕ) → Super → List Used → HeaderFields → Result (List ℕ × List Used) Finding
root_rest names s old h = then_also (after old (header_ranges s.end h.ranges)) (λ mid. then_also (checked_links s.root [] names h.messages) (λ places. Ok (places, mid)))

root_links : (old us : List Used) (r : Result (List ℕ) Finding) → names_after old (then_also r (λ places. Ok (places, us))) ≡ then_also r (λ places. Ok (places, old ++ us))
root_links old us (Ok places) = refl
root_links old us (Err f) = refl

root_ranges : (old : List Used) (us : Result (List Used) Finding) (r : Result (List ℕ) Finding)
    → names_after old (then_also us (λ vs. then_also r (λ places. Ok (places, vs)))) ≡ then_also (after old us) (λ mid. then_also r (λ places. Ok (places, mid)))
root_ranges old (Ok us) r = root_links old us r
root_ranges old (Err f) r = refl

root_header_then : (names : List (List ℕ)) (s : Super) (old : List Used) (r : Result HeaderFields ReadError)
    → names_after old (then_also (refused_as (λ e. found bad_root s.root) r) (λ h. then_also (header_ranges s.end h.ranges) (λ us. then_also (checked_links s.root [] names h.messages) (λ places. Ok (places, us)))))
    ≡ then_also (finding_for 6 s.root r) (root_rest names s old)
root_header_then names s old (Ok h) = root_ranges old (header_ranges s.end h.ranges) (checked_links s.root [] names h.messages)
root_header_then names s old (Err e) = refl

pub root_parts : (img : List ℕ) (names : List (List ℕ)) (s : Super) (old : List Used)
    → names_after old (eval img (checked_names names s)) ≡ then_also (finding_for 6 s.root (eval img (root_header s.root))) (root_rest names s old)
root_parts img names s old =
    ap (names_after old) (eval_bind img (root_header s.root) (λ r. ret (
    then_also (refused_as (λ e. found bad_root s.root) r) (λ h.
    then_also (header_ranges s.end h.ranges) (λ us.
    then_also (checked_links s.root [] names h.messages) (λ places. Ok (places, us)))))))
    ∙ root_header_then names s old (eval img (root_header s.root))
