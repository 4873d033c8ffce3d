-- The links of several names.
use Rattle.std.proofs.Common.{◌≡◌, ◌≢◌, ◌↔◌, ℕ, suc, ◌+◌, Bool, true, false, cond, ◌||◌, List, [], ◌∷◌, ◌++◌, length, Option, Some, None, Result, Ok, Err, refl, sym, ◌∙◌, ap, subst, append_assoc, arith}
use Rattle.std.specs.Prelude.{◌==◌}
use Rattle.std.specs.List.{AllByRecursion, list_any}
use Rattle.std.proofs.lemmas.Bool.{cond-true, cond-false, eqb-true, eqb-false, ne_eqb}
use Rattle.std.proofs.lemmas.List.{append-nil}
use Rattle.std.proofs.lemmas.List.Folds.{list_any-append}
use Rattle.h5w_model.specs.Numbers.{range}
use Rattle.h5w_model.specs.Programs.{Prog, ret, eval, and_then}
use Rattle.h5w_model.specs.Datasets.{FoundMessage, HeaderFields, root_header, linked, all_linked, number_of, same_behind, same_link, then_also, refused_as}
use Rattle.h5w_model.specs.Tables.{Limits, each_of}
use Rattle.h5w_model.specs.Findings.{Finding, found, no_link, same_header, bad_root, Used, Part, AllSummary, checked_super, checked_links, checked_names, checked_part, header_ranges, all_verdict, ranges_of_all}
use Rattle.h5w_model.specs.Relations.{AllPaired, AllDiffer}
use Rattle.h5w_model.specs.declared.root.Super.{Super}
use Rattle.h5w_model.specs.declared.refusal.ReadError.{ReadError}
use Rattle.h5w_laws.specs.Several.{LinkOrder, IsSecond, SameLinks}
use Rattle.h5w_laws.proofs.ProgramLemmas.{eval_bind, eval_and_then}
use Rattle.h5w_laws.proofs.ResultLemmas.{then_ok, then_from, refused_ok, fails}
use Rattle.h5w_laws.proofs.ApartLemmas.{all_as, all_joined}

abbrev pub of_links : List ℕ → Result (List ℕ) Finding
of_links places = Ok places

same_links_as : (ps qs : List ℕ) → of_links ps ≡ of_links qs → ps ≡ qs
same_links_as ps qs h = cc

abbrev no_links : Finding → Result (List ℕ) Finding
no_links f = Err f

-- a name's link leads to a place
abbrev pub IsLinked : List FoundMessage → List ℕ → ℕ → Type 0
IsLinked ms name place = linked name ms ≡ Ok place

abbrev is_in : List ℕ → ℕ → Bool
is_in before place = list_any (λ a. a == place) before

abbrev IsNew : List ℕ → ℕ → Type 0
IsNew before place = is_in before place ≡ false

-- what comes once the first name's link was found
abbrev pub link_step : ℕ → List ℕ → List (List ℕ) → List FoundMessage → ℕ → Result (List ℕ) Finding
link_step root before names ms place =
    cond (list_any (λ a. a == place) before) (Err (found same_header place)) (then_also (checked_links root (before ++ place ∷ []) names ms) (λ rest. of_links (place ∷ rest)))

-- ---- Found, and no two the same

or_none : (x y : Bool) → (x || y) ≡ false → (x ≡ false) × (y ≡ false)
or_none true y h = absurd cc
or_none false y h = (refl, h)

none_or : (x y : Bool) → x ≡ false → y ≡ false → (x || y) ≡ false
none_or true y h g = absurd cc
none_or false y h g = g

new_parts : (before : List ℕ) (a b : ℕ) → IsNew (before ++ a ∷ []) b → IsNew before b × (a ≢ b)
new_parts before a b h =
    let test : ℕ → Bool = λ c. c == b in
    let both = or_none (list_any test before) (list_any test (a ∷ [])) (sym (list_any-append test before (a ∷ [])) ∙ h) in
    let last = or_none (a == b) false both.1 in
    (both.0, eqb-false a b last.0)

new_from : (before : List ℕ) (a b : ℕ) → IsNew before b → a ≢ b → IsNew (before ++ a ∷ []) b
new_from before a b h g =
    let test : ℕ → Bool = λ c. c == b in
    list_any-append test before (a ∷ []) ∙ none_or (list_any test before) (list_any test (a ∷ [])) h (none_or (a == b) false (ne_eqb a b g) refl)

-- each name has its place, no two have one, and none has one of those before
pub record LinksFound (ms : List FoundMessage) (before : List ℕ) (names : List (List ℕ)) (places : List ℕ) : Type 0 where
  pub are : AllPaired (IsLinked ms) names places
  pub differ : AllDiffer places
  pub anew : AllByRecursion (IsNew before) places

pub links_found : (root : ℕ) (ms : List FoundMessage) (before : List ℕ) (names : List (List ℕ)) (places : List ℕ) → checked_links root before names ms ≡ Ok places → LinksFound ms before names places
links_found root ms before [] places h =
    let none : LinksFound ms before [] [] = record { are = tt; differ = tt; anew = tt } in
    subst (LinksFound ms before []) (same_links_as [] places h) none
links_found root ms before (name ∷ names) places h =
    let one = then_ok (refused_as (λ e. found no_link root) (linked name ms)) (link_step root before names ms) places h in
    let a : ℕ = one.0 in
    let anew = fails (list_any (λ c. c == a) before) (then_also (checked_links root (before ++ a ∷ []) names ms) (λ rest. of_links (a ∷ rest))) (found same_header a) places one.2 in
    let more = then_ok (checked_links root (before ++ a ∷ []) names ms) (λ rest. of_links (a ∷ rest)) places anew.1 in
    let rest = links_found root ms (before ++ a ∷ []) names more.0 more.1 in
    let behind = rest.anew in
    let all : LinksFound ms before (name ∷ names) (a ∷ more.0) = record {
      are = (refused_ok (λ e. found no_link root) (linked name ms) a one.1, rest.are);
      differ = (all_as (IsNew (before ++ a ∷ [])) (λ (b : ℕ). a ≢ b) more.0 (λ b n. (new_parts before a b n).1) behind, rest.differ);
      anew = (anew.0, all_as (IsNew (before ++ a ∷ [])) (IsNew before) more.0 (λ b n. (new_parts before a b n).0) behind);
    } in
    subst (LinksFound ms before (name ∷ names)) (same_links_as (a ∷ more.0) places more.2) all

all_new : (before : List ℕ) (a : ℕ) (places : List ℕ) → AllByRecursion (IsNew before) places → AllByRecursion (λ (b : ℕ). a ≢ b) places → AllByRecursion (IsNew (before ++ a ∷ [])) places
all_new before a [] h g = tt
all_new before a (b ∷ rest) h g = (new_from before a b h.0 g.0, all_new before a rest h.1 g.1)

pub links_from : (root : ℕ) (ms : List FoundMessage) (before : List ℕ) (names : List (List ℕ)) (places : List ℕ) → LinksFound ms before names places → checked_links root before names ms ≡ Ok places
links_from root ms before [] [] l = refl
links_from root ms before [] (a ∷ rest) l = absurd l.are
links_from root ms before (name ∷ names) [] l = absurd l.are
links_from root ms before (name ∷ names) (a ∷ rest) l =
    let are = l.are in
    let differ = l.differ in
    let anew = l.anew in
    let more = links_from root ms (before ++ a ∷ []) names rest (record { are = are.1; differ = differ.1; anew = all_new before a rest anew.1 differ.0 }) in
    then_from (refused_as (λ e. found no_link root) (linked name ms)) (link_step root before names ms) a (a ∷ rest) (ap (λ (q : Result ℕ ReadError). refused_as (λ e. found no_link root) q) are.0)
    (cond-false (list_any (λ c. c == a) before) (no_links (found same_header a)) (then_also (checked_links root (before ++ a ∷ []) names ms) (λ more. of_links (a ∷ more))) anew.0
    ∙ then_from (checked_links root (before ++ a ∷ []) names ms) (λ more. of_links (a ∷ more)) rest (a ∷ rest) more refl)

-- ---- The order

then_itself : (r : Result (List ℕ) Finding) → then_also r (λ rest. of_links rest) ≡ r
then_itself (Ok places) = refl
then_itself (Err f) = refl

then_longer : (a : ℕ) (places : List ℕ) (r : Result (List ℕ) Finding)
    → then_also (then_also r (λ rest. of_links (places ++ rest))) (λ rest. of_links (a ∷ rest)) ≡ then_also r (λ rest. of_links ((a ∷ places) ++ rest))
then_longer a places (Ok rest) = refl
then_longer a places (Err f) = refl

-- what names behind others come to, once these have their places
abbrev goes_on : ℕ → List FoundMessage → List ℕ → List (List ℕ) → List ℕ → Result (List ℕ) Finding
goes_on root ms before behind places = then_also (checked_links root (before ++ places) behind ms) (λ rest. of_links (places ++ rest))

abbrev Splits : ℕ → List FoundMessage → List ℕ → List (List ℕ) → List (List ℕ) → Type 0
Splits root ms before front behind = checked_links root before (front ++ behind) ms ≡ then_also (checked_links root before front ms) (λ places. goes_on root ms before behind places)

split_nested : (root : ℕ) (ms : List FoundMessage) (before : List ℕ) (behind : List (List ℕ)) (a : ℕ) (r : Result (List ℕ) Finding)
    → then_also (then_also r (λ places. goes_on root ms (before ++ a ∷ []) behind places)) (λ rest. of_links (a ∷ rest))
    ≡ then_also (then_also r (λ rest. of_links (a ∷ rest))) (λ places. goes_on root ms before behind places)
split_nested root ms before behind a (Ok places) =
    then_longer a places (checked_links root ((before ++ a ∷ []) ++ places) behind ms)
    ∙ ap (λ (b : List ℕ). then_also (checked_links root b behind ms) (λ rest. of_links ((a ∷ places) ++ rest))) (append_assoc before (a ∷ []) places)
split_nested root ms before behind a (Err f) = refl

split_tested : (root : ℕ) (ms : List FoundMessage) (before : List ℕ) (names behind : List (List ℕ)) (a : ℕ) (t : Bool) → Splits root ms (before ++ a ∷ []) names behind
    → cond t (no_links (found same_header a)) (then_also (checked_links root (before ++ a ∷ []) (names ++ behind) ms) (λ rest. of_links (a ∷ rest)))
    ≡ then_also (cond t (no_links (found same_header a)) (then_also (checked_links root (before ++ a ∷ []) names ms) (λ rest. of_links (a ∷ rest)))) (λ places. goes_on root ms before behind places)
split_tested root ms before names behind a true again = refl
split_tested root ms before names behind a false again =
    ap (λ (r : Result (List ℕ) Finding). then_also r (λ rest. of_links (a ∷ rest))) again
    ∙ split_nested root ms before behind a (checked_links root (before ++ a ∷ []) names ms)

split_step : (root : ℕ) (ms : List FoundMessage) (before : List ℕ) (names behind : List (List ℕ)) (q : Result ℕ Finding) → ((a : ℕ) → Splits root ms (before ++ a ∷ []) names behind)
    → then_also q (link_step root before (names ++ behind) ms) ≡ then_also (then_also q (link_step root before names ms)) (λ places. goes_on root ms before behind places)
split_step root ms before names behind (Ok a) again = split_tested root ms before names behind a (list_any (λ c. c == a) before) (again a)
split_step root ms before names behind (Err f) again = refl

-- what the first names have in front of what others have
links_split : (root : ℕ) (ms : List FoundMessage) (before : List ℕ) (front behind : List (List ℕ)) → Splits root ms before front behind
links_split root ms before [] behind =
    sym (ap (λ (b : List ℕ). then_also (checked_links root b behind ms) (λ rest. of_links rest)) (append-nil before) ∙ then_itself (checked_links root before behind ms))
links_split root ms before (name ∷ names) behind =
    split_step root ms before names behind (refused_as (λ e. found no_link root) (linked name ms)) (λ a. links_split root ms (before ++ a ∷ []) names behind)

second_link : (root place : ℕ) (places name : List ℕ) (behind : List (List ℕ)) (ms : List FoundMessage) → linked name ms ≡ Ok place → list_any (λ a. a == place) places ≡ true
    → checked_links root places (name ∷ behind) ms ≡ no_links (found same_header place)
second_link root place places name behind ms link there =
    ap (λ (q : Result ℕ ReadError). then_also (refused_as (λ e. found no_link root) q) (link_step root places behind ms)) link
    ∙ cond-true (list_any (λ a. a == place) places) (no_links (found same_header place)) (then_also (checked_links root (places ++ place ∷ []) behind ms) (λ rest. of_links (place ∷ rest))) there

-- ---- In the whole check

pub and_then_at : {A B E : Type 0} (img : List ℕ) (p : Prog (Result A E)) (f : A → Prog (Result B E)) (a : A) → eval img p ≡ Ok a → eval img (and_then p f) ≡ eval img (f a)
and_then_at {A} {B} {E} img p f a h = eval_and_then img p f ∙ ap (λ (r : Result A E). then_also r (λ x. eval img (f x))) h

and_then_refused : {A B E : Type 0} (img : List ℕ) (p : Prog (Result A E)) (f : A → Prog (Result B E)) (e : E) → eval img p ≡ Err e → eval img (and_then p f) ≡ Err e
and_then_refused {A} {B} {E} img p f e h = eval_and_then img p f ∙ ap (λ (r : Result A E). then_also r (λ x. eval img (f x))) h

abbrev pub of_names : List ℕ × List Used → Result (List ℕ × List Used) Finding
of_names t = Ok t

-- with the root header's ranges
abbrev pub links_step : List (List ℕ) → Super → HeaderFields → List Used → Result (List ℕ × List Used) Finding
links_step names s h us = then_also (checked_links s.root [] names h.messages) (λ places. of_names (places, us))

abbrev pub root_step : List (List ℕ) → Super → HeaderFields → Result (List ℕ × List Used) Finding
root_step names s h = then_also (header_ranges s.end h.ranges) (links_step names s h)

abbrev pub names_step : List (List ℕ) → Super → Result HeaderFields ReadError → Result (List ℕ × List Used) Finding
names_step names s r = then_also (refused_as (λ e. found bad_root s.root) r) (root_step names s)

pub eval_names : (img : List ℕ) (names : List (List ℕ)) (s : Super) → eval img (checked_names names s) ≡ names_step names s (eval img (root_header s.root))
eval_names img names s = eval_bind img (root_header s.root) (λ r. ret (names_step names s r))

abbrev pub of_all : Super → List Used → List Part → Result AllSummary Finding
of_all s root parts = all_verdict s parts (ranges_of_all root parts)

abbrev pub parts_step : Limits → Super → List ℕ × List Used → Prog (Result AllSummary Finding)
parts_step limits s root = and_then (each_of (checked_part limits s) root.0) (λ parts. ret (of_all s root.1 parts))

abbrev pub all_step : Limits → List (List ℕ) → Super → Prog (Result AllSummary Finding)
all_step limits names s = and_then (checked_names names s) (parts_step limits s)

pub link_order : LinkOrder
link_order = record {
  first = λ root before front behind ms f h.
      links_split root ms before front behind ∙ ap (λ (r : Result (List ℕ) Finding). then_also r (λ places. goes_on root ms before behind places)) h;
  onward = λ root before places front behind ms h.
      links_split root ms before front behind ∙ ap (λ (r : Result (List ℕ) Finding). then_also r (λ places. goes_on root ms before behind places)) h;
  second = λ root place places name front behind ms h link there.
      links_split root ms [] front (name ∷ behind)
      ∙ ap (λ (r : Result (List ℕ) Finding). then_also r (λ places. goes_on root ms [] (name ∷ behind) places)) h
      ∙ ap (λ (r : Result (List ℕ) Finding). then_also r (λ rest. of_links (places ++ rest))) (second_link root place places name behind ms link there);
  shown = λ limits img names size s h us f super header within links.
      and_then_at img (ret (checked_super size (range img 0 48))) (all_step limits names) s super
      ∙ and_then_refused img (checked_names names s) (parts_step limits s) f
      (eval_names img names s
      ∙ ap (names_step names s) header
      ∙ ap (λ (r : Result (List Used) Finding). then_also r (links_step names s h)) within
      ∙ ap (λ (r : Result (List ℕ) Finding). then_also r (λ places. of_names (places, us))) links);
}

-- ---- All links first, and then two to one header

abbrev of_places : List ℕ → Result (List ℕ) ReadError
of_places places = Ok places

same_places : (ps qs : List ℕ) → of_places ps ≡ of_places qs → ps ≡ qs
same_places ps qs h = cc

all_found : (ms : List FoundMessage) (names : List (List ℕ)) (places : List ℕ) → all_linked names ms ≡ Ok places → AllPaired (IsLinked ms) names places
all_found ms [] places h = subst (AllPaired (IsLinked ms) []) (same_places [] places h) tt
all_found ms (name ∷ names) places h =
    let one = then_ok (linked name ms) (λ a. then_also (all_linked names ms) (λ rest. of_places (a ∷ rest))) places h in
    let more = then_ok (all_linked names ms) (λ rest. of_places (one.0 ∷ rest)) places one.2 in
    subst (AllPaired (IsLinked ms) (name ∷ names)) (same_places (one.0 ∷ more.0) places more.2) (one.1, all_found ms names more.0 more.1)

all_from : (ms : List FoundMessage) (names : List (List ℕ)) (places : List ℕ) → AllPaired (IsLinked ms) names places → all_linked names ms ≡ Ok places
all_from ms [] [] h = refl
all_from ms [] (a ∷ rest) h = absurd h
all_from ms (name ∷ names) [] h = absurd h
all_from ms (name ∷ names) (a ∷ rest) h =
    then_from (linked name ms) (λ b. then_also (all_linked names ms) (λ more. of_places (b ∷ more))) a (a ∷ rest) h.0
    (then_from (all_linked names ms) (λ more. of_places (a ∷ more)) rest (a ∷ rest) (all_from ms names rest h.1) refl)

number_none : (a number : ℕ) (before : List ℕ) → number_of a number before ≡ None → IsNew before a
number_none a number [] h = refl
number_none a number (b ∷ rest) h = go (number_none a (number + 1) rest) (b == a) h
  where
    go : (number_of a (number + 1) rest ≡ None → IsNew rest a) → (t : Bool) → cond t (Some number) (number_of a (number + 1) rest) ≡ None → (t || is_in rest a) ≡ false
    go again true e = absurd cc
    go again false e = again e

none_number : (a number : ℕ) (before : List ℕ) → IsNew before a → number_of a number before ≡ None
none_number a number [] h = refl
none_number a number (b ∷ rest) h = go (none_number a (number + 1) rest) (b == a) h
  where
    go : (IsNew rest a → number_of a (number + 1) rest ≡ None) → (t : Bool) → (t || is_in rest a) ≡ false → cond t (Some number) (number_of a (number + 1) rest) ≡ None
    go again true e = absurd cc
    go again false e = again e

abbrev Differs : List ℕ → List ℕ → Type 0
Differs before places = AllDiffer places × AllByRecursion (IsNew before) places

differs_found : (before places : List ℕ) → same_behind before places ≡ None → Differs before places
differs_found before [] h = (tt, tt)
differs_found before (a ∷ rest) h = go (differs_found (before ++ a ∷ []) rest) (number_of a 1 before) refl h
  where
    go : (same_behind (before ++ a ∷ []) rest ≡ None → Differs (before ++ a ∷ []) rest) → (o : Option ℕ) → number_of a 1 before ≡ o
        → elim o as (λ _. Option (ℕ × ℕ)) [ Some first ↦ Some (first, length before + 1) | None ↦ same_behind (before ++ a ∷ []) rest ] ≡ None
        → Differs before (a ∷ rest)
    go again None e g =
        let more = again g in (
          (all_as (IsNew (before ++ a ∷ [])) (λ (b : ℕ). a ≢ b) rest (λ b n. (new_parts before a b n).1) more.1, more.0),
          (number_none a 1 before e, all_as (IsNew (before ++ a ∷ [])) (IsNew before) rest (λ b n. (new_parts before a b n).0) more.1),
        )
    go again (Some first) e g = absurd cc

differs_from : (before places : List ℕ) → Differs before places → same_behind before places ≡ None
differs_from before [] d = refl
differs_from before (a ∷ rest) d =
    go (number_of a 1 before) (none_number a 1 before d.1.0) (differs_from (before ++ a ∷ []) rest (d.0.1, all_new before a rest d.1.1 d.0.0))
  where
    go : (o : Option ℕ) → o ≡ None → same_behind (before ++ a ∷ []) rest ≡ None
        → elim o as (λ _. Option (ℕ × ℕ)) [ Some first ↦ Some (first, length before + 1) | None ↦ same_behind (before ++ a ∷ []) rest ] ≡ None
    go None e g = g
    go (Some first) e g = absurd cc

links_agree : (root : ℕ) (names : List (List ℕ)) (ms : List FoundMessage) (places : List ℕ)
    → (checked_links root [] names ms ≡ Ok places) ↔ ((all_linked names ms ≡ Ok places) × (same_link places ≡ None))
links_agree root names ms places = (
  (λ h.
      let l = links_found root ms [] names places h in
      let are = l.are in
      let differ = l.differ in
      let anew = l.anew in
      (all_from ms names places are, differs_from [] places (differ, anew))),
  (λ h.
      let d = differs_found [] places h.1 in
      links_from root ms [] names places (record { are = all_found ms names places h.0; differ = d.0; anew = d.1 })),
)

-- ---- Which two

abbrev of_number : ℕ → Option ℕ
of_number n = Some n

same_number : (m n : ℕ) → of_number m ≡ of_number n → m ≡ n
same_number m n h = cc

abbrev of_pair : ℕ × ℕ → Option (ℕ × ℕ)
of_pair p = Some p

same_pair : (p q : ℕ × ℕ) → of_pair p ≡ of_pair q → p ≡ q
same_pair p q h = cc

-- where an address stands first, by its number
record IsNumbered (a number : ℕ) (before : List ℕ) (n : ℕ) : Type 0 where
  front : List ℕ
  behind : List ℕ
  are : before ≡ front ++ a ∷ behind
  is : n ≡ number + length front

number_found : (a number : ℕ) (before : List ℕ) (n : ℕ) → number_of a number before ≡ Some n → IsNumbered a number before n
number_found a number [] n h = absurd cc
number_found a number (b ∷ rest) n h = go (number_found a (number + 1) rest n) (b == a) refl h
  where
    go : (number_of a (number + 1) rest ≡ Some n → IsNumbered a (number + 1) rest n) → (t : Bool) → (b == a) ≡ t
        → cond t (Some number) (number_of a (number + 1) rest) ≡ Some n → IsNumbered a number (b ∷ rest) n
    go again true e g =
        let same : number ≡ n = same_number number n g in
        record { front = []; behind = rest; are = ap (λ (x : ℕ). x ∷ rest) (eqb-true b a e); is = omega (arith, same) }
    go again false e g =
        let r = again g in
        let front : List ℕ = r.front in
        let long : length (b ∷ front) ≡ suc (length front) = refl in
        let is : n ≡ number + 1 + length front = r.is in
        record { front = b ∷ front; behind = r.behind; are = ap (λ (xs : List ℕ). b ∷ xs) r.are; is = omega (arith, long, is) }

differ_more : (before : List ℕ) (a : ℕ) → AllDiffer before → IsNew before a → AllDiffer (before ++ a ∷ [])
differ_more [] a d n = (tt, tt)
differ_more (b ∷ rest) a d n =
    let both = or_none (b == a) (is_in rest a) n in
    (all_joined (λ (c : ℕ). b ≢ c) rest (a ∷ []) d.0 (eqb-false b a both.0, tt), differ_more rest a d.1 both.1)

second_found : (before places : List ℕ) (i j : ℕ) → AllDiffer before → same_behind before places ≡ Some (i, j) → IsSecond (before ++ places) i j
second_found before [] i j d h = absurd cc
second_found before (a ∷ rest) i j d h = go (second_found (before ++ a ∷ []) rest i j) (number_of a 1 before) refl h
  where
    go : (AllDiffer (before ++ a ∷ []) → same_behind (before ++ a ∷ []) rest ≡ Some (i, j) → IsSecond ((before ++ a ∷ []) ++ rest) i j) → (o : Option ℕ) → number_of a 1 before ≡ o
        → elim o as (λ _. Option (ℕ × ℕ)) [ Some first ↦ Some (first, length before + 1) | None ↦ same_behind (before ++ a ∷ []) rest ] ≡ Some (i, j)
        → IsSecond (before ++ a ∷ rest) i j
    go again None e g =
        subst (λ (xs : List ℕ). IsSecond xs i j) (append_assoc before (a ∷ []) rest) (again (differ_more before a d (number_none a 1 before e)) g)
    go again (Some first) e g =
        let same = same_pair (first, length before + 1) (i, j) g in
        let one : first ≡ i = ap (λ (p : ℕ × ℕ). p.0) same in
        let two : length before + 1 ≡ j = ap (λ (p : ℕ × ℕ). p.1) same in
        let n = number_found a 1 before first e in
        let are : before ≡ n.front ++ a ∷ n.behind = n.are in
        let is : first ≡ 1 + length n.front = n.is in
        let long : length before ≡ length (n.front ++ a ∷ n.behind) = ap length are in
        record {
          place = a;
          front = n.front;
          between = n.behind;
          behind = rest;
          are = ap (λ (xs : List ℕ). xs ++ a ∷ rest) are;
          differ = subst AllDiffer are d;
          first_is = omega (arith, one, is);
          second_is = omega (arith, two, long);
        }

pub same_links : SameLinks
same_links = record { found = links_agree; same = λ places first second h. second_found [] places first second tt h }
