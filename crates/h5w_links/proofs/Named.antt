-- The first link of a name, whether the name is that of a message or of a list.
use Rattle.std.proofs.Common.{◌≡◌, ℕ, Bool, true, false, cond, List, [], ◌∷◌, map, Option, Some, None, Ok, Err, refl, ap, sym, ◌∙◌}
use Rattle.std.specs.List.{find}
use Rattle.std.specs.Option.{option_map}
use Rattle.std.proofs.lemmas.Bool.{eq-eqb, ne_eqb}
use Rattle.h5w_model.specs.Links.{LinkFields, is_named, address_of, find_link}
use Rattle.h5w_model.specs.declared.refusal.LinkError.TheVariants.{NoSuchName, NotHard}
use Rattle.h5w_links.specs.Views.{link_view}
use Rattle.h5w_links.specs.declared.link.Link.{Link}

option_map-cond : {A B : Type 0} (view : A → B) (test : Bool) (one other : Option A) → option_map view (cond test one other) ≡ cond test (option_map view one) (option_map view other)
option_map-cond view true one other = refl
option_map-cond view false one other = refl

-- the first whose view passes
pub find-map : {A B : Type 0} (view : A → B) (test : B → Bool) (xs : List A) → find test (map view xs) ≡ option_map view (find (λ x. test (view x)) xs)
find-map view test [] = refl
find-map view test (x ∷ xs) =
    ap (cond (test (view x)) (Some (view x))) (find-map view test xs) ∙ sym (option_map-cond view (test (view x)) (Some x) (find (λ y. test (view y)) xs))

-- what is found in the list is what the definition finds
pub found_by : (list : List Link) (links : List LinkFields) (name : List ℕ) (found : Option Link) → map link_view list ≡ links → found ≡ find (λ link. is_named name (link_view link)) list
    → find_link links name ≡ address_of (option_map link_view found)
unfolding find_link
found_by list links name found e f =
    ap (λ ls. address_of (find (is_named name) ls)) (sym e) ∙ ap address_of (find-map link_view (is_named name) list ∙ ap (option_map link_view) (sym f))

pub none_found : (found : Option Link) → found ≡ None → address_of (option_map link_view found) ≡ Err NoSuchName
none_found found e = rw e refl

pub hard_found : (found : Option Link) (link : Link) → found ≡ Some link → link.kind ≡ 0 → address_of (option_map link_view found) ≡ Ok link.address
hard_found found link e h = rw (e, eq-eqb link.kind 0 h) refl

pub other_found : (found : Option Link) (link : Link) → found ≡ Some link → (link.kind ≡ 0 → ⊥) → address_of (option_map link_view found) ≡ Err (NotHard link.kind)
other_found found link e h = rw (e, ne_eqb link.kind 0 h) refl
