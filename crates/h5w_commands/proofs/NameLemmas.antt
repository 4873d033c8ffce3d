-- Names of links, as the commands on files take them.
use Rattle.std.proofs.Common.{◌≡◌, ℕ, true, List, [], ◌∷◌, length, Some, subst, sym, arith}
use Rattle.std.specs.Prelude.{◌&&◌, ◌≤◌, nat_le}
use Rattle.std.specs.List.{All, AllByRecursion, list_all}
use Rattle.std.proofs.lemmas.Bool.{and_parts}
use Rattle.std.proofs.lemmas.List.Elements.{All-cons, All-nil}
use Rattle.h5w_repack.specs.Packed.{ArePacks}
use Rattle.h5w_words.specs.Names.{are_distinct, are_link_names, is_link_name}
use Rattle.h5w_words.proofs.NameLemmas.{link_bounds, some_names}
use Rattle.h5w_commands.specs.Appending.{only_of}

-- each has at most 255 bytes
each_short : (names : List (List ℕ)) → list_all is_link_name names ≡ true → AllByRecursion (λ (name : List ℕ). length name ≤ 255) names
each_short [] h = tt
each_short (name ∷ names) h = let both = and_parts (is_link_name name) (list_all is_link_name names) h in ((link_bounds name both.0).1, each_short names both.1)

-- datasets of these names may be packed
pub may_pack : (names : List (List ℕ)) → are_link_names names ≡ true → ArePacks names
may_pack names h =
    let counts = some_names names h in
    let parts = and_parts (nat_le 1 (length names) && nat_le (length names) 8) (list_all is_link_name names && are_distinct names) h in
    let more = and_parts (list_all is_link_name names) (are_distinct names) parts.1 in
    record { some = counts.0; few = counts.1; each = each_short names more.0 }

abbrev Fits : List ℕ → Type 0
Fits name = length name ≤ 512

each_fits : (names : List (List ℕ)) → list_all is_link_name names ≡ true → All Fits names
each_fits [] h = All-nil Fits
each_fits (name ∷ names) h =
    let both = and_parts (is_link_name name) (list_all is_link_name names) h in
    All-cons Fits name names (omega (arith, (link_bounds name both.0).1)) (each_fits names both.1)

-- datasets of these names may be appended to
pub may_append : (names : List (List ℕ)) → are_link_names names ≡ true → All (λ (name : List ℕ). length name ≤ 512) names
may_append names h =
    let parts = and_parts (nat_le 1 (length names) && nat_le (length names) 8) (list_all is_link_name names && are_distinct names) h in
    each_fits names ((and_parts (list_all is_link_name names) (are_distinct names) parts.1).0)

-- so may the only one
pub only_fits : (names : List (List ℕ)) (name : List ℕ) → Some name ≡ only_of names → are_link_names names ≡ true → length name ≤ 512
only_fits [] name is h = absurd (cc)
only_fits (x ∷ []) name is h =
    let same : name ≡ x = cc in
    let parts = and_parts (nat_le 1 (length (x ∷ [])) && nat_le (length (x ∷ [])) 8) (list_all is_link_name (x ∷ []) && are_distinct (x ∷ [])) h in
    let more = and_parts (list_all is_link_name (x ∷ [])) (are_distinct (x ∷ [])) parts.1 in
    subst Fits (sym same) (omega (arith, (link_bounds x ((and_parts (is_link_name x) (list_all is_link_name []) more.0).0)).1))
only_fits (x ∷ y ∷ names) name is h = absurd (cc)
