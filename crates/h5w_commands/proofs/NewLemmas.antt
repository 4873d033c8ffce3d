-- The making of a file by options and names.
use Rattle.std.proofs.Common.{◌≡◌, ◌≢◌, ℕ, Bool, true, false, List, [], ◌∷◌, length, refl, subst}
use Rattle.std.specs.Prelude.{not, ◌&&◌, nat_le}
use Rattle.std.specs.List.{AllByRecursion, list_all, list_any}
use Rattle.std.proofs.lemmas.Bool.{and_parts, not-true, or_parts}
use Rattle.std.proofs.lemmas.Cmp.{nat_list_eq_equiv}
use Rattle.h5w_creation.specs.Forms.{created_by}
use Rattle.h5w_creation.specs.declared.form.Form.{Form}
use Rattle.h5w_options.specs.declared.options.Options.{Options}
use Rattle.h5w_creation.specs.NewFiles.{new_file}
use Rattle.h5w_several_creation.specs.Forms.{AreNames, HasRoom, all_by}
use Rattle.h5w_several_creation_laws.specs.SeveralFiles.{AllNamed}
use Rattle.h5w_input.specs.Scripts.{is_word}
use Rattle.h5w_words.specs.Names.{are_distinct, are_link_names, are_names, is_link_name, is_name}
use Rattle.h5w_words.proofs.NameLemmas.{name_bounds, some_names}
use Rattle.h5w_commands.specs.News.{files_of}

-- the form of the options makes their datasets, under any name
pub by_options : (names : List (List ℕ)) (form : Form) (o : Options) → created_by o.name form ≡ new_file o → all_by names form ≡ files_of names o
by_options [] form o is = refl
by_options (name ∷ names) form o is = λ i. (record (is i) { name = name }) ∷ by_options names form o is i

each_room : (names : List (List ℕ)) → list_all is_name names ≡ true → AllByRecursion HasRoom names
each_room [] h = tt
each_room (name ∷ names) h = let both = and_parts (is_name name) (list_all is_name names) h in (name_bounds name both.0, each_room names both.1)

others : (name : List ℕ) (names : List (List ℕ)) → list_any (is_word name) names ≡ false → AllByRecursion (λ (other : List ℕ). name ≢ other) names
others name [] h = tt
others name (other ∷ names) h =
    let parts = or_parts (is_word name other) (list_any (is_word name) names) h in
    ((λ e. absurd (clash (is_word name other) (subst (λ (x : List ℕ). is_word name x ≡ true) e (nat_list_eq_equiv.refl name)) parts.0)), others name names parts.1)
  where
    clash : (b : Bool) → b ≡ true → b ≡ false → ⊥
    clash b h g = cc

all_named : (names : List (List ℕ)) → are_distinct names ≡ true → AllNamed names
all_named [] h = tt
all_named (name ∷ names) h =
    let parts = and_parts (not (list_any (is_word name) names)) (are_distinct names) h in
    (others name names (not-true (list_any (is_word name) names) parts.0), all_named names parts.1)

pub names_may : (names : List (List ℕ)) → are_names names ≡ true → AreNames names × AllNamed names
names_may names h =
    let both = and_parts (are_link_names names) (list_all is_name names) h in
    let counts = some_names names both.0 in
    let parts = and_parts (nat_le 1 (length names) && nat_le (length names) 8) (list_all is_link_name names && are_distinct names) both.0 in
    let more = and_parts (list_all is_link_name names) (are_distinct names) parts.1 in
    (record { some = counts.0; few = counts.1; each = each_room names both.1 }, all_named names more.1)
