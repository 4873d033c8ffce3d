-- The addresses of needed chunks, from the index on.
use Rattle.std.proofs.Common.{◌≡◌, ◌≢◌, ℕ, zero, suc, ◌+◌, ◌-◌, ◌<◌, ◌≤◌, Bool, true, false, cond, List, [], ◌∷◌, ◌++◌, length, map, take, get_or, Result, Ok, Err, ◌⊎◌, inl, inr, refl, sym, ◌∙◌, ap, append_assoc, append-nil, arith}
use Rattle.std.specs.Prelude.{◌==◌, nat_lt}
use Rattle.std.specs.List.{range_with_len}
use Rattle.std.proofs.lemmas.Bool.{lt-ltb, le-ltb, eq-eqb, ne_eqb, cases_Bool, cases_lt, eqb-true, eqb-false}
use Rattle.h5w_model.specs.Programs.{Prog, ret, whole, bind, and_then, cut_up}
use Rattle.h5w_model.specs.Numbers.{undefined}
use Rattle.h5w_model.specs.Arrays.{EahdFields, EaibFields, eahd_at, eaib_at, eahd_len, eaib_len}
use Rattle.h5w_model.specs.Trees.{BthdFields, bthd_at, bthd_len}
use Rattle.h5w_model.specs.Datasets.{Described, described, then_also, refused_as}
use Rattle.h5w_model.specs.Datasets as model
use Rattle.h5w_model.specs.Tables.{Reading, InPlace, nowhere, in_array, in_tree, in_place, array_in_place, tree_in_place, address_behind, needed, limit_of, needed_keys, keys_across}
use Rattle.h5w_model.specs.declared.cell.Key.{Key}
use Rattle.h5w_model.specs.declared.cell.IndexKind.{IndexKind}
use Rattle.h5w_model.specs.declared.cell.IndexKind.TheVariants.{Array, Tree}
use Rattle.h5w_model.specs.declared.refusal.Unsupported.{Unsupported}
use Rattle.h5w_model.specs.declared.refusal.ReadError.TheVariants as read_errors
use Rattle.h5w_model.specs.Calls.{CallRules, not_shrunk, rows_seen, known_table, some_unknown, address_or, each_unknown, table_from, needed_from}
use Rattle.h5w_model.specs.declared.refusal.BlockFault.{BlockFault}
use Rattle.h5w_model.specs.declared.refusal.ReadError.{ReadError}
use Rattle.h5w_model.specs.declared.refusal.ReadError.TheVariants.{Damaged}
use Rattle.h5w_lookup.specs.Looks.{with_store}
use Rattle.h5w_lookup.specs.Gathering.{cut_behind}
use Rattle.h5w_lookup.specs.Slots.{key_of, known_or, slots_from, answered, slots_rest}
use Rattle.h5w_lookup.specs.Attempts.{index_rest, array_rest, tree_rest, table_rest, described_rest}
use Rattle.h5w_dataset.specs.declared.dataset.Dataset.{Dataset}
use Rattle.h5w_lookup.proofs.PieceLemmas.{cut_up_is, then_assoc}
use Rattle.h5w_laws.proofs.NumberLemmas.{needed_count}

cases_eqb : (a b : ℕ) → (a ≡ b) ⊎ (a ≡ b → ⊥)
cases_eqb a b = elim (cases_Bool (a == b)) [ inl t ↦ inl (eqb-true a b t) | inr f ↦ inr (eqb-false a b f) ]

-- ---- Known addresses

pub lt_suc : (m n : ℕ) → nat_lt (suc m) (suc n) ≡ nat_lt m n
lt_suc m n = elim (cases_lt m n) [ inl h ↦ lt-ltb (suc m) (suc n) (omega arith) ∙ sym (lt-ltb m n h) | inr h ↦ le-ltb (suc m) (suc n) (omega arith) ∙ sym (le-ltb m n h) ]

-- some key has no known address exactly where there are more than the first that are defined
pub unknown_behind : (known : List ℕ) (ks : List Key) (full : ℕ) → ((i : ℕ) → i < full → get_or known i undefined ≢ undefined) → get_or known full undefined ≡ undefined → some_unknown known ks ≡ nat_lt full (length ks)
unknown_behind [] [] full defined first = sym (le-ltb full 0 (omega arith))
unknown_behind (a ∷ known) [] full defined first = sym (le-ltb full 0 (omega arith))
unknown_behind [] (k ∷ ks) zero defined first = sym (lt-ltb 0 (suc (length ks)) (omega arith))
unknown_behind [] (k ∷ ks) (suc full) defined first = absurd (defined 0 (omega arith) refl)
unknown_behind (a ∷ known) (k ∷ ks) zero defined first = rw (eq-eqb a undefined first) (sym (lt-ltb 0 (suc (length ks)) (omega arith)))
unknown_behind (a ∷ known) (k ∷ ks) (suc full) defined first =
    rw (ne_eqb a undefined (defined 0 (omega arith))) (unknown_behind known ks full (λ i h. defined (suc i) (omega arith)) first ∙ sym (lt_suc full (length ks)))

-- the keys of n chunks, from one on, where so many keys stand side by side
abbrev keys_from : ℕ → ℕ → ℕ → List Key
keys_from across from n = map (key_of across) (range_with_len from n)

-- an address that may be known, by the definition and chunk by chunk
first_step : (q : InPlace) (across : ℕ) (known : List ℕ) (i a : ℕ) → get_or known i undefined ≡ a → address_or q a (key_of across i) ≡ known_or q across known i
first_step q across known i a h = rw h refl

each_next : (at : ℕ) (d : Described) (p : InPlace) (across : ℕ) (all known : List ℕ) (n from : ℕ) (done : List ℕ) (a : ℕ)
    → and_then (each_unknown p known (keys_from across (from + 1) n)) (λ t. answered at d ((done ++ a ∷ []) ++ t)) ≡ and_then (slots_from p across all n (from + 1) (done ++ a ∷ [])) (answered at d)
    → and_then (and_then (each_unknown p known (keys_from across (from + 1) n)) (λ rs. ret (Ok (a ∷ rs)))) (λ t. answered at d (done ++ t)) ≡ and_then (slots_from p across all n (from + 1) (done ++ a ∷ [])) (answered at d)
each_next at d p across all known n from done a rest_is =
    let rest = each_unknown p known (keys_from across (from + 1) n) in
    then_assoc rest (λ rs. ret (Ok (a ∷ rs))) (λ t. answered at d (done ++ t))
    ∙ ap (λ (f : List ℕ → Prog (Result Reading ReadError)). and_then rest f) (λ i rs. ap (answered at d) (sym (append_assoc done (a ∷ []) rs)) i)
    ∙ rest_is

each_is : (at : ℕ) (d : Described) (p : InPlace) (across : ℕ) (all known : List ℕ) (n from : ℕ) (done : List ℕ) → ((j : ℕ) → get_or all (from + j) undefined ≡ get_or known j undefined)
    → and_then (each_unknown p known (keys_from across from n)) (λ t. answered at d (done ++ t)) ≡ and_then (slots_from p across all n from done) (answered at d)
each_is at d p across all [] zero from done same = ap (answered at d) (append-nil done)
each_is at d p across all (a ∷ known) zero from done same = ap (answered at d) (append-nil done)
each_is at d p across all [] (suc n) from done same =
    let k = key_of across from in
    let step = known_or p across all from in
    let none : get_or all from undefined ≡ undefined = ap (λ m. get_or all m undefined) (let z : from ≡ from + 0 = omega arith in z) ∙ same 0 in
    let rest = each_unknown p [] (keys_from across (from + 1) n) in
    let is : address_behind p k ≡ step = rw (none) refl in
    ap (λ (q : Prog (Result ℕ ReadError)). and_then (and_then q (λ a. and_then rest (λ rs. ret (Ok (a ∷ rs))))) (λ t. answered at d (done ++ t))) is
    ∙ then_assoc step (λ a. and_then rest (λ rs. ret (Ok (a ∷ rs)))) (λ t. answered at d (done ++ t))
    ∙ ap (λ (f : ℕ → Prog (Result Reading ReadError)). and_then step f) (λ i a. (each_next at d p across all [] n from done a (each_is at d p across all [] n (from + 1) (done ++ a ∷ [])
    (λ j. ap (λ m. get_or all m undefined) (let z : from + 1 + j ≡ from + suc j = omega arith in z) ∙ same (suc j)))) i)
    ∙ sym (then_assoc step (λ a. slots_from p across all n (from + 1) (done ++ a ∷ [])) (answered at d))
each_is at d p across all (b ∷ known) (suc n) from done same =
    let step = known_or p across all from in
    let first : get_or all from undefined ≡ b = ap (λ m. get_or all m undefined) (let z : from ≡ from + 0 = omega arith in z) ∙ same 0 in
    let rest = each_unknown p known (keys_from across (from + 1) n) in
    ap (λ (q : Prog (Result ℕ ReadError)). and_then (and_then q (λ a. and_then rest (λ rs. ret (Ok (a ∷ rs))))) (λ t. answered at d (done ++ t))) (first_step p across all from b first)
    ∙ then_assoc step (λ a. and_then rest (λ rs. ret (Ok (a ∷ rs)))) (λ t. answered at d (done ++ t))
    ∙ ap (λ (f : ℕ → Prog (Result Reading ReadError)). and_then step f) (λ i a. (each_next at d p across all known n from done a (each_is at d p across all known n (from + 1) (done ++ a ∷ [])
    (λ j. ap (λ m. get_or all m undefined) (let z : from + 1 + j ≡ from + suc j = omega arith in z) ∙ same (suc j)))) i)
    ∙ sym (then_assoc step (λ a. slots_from p across all n (from + 1) (done ++ a ∷ [])) (answered at d))

-- ---- The blocks in place

abbrev behind : ℕ → List ℕ → Described → List Key → InPlace → Prog (Result Reading ReadError)
behind at known d ks p = with_store (and_then (each_unknown p known ks) (answered at d))

behind_placed : (at : ℕ) (known : List ℕ) (d : Described) (p : InPlace) → behind at known d (needed_keys d) p ≡ slots_rest at known d p [] 0 []
unfolding slots_rest
behind_placed at known d p =
    let all : needed d ≡ needed d - 0 = omega arith in
    let across = keys_across d in
    ap with_store (each_is at d p across known known (needed d) 0 [] (λ j. ap (λ m. get_or known m undefined) (let z : 0 + j ≡ j = omega arith in z)))
    ∙ ap (λ m. with_store (and_then (slots_from p across known m 0 []) (answered at d))) all

index_given : ℕ → List ℕ → Described → List Key → ℕ → Result EaibFields BlockFault → Prog (Result Reading ReadError)
index_given at known d ks place r = with_store (and_then (and_then (ret (then_also (refused_as (Damaged place) r) (λ e. Ok (in_array e)))) (λ p. each_unknown p known ks)) (answered at d))

index_left : ℕ → List ℕ → Described → ℕ → Result EaibFields BlockFault → Prog (Result Reading ReadError)
index_left at known d place r = elim r [ Ok e ↦ slots_rest at known d (in_array e) [] 0 [] | Err f ↦ ret (Err (Damaged place f)) ]

index_alike : (at : ℕ) (known : List ℕ) (d : Described) (place : ℕ) (r : Result EaibFields BlockFault) → index_given at known d (needed_keys d) place r ≡ index_left at known d place r
unfolding index_given index_left
index_alike at known d place (Ok e) = behind_placed at known d (in_array e)
index_alike at known d place (Err f) = refl

array_given : ℕ → List ℕ → Described → List Key → ℕ → Result EahdFields BlockFault → Prog (Result Reading ReadError)
array_given at known d ks place r =
    with_store (and_then (and_then (elim r as (λ _. Prog (Result InPlace ReadError)) [
      | Ok a ↦ cond (a.block == undefined) (ret (Ok nowhere)) (whole a.block eaib_len (λ b. ret (then_also (refused_as (Damaged a.block) (eaib_at b a.block)) (λ e. Ok (in_array e)))))
      | Err f ↦ ret (Err (Damaged place f))
    ]) (λ p. each_unknown p known ks)) (answered at d))

array_left : ℕ → List ℕ → Described → ℕ → Result EahdFields BlockFault → Prog (Result Reading ReadError)
array_left at known d place r = elim r [
  | Ok a ↦ cond (a.block == undefined) (slots_rest at known d nowhere [] 0 []) (bind (cut_behind [] a.block eaib_len) (index_rest at known d a.block))
  | Err f ↦ ret (Err (Damaged place f))
]

array_alike : (at : ℕ) (known : List ℕ) (d : Described) (place : ℕ) (r : Result EahdFields BlockFault) → array_given at known d (needed_keys d) place r ≡ array_left at known d place r
unfolding array_given array_left index_rest index_given index_left
array_alike at known d place (Err f) = refl
array_alike at known d place (Ok a) =
    elim (a.block == undefined) as (λ c. with_store (and_then (and_then (cond c (ret (Ok nowhere)) (whole a.block eaib_len (λ b. ret (then_also (refused_as (Damaged a.block) (eaib_at b a.block)) (λ e. Ok (in_array e))))))
    (λ p. each_unknown p known (needed_keys d))) (answered at d))
    ≡ cond c (slots_rest at known d nowhere [] 0 []) (bind (cut_behind [] a.block eaib_len) (index_rest at known d a.block))) [
      | true ↦ behind_placed at known d nowhere
      | false ↦ ap (cut_up a.block eaib_len) (λ i b. index_alike at known d a.block (eaib_at b a.block) i) ∙ cut_up_is a.block eaib_len (index_rest at known d a.block)
    ]

-- given the blocks, the code's steps are these
pub index_ok : (at : ℕ) (known : List ℕ) (d : Described) (place : ℕ) (b : List ℕ) (e : EaibFields) → eaib_at b place ≡ Ok e → index_rest at known d place b ≡ slots_rest at known d (in_array e) [] 0 []
unfolding index_rest index_left
index_ok at known d place b e h = ap (index_left at known d place) h

pub index_err : (at : ℕ) (known : List ℕ) (d : Described) (place : ℕ) (b : List ℕ) (f : BlockFault) → eaib_at b place ≡ Err f → index_rest at known d place b ≡ ret (Err (Damaged place f))
unfolding index_rest index_left
index_err at known d place b f h = ap (index_left at known d place) h

pub array_err : (at : ℕ) (known : List ℕ) (d : Described) (place : ℕ) (b : List ℕ) (f : BlockFault) → eahd_at b place ≡ Err f → array_rest at known d place b ≡ ret (Err (Damaged place f))
unfolding array_rest array_left
array_err at known d place b f h = ap (array_left at known d place) h

pub array_none : (at : ℕ) (known : List ℕ) (d : Described) (place : ℕ) (b : List ℕ) (a : EahdFields) → eahd_at b place ≡ Ok a → a.block ≡ undefined → array_rest at known d place b ≡ slots_rest at known d nowhere [] 0 []
unfolding array_rest array_left
array_none at known d place b a h e = ap (array_left at known d place) h ∙ rw (eq-eqb a.block undefined e) refl

pub array_some : (at : ℕ) (known : List ℕ) (d : Described) (place : ℕ) (b : List ℕ) (a : EahdFields) → eahd_at b place ≡ Ok a → (a.block ≡ undefined → ⊥)
    → array_rest at known d place b ≡ bind (cut_behind [] a.block eaib_len) (index_rest at known d a.block)
unfolding array_rest array_left
array_some at known d place b a h e = ap (array_left at known d place) h ∙ rw (ne_eqb a.block undefined e) refl

-- the tree's header
tree_given : ℕ → List ℕ → Described → List Key → ℕ → Result BthdFields BlockFault → Prog (Result Reading ReadError)
tree_given at known d ks place r =
    with_store (and_then (and_then (ret (then_also (refused_as (Damaged place) r) (λ t. Ok (cond (t.root == undefined) nowhere (in_tree t))))) (λ p. each_unknown p known ks)) (answered at d))

tree_left : ℕ → List ℕ → Described → ℕ → Result BthdFields BlockFault → Prog (Result Reading ReadError)
tree_left at known d place r = elim r [ Ok t ↦ slots_rest at known d (cond (t.root == undefined) nowhere (in_tree t)) [] 0 [] | Err f ↦ ret (Err (Damaged place f)) ]

tree_alike : (at : ℕ) (known : List ℕ) (d : Described) (place : ℕ) (r : Result BthdFields BlockFault) → tree_given at known d (needed_keys d) place r ≡ tree_left at known d place r
unfolding tree_given tree_left
tree_alike at known d place (Ok t) = behind_placed at known d (cond (t.root == undefined) nowhere (in_tree t))
tree_alike at known d place (Err f) = refl

pub tree_err : (at : ℕ) (known : List ℕ) (d : Described) (place : ℕ) (b : List ℕ) (f : BlockFault) → bthd_at b place ≡ Err f → tree_rest at known d place b ≡ ret (Err (Damaged place f))
unfolding tree_rest tree_left
tree_err at known d place b f h = ap (tree_left at known d place) h

pub tree_none : (at : ℕ) (known : List ℕ) (d : Described) (place : ℕ) (b : List ℕ) (t : BthdFields) → bthd_at b place ≡ Ok t → t.root ≡ undefined → tree_rest at known d place b ≡ slots_rest at known d nowhere [] 0 []
unfolding tree_rest tree_left
tree_none at known d place b t h e = ap (tree_left at known d place) h ∙ rw (eq-eqb t.root undefined e) refl

pub tree_some : (at : ℕ) (known : List ℕ) (d : Described) (place : ℕ) (b : List ℕ) (t : BthdFields) → bthd_at b place ≡ Ok t → (t.root ≡ undefined → ⊥) → tree_rest at known d place b ≡ slots_rest at known d (in_tree t) [] 0 []
unfolding tree_rest tree_left
tree_some at known d place b t h e = ap (tree_left at known d place) h ∙ rw (ne_eqb t.root undefined e) refl

pub rest_known : (at : ℕ) (known : List ℕ) (d : Described) → some_unknown known (needed_keys d) ≡ false → table_rest at known d ≡ answered at d (take (needed d) known)
unfolding table_rest
rest_known at known d e = rw e refl

pub rest_nowhere : (at : ℕ) (known : List ℕ) (d : Described) → some_unknown known (needed_keys d) ≡ true → d.layout.address ≡ undefined → table_rest at known d ≡ slots_rest at known d nowhere [] 0 []
unfolding table_rest
rest_nowhere at known d some e = rw (some, eq-eqb d.layout.address undefined e) refl

abbrev rest_by : ℕ → List ℕ → Described → IndexKind → Prog (Result Reading ReadError)
rest_by at known d kind = elim kind [
  | Array ↦ bind (cut_behind [] d.layout.address eahd_len) (array_rest at known d d.layout.address)
  | Tree ↦ bind (cut_behind [] d.layout.address bthd_len) (tree_rest at known d d.layout.address)
]

pub rest_tree : (at : ℕ) (known : List ℕ) (d : Described) → some_unknown known (needed_keys d) ≡ true → (d.layout.address ≡ undefined → ⊥) → d.layout.index ≡ Tree → table_rest at known d ≡ bind (cut_behind [] d.layout.address bthd_len) (tree_rest at known d d.layout.address)
unfolding table_rest
rest_tree at known d some e kind = rw (some, ne_eqb d.layout.address undefined e) (ap (rest_by at known d) kind)

pub rest_array : (at : ℕ) (known : List ℕ) (d : Described) → some_unknown known (needed_keys d) ≡ true → (d.layout.address ≡ undefined → ⊥) → d.layout.index ≡ Array → table_rest at known d ≡ bind (cut_behind [] d.layout.address eahd_len) (array_rest at known d d.layout.address)
unfolding table_rest
rest_array at known d some e kind = rw (some, ne_eqb d.layout.address undefined e) (ap (rest_by at known d) kind)

-- by how many of the first are known
pub lacks_none : (known : List ℕ) (d : Described) (full : ℕ) → ((i : ℕ) → i < full → get_or known i undefined ≢ undefined) → get_or known full undefined ≡ undefined → needed d ≤ full → some_unknown known (needed_keys d) ≡ false
lacks_none known d full defined first h = unknown_behind known (needed_keys d) full defined first ∙ ap (nat_lt full) (needed_count d) ∙ le-ltb full (needed d) h

pub lacks_some : (known : List ℕ) (d : Described) (full : ℕ) → ((i : ℕ) → i < full → get_or known i undefined ≢ undefined) → get_or known full undefined ≡ undefined → full < needed d → some_unknown known (needed_keys d) ≡ true
lacks_some known d full defined first h = unknown_behind known (needed_keys d) full defined first ∙ ap (nat_lt full) (needed_count d) ∙ lt-ltb full (needed d) h

-- the kind of index is that of the shape
pub array_kind : (d : Dataset) → d.shape.growing ≡ false → d.layout.index ≡ Array
array_kind d e = d.indexed ∙ rw e refl

pub tree_kind : (d : Dataset) → d.shape.growing ≡ true → d.layout.index ≡ Tree
tree_kind d e = d.indexed ∙ rw e refl

-- ---- The definition's way

abbrev by_keys : ℕ → List ℕ → Described → List Key → Prog (Result Reading ReadError)
by_keys at known d ks = with_store (and_then (table_from known d ks) (answered at d))

abbrev by_table : ℕ → List ℕ → Described → Prog (Result Reading ReadError)
by_table at known d = by_keys at known d (needed_keys d)

place_none : (d : Described) → d.layout.address ≡ undefined → in_place d ≡ ret (Ok nowhere)
place_none d e = rw (eq-eqb d.layout.address undefined e) refl

place_array : (d : Described) → (d.layout.address ≡ undefined → ⊥) → d.layout.index ≡ Array → in_place d ≡ array_in_place d.layout.address
place_array d there kind = rw (ne_eqb d.layout.address undefined there, kind) refl

abbrev placed : ℕ → List ℕ → Described → List Key → Prog (Result InPlace ReadError) → Prog (Result Reading ReadError)
placed at known d ks p = with_store (and_then (and_then p (λ q. each_unknown q known ks)) (answered at d))

placed_array : (at : ℕ) (known : List ℕ) (d : Described) (address : ℕ) → placed at known d (needed_keys d) (array_in_place address) ≡ bind (cut_behind [] address eahd_len) (array_rest at known d address)
unfolding array_rest array_given array_left
placed_array at known d address =
    ap (cut_up address eahd_len) (λ i b. array_alike at known d address (eahd_at b address) i) ∙ cut_up_is address eahd_len (array_rest at known d address)

placed_tree : (at : ℕ) (known : List ℕ) (d : Described) (address : ℕ) → placed at known d (needed_keys d) (tree_in_place address) ≡ bind (cut_behind [] address bthd_len) (tree_rest at known d address)
unfolding tree_rest tree_given tree_left
placed_tree at known d address =
    ap (cut_up address bthd_len) (λ i b. tree_alike at known d address (bthd_at b address) i) ∙ cut_up_is address bthd_len (tree_rest at known d address)

place_tree : (d : Described) → (d.layout.address ≡ undefined → ⊥) → d.layout.index ≡ Tree → in_place d ≡ tree_in_place d.layout.address
place_tree d there kind = rw (ne_eqb d.layout.address undefined there, kind) refl

by_kind : (at : ℕ) (known : List ℕ) (d : Described) (kind : IndexKind) → d.layout.index ≡ kind → some_unknown known (needed_keys d) ≡ true → (d.layout.address ≡ undefined → ⊥) → placed at known d (needed_keys d) (in_place d) ≡ table_rest at known d
by_kind at known d Array kind some there = ap (placed at known d (needed_keys d)) (place_array d there kind) ∙ placed_array at known d d.layout.address ∙ sym (rest_array at known d some there kind)
by_kind at known d Tree kind some there = ap (placed at known d (needed_keys d)) (place_tree d there kind) ∙ placed_tree at known d d.layout.address ∙ sym (rest_tree at known d some there kind)

by_place : (at : ℕ) (known : List ℕ) (d : Described) → some_unknown known (needed_keys d) ≡ true → placed at known d (needed_keys d) (in_place d) ≡ table_rest at known d
by_place at known d some =
    elim (cases_eqb d.layout.address undefined) [
      | inl none ↦ ap (placed at known d (needed_keys d)) (place_none d none) ∙ behind_placed at known d nowhere ∙ sym (rest_nowhere at known d some none)
      | inr there ↦ by_kind at known d d.layout.index refl some there
    ]

abbrev pub table_if : List ℕ → Described → List Key → Bool → Prog (Result (List ℕ) ReadError)
table_if known d ks lacking = cond lacking (and_then (in_place d) (λ p. each_unknown p known ks)) (ret (Ok (take (length ks) known)))

-- where all are known
by_known : (at : ℕ) (known : List ℕ) (d : Described) → some_unknown known (needed_keys d) ≡ false → by_table at known d ≡ table_rest at known d
by_known at known d none =
    ap (λ c. with_store (and_then (table_if known d (needed_keys d) c) (answered at d))) none
    ∙ ap (λ n. answered at d (take n known)) (needed_count d)
    ∙ sym (rest_known at known d none)

by_unknown : (at : ℕ) (known : List ℕ) (d : Described) (ks : List Key) → some_unknown known ks ≡ true → by_keys at known d ks ≡ placed at known d ks (in_place d)
by_unknown at known d ks some = ap (λ c. with_store (and_then (table_if known d ks c) (answered at d))) some

pub table_is : (at : ℕ) (known : List ℕ) (d : Described) → by_table at known d ≡ table_rest at known d
table_is at known d =
    elim (cases_Bool (some_unknown known (needed_keys d))) [
      | inl t ↦ by_unknown at known d (needed_keys d) t ∙ by_place at known d t
      | inr f ↦ by_known at known d f
    ]

-- ---- From the dataset header's messages on

settled : CallRules → Result Described Unsupported → Prog (Result Reading ReadError)
settled g r =
    with_store (and_then (ret (refused_as read_errors.Unsupported r)) (λ d.
    and_then (ret (not_shrunk (rows_seen g.known) d)) (λ d.
    and_then (needed_from g.limits (known_table g.known d) d) (λ t. answered g.place d t))))

pub settled_err : (g : CallRules) (ms : List model.FoundMessage) (u : Unsupported) → described ms ≡ Err u → described_rest g ms ≡ ret (Err (read_errors.Unsupported u))
unfolding described_rest settled
settled_err g ms u e = ap (settled g) e

pub settled_shrunk : (g : CallRules) (ms : List model.FoundMessage) (d : Described) → described ms ≡ Ok d → d.shape.rows < rows_seen g.known → described_rest g ms ≡ ret (Err (read_errors.Shrunk (rows_seen g.known) d.shape.rows))
unfolding described_rest settled
settled_shrunk g ms d e h = ap (settled g) e ∙ rw (lt-ltb d.shape.rows (rows_seen g.known) h) refl

pub settled_many : (g : CallRules) (ms : List model.FoundMessage) (d : Described) (limit : ℕ) → described ms ≡ Ok d → rows_seen g.known ≤ d.shape.rows → limit ≡ limit_of g.limits d.layout.index → limit < needed d
    → described_rest g ms ≡ ret (Err (read_errors.TooManyChunks (needed d) limit))
unfolding described_rest settled
settled_many g ms d limit e h l many = let k : limit_of g.limits d.layout.index < needed d = omega arith in ap (settled g) e ∙ rw (le-ltb d.shape.rows (rows_seen g.known) h, l, lt-ltb (limit_of g.limits d.layout.index) (needed d) k) refl

settled_go : (g : CallRules) (ms : List model.FoundMessage) (d : Described) → described ms ≡ Ok d → rows_seen g.known ≤ d.shape.rows → needed d ≤ limit_of g.limits d.layout.index → described_rest g ms ≡ by_table g.place (known_table g.known d) d
unfolding described_rest settled
settled_go g ms d e h few = ap (settled g) e ∙ rw (le-ltb d.shape.rows (rows_seen g.known) h, le-ltb (limit_of g.limits d.layout.index) (needed d) few) refl

-- within the limits
pub settled_any : (g : CallRules) (ms : List model.FoundMessage) (d : Described) → described ms ≡ Ok d → rows_seen g.known ≤ d.shape.rows → needed d ≤ limit_of g.limits d.layout.index → described_rest g ms ≡ table_rest g.place (known_table g.known d) d
settled_any g ms d e h few = settled_go g ms d e h few ∙ table_is g.place (known_table g.known d) d
