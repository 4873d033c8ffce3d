-- How many nodes of a tree are changed by a record more.
use Rattle.std.proofs.Common.{◌≡◌, ◌⊎◌, ℕ, zero, suc, ◌+◌, ◌*◌, ◌≤◌, Bool, true, false, List, [], ◌∷◌, ◌++◌, length, flat_map, take, drop, set, insert, refl, ap, inl, inr, arith, sum_by, Some, slice_get, length-append, take-append-drop}
use Rattle.std.specs.List.{All}
use Rattle.std.proofs.lemmas.Bool.{cases_Bool, cond-true, cond-false}
use Rattle.std.proofs.lemmas.List.Elements.{All-head, All-tail}
use Rattle.std.proofs.lemmas.List.Sums.{sum_by-cons, sum_by-append}
use Rattle.h5w_model.specs.Trees.{capacity_of}
use Rattle.h5w_bt.specs.declared.records.Record.{Record}
use Rattle.h5w_bt_nodes.specs.Nodes.{Tree, rank}
use Rattle.h5w_bt_nodes.specs.Puts.{changed_at, half, is_over, left_of, put, raised, right_of, settled, with_divided}
use Rattle.h5w_bt_nodes.specs.Shapes.{IsShape}
use Rattle.h5w_bt_index.specs.Marks.{IsMarked, clean_of}
use Rattle.h5w_bt_index.specs.Index.{Index, inserted, regrown}
use Rattle.h5w_bt_nodes.specs.Blocks.{changes, stood}
use Rattle.h5w_bt_index.proofs.Laws.{index_shaped}
use Rattle.h5w_bt_nodes.proofs.Over.{OnTheWay, on_the_way}
use Rattle.h5w_bt_nodes.proofs.Places.{at_place, none_is_not, some_same}
use Rattle.h5w_bt_index.proofs.Replaced.{put_changed}
use Rattle.h5w_bt_nodes.proofs.Steps.{is_there, not_there, put_below, put_here, renewed, settled_not, settled_over, there, went_down}
use Rattle.h5w_bt_index.proofs.Placed.{clean_stood}
use Rattle.h5w_tree_index_laws.specs.TreeImages.{InsertedChanges}

-- ---- The changed nodes of a node

flat_length : (d : ℕ) (cs : List (Tree d)) → length (flat_map (stood d) cs) ≡ sum_by (changes d) cs
flat_length d [] = refl
flat_length d (c ∷ cs) = omega (arith, length-append (stood d c) (flat_map (stood d) cs), flat_length d cs, sum_by-cons (changes d) c cs)

clean_none : (d : ℕ) (t : Tree d) → clean_of d t ≡ true → changes d t ≡ 0
clean_none d t e = ap length (clean_stood d t e)

pub leaf_one : (t : Tree zero) → t.clean ≡ false → changes zero t ≡ 1
leaf_one t e = ap length (cond-false t.clean _ _ e)

pub inner_more : (d : ℕ) (t : Tree (suc d)) → t.clean ≡ false → changes (suc d) t ≡ sum_by (changes d) t.children + 1
inner_more d t e =
    let all : stood (suc d) t ≡ flat_map (stood d) t.children ++ t.place ∷ [] = cond-false t.clean _ _ e in
    omega (arith, ap length all, length-append (flat_map (stood d) t.children) (t.place ∷ []), flat_length d t.children)

none_changed : (d : ℕ) (cs : List (Tree d)) → All (λ (c : Tree d). clean_of d c ≡ true) cs → sum_by (changes d) cs ≡ 0
none_changed d [] all = refl
none_changed d (c ∷ cs) all =
    omega (arith, sum_by-cons (changes d) c cs, clean_none d c (All-head (λ (c : Tree d). clean_of d c ≡ true) c cs all), none_changed d cs (All-tail (λ (c : Tree d). clean_of d c ≡ true) c cs all))

-- under a node there are no more than it counts
below_most : (d : ℕ) (t : Tree (suc d)) → IsMarked (suc d) t → sum_by (changes d) t.children ≤ changes (suc d) t
below_most d t m = elim (cases_Bool t.clean) [
  | inl e ↦ omega (arith, none_changed d t.children (m.0 e))
  | inr e ↦ omega (arith, inner_more d t e)
]

-- ---- Sums

changed_most : {A : Type 0} (g : A → ℕ) (F : A → A) (n i : ℕ) (xs : List A) (c : A) → slice_get xs i ≡ Some c → g (F c) ≤ g c + n → sum_by g (changed_at i F xs) ≤ sum_by g xs + n
changed_most g F n i [] c e h = absurd (none_is_not c e)
changed_most g F n zero (x ∷ xs) c e h =
    let s = some_same x c e in
    let a : g (F x) ≡ g (F c) = ap (λ y. g (F y)) s in
    let b : g x ≡ g c = ap g s in
    omega (arith, sum_by-cons g (F x) xs, sum_by-cons g x xs, a, b, h)
changed_most g F n (suc i) (x ∷ xs) c e h = omega (arith, changed_most g F n i xs c e h, sum_by-cons g x (changed_at i F xs), sum_by-cons g x xs)

divided_most : {A : Type 0} (g : A → ℕ) (F : A → A) (n i : ℕ) (xs : List A) (c l r : A) → slice_get xs i ≡ Some c → g l + g r ≤ g c + n → sum_by g (insert (set (changed_at i F xs) i l) (suc i) r) ≤ sum_by g xs + n
divided_most g F n i [] c l r e h = absurd (none_is_not c e)
divided_most g F n zero (x ∷ xs) c l r e h =
    let s : g x ≡ g c = ap g (some_same x c e) in
    omega (arith, sum_by-cons g l (r ∷ xs), sum_by-cons g r xs, sum_by-cons g x xs, s, h)
divided_most g F n (suc i) (x ∷ xs) c l r e h = omega (arith, divided_most g F n i xs c l r e h, sum_by-cons g x (insert (set (changed_at i F xs) i l) (suc i) r), sum_by-cons g x xs)

-- ---- A record more

-- a changed node in two is one more
parts_changes : (d : ℕ) (t : Tree d) → clean_of d t ≡ false → changes d (left_of d t) + changes d (right_of d t) ≡ changes d t + 1
parts_changes zero t e = omega (arith, leaf_one t e)
parts_changes (suc d) t e =
    let k : ℕ = suc (half (suc d)) in
    let all : sum_by (changes d) (take k t.children ++ drop k t.children) ≡ sum_by (changes d) t.children = ap (sum_by (changes d)) (take-append-drop k t.children) in
    omega (
      arith,
      all,
      inner_more d t e,
      inner_more d (left_of (suc d) t) refl,
      inner_more d (right_of (suc d) t) refl,
      sum_by-append (changes d) (take k t.children) (drop k t.children),
    )

abbrev marked_at : (d : ℕ) (t : Tree (suc d)) (i : ℕ) (c : Tree d) → IsMarked (suc d) t → slice_get t.children i ≡ Some c → IsMarked d c
marked_at d t i c m e = at_place (IsMarked d) t.children i c m.1 e

put_changes : (d : ℕ) (x : Record) (t : Tree d) → IsShape d (capacity_of d) t → IsMarked d t → changes d (put d x t) ≤ changes d t + (2 * d + 1)
put_changes zero x t s m = omega arith
put_changes (suc d) x t s m = elim (is_there x.key t.records) [
  | there a e ↦ (let here = ap (changes (suc d)) (put_here d x a t e) in omega (arith, here, inner_more d (renewed d x t) refl, below_most d t m))
  | not_there e ↦ (let w = on_the_way d x t s in
      let below = ap (changes (suc d)) (put_below d x t e) in
      let rest = go w (put_changes d x w.child w.shape (marked_at d t (rank x.key t.records) w.child m w.before)) (is_over d (put d x w.child)) refl in
      omega (arith, below, rest, below_most d t m))
]
  where
    go : (w : OnTheWay d x t) → changes d (put d x w.child) ≤ changes d w.child + (2 * d + 1) → (o : Bool) → is_over d (put d x w.child) ≡ o
        → changes (suc d) (settled d (rank x.key t.records) (went_down d x t)) ≤ sum_by (changes d) t.children + (2 * d + 1) + 2
    go w few true o =
        let i : ℕ = rank x.key t.records in
        let c : Tree d = put d x w.child in
        let u : Tree (suc d) = with_divided d i (went_down d x t) c in
        let is = ap (changes (suc d)) (settled_over d i (went_down d x t) c w.after o) in
        let two = parts_changes d c (put_changed d x w.child) in
        let most = divided_most (changes d) (put d x) (2 * d + 2) i t.children w.child (left_of d c) (right_of d c) w.before (omega (arith, two, few)) in
        omega (arith, is, inner_more d u refl, most)
    go w few false o =
        let i : ℕ = rank x.key t.records in
        let is = ap (changes (suc d)) (settled_not d i (went_down d x t) (put d x w.child) w.after o) in
        let most = changed_most (changes d) (put d x) (2 * d + 1) i t.children w.child w.before few in
        omega (arith, is, inner_more d (went_down d x t) refl, most)

raised_changes : (d : ℕ) (t : Tree d) → clean_of d t ≡ false → changes (suc d) (raised d t) ≡ changes d t + 2
raised_changes d t e =
    omega (arith, parts_changes d t e, inner_more d (raised d t) refl, sum_by-cons (changes d) (left_of d t) (right_of d t ∷ []), sum_by-cons (changes d) (right_of d t) [])

abbrev all_changes : Index → ℕ
all_changes v = changes v.depth v.root

pub inserted_changes : InsertedChanges
inserted_changes x v i j = go (cases_Bool (is_over v.depth (put v.depth x v.root)))
  where
    go : (is_over v.depth (put v.depth x v.root) ≡ true) ⊎ (is_over v.depth (put v.depth x v.root) ≡ false) → all_changes (regrown v.depth (put v.depth x v.root)) ≤ all_changes v + 7
    go (inl o) =
        let e : regrown v.depth (put v.depth x v.root) ≡ record { depth = suc v.depth; root = raised v.depth (put v.depth x v.root) } = cond-true (is_over v.depth (put v.depth x v.root)) _ _ o in
        let low : (inserted x v).depth ≡ suc v.depth = ap (λ (u : Index). u.depth) e in
        omega (arith, ap all_changes e, low, j.shallow, raised_changes v.depth (put v.depth x v.root) (put_changed v.depth x v.root), put_changes v.depth x v.root (index_shaped v i).shape i.marked)
    go (inr o) =
        let e : regrown v.depth (put v.depth x v.root) ≡ record { depth = v.depth; root = (put v.depth x v.root) } = cond-false (is_over v.depth (put v.depth x v.root)) _ _ o in
        omega (arith, ap all_changes e, i.shallow, put_changes v.depth x v.root (index_shaped v i).shape i.marked)
