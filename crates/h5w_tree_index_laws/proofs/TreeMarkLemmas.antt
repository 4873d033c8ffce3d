-- The nodes on the way to a record that was put into a tree are changed; putting it again changes no more.
use Rattle.std.proofs.Common.{◌≡◌, ℕ, zero, suc, ◌+◌, ◌≤◌, true, false, List, [], ◌∷◌, length, map, refl, sym, ap, ◌∙◌, subst, inl, inr, arith, sum_by, Option, Some, None, is_some, slice_get}
use Rattle.std.specs.Prelude.{if◌then◌else◌}
use Rattle.std.specs.List.{All}
use Rattle.std.proofs.lemmas.Bool.{cases_Bool, cond-true, cond-false, false≢true}
use Rattle.std.proofs.lemmas.List.{length-map}
use Rattle.std.proofs.lemmas.List.Elements.{All-head, All-tail}
use Rattle.std.proofs.lemmas.List.Sums.{sum_by-cons, sum_by-append}
use Rattle.h5w_model.specs.Tables.{key_equal}
use Rattle.h5w_model.specs.Trees.{capacity_of}
use Rattle.h5w_model.specs.declared.cell.Key.{Key}
use Rattle.h5w_bt.specs.declared.records.Record.{Record}
use Rattle.h5w_bt.proofs.KeyLemmas.{equal-is, below-not_equal, above-not_equal, above-from}
use Rattle.h5w_bt_nodes.specs.Nodes.{Tree, address_in, all_records, found, joined, rank}
use Rattle.h5w_bt_nodes.specs.Puts.{changed_at, put}
use Rattle.h5w_bt_nodes.specs.Shapes.{IsShape}
use Rattle.h5w_bt_index.specs.Sound.{IsRising, IsSound}
use Rattle.h5w_bt_index.specs.Marks.{IsCleanPart, Part, Some_of}
use Rattle.h5w_bt_index.specs.Index.{Index, IsClean, IsIndex, inserted, records}
use Rattle.h5w_bt_nodes.specs.Blocks.{changes}
use Rattle.h5w_bt_index.proofs.Laws.{index_shaped, inserted-clean, put-there, same-index}
use Rattle.h5w_bt_nodes.proofs.Over.{OnTheWay, on_the_way}
use Rattle.h5w_bt_nodes.proofs.Places.{none_is_not, some_same}
use Rattle.h5w_bt_nodes.proofs.Records.{here, in-here, in-past, in-under, none_is_not_some, past, side, under}
use Rattle.h5w_bt_index.proofs.Rising.{AreAbove, Over, above_all}
use Rattle.h5w_bt_index.proofs.Replaced.{inserted_there, there_found, there_not_over}
use Rattle.h5w_bt_nodes.proofs.Steps.{found_below, is_there, not_there, put_below, put_here, renewed, settled_not, there, went_down}
use Rattle.h5w_tree_index_laws.specs.TreeMarks.{InsertedMarked, InsertedMarks, times_in, times_under}
use Rattle.h5w_tree_index_laws.proofs.TreeChangeLemmas.{inner_more, leaf_one}
use Rattle.h5w_tree_index_laws.proofs.TreeInsertLemmas.{sum_changed}

-- ---- Records of a key

abbrev one : Key → Record → ℕ
one key r = if key_equal r.key key then 1 else 0

times_cons : (key : Key) (r : Record) (rs : List Record) → times_in key (r ∷ rs) ≡ one key r + times_in key rs
times_cons key r rs = sum_by-cons (one key) r rs

one_same : (key : Key) (r : Record) → key_equal r.key key ≡ true → one key r ≡ 1
one_same key r e = cond-true (key_equal r.key key) 1 0 e

one_other : (key : Key) (r : Record) → key_equal r.key key ≡ false → one key r ≡ 0
one_other key r e = cond-false (key_equal r.key key) 1 0 e

-- one that is found is there
found_times : (key : Key) (rs : List Record) (a : ℕ) → address_in key rs ≡ Some a → 1 ≤ times_in key rs
found_times key [] a e = absurd (none_is_not_some a (sym e))
found_times key (r ∷ rs) a e = elim (side r.key key) [
  | under u ↦ omega (arith, times_cons key r rs, found_times key rs a (sym (in-under key r rs u) ∙ e))
  | here u f ↦ omega (arith, times_cons key r rs, one_same key r f)
  | past u f ↦ absurd (none_is_not_some a (sym e ∙ in-past key r rs u f))
]

above_times : (key : Key) (rs : List Record) → AreAbove key rs → times_in key rs ≡ 0
above_times key [] h = refl
above_times key (r ∷ rs) h =
    omega (arith, times_cons key r rs, one_other key r (above-not_equal key r.key (All-head (Over key) r rs h)), above_times key rs (All-tail (Over key) r rs h))

-- among rising records one that is not found is not there, and none is twice
absent_times : (key : Key) (rs : List Record) → IsRising rs → address_in key rs ≡ None → times_in key rs ≡ 0
absent_times key [] h e = refl
absent_times key (r ∷ rs) h e = elim (side r.key key) [
  | under u ↦ omega (arith, times_cons key r rs, one_other key r (below-not_equal r.key key u), absent_times key rs h.1 (sym (in-under key r rs u) ∙ e))
  | here u f ↦ absurd (none_is_not_some r.address (sym (in-here key r rs u f) ∙ e))
  | past u f ↦ omega (arith, times_cons key r rs, one_other key r f, above_times key rs (above_all r.key key rs (above-from r.key key u f) h.0))
]

once_times : (key : Key) (rs : List Record) → IsRising rs → times_in key rs ≤ 1
once_times key [] h = omega arith
once_times key (r ∷ rs) h = elim (cases_Bool (key_equal r.key key)) [
  | inl e ↦ omega (arith, times_cons key r rs, one_same key r e, above_times key rs (subst (λ (k : Key). AreAbove k rs) (equal-is r.key key e) h.0))
  | inr e ↦ omega (arith, times_cons key r rs, one_other key r e, once_times key rs h.1)
]

joined_times : (key : Key) (rs : List Record) (cs : List (List Record)) → length cs ≡ length rs + 1 → times_in key (joined rs cs) ≡ times_in key rs + sum_by (times_in key) cs
joined_times key [] [] n = absurd (omega arith)
joined_times key [] (c ∷ []) n = omega (arith, sum_by-cons (times_in key) c [])
joined_times key [] (c ∷ d ∷ cs) n = absurd (omega (arith, n))
joined_times key (r ∷ rs) [] n = absurd (omega (arith, n))
joined_times key (r ∷ rs) (c ∷ cs) n =
    omega (
      arith,
      sum_by-append (one key) c (r ∷ joined rs cs),
      times_cons key r (joined rs cs),
      joined_times key rs cs (omega (arith, n)),
      times_cons key r rs,
      sum_by-cons (times_in key) c cs,
    )

each_times : (key : Key) (d : ℕ) (cs : List (Tree d)) → ((c : Tree d) → IsSound d (capacity_of d) c → times_under key d c ≡ times_in key (all_records d c)) → All (IsSound d (capacity_of d)) cs
    → sum_by (times_under key d) cs ≡ sum_by (times_in key) (map (all_records d) cs)
each_times key d [] k s = refl
each_times key d (c ∷ cs) k s =
    omega (
      arith,
      k c (All-head (IsSound d (capacity_of d)) c cs s),
      each_times key d cs k (All-tail (IsSound d (capacity_of d)) c cs s),
      sum_by-cons (times_under key d) c cs,
      sum_by-cons (times_in key) (all_records d c) (map (all_records d) cs),
    )

-- those under a node are among all
times_all : (key : Key) (d m : ℕ) (t : Tree d) → IsSound d m t → times_under key d t ≡ times_in key (all_records d t)
times_all key zero m t s = refl
times_all key (suc d) m t s =
    omega (
      arith,
      each_times key d t.children (λ c. times_all key d (capacity_of d) c) s.each,
      joined_times key t.records (map (all_records d) t.children) (length-map t.children (all_records d) ∙ s.children),
    )

-- ---- Sums

-- each summand is within the sum
at_most : {A : Type 0} (g : A → ℕ) (xs : List A) (i : ℕ) (c : A) → slice_get xs i ≡ Some c → g c ≤ sum_by g xs
at_most g [] i c e = absurd (none_is_not c e)
at_most g (x ∷ xs) zero c e = omega (arith, ap g (some_same x c e), sum_by-cons g x xs)
at_most g (x ∷ xs) (suc i) c e = omega (arith, at_most g xs i c e, sum_by-cons g x xs)

some_sum : {A : Type 0} (P : A → Type 0) (g : A → ℕ) (n : ℕ) (xs : List A) → ((c : A) → P c → n ≤ g c) → Some_of P xs → n ≤ sum_by g xs
some_sum P g n [] k h = absurd h
some_sum P g n (x ∷ xs) k (inl h) = omega (arith, k x h, sum_by-cons g x xs)
some_sum P g n (x ∷ xs) k (inr h) = omega (arith, some_sum P g n xs k h, sum_by-cons g x xs)

some_at : {A : Type 0} (P : A → Type 0) (xs : List A) (i : ℕ) (c : A) → slice_get xs i ≡ Some c → P c → Some_of P xs
some_at P [] i c e p = absurd (none_is_not c e)
some_at P (x ∷ xs) zero c e p = inl (subst P (sym (some_same x c e)) p)
some_at P (x ∷ xs) (suc i) c e p = inr (some_at P xs i c e p)

-- where one summand is all of the sum, and the changed one has none
changed_none : {A : Type 0} (P : A → Type 0) (g : A → ℕ) (n : ℕ) (F : A → A) (i : ℕ) (xs : List A) (c : A) → slice_get xs i ≡ Some c → 1 ≤ g c → sum_by g xs ≤ 1 → ((y : A) → P y → n ≤ g y) → (P (F c) → n ≡ 0)
    → Some_of P (changed_at i F xs) → n ≡ 0
changed_none P g n F i [] c e some most k q h = absurd (none_is_not c e)
changed_none P g n F zero (x ∷ xs) c e some most k q (inl h) = q (subst (λ y. P (F y)) (some_same x c e) h)
changed_none P g n F zero (x ∷ xs) c e some most k q (inr h) = omega (arith, some_sum P g n xs k h, sum_by-cons g x xs, ap g (some_same x c e), some, most)
changed_none P g n F (suc i) (x ∷ xs) c e some most k q (inl h) = omega (arith, k x h, at_most g xs i c e, sum_by-cons g x xs, some, most)
changed_none P g n F (suc i) (x ∷ xs) c e some most k q (inr h) = changed_none P g n F i xs c e some (omega (arith, sum_by-cons g x xs, most)) k q h

-- ---- The nodes on the way

abbrev times_of : Key → Part → ℕ
times_of key p = times_under key p.depth p.tree

-- what is under a part is under the tree
part_times : (key : Key) (p : Part) (d : ℕ) (t : Tree d) → IsCleanPart p d t → times_of key p ≤ times_under key d t
part_times key p zero t h = omega (arith, ap (times_of key) h.1)
part_times key p (suc d) t (inl h) = omega (arith, ap (times_of key) h.1)
part_times key p (suc d) t (inr h) = omega (arith, some_sum (IsCleanPart p d) (times_under key d) (times_of key p) t.children (λ c. part_times key p d c) h)

-- what the way finds is under the tree
some_is : (o : Option ℕ) → is_some o ≡ true → (a : ℕ) × (o ≡ Some a)
some_is None h = absurd (false≢true h)
some_is (Some a) h = (a, refl)

found_child : (d : ℕ) (x : Record) (t : Tree (suc d)) (c : Tree d) → address_in x.key t.records ≡ None → slice_get t.children (rank x.key t.records) ≡ Some c → is_some (found (suc d) x.key t) ≡ true → is_some (found d x.key c) ≡ true
found_child d x t c none at f = ap is_some (sym (found_below d x.key t c none at)) ∙ f

found_under : (d : ℕ) (x : Record) (t : Tree d) → IsShape d (capacity_of d) t → is_some (found d x.key t) ≡ true → 1 ≤ times_under x.key d t
found_under zero x t s f = let a = some_is (address_in x.key t.records) f in found_times x.key t.records a.0 a.1
found_under (suc d) x t s f = elim (is_there x.key t.records) [
  | there a e ↦ omega (arith, found_times x.key t.records a e)
  | not_there e ↦
      let w = on_the_way d x t s in
      omega (arith, found_under d x w.child w.shape (found_child d x t w.child e w.before f), at_most (times_under x.key d) t.children (rank x.key t.records) w.child w.before)
]

-- a record that is there is put below without a division
put_down : (d : ℕ) (x : Record) (t : Tree (suc d)) → IsShape (suc d) (capacity_of (suc d)) t → address_in x.key t.records ≡ None → is_some (found (suc d) x.key t) ≡ true → put (suc d) x t ≡ went_down d x t
put_down d x t s e f =
    let w = on_the_way d x t s in
    put_below d x t e ∙ settled_not d (rank x.key t.records) (went_down d x t) (put d x w.child) w.after (there_not_over d x w.child w.shape (found_child d x t w.child e w.before f))

-- what is clean after it has no record of the key
put_none : (p : Part) (d : ℕ) (x : Record) (t : Tree d) → IsShape d (capacity_of d) t → is_some (found d x.key t) ≡ true → times_under x.key d t ≤ 1 → IsCleanPart p d (put d x t) → times_of x.key p ≡ 0
put_none p zero x t s f most h = absurd (false≢true (h.0))
put_none p (suc d) x t s f most h = elim (is_there x.key t.records) [
  | there a e ↦ own a e (subst (IsCleanPart p (suc d)) (put_here d x a t e) h)
  | not_there e ↦
      let w = on_the_way d x t s in
      let f_below = found_child d x t w.child e w.before f in
      let few : times_under x.key d w.child ≤ 1 = omega (arith, at_most (times_under x.key d) t.children (rank x.key t.records) w.child w.before, most) in
      below w (found_under d x w.child w.shape f_below) (put_none p d x w.child w.shape f_below few) (subst (IsCleanPart p (suc d)) (put_down d x t s e f) h)
]
  where
    own : (a : ℕ) → address_in x.key t.records ≡ Some a → IsCleanPart p (suc d) (renewed d x t) → times_of x.key p ≡ 0
    own a e (inl q) = absurd (false≢true (q.0))
    own a e (inr q) = omega (arith, some_sum (IsCleanPart p d) (times_under x.key d) (times_of x.key p) t.children (λ c. part_times x.key p d c) q, found_times x.key t.records a e, most)

    below : (w : OnTheWay d x t) → 1 ≤ times_under x.key d w.child → (IsCleanPart p d (put d x w.child) → times_of x.key p ≡ 0) → IsCleanPart p (suc d) (went_down d x t) → times_of x.key p ≡ 0
    below w some k (inl q) = absurd (false≢true (q.0))
    below w some k (inr q) =
        changed_none (IsCleanPart p d) (times_under x.key d) (times_of x.key p) (put d x) (rank x.key t.records) t.children w.child w.before some (omega (arith, most)) (λ c. part_times x.key p d c) k q

-- ---- The same record again

-- no clean part of the tree has a record of the key
abbrev AreChanged : (d : ℕ) → Key → Tree d → Type 0
AreChanged d key t = (p : Part) → IsCleanPart p d t → times_of key p ≡ 0

put_again : (d : ℕ) (x : Record) (t : Tree d) → IsShape d (capacity_of d) t → is_some (found d x.key t) ≡ true → AreChanged d x.key t → changes d (put d x t) ≡ changes d t
put_again zero x t s f all = elim (cases_Bool t.clean) [
  | inl e ↦ absurd (omega (arith, all (record { depth = zero; tree = t }) (e, refl), found_under zero x t s f))
  | inr e ↦ leaf_one (put zero x t) refl ∙ sym (leaf_one t e)
]
put_again (suc d) x t s f all = elim (cases_Bool t.clean) [
  | inl e ↦ absurd (omega (arith, all (record { depth = suc d; tree = t }) (inl (e, refl)), found_under (suc d) x t s f))
  | inr e ↦ elim (is_there x.key t.records) [
    | there a g ↦ ap (changes (suc d)) (put_here d x a t g) ∙ inner_more d (renewed d x t) refl ∙ sym (inner_more d t e)
    | not_there g ↦
        let w = on_the_way d x t s in
        let same = put_again d x w.child w.shape (found_child d x t w.child g w.before f) (λ p c. all p (inr (some_at (IsCleanPart p d) t.children (rank x.key t.records) w.child w.before c))) in
        ap (changes (suc d)) (put_down d x t s g f) ∙ inner_more d (went_down d x t) refl
        ∙ ap (λ (n : ℕ). n + 1) (sum_changed (changes d) (put d x) (rank x.key t.records) t.children w.child w.before same) ∙ sym (inner_more d t e)
  ]
]

-- ---- The index

abbrev all_changes : Index → ℕ
all_changes v = changes v.depth v.root

root_times : (key : Key) (v : Index) → IsIndex v → times_under key v.depth v.root ≡ times_in key (records v)
root_times key v i = times_all key v.depth (capacity_of v.depth) v.root i.sound

some_not_none : (o : Option ℕ) (a : ℕ) → o ≡ Some a → o ≡ None → ⊥
some_not_none o a e f = cc

module _ (x : Record) (v : Index) (i : IsIndex v) where
  -- its record is there: the root is not divided
  same_depth : is_some (found v.depth x.key v.root) ≡ true → record { depth = v.depth; root = put v.depth x v.root } ≡ inserted x v
  same_depth f = same-index x v (put v.depth x v.root) (there_not_over v.depth x v.root (index_shaped v i).shape f) refl

  own_changed : (p : Part) → IsClean p (inserted x v) → times_of x.key p ≡ 0
  own_changed p c = elim (is_there x.key (records v)) [
    | there a e ↦
        let f = there_found v x.key i (some_not_none (address_in x.key (records v)) a e) in
        let most : times_under x.key v.depth v.root ≤ 1 = omega (arith, root_times x.key v i, once_times x.key (records v) i.rises) in
        put_none p v.depth x v.root (index_shaped v i).shape f most (subst (IsClean p) (sym (same_depth f)) c)
    | not_there e ↦ omega (arith, part_times x.key p v.depth v.root (inserted-clean p x v (index_shaped v i) c), root_times x.key v i, absent_times x.key (records v) i.rises e)
  ]

  marked : InsertedMarked x v (inserted x v)
  marked = record {
    own = record { there = put-there x v i; changed = own_changed };
    others = λ key h. record { there = inserted_there x v key i h.there; changed = λ p c. h.changed p (inserted-clean p x v (index_shaped v i) c) };
    again = λ h.
        let f = there_found v x.key i h.there in
        ap all_changes (sym (same_depth f)) ∙ put_again v.depth x v.root (index_shaped v i).shape f h.changed;
  }

pub inserted_marks : InsertedMarks
inserted_marks x v i = marked x v i
