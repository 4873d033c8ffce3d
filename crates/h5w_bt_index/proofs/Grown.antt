-- A record put into a tree is that record put into all its records.
use Rattle.std.proofs.Common.{◌≡◌, ℕ, zero, suc, ◌+◌, ◌<◌, ◌≤◌, Bool, true, false, List, [], ◌∷◌, ◌++◌, length, map, take, drop, refl, sym, ap, ap₂, subst, ◌∙◌, arith, Option, Some, None, slice_get, insert, sum_by}
use Rattle.std.proofs.lemmas.List.Sums.{sum_by-cons}
use Rattle.std.proofs.lemmas.List.{length-map, take-map, drop-map}
use Rattle.std.proofs.lemmas.List.Elements.{All-cons, All-head, All-tail, All-nil}
use Rattle.std.specs.List.{All}
use Rattle.h5w_model.specs.declared.cell.Key.{Key}
use Rattle.h5w_model.specs.Trees.{capacity_of}
use Rattle.h5w_bt.specs.declared.records.Record.{Record}
use Rattle.h5w_bt_nodes.specs.Nodes.{Tree, all_records, records_of, rank, address_in, joined, found, total_of}
use Rattle.h5w_bt_nodes.specs.Puts.{put_record, put, settled, is_over, half, left_of, middle_of, right_of, no_record}
use Rattle.h5w_bt_index.specs.Sound.{IsRising, IsSound, IsInner}
use Rattle.h5w_bt_index.proofs.Joined.{joined-put_here, joined-put_below, joined-finds_here, joined-finds_below, joined-each_rises, joined-divided, joined-cut, length-joined}
use Rattle.h5w_bt_nodes.proofs.Places.{some_same, at_place, there_is, length-changed, get-changed, map-changed, cut-list, All-each}
use Rattle.h5w_bt_nodes.proofs.Steps.{settled_over, settled_not, went_down, put_here, put_below, found_here, found_below, rank-inside, there, not_there, is_there}
use Rattle.h5w_bt_nodes.proofs.Parts.{over-half}
use Rattle.h5w_bt_index.proofs.Parts.{put_sound}
use Rattle.h5w_bt_nodes.proofs.Children.{get-map, map_in_two}

-- the node's lists of what is under its children
abbrev pub lists : (d : ℕ) → List (Tree d) → List (List Record)
lists d cs = map (all_records d) cs

lists_long : (d m : ℕ) (P : Tree d → Type 0) (t : Tree (suc d)) → IsInner d m P t → length (lists d t.children) ≡ length t.records + 1
lists_long d m P t s = length-map t.children (all_records d) ∙ s.children

-- ---- A node and its two parts

pub parts_records : (d m : ℕ) (t : Tree d) → IsSound d m t → half d < length (records_of d t) →
    all_records d t ≡ all_records d (left_of d t) ++ middle_of d t ∷ all_records d (right_of d t)
parts_records zero m t s h = cut-list (half zero) t.records no_record h
parts_records (suc d) m t s h =
    joined-cut t.records (lists d t.children) (half (suc d)) no_record (lists_long d m (IsSound d (capacity_of d)) t s) h
    ∙ ap₂ (λ (a b : List (List Record)). joined (take (half (suc d)) t.records) a ++ middle_of (suc d) t ∷ joined (drop (suc (half (suc d))) t.records) b)
    (take-map (all_records d) (suc (half (suc d))) t.children) (drop-map (all_records d) (suc (half (suc d))) t.children)

-- a division of a child moves no record
pub settled_records : (d i : ℕ) (t : Tree (suc d)) → i ≤ length t.records → length t.children ≡ length t.records + 1 → ((c : Tree d) → slice_get t.children i ≡ Some c → IsSound d (suc (capacity_of d)) c) →
    all_records (suc d) (settled d i t) ≡ all_records (suc d) t
settled_records d i t le n k =
    let (c, e) = there_is t.children i (omega (arith, n, le)) in
    go c e (k c e) (is_over d c) refl
  where
    go : (c : Tree d) → slice_get t.children i ≡ Some c → IsSound d (suc (capacity_of d)) c → (o : Bool) → is_over d c ≡ o →
        all_records (suc d) (settled d i t) ≡ all_records (suc d) t
    go c e s true o = ap (all_records (suc d)) (settled_over d i t c e o)
        ∙ ap (λ (l : List (List Record)). joined (insert t.records i (middle_of d c)) l) (map_in_two (all_records d) i t.children (left_of d c) (right_of d c))
        ∙ joined-divided t.records (lists d t.children) i (middle_of d c) (all_records d (left_of d c)) (all_records d (right_of d c)) (all_records d c)
        (get-map (all_records d) i t.children c e) le (parts_records d (suc (capacity_of d)) c s (over-half d c o))
    go c e s false o = ap (all_records (suc d)) (settled_not d i t c e o)

-- sound and rising
pub record IsGood (d : ℕ) (t : Tree d) : Type 0 where
  pub sound : IsSound d (capacity_of d) t
  pub rises : IsRising (all_records d t)

each_good : (d : ℕ) (cs : List (Tree d)) → All (IsSound d (capacity_of d)) cs → All IsRising (lists d cs) → All (IsGood d) cs
each_good d [] s r = All-nil (IsGood d)
each_good d (c ∷ cs) s r =
    All-cons (IsGood d) c cs (record { sound = All-head (IsSound d (capacity_of d)) c cs s; rises = All-head IsRising (all_records d c) (lists d cs) r })
    (each_good d cs (All-tail (IsSound d (capacity_of d)) c cs s) (All-tail IsRising (all_records d c) (lists d cs) r))

good_children : (d : ℕ) (t : Tree (suc d)) → IsGood (suc d) t → All (IsGood d) t.children
good_children d t g = each_good d t.children g.sound.each
    (joined-each_rises t.records (lists d t.children) (lists_long d (capacity_of (suc d)) (IsSound d (capacity_of d)) t g.sound) g.rises)

-- the child on the way, once the record is put into it
pub after_put : (d : ℕ) (x : Record) (t : Tree (suc d)) → IsSound (suc d) (capacity_of (suc d)) t → (c : Tree d) →
    slice_get (went_down d x t).children (rank x.key t.records) ≡ Some c → IsSound d (suc (capacity_of d)) c
after_put d x t s c e =
    let (b, f) = there_is t.children (rank x.key t.records) (omega (arith, s.children, rank-inside x.key t.records)) in
    subst (IsSound d (suc (capacity_of d))) (some_same (put d x b) c (sym (get-changed (rank x.key t.records) (put d x) t.children b f) ∙ e))
    (put_sound d x b (at_place (IsSound d (capacity_of d)) t.children (rank x.key t.records) b s.each f))

-- the record is put among all
pub put_records : (d : ℕ) (x : Record) (t : Tree d) → IsGood d t → all_records d (put d x t) ≡ put_record x (all_records d t)
put_records zero x t g = refl
put_records (suc d) x t g =
    let n = lists_long d (capacity_of (suc d)) (IsSound d (capacity_of d)) t g.sound in
    elim (is_there x.key t.records) [
      | there a e ↦ ap (all_records (suc d)) (put_here d x a t e) ∙ sym (joined-put_here x a t.records (lists d t.children) n g.rises e)
      | not_there e ↦
          ap (all_records (suc d)) (put_below d x t e)
          ∙ settled_records d (rank x.key t.records) (went_down d x t) (rank-inside x.key t.records)
          (length-changed (rank x.key t.records) (put d x) t.children ∙ g.sound.children)
          (after_put d x t g.sound)
          ∙ ap (joined t.records) (map-changed (IsGood d) (all_records d) (put d x) (put_record x) (put_records d x) (rank x.key t.records) t.children (good_children d t g))
          ∙ sym (joined-put_below x t.records (lists d t.children) n g.rises e)
    ]

-- what the way from the root finds is what stands among all
pub found_is : (d : ℕ) (key : Key) (t : Tree d) → IsGood d t → found d key t ≡ address_in key (all_records d t)
found_is zero key t g = refl
found_is (suc d) key t g =
    let n = lists_long d (capacity_of (suc d)) (IsSound d (capacity_of d)) t g.sound in
    elim (is_there key t.records) [
      | there a e ↦ found_here d key a t e ∙ sym (joined-finds_here key a t.records (lists d t.children) n g.rises e)
      | not_there e ↦ (
          let (c, f) = there_is t.children (rank key t.records) (omega (arith, g.sound.children, rank-inside key t.records)) in
          found_below d key t c e f ∙ found_is d key c (at_place (IsGood d) t.children (rank key t.records) c (good_children d t g) f)
          ∙ sym (ap (λ (o : Option (List Record)). elim o as (λ q. Option ℕ) [ None ↦ None | Some l ↦ address_in key l ]) (get-map (all_records d) (rank key t.records) t.children c f))
          ∙ sym (joined-finds_below key t.records (lists d t.children) n g.rises e))
    ]

-- what a node says of its number is how many records are under it
total_each : (d : ℕ) (cs : List (Tree d)) → All (λ (c : Tree d). total_of d c ≡ length (all_records d c)) cs → sum_by (total_of d) cs ≡ sum_by length (lists d cs)
total_each d [] h = refl
total_each d (c ∷ cs) h =
    let P : Tree d → Type 0 = λ c. total_of d c ≡ length (all_records d c) in
    sum_by-cons (total_of d) c cs ∙ ap₂ (λ (a b : ℕ). a + b) (All-head P c cs h) (total_each d cs (All-tail P c cs h))
    ∙ sym (sum_by-cons (length {A = Record}) (all_records d c) (lists d cs))

pub total_is : (d m : ℕ) (t : Tree d) → IsSound d m t → total_of d t ≡ length (all_records d t)
total_is zero m t s = refl
total_is (suc d) m t s =
    s.total ∙ ap (λ (n : ℕ). length t.records + n) (total_each d t.children
    (All-each (IsSound d (capacity_of d)) (λ (c : Tree d). total_of d c ≡ length (all_records d c)) (total_is d (capacity_of d)) t.children s.each))
    ∙ sym (length-joined t.records (lists d t.children) (lists_long d m (IsSound d (capacity_of d)) t s))
