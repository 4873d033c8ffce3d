-- A record put into a sound tree leaves it sound, with at most a record too many in the root.
use Rattle.std.proofs.Common.{◌≡◌, ℕ, zero, suc, ◌+◌, ◌<◌, ◌≤◌, Bool, true, false, List, [], ◌∷◌, length, refl, sym, ap, subst, ◌∙◌, arith, Some, slice_get, sum_by}
use Rattle.std.proofs.lemmas.List.Edits.{length-insert}
use Rattle.std.proofs.lemmas.Bool.{ltb-false}
use Rattle.std.proofs.lemmas.List.Elements.{All-cons, All-nil}
use Rattle.std.specs.List.{All}
use Rattle.h5w_model.specs.Trees.{capacity_of}
use Rattle.h5w_bt.specs.declared.records.Record.{Record}
use Rattle.h5w_bt_nodes.specs.Nodes.{Tree, records_of, rank, total_of}
use Rattle.h5w_bt_nodes.specs.Puts.{changed_at, put, settled, is_over, half, left_of, middle_of, right_of, changed_node, raised}
use Rattle.h5w_bt_index.specs.Sound.{IsSound}
use Rattle.h5w_bt_nodes.proofs.Records.{put-as_long}
use Rattle.h5w_bt_nodes.proofs.Places.{at_place, there_is, inside_from, length-changed, get-changed, All-changed_at, All-in_two, All-taken, All-dropped}
use Rattle.h5w_bt_nodes.proofs.Steps.{settled_over, settled_not, put_here, put_below, rank-inside, there, not_there, is_there}
use Rattle.h5w_bt_nodes.proofs.Parts.{divided_long, dropped_both, dropped_few, half_fits, over-half, put-at_most, taken_both, taken_few}

-- another bound on the records of the root
pub rebound : (d m n : ℕ) (t : Tree d) → length (records_of d t) ≤ n → IsSound d m t → IsSound d n t
rebound zero m n t h s = h
rebound (suc d) m n t h s = record { few = h; children = s.children; total = s.total; each = s.each }

pub left_sound : (d m : ℕ) (t : Tree d) → half d < length (records_of d t) → IsSound d m t → IsSound d (capacity_of d) (left_of d t)
left_sound zero m t h s = taken_few (half zero) (capacity_of zero) t.records (half_fits (capacity_of zero))
left_sound (suc d) m t h s = record {
  few = taken_few (half (suc d)) (capacity_of (suc d)) t.records (half_fits (capacity_of (suc d)));
  children = taken_both (half (suc d)) t.records t.children s.children h;
  total = refl;
  each = All-taken (IsSound d (capacity_of d)) (suc (half (suc d))) t.children s.each;
}

pub right_sound : (d : ℕ) (t : Tree d) → half d < length (records_of d t) → IsSound d (suc (capacity_of d)) t → IsSound d (capacity_of d) (right_of d t)
right_sound zero t h s = dropped_few (half zero) (capacity_of zero) t.records s
right_sound (suc d) t h s = record {
  few = dropped_few (half (suc d)) (capacity_of (suc d)) t.records s.few;
  children = dropped_both (half (suc d)) t.records t.children s.children h;
  total = refl;
  each = All-dropped (IsSound d (capacity_of d)) (suc (half (suc d))) t.children s.each;
}

-- ---- A child on the way changed, and divided where it has a record too many

-- what a change of a child on the way must give
pub settled_sound : (d i : ℕ) (f : Tree d → Tree d) (rs : List Record) (cs : List (Tree d)) (place : ℕ) →
    length rs ≤ capacity_of (suc d) → length cs ≡ length rs + 1 → i ≤ length rs → All (IsSound d (capacity_of d)) cs →
    ((c : Tree d) → IsSound d (capacity_of d) c → IsSound d (suc (capacity_of d)) (f c)) →
    IsSound (suc d) (suc (capacity_of (suc d))) (settled d i (changed_node d rs (changed_at i f cs) place))
settled_sound d i f rs cs place few n le each k =
    let (c, e) = there_is cs i (omega (arith, n, le)) in
    go c e (at_place (IsSound d (capacity_of d)) cs i c each e) (is_over d (f c)) refl
  where
    go : (c : Tree d) → slice_get cs i ≡ Some c → IsSound d (capacity_of d) c → (o : Bool) → is_over d (f c) ≡ o →
        IsSound (suc d) (suc (capacity_of (suc d))) (settled d i (changed_node d rs (changed_at i f cs) place))
    go c e s true o =
        subst (IsSound (suc d) (suc (capacity_of (suc d)))) (sym (settled_over d i (changed_node d rs (changed_at i f cs) place) (f c) (get-changed i f cs c e) o)) (record {
          few = omega (arith, length-insert rs i (middle_of d (f c)) le, few);
          children = divided_long f i cs (left_of d (f c)) (right_of d (f c)) (inside_from cs i c e)
              ∙ ap (λ (n : ℕ). n + 1) (n ∙ sym (length-insert rs i (middle_of d (f c)) le));
          total = refl;
          each = All-in_two (IsSound d (capacity_of d)) f i cs (left_of d (f c)) (right_of d (f c)) (inside_from cs i c e)
              (left_sound d (suc (capacity_of d)) (f c) (over-half d (f c) o) (k c s)) (right_sound d (f c) (over-half d (f c) o) (k c s)) each;
        })
    go c e s false o =
        subst (IsSound (suc d) (suc (capacity_of (suc d)))) (sym (settled_not d i (changed_node d rs (changed_at i f cs) place) (f c) (get-changed i f cs c e) o)) (record {
          few = omega (arith, few);
          children = length-changed i f cs ∙ n;
          total = refl;
          each = All-changed_at (IsSound d (capacity_of d)) f i cs c e
              (rebound d (suc (capacity_of d)) (capacity_of d) (f c) (ltb-false (capacity_of d) (length (records_of d (f c))) o) (k c s)) each;
        })

pub put_sound : (d : ℕ) (x : Record) (t : Tree d) → IsSound d (capacity_of d) t → IsSound d (suc (capacity_of d)) (put d x t)
put_sound zero x t s = omega (arith, put-at_most x t.records, s)
put_sound (suc d) x t s = elim (is_there x.key t.records) [
  | there a e ↦ subst (IsSound (suc d) (suc (capacity_of (suc d)))) (sym (put_here d x a t e)) (record {
    few = omega (arith, put-as_long x t.records a e, s.few);
    children = s.children ∙ ap (λ (n : ℕ). n + 1) (sym (put-as_long x t.records a e));
    total = s.total ∙ ap (λ (n : ℕ). n + sum_by (total_of d) t.children) (sym (put-as_long x t.records a e));
    each = s.each;
  })
  | not_there e ↦ subst (IsSound (suc d) (suc (capacity_of (suc d)))) (sym (put_below d x t e))
      (settled_sound d (rank x.key t.records) (put d x) t.records t.children t.place s.few s.children (rank-inside x.key t.records) s.each (put_sound d x))
]

-- a root above two parts
pub raised_sound : (d : ℕ) (t : Tree d) → is_over d t ≡ true → IsSound d (suc (capacity_of d)) t → IsSound (suc d) 1 (raised d t)
raised_sound d t o s = record {
  few = omega arith;
  children = refl;
  total = refl;
  each = All-cons (IsSound d (capacity_of d)) (left_of d t) (right_of d t ∷ []) (left_sound d (suc (capacity_of d)) t (over-half d t o) s)
      (All-cons (IsSound d (capacity_of d)) (right_of d t) [] (right_sound d t (over-half d t o) s) (All-nil (IsSound d (capacity_of d))));
}
