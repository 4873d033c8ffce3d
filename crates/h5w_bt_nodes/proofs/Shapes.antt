-- A record put into a tree of some shape leaves it of that shape, with at most a record too many in the root.
use Rattle.std.proofs.Common.{◌≡◌, ℕ, zero, suc, ◌+◌, ◌*◌, ◌<◌, ◌≤◌, ◌^◌, Bool, true, false, List, [], ◌∷◌, length, take, drop, set, refl, sym, ap, subst, ◌∙◌, arith, None, Some, slice_get, insert, sum_by, mul-le-mul_right, le_of_lt, le_trans}
use Rattle.std.proofs.lemmas.List.Edits.{length-insert}
use Rattle.std.proofs.lemmas.Bool.{ltb-false}
use Rattle.std.proofs.lemmas.List.Elements.{All-cons, All-nil}
use Rattle.std.specs.List.{All}
use Rattle.h5w_model.specs.Trees.{capacity_of}
use Rattle.h5w_bt.specs.declared.records.Record.{Record}
use Rattle.h5w_bt_nodes.specs.Nodes.{Tree, address_in, rank, records_of, total_of}
use Rattle.h5w_bt_nodes.specs.Puts.{changed_at, changed_node, counted, half, is_over, left_of, middle_of, put, put_record, raised, right_of, settled}
use Rattle.h5w_bt_nodes.specs.Shapes.{IsShape, IsShapedChild}
use Rattle.h5w_bt_nodes.proofs.Bounds.{room_small, sum_by_most}
use Rattle.h5w_bt_nodes.proofs.Records.{put-as_long}
use Rattle.h5w_bt_nodes.proofs.Places.{All-changed_at, All-each, All-in_two, All-taken, All-dropped, at_place, get-changed, inside_from, length-changed, there_is}
use Rattle.h5w_bt_nodes.proofs.Parts.{divided_long, dropped_both, dropped_few, half_fits, over-half, put-at_most, taken_both, taken_few}
use Rattle.h5w_bt_nodes.proofs.Steps.{is_there, not_there, put_below, put_here, rank-inside, settled_not, settled_over, there}

pub shape_at : (d : ℕ) (xs : List (Tree d)) (i : ℕ) (c : Tree d) → All (IsShapedChild d) xs → slice_get xs i ≡ Some c → IsShape d (capacity_of d) c
shape_at d xs i c h e = (at_place (IsShapedChild d) xs i c h e).0

pub shape_few : (d m : ℕ) (t : Tree d) → IsShape d m t → length (records_of d t) ≤ m
shape_few zero m t s = s
shape_few (suc d) m t s = s.few

pub shape_rebound : (d m n : ℕ) (t : Tree d) → length (records_of d t) ≤ n → IsShape d m t → IsShape d n t
shape_rebound zero m n t h s = h
shape_rebound (suc d) m n t h s = record { few = h; children = s.children; each = s.each }

-- ---- Totals

power : (d : ℕ) → suc d ≤ 3 → 256 ^ suc (suc d) ≡ 256 * 256 ^ suc d
power zero h = omega arith
power (suc zero) h = omega arith
power (suc (suc zero)) h = omega arith
power (suc (suc (suc d))) h = absurd (omega (arith, h))

some : (d : ℕ) → suc d ≤ 3 → 0 < 256 ^ suc d
some zero h = omega arith
some (suc zero) h = omega arith
some (suc (suc zero)) h = omega arith
some (suc (suc (suc d))) h = absurd (omega (arith, h))

last : (r q P : ℕ) → r ≤ 85 → q ≤ 86 * P → 0 < P → r + q < 256 * P
last r q P x y z = omega arith

pub power_fits : (d : ℕ) → d ≤ 3 → 256 ^ suc d ≤ 2 ^ 64
power_fits zero h = omega arith
power_fits (suc zero) h = omega arith
power_fits (suc (suc zero)) h = omega arith
power_fits (suc (suc (suc zero))) h = omega arith
power_fits (suc (suc (suc (suc d)))) h = absurd (omega (arith, h))

-- what is counted under a node fits the bytes that there are for it
pub counted_small : (d : ℕ) (rs : List Record) (cs : List (Tree d)) → suc d ≤ 3 → length rs ≤ suc (capacity_of (suc d)) → length cs ≡ length rs + 1 → All (IsShapedChild d) cs → counted d rs cs < 256 ^ suc (suc d)
counted_small d rs cs low few n each =
    let small : All (λ (c : Tree d). total_of d c ≤ 256 ^ suc d) cs = All-each (IsShapedChild d) (λ (c : Tree d). total_of d c ≤ 256 ^ suc d) (λ c p. le_of_lt p.1) cs each in
    let a : sum_by (total_of d) cs ≤ length cs * 256 ^ suc d = sum_by_most (total_of d) (256 ^ suc d) cs small in
    let r : length rs ≤ 85 = omega (arith, few, room_small (suc d) low) in
    let m : length cs ≤ 86 = omega (arith, n, r) in
    let b : length cs * 256 ^ suc d ≤ 86 * 256 ^ suc d = mul-le-mul_right (256 ^ suc d) m in
    subst (λ (k : ℕ). counted d rs cs < k) (sym (power d low)) (last (length rs) (sum_by (total_of d) cs) (256 ^ suc d) r (le_trans a b) (some d low))

-- A node with at most a record too many, that says a number which fits.
abbrev pub IsNearly : (d : ℕ) → Tree d → Type 0
IsNearly d t = IsShape d (suc (capacity_of d)) t × (total_of d t < 256 ^ suc d)

nearly : (d : ℕ) (rs : List Record) (cs : List (Tree d)) (place : ℕ) → suc d ≤ 3 → length rs ≤ suc (capacity_of (suc d)) → length cs ≡ length rs + 1 → All (IsShapedChild d) cs → IsNearly (suc d) (changed_node d rs cs place)
nearly d rs cs place low few n each = (record { few = few; children = n; each = each }, counted_small d rs cs low few n each)

-- ---- Divisions

pub left_shape : (d m : ℕ) (t : Tree d) → d ≤ 3 → half d < length (records_of d t) → IsShape d m t → IsShapedChild d (left_of d t)
left_shape zero m t low h s = (taken_few (half zero) (capacity_of zero) t.records (half_fits (capacity_of zero)), leaf (length (take (half zero) t.records)) (taken_few (half zero) (capacity_of zero) t.records (half_fits (capacity_of zero))))
  where
    leaf : (n : ℕ) → n ≤ capacity_of zero → n < 256 ^ 1
    leaf n h = omega (arith, h)
left_shape (suc d) m t low h s =
    let few = taken_few (half (suc d)) (capacity_of (suc d)) t.records (half_fits (capacity_of (suc d))) in
    let n = taken_both (half (suc d)) t.records t.children s.children h in
    let each = All-taken (IsShapedChild d) (suc (half (suc d))) t.children s.each in
    (record { few = few; children = n; each = each }, counted_small d (take (half (suc d)) t.records) (take (suc (half (suc d))) t.children) low (omega (arith, few)) n each)

pub right_shape : (d : ℕ) (t : Tree d) → d ≤ 3 → half d < length (records_of d t) → IsShape d (suc (capacity_of d)) t → IsShapedChild d (right_of d t)
right_shape zero t low h s = (dropped_few (half zero) (capacity_of zero) t.records s, leaf (length (drop (suc (half zero)) t.records)) (dropped_few (half zero) (capacity_of zero) t.records s))
  where
    leaf : (n : ℕ) → n ≤ capacity_of zero → n < 256 ^ 1
    leaf n h = omega (arith, h)
right_shape (suc d) t low h s =
    let few = dropped_few (half (suc d)) (capacity_of (suc d)) t.records s.few in
    let n = dropped_both (half (suc d)) t.records t.children s.children h in
    let each = All-dropped (IsShapedChild d) (suc (half (suc d))) t.children s.each in
    (record { few = few; children = n; each = each }, counted_small d (drop (suc (half (suc d))) t.records) (drop (suc (half (suc d))) t.children) low (omega (arith, few)) n each)

-- ---- A record more

settled_shape : (d i : ℕ) (f : Tree d → Tree d) (rs : List Record) (cs : List (Tree d)) (place : ℕ) → suc d ≤ 3 →
    length rs ≤ capacity_of (suc d) → length cs ≡ length rs + 1 → i ≤ length rs → All (IsShapedChild d) cs →
    ((c : Tree d) → IsShapedChild d c → IsNearly d (f c)) →
    IsNearly (suc d) (settled d i (changed_node d rs (changed_at i f cs) place))
settled_shape d i f rs cs place low few n le each k =
    let (c, e) = there_is cs i (omega (arith, n, le)) in
    go c e (at_place (IsShapedChild d) cs i c each e) (is_over d (f c)) refl
  where
    go : (c : Tree d) → slice_get cs i ≡ Some c → IsShapedChild d c → (o : Bool) → is_over d (f c) ≡ o →
        IsNearly (suc d) (settled d i (changed_node d rs (changed_at i f cs) place))
    go c e s true o =
        let q : IsNearly d (f c) = k c s in
        subst (IsNearly (suc d)) (sym (settled_over d i (changed_node d rs (changed_at i f cs) place) (f c) (get-changed i f cs c e) o))
        (nearly d (insert rs i (middle_of d (f c))) (insert (set (changed_at i f cs) i (left_of d (f c))) (suc i) (right_of d (f c))) place low
        (omega (arith, length-insert rs i (middle_of d (f c)) le, few))
        (divided_long f i cs (left_of d (f c)) (right_of d (f c)) (inside_from cs i c e) ∙ ap (λ (n : ℕ). n + 1) (n ∙ sym (length-insert rs i (middle_of d (f c)) le)))
        (All-in_two (IsShapedChild d) f i cs (left_of d (f c)) (right_of d (f c)) (inside_from cs i c e)
        (left_shape d (suc (capacity_of d)) (f c) (omega (arith, low)) (over-half d (f c) o) q.0) (right_shape d (f c) (omega (arith, low)) (over-half d (f c) o) q.0) each))
    go c e s false o =
        let q : IsNearly d (f c) = k c s in
        subst (IsNearly (suc d)) (sym (settled_not d i (changed_node d rs (changed_at i f cs) place) (f c) (get-changed i f cs c e) o))
        (nearly d rs (changed_at i f cs) place low (omega (arith, few)) (length-changed i f cs ∙ n)
        (All-changed_at (IsShapedChild d) f i cs c e
        (shape_rebound d (suc (capacity_of d)) (capacity_of d) (f c) (ltb-false (capacity_of d) (length (records_of d (f c))) o) q.0, q.1) each))

-- A record more: the shape, and the number that is said of it where that fitted.
abbrev pub StaysShaped : (d : ℕ) → Record → Tree d → Type 0
StaysShaped d x t = IsShape d (suc (capacity_of d)) (put d x t) × (total_of d t < 256 ^ suc d → total_of d (put d x t) < 256 ^ suc d)

pub put_stays : (d : ℕ) (x : Record) (t : Tree d) → d ≤ 3 → IsShape d (capacity_of d) t → StaysShaped d x t
put_stays zero x t low s = (omega (arith, put-at_most x t.records, s), λ h. leaf (length (put_record x t.records)) (omega (arith, put-at_most x t.records, s)))
  where
    leaf : (n : ℕ) → n ≤ suc (capacity_of zero) → n < 256 ^ 1
    leaf n h = omega (arith, h)
put_stays (suc d) x t low s = elim (is_there x.key t.records) [
  | there a e ↦ (
    subst (IsShape (suc d) (suc (capacity_of (suc d)))) (sym (put_here d x a t e)) (record {
      few = omega (arith, put-as_long x t.records a e, s.few);
      children = s.children ∙ ap (λ (n : ℕ). n + 1) (sym (put-as_long x t.records a e));
      each = s.each;
    }),
    λ h. subst (λ (u : Tree (suc d)). total_of (suc d) u < 256 ^ suc (suc d)) (sym (put_here d x a t e)) h,
  )
  | not_there e ↦ (let w : IsNearly (suc d) (put (suc d) x t) =
      subst (IsNearly (suc d)) (sym (put_below d x t e))
      (settled_shape d (rank x.key t.records) (put d x) t.records t.children t.place low s.few s.children (rank-inside x.key t.records) s.each
      (λ c p. let q = put_stays d x c (omega (arith, low)) p.0 in (q.0, q.1 p.1)))
      in (w.0, λ h. w.1))
]

-- a record that the node itself does not have
pub below_nearly : (d : ℕ) (x : Record) (t : Tree (suc d)) → suc d ≤ 3 → IsShape (suc d) (capacity_of (suc d)) t → address_in x.key t.records ≡ None → IsNearly (suc d) (put (suc d) x t)
below_nearly d x t low s e =
    subst (IsNearly (suc d)) (sym (put_below d x t e))
    (settled_shape d (rank x.key t.records) (put d x) t.records t.children t.place low s.few s.children (rank-inside x.key t.records) s.each
    (λ c p. let q = put_stays d x c (omega (arith, low)) p.0 in (q.0, q.1 p.1)))

pub put_shape : (d : ℕ) (x : Record) (t : Tree d) → d ≤ 3 → IsShape d (capacity_of d) t → IsShape d (suc (capacity_of d)) (put d x t)
put_shape d x t low s = (put_stays d x t low s).0

-- a root above two parts
pub raised_shape : (d : ℕ) (t : Tree d) → d ≤ 2 → is_over d t ≡ true → IsShape d (suc (capacity_of d)) t → IsShape (suc d) 1 (raised d t)
raised_shape d t low o s = record {
  few = omega arith;
  children = refl;
  each = All-cons (IsShapedChild d) (left_of d t) (right_of d t ∷ []) (left_shape d (suc (capacity_of d)) t (omega (arith, low)) (over-half d t o) s)
      (All-cons (IsShapedChild d) (right_of d t) [] (right_shape d t (omega (arith, low)) (over-half d t o) s) (All-nil (IsShapedChild d)));
}

pub raised_counts : (d : ℕ) (t : Tree d) → d ≤ 2 → is_over d t ≡ true → IsShape d (suc (capacity_of d)) t → total_of (suc d) (raised d t) < 256 ^ suc (suc d)
raised_counts d t low o s =
    let r = raised_shape d t low o s in
    counted_small d (raised d t).records (raised d t).children (omega (arith, low)) (omega arith) r.children r.each
