-- Each node but the root keeps the share of records that it has, up to half of its capacity.
use Rattle.std.proofs.Common.{◌≡◌, ℕ, zero, suc, ◌*◌, ◌/◌, ◌<◌, ◌≤◌, Bool, true, false, List, [], ◌∷◌, length, take, drop, refl, sym, subst, arith}
use Rattle.std.proofs.lemmas.List.{length-take, length-drop}
use Rattle.std.proofs.lemmas.List.Edits.{length-insert}
use Rattle.std.proofs.lemmas.List.Elements.{All-cons, All-head, All-nil, All-tail}
use Rattle.std.specs.List.{All}
use Rattle.std.proofs.lemmas.Bool.{ltb-true}
use Rattle.h5w_model.specs.Trees.{capacity_of}
use Rattle.h5w_bt.specs.declared.records.Record.{Record}
use Rattle.h5w_bt_nodes.specs.Nodes.{Tree, rank}
use Rattle.h5w_bt_nodes.specs.Puts.{put_record, put, settled, is_over, half, left_of, middle_of, right_of, raised}
use Rattle.h5w_bt_nodes.specs.Shapes.{IsShape}
use Rattle.h5w_bt_index.specs.Sound.{AtLeast, two_fifths}
use Rattle.h5w_bt_index.specs.Index.{Index, IsFilled, IsHalfFull, KeepsShares}
use Rattle.h5w_bt_nodes.proofs.Records.{put-longer, put-as_long}
use Rattle.h5w_bt_nodes.proofs.Places.{at_place, inside_from, All-changed_at, All-in_two, All-taken, All-dropped}
use Rattle.h5w_bt_nodes.proofs.Steps.{settled_over, settled_not, went_down, put_here, put_below, rank-inside, there, not_there, is_there}
use Rattle.h5w_bt_nodes.proofs.Over.{OnTheWay, on_the_way}

put-no_less : (x : Record) (rs : List Record) → length rs ≤ length (put_record x rs)
put-no_less x rs = elim (is_there x.key rs) [
  | there a e ↦ omega (arith, put-as_long x rs a e)
  | not_there e ↦ omega (arith, put-longer x rs e)
]

half_taken : {A : Type 0} (c : ℕ) (rs : List A) → c < length rs → c / 2 ≤ length (take (c / 2) rs)
half_taken c rs h = omega (arith, length-take (c / 2) rs)

half_dropped : {A : Type 0} (c : ℕ) (rs : List A) → c < length rs → c / 2 ≤ length (drop (suc (c / 2)) rs)
half_dropped c rs h = omega (arith, length-drop (suc (c / 2)) rs)

-- ---- A node is divided

pub left-share : (share : ℕ → ℕ) (d least : ℕ) (t : Tree d) → share d ≤ half d → is_over d t ≡ true → AtLeast share d least t → AtLeast share d (share d) (left_of d t)
left-share share zero least t f o h = let k = half_taken (capacity_of zero) t.records (ltb-true (capacity_of zero) (length t.records) o) in omega (arith, f, k)
left-share share (suc d) least t f o h =
    let k = half_taken (capacity_of (suc d)) t.records (ltb-true (capacity_of (suc d)) (length t.records) o) in
    (omega (arith, f, k), All-taken (AtLeast share d (share d)) (suc (half (suc d))) t.children (h.1))

pub right-share : (share : ℕ → ℕ) (d least : ℕ) (t : Tree d) → share d ≤ half d → is_over d t ≡ true → AtLeast share d least t → AtLeast share d (share d) (right_of d t)
right-share share zero least t f o h = let k = half_dropped (capacity_of zero) t.records (ltb-true (capacity_of zero) (length t.records) o) in omega (arith, f, k)
right-share share (suc d) least t f o h =
    let k = half_dropped (capacity_of (suc d)) t.records (ltb-true (capacity_of (suc d)) (length t.records) o) in
    (omega (arith, f, k), All-dropped (AtLeast share d (share d)) (suc (half (suc d))) t.children (h.1))

-- ---- A record more

pub put-share : (share : ℕ → ℕ) → ((d : ℕ) → share d ≤ half d) → (d least : ℕ) (x : Record) (t : Tree d) → IsShape d (capacity_of d) t → AtLeast share d least t → AtLeast share d least (put d x t)
put-share share f zero least x t s h = omega (arith, put-no_less x t.records, h)
put-share share f (suc d) least x t s h = elim (is_there x.key t.records) [
  | there a e ↦ subst (AtLeast share (suc d) least) (sym (put_here d x a t e)) (omega (arith, put-no_less x t.records, h.0), h.1)
  | not_there e ↦ subst (AtLeast share (suc d) least) (sym (put_below d x t e))
      (let w = on_the_way d x t s in
      go w (put-share share f d (share d) x w.child w.shape (at_place (AtLeast share d (share d)) t.children (rank x.key t.records) w.child (h.1) w.before)) (is_over d (put d x w.child)) refl)
]
  where
    go : (w : OnTheWay d x t) → AtLeast share d (share d) (put d x w.child) → (o : Bool) → is_over d (put d x w.child) ≡ o → AtLeast share (suc d) least (settled d (rank x.key t.records) (went_down d x t))
    go w p true o = subst (AtLeast share (suc d) least) (sym (settled_over d (rank x.key t.records) (went_down d x t) (put d x w.child) w.after o)) (
      omega (arith, h.0, length-insert t.records (rank x.key t.records) (middle_of d (put d x w.child)) (rank-inside x.key t.records)),
      All-in_two (AtLeast share d (share d)) (put d x) (rank x.key t.records) t.children (left_of d (put d x w.child)) (right_of d (put d x w.child))
          (inside_from t.children (rank x.key t.records) w.child w.before) (left-share share d (share d) (put d x w.child) (f d) o p) (right-share share d (share d) (put d x w.child) (f d) o p) (h.1),
    )
    go w p false o = subst (AtLeast share (suc d) least) (sym (settled_not d (rank x.key t.records) (went_down d x t) (put d x w.child) w.after o))
        (h.0, All-changed_at (AtLeast share d (share d)) (put d x) (rank x.key t.records) t.children w.child w.before p (h.1))

pub raised-share : (share : ℕ → ℕ) (d least : ℕ) (t : Tree d) → share d ≤ half d → is_over d t ≡ true → AtLeast share d least t → AtLeast share (suc d) 1 (raised d t)
raised-share share d least t f o h = (
  omega arith,
  All-cons (AtLeast share d (share d)) (left_of d t) (right_of d t ∷ []) (left-share share d least t f o h)
      (All-cons (AtLeast share d (share d)) (right_of d t) [] (right-share share d least t f o h) (All-nil (AtLeast share d (share d)))),
)

-- ---- A smaller share

-- of the root
pub least_less : (share : ℕ → ℕ) (d m n : ℕ) (t : Tree d) → n ≤ m → AtLeast share d m t → AtLeast share d n t
least_less share zero m n t h a = omega (arith, h, a)
least_less share (suc d) m n t h a = (omega (arith, h, a.0), a.1)

-- two fifths are no more than half
pub two_fifths_fit : (d : ℕ) → two_fifths d ≤ half d
two_fifths_fit d = fifths (capacity_of d)
  where
    fifths : (c : ℕ) → c * 2 / 5 ≤ c / 2
    fifths c = omega arith

pub filled_kept : (v w : Index) → KeepsShares v w → IsFilled v → IsFilled w
filled_kept v w k h = k two_fifths two_fifths_fit h
