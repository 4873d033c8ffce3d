-- A record put into the child on its way.
use Rattle.std.proofs.Common.{◌≡◌, refl, Bool, ℕ, suc, ◌+◌, ◌/◌, ◌<◌, ◌≤◌, ◌^◌, true, false, List, [], ◌∷◌, ◌++◌, length, map, get_or, set, take, drop, sym, ap, ap₂, ◌∙◌, subst, arith, lt_of_lt_of_le, Option, Some, None, is_some, slice_get, add-one}
use Rattle.std.proofs.lemmas.Bool.{ltb-true}
use Rattle.std.proofs.lemmas.List.{take-map, drop-map}
use Rattle.h5w_model.specs.Numbers.{undefined}
use Rattle.h5w_model.specs.Trees.{capacity_of}
use Rattle.h5w_bt.specs.declared.records.Record.{Record}
use Rattle.h5w_bt_nodes.specs.Nodes.{Tree, records_of, total_of, rank, address_in, found}
use Rattle.h5w_bt_nodes.specs.Puts.{changed_at, changed_node, counted, half, is_over, left_of, no_record, put, raised, right_of, settled}
use Rattle.h5w_bt_nodes.specs.Shapes.{IsShape, IsShapedChild}
use Rattle.h5w_bt_nodes.proofs.Places.{some_same}
use Rattle.h5w_bt_nodes.proofs.Children.{changed-here}
use Rattle.h5w_bt_nodes.proofs.Steps.{found_below, settled_not, went_down, put_below}
use Rattle.h5w_bt_nodes.proofs.Over.{OnTheWay, on_the_way, over-blocked, put-one_more}
use Rattle.h5w_bt_nodes.proofs.Shapes.{below_nearly, power_fits, put_shape, raised_counts}
use Rattle.h5w_bt_nodes.proofs.Edits.{front_of}

-- the children, once it is put into one
pub down-children : {A : Type 0} (d : ℕ) (T : A → Tree d) (cs ds : List A) (k : ℕ) (x y : A) (item : Record) (t : Tree (suc d)) → map T cs ≡ t.children → ds ≡ cs →
    k ≡ rank item.key t.records → k < length ds → x ≡ get_or ds k x → T y ≡ put d item (T x) → map T (set ds k y) ≡ (went_down d item t).children
down-children d T cs ds k x y item t m v p h e q =
    changed-here T (put d item) ds k x y h e q
    ∙ ap₂ (λ (n : ℕ) (l : List (Tree d)). changed_at n (put d item) l) p (ap (map T) v ∙ m)

pub down-shape : (d : ℕ) (item : Record) (t : Tree (suc d)) (k : ℕ) (ms : List (Tree d)) → suc d ≤ 3 → IsShape (suc d) (capacity_of (suc d)) t → ms ≡ (went_down d item t).children →
    k ≡ rank item.key t.records → (c : Tree d) → slice_get ms k ≡ Some c → IsShape d (suc (capacity_of d)) c
down-shape d item t k ms low s m p c e =
    let w = on_the_way d item t s in
    let q : put d item w.child ≡ c = some_same (put d item w.child) c (sym w.after ∙ ap₂ (λ (l : List (Tree d)) (n : ℕ). slice_get l n) (sym m) (sym p) ∙ e) in
    subst (IsShape d (suc (capacity_of d))) q (put_shape d item w.child (omega (arith, low)) w.shape)

-- a child that has a record too many was full
pub record WasFull (d : ℕ) (t : Tree (suc d)) (k : ℕ) : Type 0 where
  pub child : Tree d
  pub there : slice_get t.children k ≡ Some child
  pub full : capacity_of d ≤ length (records_of d child)

pub down-full : (d : ℕ) (item : Record) (t : Tree (suc d)) (k : ℕ) (ms : List (Tree d)) → IsShape (suc d) (capacity_of (suc d)) t → ms ≡ (went_down d item t).children →
    k ≡ rank item.key t.records → (c : Tree d) → slice_get ms k ≡ Some c → is_over d c ≡ true → WasFull d t k
down-full d item t k ms s m p c e o =
    let w = on_the_way d item t s in
    let q : put d item w.child ≡ c = some_same (put d item w.child) c (sym w.after ∙ ap₂ (λ (l : List (Tree d)) (n : ℕ). slice_get l n) (sym m) (sym p) ∙ e) in
    record {
      child = w.child;
      there = ap (λ (n : ℕ). slice_get t.children n) p ∙ w.before;
      full = omega (arith, ltb-true (capacity_of d) (length (records_of d c)) o, ap (λ (u : Tree d). length (records_of d u)) q, put-one_more d item w.child w.shape);
    }

pub down-put : (d : ℕ) (item : Record) (t : Tree (suc d)) (k : ℕ) (rs : List Record) (ms : List (Tree d)) → rs ≡ t.records → ms ≡ (went_down d item t).children →
    k ≡ rank item.key t.records → address_in item.key t.records ≡ None → settled d k (changed_node d rs ms t.place) ≡ put (suc d) item t
down-put d item t k rs ms v m p e =
    ap₂ (λ (l : List Record) (u : List (Tree d)). settled d k (changed_node d l u t.place)) v m
    ∙ ap (λ (n : ℕ). settled d n (went_down d item t)) p ∙ sym (put_below d item t e)

pub down-fits : (d : ℕ) (item : Record) (t u : Tree (suc d)) → u ≡ put (suc d) item t → suc d ≤ 3 → IsShape (suc d) (capacity_of (suc d)) t → address_in item.key t.records ≡ None → total_of (suc d) u < 2 ^ 64
down-fits d item t u e h s n =
    subst (λ (w : Tree (suc d)). total_of (suc d) w < 2 ^ 64) (sym e)
    (lt_of_lt_of_le ((below_nearly d item t h s n).1) (power_fits (suc d) h))

-- ---- Divisions

half_is : (d k : ℕ) → k ≡ capacity_of d → k / 2 ≡ half d
half_is d k e = ap (λ (n : ℕ). n / 2) e

pub divide-left : {A : Type 0} (d : ℕ) (T : A → Tree d) (t : Tree (suc d)) (cs ds : List A) (rs : List Record) (k : ℕ) (y : Record) → map T cs ≡ t.children → k ≡ capacity_of (suc d) →
    half (suc d) < length t.records → take (k / 2 + 1) t.records ≡ rs ++ y ∷ [] → ds ≡ take (k / 2 + 1) cs → changed_node d rs (map T ds) t.place ≡ left_of (suc d) t
divide-left d T t cs ds rs k y m e h f g =
    let n : k / 2 + 1 ≡ suc (half (suc d)) = add-one (k / 2) ∙ ap suc (half_is (suc d) k e) in
    let p = front_of (half (suc d)) t.records rs y no_record h (ap (λ (i : ℕ). take i t.records) (sym n) ∙ f) in
    ap₂ (λ (a : List Record) (b : List (Tree d)). changed_node d a b t.place) (p.0)
    (ap (map T) (g ∙ ap (λ (i : ℕ). take i cs) n) ∙ sym (take-map T (suc (half (suc d))) cs) ∙ ap (take (suc (half (suc d)))) m)

pub divide-right : {A : Type 0} (d : ℕ) (T : A → Tree d) (t : Tree (suc d)) (cs ds : List A) (rs : List Record) (k : ℕ) → map T cs ≡ t.children → k ≡ capacity_of (suc d) →
    rs ≡ drop (k / 2 + 1) t.records → ds ≡ drop (k / 2 + 1) cs → changed_node d rs (map T ds) undefined ≡ right_of (suc d) t
divide-right d T t cs ds rs k m e f g =
    let n : k / 2 + 1 ≡ suc (half (suc d)) = add-one (k / 2) ∙ ap suc (half_is (suc d) k e) in
    ap₂ (λ (a : List Record) (b : List (Tree d)). changed_node d a b undefined) (f ∙ ap (λ (i : ℕ). drop i t.records) n)
    (ap (map T) (g ∙ ap (λ (i : ℕ). drop i cs) n) ∙ sym (drop-map T (suc (half (suc d))) cs) ∙ ap (drop (suc (half (suc d)))) m)

-- a node whose total is counted
pub counted-node : (d : ℕ) (rs : List Record) (ms : List (Tree d)) (place : ℕ) (n : ℕ) → n ≡ counted d rs ms →
    record { records = rs; children = ms; total = n; place = place; clean = false } ≡ changed_node d rs ms place
counted-node d rs ms place n e = λ i. record { records = rs; children = ms; total = e i; place = place; clean = false }

pub part-fits : (d : ℕ) (t u : Tree d) → u ≡ t → d ≤ 3 → IsShapedChild d t → total_of d u < 2 ^ 64
part-fits d t u e h s = subst (λ (w : Tree d). total_of d w < 2 ^ 64) (sym e) (lt_of_lt_of_le (s.1) (power_fits d h))

-- a node of the same records and children
pub same-node : (d : ℕ) (t : Tree (suc d)) (rs : List Record) (ms : List (Tree d)) → rs ≡ t.records → ms ≡ t.children →
    record { records = rs; children = ms; total = t.total; place = t.place; clean = t.clean } ≡ t
same-node d t rs ms v m = λ i. record { records = v i; children = m i; total = t.total; place = t.place; clean = t.clean }

pub sums_small : (a b p q : ℕ) → a ≡ b → p ≡ q → b + q < 2 ^ 64 → a + p < 2 ^ 64
sums_small a b p q e f h = subst (λ (n : ℕ). n + p < 2 ^ 64) (sym e) (subst (λ (n : ℕ). b + n < 2 ^ 64) (sym f) h)

pub raised-fits : (d : ℕ) (t : Tree d) (u : Tree (suc d)) → u ≡ raised d t → d ≤ 2 → is_over d t ≡ true → IsShape d (suc (capacity_of d)) t → total_of (suc d) u < 2 ^ 64
raised-fits d t u e h o s = subst (λ (w : Tree (suc d)). total_of (suc d) w < 2 ^ 64) (sym e) (lt_of_lt_of_le (raised_counts d t h o s) (power_fits (suc d) (omega (arith, h))))

-- a root that has a record too many was full
pub was-full : (d : ℕ) (item : Record) (t : Tree d) → IsShape d (capacity_of d) t → is_over d (put d item t) ≡ true → capacity_of d ≤ length (records_of d t)
was-full d item t s o = omega (arith, ltb-true (capacity_of d) (length (records_of d (put d item t))) o, put-one_more d item t s)

pub no_spare : {A : Type 0} (o : Option A) → o ≡ None → is_some o ≡ true → ⊥
no_spare None e h = no h
  where
    no : false ≡ true → ⊥
    no h = cc
no_spare (Some a) e h = no e
  where
    no : Some a ≡ None → ⊥
    no e = cc

-- a record that is there is put in its place: nothing is divided
pub down-same : (d : ℕ) (item : Record) (t : Tree (suc d)) (ms : List (Tree d)) → IsShape (suc d) (capacity_of (suc d)) t → ms ≡ (went_down d item t).children → address_in item.key t.records ≡ None
    → is_some (found (suc d) item.key t) ≡ true → changed_node d t.records ms t.place ≡ put (suc d) item t
down-same d item t ms s m e h = ap (λ (l : List (Tree d)). changed_node d t.records l t.place) m ∙ sym (settled_not d (rank item.key t.records) (went_down d item t) (put d item w.child) w.after (go (is_over d (put d item w.child)) refl)) ∙ sym (put_below d item t e)
  where
    w : OnTheWay d item t
    w = on_the_way d item t s

    go : (o : Bool) → is_over d (put d item w.child) ≡ o → o ≡ false
    go false f = refl
    go true f = absurd (no_spare (found (suc d) item.key t) (found_below d item.key t w.child e w.before ∙ (over-blocked d item w.child w.shape f).absent) h)

pub down-there : (d : ℕ) (item : Record) (t : Tree (suc d)) (k : ℕ) (c : Tree d) → slice_get t.children k ≡ Some c → k ≡ rank item.key t.records → address_in item.key t.records ≡ None
    → is_some (found (suc d) item.key t) ≡ true → is_some (found d item.key c) ≡ true
down-there d item t k c there p e h = ap is_some (sym (found_below d item.key t c e (ap (λ (n : ℕ). slice_get t.children n) (sym p) ∙ there))) ∙ h
