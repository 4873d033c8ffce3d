-- The ranges of a tree after a record was put into it.
use Rattle.std.proofs.Common.{◌≡◌, ◌⊎◌, ℕ, zero, suc, ◌+◌, ◌≤◌, Bool, true, false, List, [], ◌∷◌, ◌++◌, length, map, take, drop, set, insert, refl, sym, ap, ◌∙◌, inl, inr, arith, sum_by, Some, slice_get, take-append-drop}
use Rattle.std.specs.List.{All}
use Rattle.std.proofs.lemmas.Bool.{cases_Bool, cond-true, cond-false}
use Rattle.std.proofs.lemmas.List.{length-map}
use Rattle.std.proofs.lemmas.List.Elements.{All-head, All-tail}
use Rattle.std.proofs.lemmas.List.Sums.{sum_by-cons, sum_by-append}
use Rattle.std.proofs.lemmas.Grind.{flat_map-append}
use Rattle.h5w_model.specs.Trees.{capacity_of}
use Rattle.h5w_model.specs.Findings.{Used}
use Rattle.h5w_bt.specs.declared.records.Record.{Record}
use Rattle.h5w_bt_nodes.specs.Nodes.{Tree, all_records, joined, rank}
use Rattle.h5w_bt_nodes.specs.Puts.{changed_at, half, is_over, left_of, put, put_record, raised, right_of, settled}
use Rattle.h5w_bt_nodes.specs.Shapes.{IsShape}
use Rattle.h5w_bt_index.specs.Sound.{IsSound}
use Rattle.h5w_bt_index.specs.Index.{Index, IsIndex, inserted, records, regrown}
use Rattle.h5w_tree_index_laws.specs.TreeImages.{InsertedBehind, around, behind_of, chunk_of, chunks_of, nodes_weigh, own_range, ranges_under}
use Rattle.h5w_bt_index.proofs.Laws.{index_shaped, inserted-records}
use Rattle.h5w_bt_nodes.proofs.Over.{OnTheWay, on_the_way}
use Rattle.h5w_bt_nodes.proofs.Places.{none_is_not, some_same}
use Rattle.h5w_bt_nodes.proofs.Records.{here, past, put-here, put-past, put-under, side, under}
use Rattle.h5w_bt_nodes.proofs.Steps.{is_there, not_there, put_below, put_here, settled_not, settled_over, there, went_down}
use Rattle.h5w_tree_index_laws.proofs.TreeRangeLemmas.{around_weight, by_weight}

-- ---- Weights of nodes, and of chunks

abbrev nodes : (Used → ℕ) → (d : ℕ) → Tree d → ℕ
nodes f d t = nodes_weigh f d t

abbrev pub chunks : (Used → ℕ) → ℕ → List Record → ℕ
chunks f bytes rs = sum_by f (chunks_of bytes rs)

chunks_append : (f : Used → ℕ) (bytes : ℕ) (rs ss : List Record) → chunks f bytes (rs ++ ss) ≡ chunks f bytes rs + chunks f bytes ss
chunks_append f bytes rs ss = ap (sum_by f) (flat_map-append (chunk_of bytes) rs ss) ∙ sum_by-append f (chunks_of bytes rs) (chunks_of bytes ss)

pub chunks_cons : (f : Used → ℕ) (bytes : ℕ) (r : Record) (rs : List Record) → chunks f bytes (r ∷ rs) ≡ sum_by f (chunk_of bytes r) + chunks f bytes rs
chunks_cons f bytes r rs = sum_by-append f (chunk_of bytes r) (chunks_of bytes rs)

joined_chunks : (f : Used → ℕ) (bytes : ℕ) (rs : List Record) (cs : List (List Record)) → length cs ≡ length rs + 1 → chunks f bytes (joined rs cs) ≡ chunks f bytes rs + sum_by (chunks f bytes) cs
joined_chunks f bytes [] [] n = absurd (omega arith)
joined_chunks f bytes [] (c ∷ []) n = omega (arith, sum_by-cons (chunks f bytes) c [])
joined_chunks f bytes [] (c ∷ d ∷ cs) n = absurd (omega (arith, n))
joined_chunks f bytes (r ∷ rs) [] n = absurd (omega (arith, n))
joined_chunks f bytes (r ∷ rs) (c ∷ cs) n =
    let a = chunks_append f bytes c (r ∷ joined rs cs) in
    let b = chunks_cons f bytes r (joined rs cs) in
    let e = joined_chunks f bytes rs cs (omega (arith, n)) in
    omega (arith, a, b, e, chunks_cons f bytes r rs, sum_by-cons (chunks f bytes) c cs)

each_apart : (f : Used → ℕ) (bytes d : ℕ) (cs : List (Tree d)) → ((c : Tree d) → IsSound d (capacity_of d) c → sum_by f (ranges_under bytes d c) ≡ chunks f bytes (all_records d c) + nodes f d c) → All (IsSound d (capacity_of d)) cs
    → sum_by (sum_by f) (map (ranges_under bytes d) cs) ≡ sum_by (chunks f bytes) (map (all_records d) cs) + sum_by (nodes f d) cs
each_apart f bytes d [] k s = refl
each_apart f bytes d (c ∷ cs) k s =
    omega (
      arith,
      k c (All-head (IsSound d (capacity_of d)) c cs s),
      each_apart f bytes d cs k (All-tail (IsSound d (capacity_of d)) c cs s),
      sum_by-cons (sum_by f) (ranges_under bytes d c) (map (ranges_under bytes d) cs),
      sum_by-cons (chunks f bytes) (all_records d c) (map (all_records d) cs),
      sum_by-cons (nodes f d) c cs,
    )

-- a tree's ranges are those of its records' chunks and of its nodes
pub apart : (f : Used → ℕ) (bytes d m : ℕ) (t : Tree d) → IsSound d m t → sum_by f (ranges_under bytes d t) ≡ chunks f bytes (all_records d t) + nodes f d t
apart f bytes zero m t s = omega (arith, sum_by-append f (own_range t.place) (chunks_of bytes t.records))
apart f bytes (suc d) m t s =
    let lists : List (List Used) = map (ranges_under bytes d) t.children in
    let a = sum_by-append f (own_range t.place) (around bytes t.records lists) in
    let b = around_weight f bytes t.records lists (length-map t.children (ranges_under bytes d) ∙ s.children) in
    let e = joined_chunks f bytes t.records (map (all_records d) t.children) (length-map t.children (all_records d) ∙ s.children) in
    let g = each_apart f bytes d t.children (λ c. apart f bytes d (capacity_of d) c) s.each in
    omega (arith, a, b, e, g)

-- ---- A record more

put_chunks : (f : Used → ℕ) (bytes : ℕ) (x : Record) (rs : List Record) → chunks f bytes (put_record x rs) ≤ sum_by f (chunk_of bytes x) + chunks f bytes rs
put_chunks f bytes x [] = omega (arith, chunks_cons f bytes x [])
put_chunks f bytes x (r ∷ rs) =
    elim (side r.key x.key) [
      | under u ↦
          let e : chunks f bytes (put_record x (r ∷ rs)) ≡ chunks f bytes (r ∷ put_record x rs) = ap (chunks f bytes) (put-under x r rs u) in
          omega (arith, e, chunks_cons f bytes r (put_record x rs), chunks_cons f bytes r rs, put_chunks f bytes x rs)
      | here u g ↦
          let e : chunks f bytes (put_record x (r ∷ rs)) ≡ chunks f bytes (x ∷ rs) = ap (chunks f bytes) (put-here x r rs u g) in
          omega (arith, e, chunks_cons f bytes x rs, chunks_cons f bytes r rs)
      | past u g ↦
          let e : chunks f bytes (put_record x (r ∷ rs)) ≡ chunks f bytes (x ∷ r ∷ rs) = ap (chunks f bytes) (put-past x r rs u g) in
          omega (arith, e, chunks_cons f bytes x (r ∷ rs))
    ]

pub sum_changed : {A : Type 0} (g : A → ℕ) (F : A → A) (i : ℕ) (xs : List A) (c : A) → slice_get xs i ≡ Some c → g (F c) ≡ g c → sum_by g (changed_at i F xs) ≡ sum_by g xs
sum_changed g F i [] c e h = absurd (none_is_not c e)
sum_changed g F zero (x ∷ xs) c e h =
    let s = some_same x c e in
    let k : g (F x) ≡ g x = ap (λ y. g (F y)) s ∙ h ∙ ap g (sym s) in
    omega (arith, sum_by-cons g (F x) xs, sum_by-cons g x xs, k)
sum_changed g F (suc i) (x ∷ xs) c e h = omega (arith, sum_changed g F i xs c e h, sum_by-cons g x (changed_at i F xs), sum_by-cons g x xs)

sum_divided : {A : Type 0} (g : A → ℕ) (F : A → A) (i : ℕ) (xs : List A) (c l r : A) → slice_get xs i ≡ Some c → g l + g r ≡ g c → sum_by g (insert (set (changed_at i F xs) i l) (suc i) r) ≡ sum_by g xs
sum_divided g F i [] c l r e h = absurd (none_is_not c e)
sum_divided g F zero (x ∷ xs) c l r e h =
    let s : g x ≡ g c = ap g (some_same x c e) in
    omega (arith, sum_by-cons g l (r ∷ xs), sum_by-cons g r xs, sum_by-cons g x xs, s, h)
sum_divided g F (suc i) (x ∷ xs) c l r e h = omega (arith, sum_divided g F i xs c l r e h, sum_by-cons g x (insert (set (changed_at i F xs) i l) (suc i) r), sum_by-cons g x xs)

-- a node in two: the left part keeps its place, the right one has none
parts_nodes : (f : Used → ℕ) (d : ℕ) (t : Tree d) → nodes f d (left_of d t) + nodes f d (right_of d t) ≡ nodes f d t
parts_nodes f zero t = omega arith
parts_nodes f (suc d) t =
    let k : ℕ = suc (half (suc d)) in
    let e : sum_by (nodes f d) (take k t.children ++ drop k t.children) ≡ sum_by (nodes f d) t.children = ap (sum_by (nodes f d)) (take-append-drop k t.children) in
    omega (arith, e, sum_by-append (nodes f d) (take k t.children) (drop k t.children))

put_nodes : (f : Used → ℕ) (d : ℕ) (x : Record) (t : Tree d) → IsShape d (capacity_of d) t → nodes f d (put d x t) ≡ nodes f d t
put_nodes f zero x t s = refl
put_nodes f (suc d) x t s = elim (is_there x.key t.records) [
  | there a e ↦ ap (nodes f (suc d)) (put_here d x a t e)
  | not_there e ↦ ap (nodes f (suc d)) (put_below d x t e) ∙ (let w = on_the_way d x t s in go w (put_nodes f d x w.child w.shape) (is_over d (put d x w.child)) refl)
]
  where
    go : (w : OnTheWay d x t) → nodes f d (put d x w.child) ≡ nodes f d w.child → (o : Bool) → is_over d (put d x w.child) ≡ o → nodes f (suc d) (settled d (rank x.key t.records) (went_down d x t)) ≡ nodes f (suc d) t
    go w same true o =
        ap (nodes f (suc d)) (settled_over d (rank x.key t.records) (went_down d x t) (put d x w.child) w.after o)
        ∙ ap (λ n. sum_by f (own_range t.place) + n) (sum_divided (nodes f d) (put d x) (rank x.key t.records) t.children w.child (left_of d (put d x w.child)) (right_of d (put d x w.child)) w.before (parts_nodes f d (put d x w.child) ∙ same))
    go w same false o =
        ap (nodes f (suc d)) (settled_not d (rank x.key t.records) (went_down d x t) (put d x w.child) w.after o)
        ∙ ap (λ n. sum_by f (own_range t.place) + n) (sum_changed (nodes f d) (put d x) (rank x.key t.records) t.children w.child w.before same)

raised_nodes : (f : Used → ℕ) (d : ℕ) (t : Tree d) → nodes f (suc d) (raised d t) ≡ nodes f d t
raised_nodes f d t = omega (arith, parts_nodes f d t, sum_by-cons (nodes f d) (left_of d t) (right_of d t ∷ []), sum_by-cons (nodes f d) (right_of d t) [])

abbrev pub all_nodes : (Used → ℕ) → Index → ℕ
all_nodes f v = nodes f v.depth v.root

regrown_nodes : (f : Used → ℕ) (d : ℕ) (t : Tree d) → all_nodes f (regrown d t) ≡ nodes f d t
regrown_nodes f d t = go (cases_Bool (is_over d t))
  where
    go : (is_over d t ≡ true) ⊎ (is_over d t ≡ false) → all_nodes f (regrown d t) ≡ nodes f d t
    go (inl o) = ap (all_nodes f) (cond-true (is_over d t) _ _ o) ∙ raised_nodes f d t
    go (inr o) = ap (all_nodes f) (cond-false (is_over d t) _ _ o)

pub inserted_nodes : (f : Used → ℕ) (x : Record) (v : Index) → IsIndex v → all_nodes f (inserted x v) ≡ all_nodes f v
inserted_nodes f x v i = regrown_nodes f v.depth (put v.depth x v.root) ∙ put_nodes f v.depth x v.root (index_shaped v i).shape

pub inserted_behind : InsertedBehind
inserted_behind x v bytes i j =
    by_weight (behind_of bytes (inserted x v)) (chunk_of bytes x ++ behind_of bytes v) (λ f.
    let w : Index = inserted x v in
    let now = apart f bytes w.depth (capacity_of w.depth) w.root j.sound in
    let was = apart f bytes v.depth (capacity_of v.depth) v.root i.sound in
    let same : all_nodes f w ≡ all_nodes f v = inserted_nodes f x v i in
    let recs : chunks f bytes (records w) ≡ chunks f bytes (put_record x (records v)) = ap (chunks f bytes) (inserted-records x v i) in
    omega (arith, now, was, same, recs, put_chunks f bytes x (records v), sum_by-append f (chunk_of bytes x) (behind_of bytes v)))
