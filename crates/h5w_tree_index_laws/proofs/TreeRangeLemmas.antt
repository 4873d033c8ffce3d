-- The ranges of a tree before and after its changed nodes are placed.
use Rattle.std.proofs.Common.{◌≡◌, ◌⊎◌, ℕ, zero, suc, ◌+◌, ◌<◌, ◌≤◌, Bool, true, false, cond, ◌&&◌, eqb, List, [], ◌∷◌, ◌++◌, length, map, flat_map, take, drop, refl, sym, ap, ◌∙◌, inl, inr, arith, sum_by, append-nil, length-append, length-drop, eq-eqb}
use Rattle.std.specs.Prelude.{slice_index_or}
use Rattle.std.specs.List.{All}
use Rattle.std.proofs.lemmas.Bool.{cases_Bool, cond-true, cond-false, eqb-true, and_parts}
use Rattle.std.proofs.lemmas.List.{length-map, map-append}
use Rattle.std.proofs.lemmas.List.Elements.{All-head, All-tail}
use Rattle.std.proofs.lemmas.List.Sums.{sum_by-cons, sum_by-append, sum_by_push}
use Rattle.std.proofs.lemmas.Grind.{flat_map-append}
use Rattle.h5w_model.specs.Numbers.{undefined}
use Rattle.h5w_model.specs.Trees.{capacity_of}
use Rattle.h5w_model.specs.Findings.{Used}
use Rattle.h5w_step_laws.specs.Ranges.{Among}
use Rattle.h5w_step_laws.specs.Counts.{count_at}
use Rattle.h5w_bt.specs.declared.records.Record.{Record}
use Rattle.h5w_bt_nodes.specs.Nodes.{Tree}
use Rattle.h5w_bt_index.specs.Sound.{IsSound}
use Rattle.h5w_bt_nodes.specs.Blocks.{changes, each_by, placed, stood}
use Rattle.h5w_tree_index_laws.specs.TreeImages.{AreAmong, around, chunk_of, chunks_of, own_range, ranges_under}
use Rattle.h5w_bt_nodes.proofs.Placed.{each_length, either}
use Rattle.h5w_tree_index_laws.proofs.TreePlanLemmas.{place_at, take_both}
use Rattle.h5w_tree_index_laws.specs.TreeImages.{node_range}

-- ---- Weights

same_bool : Bool → Bool → Bool
same_bool true b = b
same_bool false true = false
same_bool false false = true

bool_same : (a b : Bool) → same_bool a b ≡ true → a ≡ b
unfolding same_bool
bool_same true true h = refl
bool_same true false h = absurd cc
bool_same false true h = absurd cc
bool_same false false h = refl

bool_itself : (a : Bool) → same_bool a a ≡ true
unfolding same_bool
bool_itself true = refl
bool_itself false = refl

is_same : Used → Used → Bool
is_same u v = (eqb u.place v.place) && ((eqb u.len v.len) && same_bool u.chunk v.chunk)

used_same : (u v : Used) → is_same u v ≡ true → v ≡ u
unfolding is_same
used_same u v h =
    let a = and_parts (eqb u.place v.place) ((eqb u.len v.len) && same_bool u.chunk v.chunk) h in
    let b = and_parts (eqb u.len v.len) (same_bool u.chunk v.chunk) a.1 in
    let e = eqb-true u.place v.place a.0 in
    let f = eqb-true u.len v.len b.0 in
    let g = bool_same u.chunk v.chunk b.1 in
    sym (λ i. record { place = e i; len = f i; chunk = g i })

used_itself : (u : Used) → is_same u u ≡ true
unfolding is_same
used_itself u =
    ap (λ b. b && ((eqb u.len u.len) && same_bool u.chunk u.chunk)) (eq-eqb u.place u.place refl)
    ∙ ap (λ b. b && same_bool u.chunk u.chunk) (eq-eqb u.len u.len refl) ∙ bool_itself u.chunk

-- one where the range is this one
is_weight : Used → Used → ℕ
is_weight u v = cond (is_same u v) 1 0

weight_itself : (u : Used) → is_weight u u ≡ 1
unfolding is_weight
weight_itself u = cond-true (is_same u u) 1 0 (used_itself u)

weighed : (us : List Used) (u : Used) → Among u us → 0 < sum_by (is_weight u) us
weighed [] u a = absurd a
weighed (v ∷ us) u (inl e) =
    let w : is_weight u v ≡ 1 = ap (is_weight u) e ∙ weight_itself u in
    omega (arith, sum_by-cons (is_weight u) v us, w)
weighed (v ∷ us) u (inr a) = omega (arith, sum_by-cons (is_weight u) v us, weighed us u a)

there_is : (us : List Used) (u : Used) → 0 < sum_by (is_weight u) us → Among u us
unfolding is_weight
there_is [] u h = absurd (omega (arith, h))
there_is (v ∷ us) u h = go (cases_Bool (is_same u v)) (λ k. there_is us u k)
  where
    go : (is_same u v ≡ true) ⊎ (is_same u v ≡ false) → (0 < sum_by (λ (w : Used). cond (is_same u w) 1 0) us → Among u us) → Among u (v ∷ us)
    go (inl e) later = inl (used_same u v e)
    go (inr e) later =
        let w : ◌≡◌ {A = ℕ} (cond (is_same u v) 1 0) 0 = cond-false (is_same u v) 1 0 e in
        inr (later (omega (arith, sum_by-cons (λ (w : Used). cond (is_same u w) 1 0) v us, w, h)))

-- how many begin at a place
pub begins : ℕ → Used → ℕ
begins p u = cond (eqb u.place p) 1 0

pub count_is : (p : ℕ) (us : List Used) → count_at p us ≡ sum_by (begins p) us
unfolding begins
count_is p [] = refl
count_is p (u ∷ us) = ap (λ n. cond (eqb u.place p) 1 0 + n) (count_is p us) ∙ sym (sum_by-cons (λ (v : Used). cond (eqb v.place p) 1 0) u us)

-- ranges of which each weight is at most that of others are among those, none more often
pub by_weight : (us vs : List Used) → ((f : Used → ℕ) → sum_by f us ≤ sum_by f vs) → AreAmong us vs
by_weight us vs h = record {
  among = λ u a. there_is vs u (omega (arith, weighed us u a, h (is_weight u)));
  counts = λ p. omega (arith, count_is p us, count_is p vs, h (begins p));
}

-- ---- A node's ranges

own_less : (f : Used → ℕ) (place : ℕ) → sum_by f (own_range place) ≤ f (node_range place)
own_less f place = either (λ (us : List Used). sum_by f us ≤ f (node_range place)) (eqb place undefined) [] (node_range place ∷ []) (λ e. omega arith) (λ e. omega (arith, sum_by-cons f (node_range place) []))

-- records with what is under the children around them, taken apart
pub around_weight : (f : Used → ℕ) (bytes : ℕ) (rs : List Record) (cs : List (List Used)) → length cs ≡ length rs + 1 → sum_by f (around bytes rs cs) ≡ sum_by f (chunks_of bytes rs) + sum_by (sum_by f) cs
around_weight f bytes [] [] n = absurd (omega arith)
around_weight f bytes [] (c ∷ []) n = omega (arith, sum_by-cons (sum_by f) c [])
around_weight f bytes [] (c ∷ d ∷ cs) n = absurd (omega (arith, n))
around_weight f bytes (r ∷ rs) [] n = absurd (omega (arith, n))
around_weight f bytes (r ∷ rs) (c ∷ cs) n =
    let a = sum_by-append f c (chunk_of bytes r ++ around bytes rs cs) in
    let b = sum_by-append f (chunk_of bytes r) (around bytes rs cs) in
    let e = around_weight f bytes rs cs (omega (arith, n)) in
    let g = sum_by-append f (chunk_of bytes r) (chunks_of bytes rs) in
    omega (arith, a, b, e, g, sum_by-cons (sum_by f) c cs)

-- the ranges of nodes at these places, where they have one
abbrev pub ranges_at : List ℕ → List Used
ranges_at ps = flat_map own_range ps

-- what a tree weighs at most once its changed nodes are placed, with the places that they leave
abbrev Light : (Used → ℕ) → ℕ → (d : ℕ) → List ℕ → Tree d → Type 0
Light f bytes d ps t = sum_by f (ranges_under bytes d (placed d ps t)) + sum_by f (ranges_at (stood d t)) ≤ sum_by f (map node_range (take (changes d t) ps)) + sum_by f (ranges_under bytes d t)

-- those of some nodes and of others
both_left : (f : Used → ℕ) (ps qs : List ℕ) → sum_by f (ranges_at (ps ++ qs)) ≡ sum_by f (ranges_at ps) + sum_by f (ranges_at qs)
both_left f ps qs = ap (sum_by f) (flat_map-append own_range ps qs) ∙ sum_by-append f (ranges_at ps) (ranges_at qs)

-- that of one
one_left : (f : Used → ℕ) (p : ℕ) → sum_by f (ranges_at (p ∷ [])) ≡ sum_by f (own_range p)
one_left f p = ap (sum_by f) (append-nil (own_range p))

none_left : (f : Used → ℕ) (ps : List ℕ) → ps ≡ [] → sum_by f (ranges_at ps) ≡ 0
none_left f ps e = ap (λ (l : List ℕ). sum_by f (ranges_at l)) e

leaf_stood : (t : Tree zero) → t.clean ≡ false → stood zero t ≡ t.place ∷ []
leaf_stood t e = cond-false t.clean _ _ e

leaf_none : (t : Tree zero) → t.clean ≡ true → stood zero t ≡ []
leaf_none t e = cond-true t.clean _ _ e

inner_stood : (d : ℕ) (t : Tree (suc d)) → t.clean ≡ false → stood (suc d) t ≡ flat_map (stood d) t.children ++ t.place ∷ []
inner_stood d t e = cond-false t.clean _ _ e

inner_none : (d : ℕ) (t : Tree (suc d)) → t.clean ≡ true → stood (suc d) t ≡ []
inner_none d t e = cond-true t.clean _ _ e

abbrev lists_of : ℕ → (d : ℕ) → List (Tree d) → List (List Used)
lists_of bytes d cs = map (ranges_under bytes d) cs

each_light : (f : Used → ℕ) (bytes d : ℕ) (cs : List (Tree d)) (ps : List ℕ) → ((c : Tree d) (qs : List ℕ) → IsSound d (capacity_of d) c → changes d c ≤ length qs → Light f bytes d qs c) → All (IsSound d (capacity_of d)) cs
    → length (flat_map (stood d) cs) ≤ length ps
    → sum_by (sum_by f) (lists_of bytes d (each_by (placed d) (changes d) ps cs)) + sum_by f (ranges_at (flat_map (stood d) cs)) ≤ sum_by f (map node_range (take (length (flat_map (stood d) cs)) ps)) + sum_by (sum_by f) (lists_of bytes d cs)
each_light f bytes d [] ps k s h = omega arith
each_light f bytes d (c ∷ cs) ps k s h =
    let n : ℕ = changes d c in
    let m : ℕ = length (flat_map (stood d) cs) in
    let all : length (flat_map (stood d) (c ∷ cs)) ≡ n + m = length-append (stood d c) (flat_map (stood d) cs) in
    let first = k c ps (All-head (IsSound d (capacity_of d)) c cs s) (omega (arith, h, all)) in
    let later = each_light f bytes d cs (drop n ps) k (All-tail (IsSound d (capacity_of d)) c cs s) (omega (arith, h, all, length-drop n ps)) in
    let parts : sum_by f (map node_range (take (length (flat_map (stood d) (c ∷ cs))) ps)) ≡ sum_by f (map node_range (take n ps)) + sum_by f (map node_range (take m (drop n ps))) =
    ap (λ (j : ℕ). sum_by f (map node_range (take j ps))) all ∙ ap (λ (l : List ℕ). sum_by f (map node_range l)) (take_both n m ps) ∙ ap (sum_by f) (map-append node_range (take n ps) (take m (drop n ps)))
    ∙ sum_by-append f (map node_range (take n ps)) (map node_range (take m (drop n ps))) in
    let a = sum_by-cons (sum_by f) (ranges_under bytes d (placed d ps c)) (lists_of bytes d (each_by (placed d) (changes d) (drop n ps) cs)) in
    let b = sum_by-cons (sum_by f) (ranges_under bytes d c) (lists_of bytes d cs) in
    omega (arith, first, later, parts, a, b, both_left f (stood d c) (flat_map (stood d) cs))

pub light : (f : Used → ℕ) (bytes d : ℕ) (t : Tree d) (ps : List ℕ) → IsSound d (capacity_of d) t → changes d t ≤ length ps → Light f bytes d ps t
light f bytes zero t ps s h = go (cases_Bool t.clean)
  where
    go : (t.clean ≡ true) ⊎ (t.clean ≡ false) → Light f bytes zero ps t
    go (inl e) = let same : sum_by f (ranges_under bytes zero (placed zero ps t)) ≡ sum_by f (ranges_under bytes zero t) = ap (λ (u : Tree zero). sum_by f (ranges_under bytes zero u)) (cond-true t.clean _ _ e) in omega (arith, same, none_left f (stood zero t) (leaf_none t e))
    go (inr e) =
        let p : ℕ = slice_index_or ps 0 undefined in
        let gone : sum_by f (ranges_at (stood zero t)) ≡ sum_by f (own_range t.place) = ap (λ (l : List ℕ). sum_by f (ranges_at l)) (leaf_stood t e) ∙ one_left f t.place in
        let chunks : List Used = chunks_of bytes t.records in
        let one : length (stood zero t) ≡ 1 = ap length (cond-false t.clean _ _ e) in
        let lead : 0 + f (node_range p) ≡ f (node_range p) = omega arith in
        let taken : sum_by f (map node_range (take (changes zero t) ps)) ≡ f (node_range p) =
        ap (λ (j : ℕ). sum_by f (map node_range (take j ps))) one ∙ ap (λ (l : List ℕ). sum_by f (map node_range l)) (place_at ps 0 (omega (arith, h, one))) ∙ sum_by_push f [] (node_range p) ∙ lead in
        let now : sum_by f (ranges_under bytes zero (placed zero ps t)) ≡ sum_by f (own_range p ++ chunks) = ap (λ (u : Tree zero). sum_by f (ranges_under bytes zero u)) (cond-false t.clean _ _ e) in
        omega (arith, now, taken, gone, sum_by-append f (own_range p) chunks, sum_by-append f (own_range t.place) chunks, own_less f p)
light f bytes (suc d) t ps s h = go (cases_Bool t.clean) (λ l. each_light f bytes d t.children ps (λ c qs. light f bytes d c qs) s.each l)
  where
    go : (t.clean ≡ true) ⊎ (t.clean ≡ false)
        → (length (flat_map (stood d) t.children) ≤ length ps → sum_by (sum_by f) (lists_of bytes d (each_by (placed d) (changes d) ps t.children)) + sum_by f (ranges_at (flat_map (stood d) t.children)) ≤ sum_by f (map node_range (take (length (flat_map (stood d) t.children)) ps)) + sum_by (sum_by f) (lists_of bytes d t.children))
        → Light f bytes (suc d) ps t
    go (inl e) below = let same : sum_by f (ranges_under bytes (suc d) (placed (suc d) ps t)) ≡ sum_by f (ranges_under bytes (suc d) t) = ap (λ (u : Tree (suc d)). sum_by f (ranges_under bytes (suc d) u)) (cond-true t.clean _ _ e) in omega (arith, same, none_left f (stood (suc d) t) (inner_none d t e))
    go (inr e) below =
        let k : ℕ = length (flat_map (stood d) t.children) in
        let p : ℕ = slice_index_or ps k undefined in
        let cs : List (Tree d) = each_by (placed d) (changes d) ps t.children in
        let all : stood (suc d) t ≡ flat_map (stood d) t.children ++ t.place ∷ [] = cond-false t.clean _ _ e in
        let gone : sum_by f (ranges_at (stood (suc d) t)) ≡ sum_by f (ranges_at (flat_map (stood d) t.children)) + sum_by f (own_range t.place) =
        ap (λ (l : List ℕ). sum_by f (ranges_at l)) all ∙ both_left f (flat_map (stood d) t.children) (t.place ∷ []) ∙ ap (λ (n : ℕ). sum_by f (ranges_at (flat_map (stood d) t.children)) + n) (one_left f t.place) in
        let count : length (stood (suc d) t) ≡ k + 1 = ap length all ∙ length-append (flat_map (stood d) t.children) (t.place ∷ []) in
        let taken : sum_by f (map node_range (take (changes (suc d) t) ps)) ≡ sum_by f (map node_range (take k ps)) + f (node_range p) =
        ap (λ (j : ℕ). sum_by f (map node_range (take j ps))) count ∙ ap (λ (l : List ℕ). sum_by f (map node_range l)) (place_at ps k (omega (arith, h, count)))
        ∙ ap (sum_by f) (map-append node_range (take k ps) (p ∷ [])) ∙ sum_by_push f (map node_range (take k ps)) (node_range p) in
        let now : sum_by f (ranges_under bytes (suc d) (placed (suc d) ps t)) ≡ sum_by f (own_range p ++ around bytes t.records (lists_of bytes d cs)) = ap (λ (u : Tree (suc d)). sum_by f (ranges_under bytes (suc d) u)) (cond-false t.clean _ _ e) in
        let after = around_weight f bytes t.records (lists_of bytes d cs) (length-map cs (ranges_under bytes d) ∙ each_length (placed d) (changes d) ps t.children ∙ s.children) in
        let before = around_weight f bytes t.records (lists_of bytes d t.children) (length-map t.children (ranges_under bytes d) ∙ s.children) in
        omega (arith, now, taken, gone, after, before, below (omega (arith, h, count)), sum_by-append f (own_range p) (around bytes t.records (lists_of bytes d cs)), sum_by-append f (own_range t.place) (around bytes t.records (lists_of bytes d t.children)), own_less f p)

-- ---- The places that are left

each_left : (f : Used → ℕ) (bytes d : ℕ) (cs : List (Tree d)) → ((c : Tree d) → IsSound d (capacity_of d) c → sum_by f (ranges_at (stood d c)) ≤ sum_by f (ranges_under bytes d c)) → All (IsSound d (capacity_of d)) cs
    → sum_by f (ranges_at (flat_map (stood d) cs)) ≤ sum_by (sum_by f) (lists_of bytes d cs)
each_left f bytes d [] k s = omega arith
each_left f bytes d (c ∷ cs) k s =
    let first = k c (All-head (IsSound d (capacity_of d)) c cs s) in
    let later = each_left f bytes d cs k (All-tail (IsSound d (capacity_of d)) c cs s) in
    omega (arith, first, later, both_left f (stood d c) (flat_map (stood d) cs), sum_by-cons (sum_by f) (ranges_under bytes d c) (lists_of bytes d cs))

-- they are among the tree's ranges, none more often
pub left_weight : (f : Used → ℕ) (bytes d : ℕ) (t : Tree d) → IsSound d (capacity_of d) t → sum_by f (ranges_at (stood d t)) ≤ sum_by f (ranges_under bytes d t)
left_weight f bytes zero t s = go (cases_Bool t.clean)
  where
    go : (t.clean ≡ true) ⊎ (t.clean ≡ false) → sum_by f (ranges_at (stood zero t)) ≤ sum_by f (ranges_under bytes zero t)
    go (inl e) = omega (arith, none_left f (stood zero t) (leaf_none t e))
    go (inr e) =
        let gone : sum_by f (ranges_at (stood zero t)) ≡ sum_by f (own_range t.place) = ap (λ (l : List ℕ). sum_by f (ranges_at l)) (leaf_stood t e) ∙ one_left f t.place in
        omega (arith, gone, sum_by-append f (own_range t.place) (chunks_of bytes t.records))
left_weight f bytes (suc d) t s = go (cases_Bool t.clean) (each_left f bytes d t.children (λ c. left_weight f bytes d c) s.each)
  where
    go : (t.clean ≡ true) ⊎ (t.clean ≡ false) → sum_by f (ranges_at (flat_map (stood d) t.children)) ≤ sum_by (sum_by f) (lists_of bytes d t.children) → sum_by f (ranges_at (stood (suc d) t)) ≤ sum_by f (ranges_under bytes (suc d) t)
    go (inl e) below = omega (arith, none_left f (stood (suc d) t) (inner_none d t e))
    go (inr e) below =
        let gone : sum_by f (ranges_at (stood (suc d) t)) ≡ sum_by f (ranges_at (flat_map (stood d) t.children)) + sum_by f (own_range t.place) =
        ap (λ (l : List ℕ). sum_by f (ranges_at l)) (inner_stood d t e) ∙ both_left f (flat_map (stood d) t.children) (t.place ∷ []) ∙ ap (λ (n : ℕ). sum_by f (ranges_at (flat_map (stood d) t.children)) + n) (one_left f t.place) in
        let before = around_weight f bytes t.records (lists_of bytes d t.children) (length-map t.children (ranges_under bytes d) ∙ s.children) in
        omega (arith, gone, below, before, sum_by-append f (own_range t.place) (around bytes t.records (lists_of bytes d t.children)))
