-- The blocks that a plan writes at new places are ranges of the index that it leaves.
use Rattle.std.proofs.Common.{◌≡◌, ◌≢◌, ◌⊎◌, ℕ, zero, suc, ◌+◌, ◌<◌, ◌≤◌, ◌^◌, true, false, List, [], ◌∷◌, ◌++◌, get_or, length, flat_map, take, drop, refl, sym, ◌∙◌, ap, subst, inl, inr, arith, length-append, length-drop}
use Rattle.std.specs.Prelude.{slice_index_or}
use Rattle.std.proofs.lemmas.Bool.{cases_Bool, cond-false, cond-true}
use Rattle.h5w_model.specs.Numbers.{undefined}
use Rattle.h5w_model.specs.Trees.{node_size}
use Rattle.h5w_model.specs.Findings.{Used}
use Rattle.h5w_model.specs.declared.piece.Write.{Write}
use Rattle.h5w_step_laws.specs.Ranges.{AllSome, Among, block_at}
use Rattle.h5w_space.specs.Space.{Space}
use Rattle.h5w_cache.specs.Plans.{IsPlan, bytes_in, bytes_of}
use Rattle.h5w_cache.specs.Stores.{Store, place_of}
use Rattle.h5w_cache.specs.declared.moves.Move.{Move}
use Rattle.h5w_cache.proofs.LawLemmas.{no_move}
use Rattle.h5w_array_laws.specs.Parts.{length_of, stays_in_place}
use Rattle.h5w_array_laws.specs.ArrayStores as arrays
use Rattle.h5w_array_laws.specs.ArrayStores.{IsArray, place_at_part}
use Rattle.h5w_array_laws.specs.ArrayPlans.{fresh}
use Rattle.h5w_array_laws.proofs.FreshLemmas.{fresh_copy, fresh_in_place, moves_on}
use Rattle.h5w_array_laws.proofs.StoreLemmas.{move_at, new_at}
use Rattle.h5w_array_flush_laws.proofs.ArrayPlaceLemmas.{PartOf, behind_part, in_place_as, part_of}
use Rattle.h5w_bt_nodes.specs.Nodes.{Tree}
use Rattle.h5w_bt_nodes.specs.Blocks.{changes, each_by, place_of as node_place, placed, stood}
use Rattle.h5w_bt_index.specs.Marks.{IsCleanPart, Part, Some_of}
use Rattle.h5w_bt_index.specs.Index.{Index, IsIndex}
use Rattle.h5w_bt_index.specs.Plans.{AreNodeMoves, IsTreePlan, news}
use Rattle.h5w_bt_index.proofs.Placed.{placed_clean, planned_index}
use Rattle.h5w_tree_index_laws.specs.TreeImages as trees
use Rattle.h5w_tree_index_laws.specs.TreeImages.{node_range}
use Rattle.h5w_tree_index_laws.proofs.TreeFlushLemmas.{take_them}
use Rattle.h5w_tree_index_laws.proofs.TreeHeaderLemmas.{part_range}
use Rattle.h5w_tree_index_laws.proofs.TreePlanLemmas.{place_at, take_both}
use Rattle.h5w_tree_index_laws.proofs.TreeStandLemmas as nodes

-- ---- An array

-- the move of which this is the range
record IsMoved (ms : List Move) (u : Used) : Type 0 where
  index : ℕ
  inside : index < length ms
  moves : (get_or ms index no_move).in_place ≡ false
  is : block_at (get_or ms index no_move).new (get_or ms index no_move).len ≡ u

moved_later : (m : Move) (ms : List Move) (u : Used) → IsMoved ms u → IsMoved (m ∷ ms) u
moved_later m ms u x = record { index = suc x.index; inside = omega (arith, x.inside); moves = x.moves; is = x.is }

moved_of : (ms : List Move) (u : Used) → Among u (fresh ms) → IsMoved ms u
moved_of [] u a = absurd a
moved_of (m ∷ ms) u a = go (cases_Bool m.in_place) (moved_of ms u)
  where
    one : m.in_place ≡ false → (Among u (fresh ms) → IsMoved ms u) → (block_at m.new m.len ≡ u) ⊎ Among u (fresh ms) → IsMoved (m ∷ ms) u
    one e later (inl is) = record { index = 0; inside = omega arith; moves = e; is = is }
    one e later (inr b) = moved_later m ms u (later b)

    go : (m.in_place ≡ true) ⊎ (m.in_place ≡ false) → (Among u (fresh ms) → IsMoved ms u) → IsMoved (m ∷ ms) u
    go (inl e) later = moved_later m ms u (later (subst (λ (us : List Used). Among u us) (fresh_in_place m ms e) a))
    go (inr e) later = one e later (subst (λ (us : List Used). Among u us) (fresh_copy m ms e) a)

module _ (v : Store) (s : Space) (ms : List Move) (cs fs : List Write) (w : Store) (t : Space) (p : IsPlan v s ms cs fs w t) (a : IsArray v) where
  moved_behind : (bytes : ℕ) (u : Used) → IsMoved ms u → Among u (arrays.behind_of bytes w)
  moved_behind bytes u x =
      let m : Move = get_or ms x.index no_move in
      let at = move_at v s ms cs fs w t p x.index x.inside in
      let k : PartOf v m.number = part_of v m.number a at.step.kept in
      let long : m.len ≡ length_of k.part = at.step.len ∙ ap (λ n. length (bytes_in v.blocks n)) (sym k.number) ∙ ap (λ o. length (bytes_of o)) k.kept ∙ (k.is_block).len in
      let place : place_at_part w k.part ≡ m.new = ap (place_of w) k.number ∙ new_at v s ms cs fs w t p x.index x.inside in
      let away : stays_in_place k.part ≡ false = sym (in_place_as v at.before m at.after at.step k) ∙ x.moves in
      let some = at.step.some in
      let low = at.step.ends (moves_on m.in_place m.old x.moves) in
      let placed : place_at_part w k.part ≢ undefined = λ e. absurd (omega (arith, some, low, place, e)) in
      let same : block_at (place_at_part w k.part) (length_of k.part) ≡ u = ap (λ n. block_at n (length_of k.part)) place ∙ ap (block_at m.new) (sym long) ∙ x.is in
      subst (λ (y : Used). Among y (arrays.behind_of bytes w)) same (behind_part bytes w k.part k.is_part away placed)

  pub copies_behind : (bytes : ℕ) (u : Used) → Among u (fresh ms) → Among u (arrays.behind_of bytes w)
  copies_behind bytes u b = moved_behind bytes u (moved_of ms u b)

-- ---- A tree

-- one of these places
abbrev In : ℕ → List ℕ → Type 0
In q ps = Some_of (λ (p : ℕ). p ≡ q) ps

in_split : (q : ℕ) (ps qs : List ℕ) → In q (ps ++ qs) → In q ps ⊎ In q qs
in_split q [] qs h = inr h
in_split q (p ∷ ps) qs (inl e) = inl (inl e)
in_split q (p ∷ ps) qs (inr h) = go (in_split q ps qs h)
  where
    go : In q ps ⊎ In q qs → ((p ≡ q) ⊎ In q ps) ⊎ In q qs
    go (inl b) = inl (inr b)
    go (inr b) = inr b

-- a clean node stands there
abbrev HasPart : ℕ → (d : ℕ) → Tree d → Type 0
HasPart q d t = (p : Part) × IsCleanPart p d t × (node_place p.depth p.tree ≡ q)

abbrev HasSome : ℕ → (d : ℕ) → List (Tree d) → Type 0
HasSome q d cs = (p : Part) × Some_of (IsCleanPart p d) cs × (node_place p.depth p.tree ≡ q)

own_has : (q d : ℕ) (ps : List ℕ) (t : Tree d) → node_place d (placed d ps t) ≡ q → HasPart q d (placed d ps t)
own_has q d ps t e = (nodes.part_of d (placed d ps t), nodes.own_part d (placed d ps t) (placed_clean d ps t), e)

one_place : (q p : ℕ) → In q (p ∷ []) → p ≡ q
one_place q p (inl e) = e
one_place q p (inr h) = absurd h

each_has : (q d : ℕ) (cs : List (Tree d)) (ps : List ℕ) → ((c : Tree d) (qs : List ℕ) → changes d c ≤ length qs → In q (take (changes d c) qs) → HasPart q d (placed d qs c)) → length (flat_map (stood d) cs) ≤ length ps
    → In q (take (length (flat_map (stood d) cs)) ps) → HasSome q d (each_by (placed d) (changes d) ps cs)
each_has q d [] ps f enough h = absurd h
each_has q d (c ∷ cs) ps f enough h =
    let n : ℕ = changes d c in
    let k : ℕ = length (flat_map (stood d) cs) in
    let all : length (flat_map (stood d) (c ∷ cs)) ≡ n + k = length-append (stood d c) (flat_map (stood d) cs) in
    let both : In q (take n ps ++ take k (drop n ps)) = subst (In q) (ap (λ (j : ℕ). take j ps) all ∙ take_both n k ps) h in
    go (in_split q (take n ps) (take k (drop n ps)) both) (f c ps (omega (arith, enough, all))) (each_has q d cs (drop n ps) f (omega (arith, enough, all, length-drop n ps)))
  where
    go : In q (take (changes d c) ps) ⊎ In q (take (length (flat_map (stood d) cs)) (drop (changes d c) ps)) → (In q (take (changes d c) ps) → HasPart q d (placed d ps c))
        → (In q (take (length (flat_map (stood d) cs)) (drop (changes d c) ps)) → HasSome q d (each_by (placed d) (changes d) (drop (changes d c) ps) cs)) → HasSome q d (each_by (placed d) (changes d) ps (c ∷ cs))
    go (inl b) first later = let x = first b in (x.0, inl x.1, x.2)
    go (inr b) first later = let x = later b in (x.0, inr x.1, x.2)

-- a node that was placed with what is under it
inner_has : (q d k : ℕ) (t : Tree (suc d)) (ps : List ℕ) → placed (suc d) ps t ≡ record t { children = each_by (placed d) (changes d) ps t.children; place = slice_index_or ps k undefined; clean = true }
    → (In q (take k ps) → HasSome q d (each_by (placed d) (changes d) ps t.children)) → In q (take k ps) ⊎ In q (slice_index_or ps k undefined ∷ []) → HasPart q (suc d) (placed (suc d) ps t)
inner_has q d k t ps now below (inl b) = let x = below b in (x.0, subst (IsCleanPart x.0 (suc d)) (sym now) (inr x.1), x.2)
inner_has q d k t ps now below (inr b) = own_has q (suc d) ps t (ap (node_place (suc d)) now ∙ one_place q (slice_index_or ps k undefined) b)

-- where a changed node was placed
placed_has : (q d : ℕ) (t : Tree d) (ps : List ℕ) → changes d t ≤ length ps → In q (take (changes d t) ps) → HasPart q d (placed d ps t)
placed_has q zero t ps enough h = go (cases_Bool t.clean)
  where
    go : (t.clean ≡ true) ⊎ (t.clean ≡ false) → HasPart q zero (placed zero ps t)
    go (inl e) = let none : stood zero t ≡ [] = cond-true t.clean _ _ e in absurd (subst (λ (l : List ℕ). In q (take (length l) ps)) none h)
    go (inr e) =
        let one : stood zero t ≡ t.place ∷ [] = cond-false t.clean _ _ e in
        let at : node_place zero (placed zero ps t) ≡ slice_index_or ps 0 undefined = ap (node_place zero) (cond-false t.clean _ _ e) in
        let is : In q (slice_index_or ps 0 undefined ∷ []) = subst (In q) (ap (λ (l : List ℕ). take (length l) ps) one ∙ place_at ps 0 (omega (arith, enough, ap length one))) h in
        own_has q zero ps t (at ∙ one_place q (slice_index_or ps 0 undefined) is)
placed_has q (suc d) t ps enough h = go (cases_Bool t.clean) (λ l. each_has q d t.children ps (λ c qs. placed_has q d c qs) l)
  where
    go : (t.clean ≡ true) ⊎ (t.clean ≡ false) → (length (flat_map (stood d) t.children) ≤ length ps → In q (take (length (flat_map (stood d) t.children)) ps) → HasSome q d (each_by (placed d) (changes d) ps t.children)) → HasPart q (suc d) (placed (suc d) ps t)
    go (inl e) below = let none : stood (suc d) t ≡ [] = cond-true t.clean _ _ e in absurd (subst (λ (l : List ℕ). In q (take (length l) ps)) none h)
    go (inr e) below =
        let k : ℕ = length (flat_map (stood d) t.children) in
        let all : stood (suc d) t ≡ flat_map (stood d) t.children ++ t.place ∷ [] = cond-false t.clean _ _ e in
        let count : length (stood (suc d) t) ≡ k + 1 = ap length all ∙ length-append (flat_map (stood d) t.children) (t.place ∷ []) in
        let both : In q (take k ps ++ slice_index_or ps k undefined ∷ []) = subst (In q) (ap (λ (j : ℕ). take j ps) count ∙ place_at ps k (omega (arith, enough, count))) h in
        inner_has q d k t ps (cond-false t.clean _ _ e) (below (omega (arith, enough, count))) (in_split q (take k ps) (slice_index_or ps k undefined ∷ []) both)

-- the place of a node that is written
record IsNew (ms : List Move) (u : Used) : Type 0 where
  place : ℕ
  among : In place (news ms)
  ends : place + node_size < 2 ^ 64
  is : u ≡ node_range place

new_of : (s : Space) (ms : List Move) (t : Space) (u : Used) → AreNodeMoves s ms t → Among u (fresh ms) → IsNew ms u
new_of s [] t u h a = absurd a
new_of s (m ∷ ms) t u h a = go (subst (λ (us : List Used). Among u us) (fresh_copy m ms (h.1).moves) a) (new_of h.0 ms t u h.2)
  where
    go : (block_at m.new m.len ≡ u) ⊎ Among u (fresh ms) → (Among u (fresh ms) → IsNew ms u) → IsNew (m ∷ ms) u
    go (inl e) later = record { place = m.new; among = inl refl; ends = (h.1).ends; is = sym e ∙ ap (block_at m.new) (h.1).size }
    go (inr b) later = let x = later b in record { place = x.place; among = inr x.among; ends = x.ends; is = x.is }

-- they are those of nodes of the tree
pub nodes_behind : (p : ℕ) (v w : Index) (s t : Space) (ms : List Move) (cs fs : List Write) → IsIndex v → IsTreePlan p v s ms cs fs w t → changes v.depth v.root ≡ length (news ms) → (bytes : ℕ) (u : Used) → Among u (fresh ms)
    → Among u (trees.behind_of bytes w)
nodes_behind p v w s t ms cs fs i plan count bytes u a =
    let x = new_of s ms plan.taken.taken u plan.taken.moves a in
    let all : In x.place (take (changes v.depth v.root) (news ms)) = subst (In x.place) (sym (take_them (news ms) (changes v.depth v.root) count)) x.among in
    let has = placed_has x.place v.depth v.root (news ms) (omega (arith, count)) all in
    let sound = (planned_index (news ms) v i).sound in
    let there : Among (node_range (node_place (has.0).depth (has.0).tree)) (trees.ranges_under bytes v.depth (placed v.depth (news ms) v.root)) =
    part_range bytes has.0 v.depth (placed v.depth (news ms) v.root) sound (subst (λ n. n + node_size < 2 ^ 64) (sym has.2) x.ends) has.1 in
    subst (λ (y : Index). Among u (trees.behind_of bytes y)) (sym plan.index)
    (subst (λ (y : Used). Among y (trees.ranges_under bytes v.depth (placed v.depth (news ms) v.root))) (ap node_range has.2 ∙ sym x.is) there)

-- ---- None is empty

pub nodes_some : (s : Space) (ms : List Move) (t : Space) → AreNodeMoves s ms t → AllSome (fresh ms)
nodes_some s ms t h u a = let x = new_of s ms t u h a in subst (λ (y : Used). 0 < y.len) (sym x.is) (omega arith)
