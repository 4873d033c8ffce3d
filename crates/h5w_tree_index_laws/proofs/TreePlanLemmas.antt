-- The plan of a tree's changed nodes on the image of a file: what its copies write, and that the tree then stands.
use Rattle.std.proofs.Common.{◌≡◌, ◌⊎◌, ℕ, zero, suc, ◌+◌, ◌-◌, ◌<◌, ◌≤◌, ◌^◌, true, false, List, [], ◌∷◌, ◌++◌, length, map, flat_map, take, drop, replicate, refl, sym, ap, ap₂, subst, ◌∙◌, inl, inr, arith, length-append}
use Rattle.std.specs.Prelude.{slice_index_or}
use Rattle.std.specs.List.{All}
use Rattle.std.proofs.lemmas.Bool.{cases_Bool, cond-true, cond-false}
use Rattle.std.proofs.lemmas.List.{map-append, length-drop, length-map, length-replicate}
use Rattle.std.proofs.lemmas.List.Elements.{All-cons, All-head, All-nil, All-tail}
use Rattle.h5w_model.specs.Numbers.{range, undefined}
use Rattle.h5w_model.specs.Images.{At, Holds, image, pieces}
use Rattle.h5w_model.specs.Trees.{RecordFields, btin_at, btin_bytes, btin_len, btlf_at, btlf_bytes, capacity_of, node_size}
use Rattle.h5w_model.specs.Findings.{Used}
use Rattle.h5w_model.proofs.ImageLemmas.{Apart-sym, At-front, At-image_missed, At-pieces, Holds-front, Holds-rest, image-append}
use Rattle.h5w_step_laws.specs.Ranges.{Disjoint, block_at}
use Rattle.h5w_step_laws.proofs.TreeVisits.{leaf_low, inner_low}
use Rattle.h5w_space.specs.Space.{Space}
use Rattle.h5w_cache.specs.declared.moves.Move.{Move}
use Rattle.h5w_flush_laws.specs.Parts.{block_ranges, block_writes}
use Rattle.h5w_flush_laws.specs.Spaces.{Taken}
use Rattle.h5w_flush_laws.proofs.SpaceLemmas.{taken_laws}
use Rattle.h5w_flush_laws.proofs.EarlyLemmas.{blocks_miss}
use Rattle.h5w_bt.specs.Parts.{record_of}
use Rattle.h5w_bt_nodes.specs.Nodes.{Tree}
use Rattle.h5w_bt_index.specs.Sound.{IsSound}
use Rattle.h5w_bt_index.specs.Marks.{IsCleanPart, IsMarked, Part, Some_of}
use Rattle.h5w_bt_nodes.specs.Blocks.{AllRead, EachBy, ReadsBack, block_of, changes, each_by, joined_blocks, node_bytes, node_of, padded, place_of, placed, pointer_of, stood, written}
use Rattle.h5w_bt_index.specs.Plans.{AreNodeMoves}
use Rattle.h5w_tree_index_laws.specs.TreeImages.{AllStand, IsReadAs, StandsNode, node_range}
use Rattle.h5w_tree_index_laws.specs.TreeFlushes.{fresh}
use Rattle.h5w_bt_nodes.proofs.Placed.{either}
use Rattle.h5w_bt_index.proofs.Placed.{placed_sound}
use Rattle.h5w_bt_nodes.proofs.NodeBytes.{inner_length, leaf_length}
use Rattle.h5w_tree_index_laws.proofs.TreeStandLemmas.{nodes_stand}

-- ---- Places

pub moves_taken : (s : Space) (ms : List Move) (t : Space) → AreNodeMoves s ms t → Taken s (fresh ms) t
moves_taken s [] t h = taken_laws.none_taken s t (ap (λ (x : Space). x.end) h) (ap (λ (x : Space). x.free) h) (ap (λ (x : Space). x.retired) h)
moves_taken s (m ∷ ms) t h =
    taken_laws.joined s h.0 t (node_range m.new ∷ []) (fresh ms) (taken_laws.one s h.0 (node_range m.new) (omega arith) (h.1).step) (moves_taken h.0 ms t h.2)

-- ---- What is written

pub padded_long : (b : List ℕ) → length b ≤ node_size → length (padded b) ≡ node_size
padded_long b h = omega (arith, h, length-append b (replicate (node_size - length b) 0), length-replicate {A = ℕ} (node_size - length b) 0)

pub node_long : (d : ℕ) (t : Tree d) → d ≤ 3 → IsSound d (capacity_of d) t → length (node_bytes d t) ≡ node_size
unfolding node_bytes
node_long zero t low s =
    padded_long (btlf_bytes (map record_of t.records)) (omega (arith, leaf_length (map record_of t.records) (length t.records) (length-map t.records record_of), leaf_low (length t.records) s))
node_long (suc d) t low s =
    padded_long (btin_bytes (node_of d t) (suc d))
    (omega (arith, inner_length (node_of d t) (length t.records) (suc d) (omega arith) (length-map t.records record_of) (length-map t.children (pointer_of d) ∙ s.children), inner_low d (length t.records) low s.few))

pub place_at : (ps : List ℕ) (k : ℕ) → k < length ps → take (k + 1) ps ≡ take k ps ++ slice_index_or ps k undefined ∷ []
place_at [] k h = absurd (omega arith)
place_at (p ∷ ps) zero h = refl
place_at (p ∷ ps) (suc k) h =
    let e : suc k + 1 ≡ suc (k + 1) = omega arith in
    ap (λ (j : ℕ). take j (p ∷ ps)) e ∙ ap (λ (l : List ℕ). p ∷ l) (place_at ps k (omega (arith, h)))

abbrev none : List ℕ
none = []

take-nothing : (k : ℕ) → take k none ≡ none
take-nothing zero = refl
take-nothing (suc k) = refl

pub take_both : (n k : ℕ) (ps : List ℕ) → take (n + k) ps ≡ take n ps ++ take k (drop n ps)
take_both zero k ps = ap (λ (j : ℕ). take j ps) (let e : 0 + k ≡ k = omega arith in e)
take_both (suc n) k [] = ap (λ (j : ℕ). take j []) (let e : suc n + k ≡ suc (n + k) = omega arith in e) ∙ sym (take-nothing k)
take_both (suc n) k (p ∷ ps) = ap (λ (j : ℕ). take j (p ∷ ps)) (let e : suc n + k ≡ suc (n + k) = omega arith in e) ∙ ap (λ (l : List ℕ). p ∷ l) (take_both n k ps)

-- the places that are taken by some, in their order
abbrev Taking : (d : ℕ) → List ℕ → Tree d → Type 0
Taking d ps t = block_ranges (written d ps t) ≡ map node_range (take (changes d t) ps)

ranges_append : (bs cs : List (ℕ × List ℕ)) → block_ranges (bs ++ cs) ≡ block_ranges bs ++ block_ranges cs
ranges_append bs cs = map-append (λ (b : ℕ × List ℕ). block_at b.0 (length b.1)) bs cs

each_takes : (d : ℕ) (cs : List (Tree d)) (ps : List ℕ) → ((c : Tree d) (qs : List ℕ) → IsSound d (capacity_of d) c → changes d c ≤ length qs → Taking d qs c) → All (IsSound d (capacity_of d)) cs
    → length (flat_map (stood d) cs) ≤ length ps → block_ranges (joined_blocks (each_by (written d) (changes d) ps cs)) ≡ map node_range (take (length (flat_map (stood d) cs)) ps)
each_takes d [] ps f s h = refl
each_takes d (c ∷ cs) ps f s h =
    let n : ℕ = changes d c in
    let k : ℕ = length (flat_map (stood d) cs) in
    let all : length (flat_map (stood d) (c ∷ cs)) ≡ n + k = length-append (stood d c) (flat_map (stood d) cs) in
    let first : block_ranges (written d ps c) ≡ map node_range (take n ps) = f c ps (All-head (IsSound d (capacity_of d)) c cs s) (omega (arith, h, all)) in
    let later : block_ranges (joined_blocks (each_by (written d) (changes d) (drop n ps) cs)) ≡ map node_range (take k (drop n ps)) =
    each_takes d cs (drop n ps) f (All-tail (IsSound d (capacity_of d)) c cs s) (omega (arith, h, all, length-drop n ps)) in
    ranges_append (written d ps c) (joined_blocks (each_by (written d) (changes d) (drop n ps) cs))
    ∙ ap₂ (λ (a b : List Used). a ++ b) first later
    ∙ sym (map-append node_range (take n ps) (take k (drop n ps)))
    ∙ ap (map node_range) (sym (take_both n k ps))
    ∙ ap (λ (j : ℕ). map node_range (take j ps)) (sym all)

pub takes : (d : ℕ) (t : Tree d) (ps : List ℕ) → d ≤ 3 → IsSound d (capacity_of d) t → changes d t ≤ length ps → Taking d ps t
takes zero t ps low s h = go (cases_Bool t.clean)
  where
    go : (t.clean ≡ true) ⊎ (t.clean ≡ false) → Taking zero ps t
    go (inl e) = ap block_ranges (cond-true t.clean _ _ e) ∙ ap (λ (l : List ℕ). map node_range (take (length l) ps)) (sym (cond-true t.clean _ _ e))
    go (inr e) =
        let one : stood zero t ≡ t.place ∷ [] = cond-false t.clean _ _ e in
        let at : place_of zero (placed zero ps t) ≡ slice_index_or ps 0 undefined = ap (place_of zero) (cond-false t.clean _ _ e) in
        let long : length (node_bytes zero (placed zero ps t)) ≡ node_size = node_long zero (placed zero ps t) low (placed_sound zero (capacity_of zero) ps t s) in
        ap block_ranges (cond-false t.clean _ _ e)
        ∙ ap₂ (λ (a n : ℕ). block_at a n ∷ []) at long
        ∙ ap (map node_range) (sym (place_at ps 0 (omega (arith, h, ap length one))))
        ∙ ap (λ (l : List ℕ). map node_range (take (length l) ps)) (sym one)
takes (suc d) t ps low s h = go (cases_Bool t.clean) (λ l. each_takes d t.children ps (λ c qs. takes d c qs (omega (arith, low))) s.each l)
  where
    go : (t.clean ≡ true) ⊎ (t.clean ≡ false) → (length (flat_map (stood d) t.children) ≤ length ps → block_ranges (joined_blocks (each_by (written d) (changes d) ps t.children)) ≡ map node_range (take (length (flat_map (stood d) t.children)) ps)) → Taking (suc d) ps t
    go (inl e) below = ap block_ranges (cond-true t.clean _ _ e) ∙ ap (λ (l : List ℕ). map node_range (take (length l) ps)) (sym (cond-true t.clean _ _ e))
    go (inr e) below =
        let k : ℕ = length (flat_map (stood d) t.children) in
        let all : stood (suc d) t ≡ flat_map (stood d) t.children ++ t.place ∷ [] = cond-false t.clean _ _ e in
        let count : length (stood (suc d) t) ≡ k + 1 = ap length all ∙ length-append (flat_map (stood d) t.children) (t.place ∷ []) in
        let at : place_of (suc d) (placed (suc d) ps t) ≡ slice_index_or ps k undefined = ap (place_of (suc d)) (cond-false t.clean _ _ e) in
        let long : length (node_bytes (suc d) (placed (suc d) ps t)) ≡ node_size = node_long (suc d) (placed (suc d) ps t) low (placed_sound (suc d) (capacity_of (suc d)) ps t s) in
        ap block_ranges (cond-false t.clean _ _ e)
        ∙ ranges_append (joined_blocks (each_by (written d) (changes d) ps t.children)) (block_of (suc d) (placed (suc d) ps t) ∷ [])
        ∙ ap₂ (λ (us : List Used) (u : Used). us ++ u ∷ []) (below (omega (arith, h, count))) (ap₂ (λ (a n : ℕ). block_at a n) at long)
        ∙ sym (map-append node_range (take k ps) (slice_index_or ps k undefined ∷ []))
        ∙ ap (map node_range) (sym (place_at ps k (omega (arith, h, count))))
        ∙ ap (λ (j : ℕ). map node_range (take j ps)) (sym count)

-- ---- What stands once it is written

pub blocks_hold : (img : List ℕ) (bs : List (ℕ × List ℕ)) → Disjoint (block_ranges bs) → Holds (image img (block_writes bs)) bs
blocks_hold img [] h = tt
blocks_hold img (b ∷ bs) h =
    let middle : List ℕ = image img (pieces b.0 b.1) in
    let own : At (image middle (block_writes bs)) b.0 b.1 =
    At-image_missed middle (block_writes bs) b.0 b.1 (blocks_miss bs b.0 (length b.1) (λ u a. Apart-sym b.0 (length b.1) u.place u.len (h.1 u a))) (At-pieces img b.0 b.1) in
    subst (λ (x : List ℕ). At x b.0 b.1 × Holds x bs) (sym (image-append img (pieces b.0 b.1) (block_writes bs))) (own, blocks_hold middle bs h.2)

-- each of these places ends below 2^64
abbrev pub Ends : List ℕ → Type 0
Ends ps = All (λ (p : ℕ). p + node_size < 2 ^ 64) ps

ends_at : (ps : List ℕ) (k : ℕ) → k < length ps → Ends ps → slice_index_or ps k undefined + node_size < 2 ^ 64
ends_at [] k h e = absurd (omega arith)
ends_at (p ∷ ps) zero h e = All-head (λ (p : ℕ). p + node_size < 2 ^ 64) p ps e
ends_at (p ∷ ps) (suc k) h e = ends_at ps k (omega (arith, h)) (All-tail (λ (p : ℕ). p + node_size < 2 ^ 64) p ps e)

ends_drop : (n : ℕ) (ps : List ℕ) → Ends ps → Ends (drop n ps)
ends_drop zero ps e = e
ends_drop (suc n) [] e = e
ends_drop (suc n) (p ∷ ps) e = ends_drop n ps (All-tail (λ (p : ℕ). p + node_size < 2 ^ 64) p ps e)

-- a node that was written, and reads back, is read as that node
leaf_read : (img : List ℕ) (t : Tree zero) → At img t.place (node_bytes zero t) → ReadsBack zero t → IsReadAs img zero t
unfolding node_bytes
leaf_read img t there back =
    let rs : List RecordFields = map record_of t.records in
    let front : range img t.place (length (btlf_bytes rs)) ≡ btlf_bytes rs = At-front img t.place (btlf_bytes rs) _ there in
    ap (λ (l : List ℕ). btlf_at l t.place (length t.records)) (ap (range img t.place) (sym (leaf_length rs (length t.records) (length-map t.records record_of))) ∙ front) ∙ back t.place

inner_read : (img : List ℕ) (d : ℕ) (t : Tree (suc d)) → length t.children ≡ length t.records + 1 → At img t.place (node_bytes (suc d) t) → ReadsBack (suc d) t → IsReadAs img (suc d) t
unfolding node_bytes
inner_read img d t n there back =
    let b : List ℕ = btin_bytes (node_of d t) (suc d) in
    let front : range img t.place (length b) ≡ b = At-front img t.place b _ there in
    let long : length b ≡ btin_len (length t.records) (suc d) = inner_length (node_of d t) (length t.records) (suc d) (omega arith) (length-map t.records record_of) (length-map t.children (pointer_of d) ∙ n) in
    ap (λ (l : List ℕ). btin_at l t.place (length t.records) (suc d)) (ap (range img t.place) (sym long) ∙ front) ∙ back t.place

-- what is known of a subtree of which the changed nodes were written
pub record WasWritten (img : List ℕ) (d : ℕ) (ps : List ℕ) (t : Tree d) : Type 0 where
  pub marked : IsMarked d t
  pub sound : IsSound d (capacity_of d) t
  pub clean : (p : Part) → IsCleanPart p d t → StandsNode img p.depth p.tree
  pub reads : AllRead d ps t
  pub holds : Holds img (written d ps t)
  pub enough : changes d t ≤ length ps
  pub ends : Ends ps

-- what stands then: all of it
abbrev StandsThen : List ℕ → (d : ℕ) → List ℕ → Tree d → Type 0
StandsThen img d ps t = AllStand img d (placed d ps t)

each_stands : (img : List ℕ) (d : ℕ) (cs : List (Tree d)) (ps : List ℕ) → ((c : Tree d) (qs : List ℕ) → WasWritten img d qs c → StandsThen img d qs c) → All (IsMarked d) cs → All (IsSound d (capacity_of d)) cs
    → ((p : Part) → Some_of (IsCleanPart p d) cs → StandsNode img p.depth p.tree) → EachBy (AllRead d) (changes d) ps cs → Holds img (joined_blocks (each_by (written d) (changes d) ps cs)) → length (flat_map (stood d) cs) ≤ length ps → Ends ps
    → All (AllStand img d) (each_by (placed d) (changes d) ps cs)
each_stands img d [] ps f m s clean reads holds enough ends = All-nil (AllStand img d)
each_stands img d (c ∷ cs) ps f m s clean reads holds enough ends =
    let n : ℕ = changes d c in
    let all : length (flat_map (stood d) (c ∷ cs)) ≡ n + length (flat_map (stood d) cs) = length-append (stood d c) (flat_map (stood d) cs) in
    let later : List (ℕ × List ℕ) = joined_blocks (each_by (written d) (changes d) (drop n ps) cs) in
    All-cons (AllStand img d) (placed d ps c) (each_by (placed d) (changes d) (drop n ps) cs)
    (f c ps (record {
      marked = All-head (IsMarked d) c cs m;
      sound = All-head (IsSound d (capacity_of d)) c cs s;
      clean = λ p q. clean p (inl q);
      reads = reads.0;
      holds = Holds-front img (written d ps c) later holds;
      enough = omega (arith, enough, all);
      ends = ends;
    }))
    (each_stands img d cs (drop n ps) f (All-tail (IsMarked d) c cs m) (All-tail (IsSound d (capacity_of d)) c cs s) (λ p q. clean p (inr q)) reads.1 (Holds-rest img (written d ps c) later holds)
    (omega (arith, enough, all, length-drop n ps)) (ends_drop n ps ends))

pub placed_stands : (img : List ℕ) (d : ℕ) (t : Tree d) (ps : List ℕ) → WasWritten img d ps t → StandsThen img d ps t
placed_stands img zero t ps w =
    either (AllStand img zero) t.clean _ _ (λ e. nodes_stand img zero t w.marked e w.clean) (λ e.
    let now : placed zero ps t ≡ record t { place = slice_index_or ps 0 undefined; clean = true } = cond-false t.clean _ _ e in
    let one : stood zero t ≡ t.place ∷ [] = cond-false t.clean _ _ e in
    let holds : Holds img (block_of zero (placed zero ps t) ∷ []) = subst (Holds img) (cond-false t.clean _ _ e) w.holds in
    subst (StandsNode img zero) now (record {
      reads = leaf_read img (placed zero ps t) holds.0 (w.reads e);
      ends = subst (λ (p : ℕ). p + node_size < 2 ^ 64) (sym (ap (place_of zero) now)) (ends_at ps 0 (omega (arith, w.enough, ap length one)) w.ends);
    }))
placed_stands img (suc d) t ps w =
    either (AllStand img (suc d)) t.clean _ _ (λ e. nodes_stand img (suc d) t w.marked e w.clean) (λ e.
    let k : ℕ = length (flat_map (stood d) t.children) in
    let now : placed (suc d) ps t ≡ record t { children = each_by (placed d) (changes d) ps t.children; place = slice_index_or ps k undefined; clean = true } = cond-false t.clean _ _ e in
    let all : stood (suc d) t ≡ flat_map (stood d) t.children ++ t.place ∷ [] = cond-false t.clean _ _ e in
    let count : length (stood (suc d) t) ≡ k + 1 = ap length all ∙ length-append (flat_map (stood d) t.children) (t.place ∷ []) in
    let holds : Holds img (joined_blocks (each_by (written d) (changes d) ps t.children) ++ block_of (suc d) (placed (suc d) ps t) ∷ []) = subst (Holds img) (cond-false t.clean _ _ e) w.holds in
    let own : Holds img (block_of (suc d) (placed (suc d) ps t) ∷ []) = Holds-rest img (joined_blocks (each_by (written d) (changes d) ps t.children)) (block_of (suc d) (placed (suc d) ps t) ∷ []) holds in
    let sound : IsSound (suc d) (capacity_of (suc d)) (placed (suc d) ps t) = placed_sound (suc d) (capacity_of (suc d)) ps t w.sound in (
      subst (StandsNode img (suc d)) now (record {
        reads = inner_read img d (placed (suc d) ps t) sound.children own.0 (w.reads e).1;
        ends = subst (λ (p : ℕ). p + node_size < 2 ^ 64) (sym (ap (place_of (suc d)) now)) (ends_at ps k (omega (arith, w.enough, count)) w.ends);
      }),
      each_stands img d t.children ps (λ c qs. placed_stands img d c qs) w.marked.1 (w.sound).each (λ p q. w.clean p (inr q)) (w.reads e).0
          (Holds-front img (joined_blocks (each_by (written d) (changes d) ps t.children)) (block_of (suc d) (placed (suc d) ps t) ∷ []) holds) (omega (arith, w.enough, count)) w.ends,
    ))
