-- A changed node as it is written, and what its parent's pointers say.
use Rattle.std.proofs.Common.{◌≡◌, ℕ, zero, suc, ◌+◌, ◌-◌, ◌<◌, ◌≤◌, ◌^◌, false, List, [], ◌∷◌, ◌++◌, length, map, flat_map, Ok, refl, sym, ap, ap₂, subst, ◌∙◌, arith, append-nil, append_assoc, length-append}
use Rattle.std.specs.Prelude.{slice_index_or}
use Rattle.std.specs.List.{All}
use Rattle.std.proofs.lemmas.Bool.{cond-false}
use Rattle.std.proofs.lemmas.List.{get_or-map, length-map}
use Rattle.std.proofs.lemmas.List.Elements.{All-get_or, All-map}
use Rattle.std.proofs.lemmas.Grind.{flat_map-append}
use Rattle.h5w_model.specs.Numbers.{undefined}
use Rattle.h5w_model.specs.Images.{pieces}
use Rattle.h5w_model.specs.Trees.{ChildFields, btin_at, btin_bytes, btlf_at, btlf_bytes, capacity_of}
use Rattle.h5w_model.specs.declared.piece.Write.{Write}
use Rattle.h5w_cache.specs.declared.moves.Move.{Move}
use Rattle.h5w_bt.specs.Parts.{IsNode, IsPointer, record_of}
use Rattle.h5w_bt_nodes.specs.Nodes.{Tree, records_of, total_of}
use Rattle.h5w_bt_nodes.specs.Shapes.{IsShape, IsShapedChild}
use Rattle.h5w_bt_nodes.specs.Blocks.{AllRead, EachBy, ReadsBack, block_of, changes, each_by, joined_blocks, news, node_bytes, padded, placed, pointer_of, stood, writes_of, written}
use Rattle.h5w_bt_nodes.proofs.Shapes.{shape_few}
use Rattle.h5w_bt_nodes.proofs.Placed.{each_all, each_length, placed_own, placed_total}

-- ---- Pointers

abbrev each_placed : (d : ℕ) → List ℕ → List (Tree d) → List (Tree d)
each_placed d ps cs = each_by (placed d) (changes d) ps cs

leaf_total : (d : ℕ) (t : Tree d) → suc d ≤ 1 → total_of d t ≡ length (records_of d t)
leaf_total zero t h = refl
leaf_total (suc d) t h = absurd (omega (arith, h))

pointer_fits : (d : ℕ) (qs : List ℕ) (c : Tree d) → IsShapedChild d c → IsPointer (suc d) (pointer_of d (placed d qs c))
pointer_fits d qs c s =
    let same : total_of d (placed d qs c) ≡ total_of d c = placed_total d qs c in
    let long : length (records_of d (placed d qs c)) ≡ length (records_of d c) = ap length (placed_own d qs c) in
    record {
      few = subst (λ (k : ℕ). length (records_of d (placed d qs c)) ≤ capacity_of k) (let e : d ≡ suc d - 1 = omega arith in e) (subst (λ (n : ℕ). n ≤ capacity_of d) (sym long) (shape_few d (capacity_of d) c s.0));
      leaf = λ h. same ∙ leaf_total d c h ∙ sym long;
      inner = λ h. subst (λ (n : ℕ). n < 256 ^ suc d) (sym same) s.1;
    }

all_pointers : (d : ℕ) (cs : List (Tree d)) (P : ChildFields → Type 0) → All (λ (c : Tree d). P (pointer_of d c)) cs → All P (map (pointer_of d) cs)
all_pointers d cs P h = All-map P (pointer_of d) cs h

-- an inner node with its children at their places can be written
pub node_fits : (d n : ℕ) (ps : List ℕ) (t : Tree (suc d)) (cs : List ChildFields) → n ≡ suc d → suc d ≤ 3 → IsShape (suc d) (capacity_of (suc d)) t → cs ≡ map (pointer_of d) (each_placed d ps t.children)
    → IsNode n (record { records = map record_of t.records; children = cs })
node_fits d n ps t cs e low s is =
    subst (λ (k : ℕ). IsNode k (record { records = map record_of t.records; children = cs })) (sym e)
    (subst (λ (l : List ChildFields). IsNode (suc d) (record { records = map record_of t.records; children = l })) (sym is) (record {
      deep = omega arith;
      shallow = low;
      few = subst (λ (k : ℕ). k ≤ capacity_of (suc d)) (sym (length-map t.records record_of)) s.few;
      count = length-map (each_placed d ps t.children) (pointer_of d) ∙ each_length (placed d) (changes d) ps t.children ∙ s.children ∙ ap (λ (k : ℕ). k + 1) (sym (length-map t.records record_of));
      pointers = all_pointers d (each_placed d ps t.children) (IsPointer (suc d))
          (each_all (IsShapedChild d) (λ (c : Tree d). IsPointer (suc d) (pointer_of d c)) (placed d) (changes d) ps t.children (λ qs c p. pointer_fits d qs c p) s.each);
    }))

-- ---- Writes

-- one more block behind others
one_more : (out done now : List Write) (bs : List (ℕ × List ℕ)) (place : ℕ) (bytes : List ℕ) → done ≡ out ++ writes_of bs → now ≡ done ++ pieces place bytes → now ≡ out ++ writes_of (bs ++ (place, bytes) ∷ [])
one_more out done now bs place bytes e f =
    f ∙ ap (λ (l : List Write). l ++ pieces place bytes) e ∙ append_assoc out (writes_of bs) (pieces place bytes)
    ∙ ap (λ (l : List Write). out ++ (writes_of bs ++ l)) (sym (append-nil (pieces place bytes)))
    ∙ ap (λ (l : List Write). out ++ l) (sym (flat_map-append (λ (b : ℕ × List ℕ). pieces b.0 b.1) bs ((place, bytes) ∷ [])))

pub leaf_written : (ps : List ℕ) (t : Tree zero) (place : ℕ) (bytes : List ℕ) (out now : List Write) → t.clean ≡ false → place ≡ slice_index_or ps 0 undefined → bytes ≡ padded (btlf_bytes (map record_of t.records))
    → now ≡ out ++ pieces place bytes → now ≡ out ++ writes_of (written zero ps t)
unfolding node_bytes
leaf_written ps t place bytes out now e p b f =
    one_more out out now [] place bytes (sym (append-nil out)) f
    ∙ ap (λ (x : ℕ × List ℕ). out ++ writes_of (x ∷ [])) (ap₂ (λ (q : ℕ) (l : List ℕ). let y : ℕ × List ℕ = (q, l) in y) p b ∙ sym (ap (block_of zero) (cond-false t.clean _ _ e)))
    ∙ ap (λ (l : List (ℕ × List ℕ)). out ++ writes_of l) (sym (cond-false t.clean _ _ e))

pub inner_written : (d n : ℕ) (ps : List ℕ) (t : Tree (suc d)) (cs : List ChildFields) (place : ℕ) (bytes : List ℕ) (out done now : List Write) → n ≡ suc d → t.clean ≡ false → place ≡ slice_index_or ps (length (flat_map (stood d) t.children)) undefined
    → cs ≡ map (pointer_of d) (each_placed d ps t.children) → bytes ≡ padded (btin_bytes (record { records = map record_of t.records; children = cs }) n)
    → done ≡ out ++ writes_of (joined_blocks (each_by (written d) (changes d) ps t.children)) → now ≡ done ++ pieces place bytes → now ≡ out ++ writes_of (written (suc d) ps t)
unfolding node_bytes
inner_written d n ps t cs place bytes out done now deep e p is b f g =
    let spelled : bytes ≡ padded (btin_bytes (record { records = map record_of t.records; children = map (pointer_of d) (each_placed d ps t.children) }) (suc d)) =
    b ∙ ap₂ (λ (l : List ChildFields) (k : ℕ). padded (btin_bytes (record { records = map record_of t.records; children = l }) k)) is deep in
    one_more out done now (joined_blocks (each_by (written d) (changes d) ps t.children)) place bytes f g
    ∙ ap (λ (x : ℕ × List ℕ). out ++ writes_of (joined_blocks (each_by (written d) (changes d) ps t.children) ++ x ∷ []))
    (ap₂ (λ (q : ℕ) (l : List ℕ). let y : ℕ × List ℕ = (q, l) in y) p spelled ∙ sym (ap (block_of (suc d)) (cond-false t.clean _ _ e)))
    ∙ ap (λ (l : List (ℕ × List ℕ)). out ++ writes_of l) (sym (cond-false t.clean _ _ e))

pub inner_reads : (d n : ℕ) (ps : List ℕ) (t : Tree (suc d)) (cs : List ChildFields) → n ≡ suc d → cs ≡ map (pointer_of d) (each_placed d ps t.children) → EachBy (AllRead d) (changes d) ps t.children
    → ((from : ℕ) → btin_at (btin_bytes (record { records = map record_of t.records; children = cs }) n) from (length t.records) n ≡ Ok (record { records = map record_of t.records; children = cs })) → AllRead (suc d) ps t
inner_reads d n ps t cs deep is each r e =
    let Back : ℕ → List ChildFields → Type 0 = λ k l. (from : ℕ) → btin_at (btin_bytes (record { records = map record_of t.records; children = l }) k) from (length t.records) k ≡ Ok (record { records = map record_of t.records; children = l }) in
    (each, subst (ReadsBack (suc d)) (sym (cond-false t.clean _ _ e)) (subst (λ (k : ℕ). Back k (map (pointer_of d) (each_placed d ps t.children))) deep (subst (Back n) is r)))

-- ---- Places

-- the place at which a node is written, whatever stands where there is none
pub place_same : (ms : List Move) (m : Move) (k n : ℕ) → k ≡ n → suc n ≤ length ms → (slice_index_or ms k m).new ≡ slice_index_or (news ms) n undefined
place_same ms m k n e h = ap (λ (i : ℕ). (slice_index_or ms i m).new) e ∙ sym (get_or-map (λ (x : Move). x.new) ms n m undefined (omega (arith, h)))

-- what holds of each new place
pub place_has : (P : ℕ → Type 0) (ms : List Move) (m : Move) (k : ℕ) → k < length ms → All P (news ms) → P (slice_index_or ms k m).new
place_has P ms m k h a =
    let inside : k < length (news ms) = omega (arith, h, length-map ms (λ (x : Move). x.new)) in
    subst P (get_or-map (λ (x : Move). x.new) ms k m 0 h) (All-get_or P (news ms) k 0 inside a)

-- so many places are needed
pub inner_changes : (d : ℕ) (t : Tree (suc d)) (n : ℕ) → t.clean ≡ false → changes (suc d) t ≤ n → suc (length (flat_map (stood d) t.children)) ≤ n
inner_changes d t n e h =
    let all : changes (suc d) t ≡ length (flat_map (stood d) t.children) + 1 = ap length (cond-false t.clean _ _ e) ∙ length-append (flat_map (stood d) t.children) (t.place ∷ []) in
    omega (arith, h, all)

pub leaf_changes : (t : Tree zero) (n : ℕ) → t.clean ≡ false → changes zero t ≤ n → 1 ≤ n
leaf_changes t n e h =
    let one : changes zero t ≡ 1 = ap length (cond-false t.clean _ _ e) in
    omega (arith, h, one)
