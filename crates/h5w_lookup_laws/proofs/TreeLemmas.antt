-- The tree lookup, as a program and as a relation.
use Rattle.std.proofs.Common.{◌≡◌, ◌≢◌, ◌⊎◌, ℕ, zero, suc, ◌+◌, ◌*◌, Bool, true, false, cond, ◌&&◌, eqb, List, [], ◌∷◌, ◌++◌, length, take, Option, Some, Result, Ok, refl, sym, ◌∙◌, ap, subst, inl, inr, arith, codes}
use Rattle.std.proofs.lemmas.Bool.{eqb-true, eq-eqb, and_parts}
use Rattle.std.proofs.lemmas.Bool.Decides.{eqb_tells}
use Rattle.std.proofs.lemmas.List.Elements.{All-nil, All-cons, All-head, All-tail}
use Rattle.h5w_model.specs.Numbers.{range, undefined}
use Rattle.h5w_model.specs.Programs.{Prog, ret, eval}
use Rattle.h5w_model.specs.Blocks.{block_tests}
use Rattle.h5w_model.specs.Trees.{RecordFields, ChildFields, BthdFields, BtinFields, bthd_at, btlf_at, btin_at, bthd_len, btlf_len, btin_len, btin_fields, node_tests, child_tests}
use Rattle.h5w_model.specs.Datasets.{refused_as}
use Rattle.h5w_model.specs.Tables.{InPlace, nowhere, in_tree, tree_in_place, address_behind, tree_lookup, in_leaf, in_node, key_equal, key_below}
use Rattle.h5w_model.specs.declared.cell.Key.{Key}
use Rattle.h5w_model.specs.declared.refusal.ReadError.{ReadError}
use Rattle.h5w_model.specs.declared.refusal.ReadError.TheVariants.{Damaged}
use Rattle.h5w_model.proofs.CheckedLemmas.{checked-passed}
use Rattle.h5w_laws.proofs.ResultLemmas.{then_ok, then_from, refused_ok, and_then_ok, and_then_from, choice_ok, choice_from}
use Rattle.h5w_laws.proofs.SlotLemmas.{refused_from}
use Rattle.h5w_model.specs.Relations.{LeafSlot, IsPlaceOf, NodeSlot, TreeSlot, TreeChunk}
use Rattle.h5w_laws.proofs.NodeLemmas.{length-records_in, length-children_in}
use Rattle.h5w_lookup_laws.specs.Relations.{tree_chunk, FindsTreeSlots}

-- ---- Keys

key_same : (a b : Key) → key_equal a b ≡ true → a ≡ b
key_same a b h =
    let t = and_parts (eqb a.i b.i) (eqb a.j b.j) h in
    let row = eqb-true a.i b.i t.0 in
    let column = eqb-true a.j b.j t.1 in
    λ p. record { i = row p; j = column p }

key_itself : (a b : Key) → a ≡ b → key_equal a b ≡ true
key_itself a b e =
    ap (λ s. s && eqb a.j b.j) (eq-eqb a.i b.i (ap (λ (k : Key). k.i) e)) ∙ eq-eqb a.j b.j (ap (λ (k : Key). k.j) e)

key_other : (a b : Key) → key_equal a b ≡ false → a ≢ b
key_other a b h = λ e. let t = key_itself a b e in absurd cc

key_differs : (a b : Key) → a ≢ b → key_equal a b ≡ false
key_differs a b n = go (key_equal a b) refl
  where
    go : (t : Bool) → key_equal a b ≡ t → t ≡ false
    go true e = absurd (n (key_same a b e))
    go false e = refl

-- ---- Answers

abbrev of_reader : ℕ → Result ℕ ReadError
of_reader a = Ok a

answered : (a b : ℕ) → of_reader a ≡ of_reader b → a ≡ b
answered a b h = cc

abbrev an_option : {A : Type 0} → A → Option A
an_option a = Some a

-- ---- The place of a key among records

-- no record stands there
no_place : (key : Key) → IsPlaceOf key [] 0
no_place key = record { inside = omega arith; below = All-nil (λ (s : RecordFields). key_below s.key key ≡ true); not_below = tt }

-- the first record is not below the key
first_place : (key : Key) (r : RecordFields) (rs : List RecordFields) → key_below r.key key ≡ false → IsPlaceOf key (r ∷ rs) 0
first_place key r rs b = record { inside = omega arith; below = All-nil (λ (s : RecordFields). key_below s.key key ≡ true); not_below = b }

-- behind a record that is below the key
later_place : (key : Key) (r : RecordFields) (rs : List RecordFields) (i : ℕ) → key_below r.key key ≡ true → IsPlaceOf key rs i → IsPlaceOf key (r ∷ rs) (suc i)
later_place key r rs i b p =
    record { inside = omega (arith, p.inside); below = All-cons (λ (s : RecordFields). key_below s.key key ≡ true) r (take i rs) b p.below; not_below = p.not_below }

before_place : (key : Key) (r : RecordFields) (rs : List RecordFields) (i : ℕ) → IsPlaceOf key (r ∷ rs) (suc i) → IsPlaceOf key rs i
before_place key r rs i p =
    record { inside = omega (arith, p.inside); below = All-tail (λ (s : RecordFields). key_below s.key key ≡ true) r (take i rs) p.below; not_below = p.not_below }

first_below : (key : Key) (r : RecordFields) (rs : List RecordFields) (i : ℕ) → IsPlaceOf key (r ∷ rs) (suc i) → key_below r.key key ≡ true
first_below key r rs i p = All-head (λ (s : RecordFields). key_below s.key key ≡ true) r (take i rs) p.below

one_record : (r s : RecordFields) → an_option r ≡ an_option s → r ≡ s
one_record r s h = cc

-- ---- A leaf

-- what the first record says, by how its key compares
abbrev leaf_choice : Bool → Bool → ℕ → ℕ → ℕ
leaf_choice below equal rest address = cond below rest (cond equal address undefined)

leaf_found : (key : Key) (rs : List RecordFields) (x : ℕ) → in_leaf key rs ≡ x → LeafSlot key rs x
leaf_found key [] x h = (0, no_place key, inr (tt, sym h))
leaf_found key (r ∷ rs) x h = go (leaf_found key rs x) (key_below r.key key) refl (key_equal r.key key) refl h
  where
    go : (in_leaf key rs ≡ x → LeafSlot key rs x) → (s : Bool) → key_below r.key key ≡ s → (t : Bool) → key_equal r.key key ≡ t
        → leaf_choice s t (in_leaf key rs) r.address ≡ x → LeafSlot key (r ∷ rs) x
    go rest true b t e h = let u = rest h in (suc u.0, later_place key r rs u.0 b u.1, u.2)
    go rest false b true e h = (0, first_place key r rs b, inl (r, refl, key_same r.key key e, sym h))
    go rest false b false e h = (0, first_place key r rs b, inr (key_other r.key key e, sym h))

leaf_read : (key : Key) (rs : List RecordFields) (x : ℕ) → LeafSlot key rs x → in_leaf key rs ≡ x
leaf_read key [] x (zero, p, inl u) = let h = u.1 in absurd cc
leaf_read key [] x (zero, p, inr u) = sym u.1
leaf_read key [] x (suc i, p, u) = absurd (omega (arith, p.inside))
leaf_read key (r ∷ rs) x (zero, p, inl u) =
    let e : r ≡ u.0 = one_record r u.0 u.1 in
    ap (λ s. leaf_choice s (key_equal r.key key) (in_leaf key rs) r.address) p.not_below
    ∙ ap (λ s. leaf_choice false s (in_leaf key rs) r.address) (key_itself r.key key (ap (λ (v : RecordFields). v.key) e ∙ u.2))
    ∙ ap (λ (v : RecordFields). v.address) e ∙ sym u.3
leaf_read key (r ∷ rs) x (zero, p, inr u) =
    ap (λ s. leaf_choice s (key_equal r.key key) (in_leaf key rs) r.address) p.not_below
    ∙ ap (λ s. leaf_choice false s (in_leaf key rs) r.address) (key_differs r.key key u.0)
    ∙ sym u.1
leaf_read key (r ∷ rs) x (suc i, p, u) =
    ap (λ s. leaf_choice s (key_equal r.key key) (in_leaf key rs) r.address) (first_below key r rs i p)
    ∙ leaf_read key rs x (i, before_place key r rs i p, u)

-- ---- An inner node

node_found : (img : List ℕ) (key : Key) (follow : ChildFields → Prog (Result ℕ ReadError)) (rs : List RecordFields) (cs : List ChildFields) (x : ℕ) → length cs ≡ length rs + 1 → eval img (in_node follow key rs cs) ≡ Ok x → NodeSlot key rs cs (λ c. eval img (follow c) ≡ Ok x) x
node_found img key follow [] [] x n h = absurd (omega (arith, n))
node_found img key follow [] (c ∷ cs) x n h =
    (0, no_place key, inr (tt, (c, refl, h)))
node_found img key follow (r ∷ rs) [] x n h = absurd (omega (arith, n))
node_found img key follow (r ∷ rs) (c ∷ cs) x n h = go (node_found img key follow rs cs x (omega (arith, n))) (key_below r.key key) refl (key_equal r.key key) refl h
  where
    go : (eval img (in_node follow key rs cs) ≡ Ok x → NodeSlot key rs cs (λ c. eval img (follow c) ≡ Ok x) x) → (s : Bool) → key_below r.key key ≡ s → (t : Bool) → key_equal r.key key ≡ t
        → eval img (cond s (in_node follow key rs cs) (cond t (ret (Ok r.address)) (follow c))) ≡ Ok x → NodeSlot key (r ∷ rs) (c ∷ cs) (λ c. eval img (follow c) ≡ Ok x) x
    go rest true b t e h = let u = rest h in (suc u.0, later_place key r rs u.0 b u.1, u.2)
    go rest false b true e h = (0, first_place key r rs b, inl (r, refl, key_same r.key key e, sym (answered r.address x h)))
    go rest false b false e h = (0, first_place key r rs b, inr (key_other r.key key e, (c, refl, h)))

one_child : (r s : ChildFields) → an_option r ≡ an_option s → r ≡ s
one_child r s h = cc

node_read : (img : List ℕ) (key : Key) (follow : ChildFields → Prog (Result ℕ ReadError)) (rs : List RecordFields) (cs : List ChildFields) (x : ℕ) → length cs ≡ length rs + 1 → NodeSlot key rs cs (λ c. eval img (follow c) ≡ Ok x) x → eval img (in_node follow key rs cs) ≡ Ok x
node_read img key follow [] [] x n t = absurd (omega (arith, n))
node_read img key follow [] (c ∷ cs) x n (zero, p, inl u) = let h = u.1 in absurd cc
node_read img key follow [] (c ∷ cs) x n (zero, p, inr u) = ap (λ v. eval img (follow v)) (one_child c u.1.0 u.1.1) ∙ u.1.2
node_read img key follow [] (c ∷ cs) x n (suc i, p, u) = absurd (omega (arith, p.inside))
node_read img key follow (r ∷ rs) [] x n t = absurd (omega (arith, n))
node_read img key follow (r ∷ rs) (c ∷ cs) x n (zero, p, inl u) =
    let e : r ≡ u.0 = one_record r u.0 u.1 in
    ap (λ s. eval img (cond s (in_node follow key rs cs) (cond (key_equal r.key key) (ret (Ok r.address)) (follow c)))) p.not_below
    ∙ ap (λ s. eval img (cond s (ret (Ok r.address)) (follow c))) (key_itself r.key key (ap (λ (v : RecordFields). v.key) e ∙ u.2))
    ∙ ap of_reader (ap (λ (v : RecordFields). v.address) e ∙ sym u.3)
node_read img key follow (r ∷ rs) (c ∷ cs) x n (zero, p, inr u) =
    ap (λ s. eval img (cond s (in_node follow key rs cs) (cond (key_equal r.key key) (ret (Ok r.address)) (follow c)))) p.not_below
    ∙ ap (λ s. eval img (cond s (ret (Ok r.address)) (follow c))) (key_differs r.key key u.0)
    ∙ ap (λ v. eval img (follow v)) (one_child c u.1.0 u.1.1) ∙ u.1.2
node_read img key follow (r ∷ rs) (c ∷ cs) x n (suc i, p, u) =
    ap (λ s. eval img (cond s (in_node follow key rs cs) (cond (key_equal r.key key) (ret (Ok r.address)) (follow c)))) (first_below key r rs i p)
    ∙ node_read img key follow rs cs x (omega (arith, n)) (i, before_place key r rs i p, u)

-- what is said of the child may be said in another way
node_by : (key : Key) (rs : List RecordFields) (cs : List ChildFields) (A B : ChildFields → Type 0) (x : ℕ) → ((c : ChildFields) → A c → B c) → NodeSlot key rs cs A x → NodeSlot key rs cs B x
node_by key rs cs A B x f (i, p, inl u) = (i, p, inl u)
node_by key rs cs A B x f (i, p, inr u) = (i, p, inr (u.0, (u.1.0, u.1.1, f u.1.0 u.1.2)))

-- ---- The node of a depth

-- an inner node has one child more than records
one_more : (b : List ℕ) (place n depth : ℕ) (t : BtinFields) → btin_at b place n depth ≡ Ok t → length t.children ≡ length t.records + 1
one_more b place n depth t h =
    let fields = btin_fields b n depth in
    let tests = block_tests (codes "BTIN") (btin_len n depth) b ++ node_tests b place ++ child_tests b place depth (n + 1) (6 + 24 * n) in
    let is : btin_fields b n depth ≡ t = (checked-passed tests fields t h).1 in
    subst (λ (v : BtinFields). length v.children ≡ length v.records + 1) is (length-children_in b depth (n + 1) (6 + 24 * n) ∙ ap (λ k. k + 1) (sym (length-records_in b n 6)))

tree_found : (img : List ℕ) (depth : ℕ) (key : Key) (address n x : ℕ) → eval img (tree_lookup depth key address n) ≡ Ok x → TreeSlot img depth key address n x
tree_found img zero key address n x h =
    let b = range img address (btlf_len n) in
    let r = then_ok (refused_as (Damaged address) (btlf_at b address n)) (λ rs. of_reader (in_leaf key rs)) x h in
    (r.0, refused_ok (Damaged address) (btlf_at b address n) r.0 r.1, leaf_found key r.0 x (answered (in_leaf key r.0) x r.2))
tree_found img (suc depth) key address n x h =
    let b = range img address (btin_len n (suc depth)) in
    let follow : ChildFields → Prog (Result ℕ ReadError) = λ c. tree_lookup depth key c.address c.records in
    let r = choice_ok img (btin_at b address n (suc depth)) (λ (t : BtinFields). in_node follow key t.records t.children) (Damaged address) x h in
    let t = r.0 in
    (t, r.1, node_by key t.records t.children (λ c. eval img (follow c) ≡ Ok x) (λ c. TreeSlot img depth key c.address c.records x) x (λ c. tree_found img depth key c.address c.records x) (node_found img key follow t.records t.children x (one_more b address n (suc depth) t r.1) r.2))

tree_read : (img : List ℕ) (depth : ℕ) (key : Key) (address n x : ℕ) → TreeSlot img depth key address n x → eval img (tree_lookup depth key address n) ≡ Ok x
tree_read img zero key address n x t =
    let b = range img address (btlf_len n) in
    then_from (refused_as (Damaged address) (btlf_at b address n)) (λ rs. of_reader (in_leaf key rs)) t.0 x (refused_from (Damaged address) (btlf_at b address n) t.0 t.1) (ap of_reader (leaf_read key t.0 x t.2))
tree_read img (suc depth) key address n x t =
    let b = range img address (btin_len n (suc depth)) in
    let follow : ChildFields → Prog (Result ℕ ReadError) = λ c. tree_lookup depth key c.address c.records in
    let u = t.0 in
    choice_from img (btin_at b address n (suc depth)) (λ (v : BtinFields). in_node follow key v.records v.children) (Damaged address) u x t.1
    (node_read img key follow u.records u.children x (one_more b address n (suc depth) u t.1)
    (node_by key u.records u.children (λ c. TreeSlot img depth key c.address c.records x) (λ c. eval img (follow c) ≡ Ok x) x (λ c. tree_read img depth key c.address c.records x) t.2))

-- ---- The tree

abbrev in_place_as : InPlace → Result InPlace ReadError
in_place_as p = Ok p

same_place : (p q : InPlace) → in_place_as p ≡ in_place_as q → q ≡ p
same_place p q h = cc

root_found : (img : List ℕ) (key : Key) (x : ℕ) (t : BthdFields) → eval img (address_behind (cond (eqb t.root undefined) nowhere (in_tree t)) key) ≡ Ok x → (t.root ≡ undefined) × (x ≡ undefined) ⊎ (t.root ≢ undefined) × TreeSlot img t.depth key t.root t.records x
root_found img key x t h = go (eqb_tells t.root undefined)
  where
    go : ((eqb t.root undefined ≡ true) × (t.root ≡ undefined)) ⊎ ((eqb t.root undefined ≡ false) × (t.root ≢ undefined)) → (t.root ≡ undefined) × (x ≡ undefined) ⊎ (t.root ≢ undefined) × TreeSlot img t.depth key t.root t.records x
    go (inl u) = inl (u.1, sym (answered undefined x (ap (λ (s : Bool). eval img (address_behind (cond s nowhere (in_tree t)) key)) (sym u.0) ∙ h)))
    go (inr u) = inr (u.1, tree_found img t.depth key t.root t.records x (ap (λ (s : Bool). eval img (address_behind (cond s nowhere (in_tree t)) key)) (sym u.0) ∙ h))

root_read : (img : List ℕ) (key : Key) (x : ℕ) (t : BthdFields) → (t.root ≡ undefined) × (x ≡ undefined) ⊎ (t.root ≢ undefined) × TreeSlot img t.depth key t.root t.records x → eval img (address_behind (cond (eqb t.root undefined) nowhere (in_tree t)) key) ≡ Ok x
root_read img key x t s = go s (eqb_tells t.root undefined)
  where
    go : (t.root ≡ undefined) × (x ≡ undefined) ⊎ (t.root ≢ undefined) × TreeSlot img t.depth key t.root t.records x
        → ((eqb t.root undefined ≡ true) × (t.root ≡ undefined)) ⊎ ((eqb t.root undefined ≡ false) × (t.root ≢ undefined))
        → eval img (address_behind (cond (eqb t.root undefined) nowhere (in_tree t)) key) ≡ Ok x
    go (inl v) (inl u) = ap (λ (s : Bool). eval img (address_behind (cond s nowhere (in_tree t)) key)) u.0 ∙ ap of_reader (sym v.1)
    go (inl v) (inr u) = absurd (u.1 v.0)
    go (inr v) (inl u) = absurd (v.0 u.1)
    go (inr v) (inr u) = ap (λ (s : Bool). eval img (address_behind (cond s nowhere (in_tree t)) key)) u.0 ∙ tree_read img t.depth key t.root t.records x v.1

chunk_found : (img : List ℕ) (address x : ℕ) (key : Key) → eval img (tree_chunk address key) ≡ Ok x → TreeChunk img address key x
chunk_found img address x key h =
    let b = range img address bthd_len in
    let s = and_then_ok img (tree_in_place address) (λ (p : InPlace). address_behind p key) x h in
    let t = then_ok (refused_as (Damaged address) (bthd_at b address)) (λ (t : BthdFields). in_place_as (cond (eqb t.root undefined) nowhere (in_tree t))) s.0 s.1 in
    let p : s.0 ≡ cond (eqb t.0.root undefined) nowhere (in_tree t.0) = same_place (cond (eqb t.0.root undefined) nowhere (in_tree t.0)) s.0 t.2 in
    (t.0, refused_ok (Damaged address) (bthd_at b address) t.0 t.1, root_found img key x t.0 (subst (λ (q : InPlace). eval img (address_behind q key) ≡ Ok x) p s.2))

chunk_read : (img : List ℕ) (address x : ℕ) (key : Key) → TreeChunk img address key x → eval img (tree_chunk address key) ≡ Ok x
chunk_read img address x key t =
    let b = range img address bthd_len in
    let place : InPlace = cond (eqb t.0.root undefined) nowhere (in_tree t.0) in
    and_then_from img (tree_in_place address) (λ (p : InPlace). address_behind p key) place x
    (then_from (refused_as (Damaged address) (bthd_at b address)) (λ (t : BthdFields). in_place_as (cond (eqb t.root undefined) nowhere (in_tree t))) t.0 place (refused_from (Damaged address) (bthd_at b address) t.0 t.1) refl)
    (root_read img key x t.0 t.2)

-- a chunk's address is found exactly where the blocks of the tree say it
pub finds_tree_slots : FindsTreeSlots
finds_tree_slots img address x key = (chunk_found img address x key, chunk_read img address x key)
