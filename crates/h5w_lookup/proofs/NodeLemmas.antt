-- Nodes of a tree, and the way to a key in them.
use Rattle.std.proofs.Common.{◌≡◌, ℕ, zero, suc, ◌+◌, ◌-◌, ◌*◌, ◌<◌, ◌≤◌, Bool, true, false, cond, List, [], ◌∷◌, ◌++◌, length, map, get_or, drop, Some, None, Result, Ok, Err, refl, sym, ◌∙◌, ap, subst, add-one, drop-cons, arith}
use Rattle.std.specs.Prelude.{codes}
use Rattle.std.specs.List.{All}
use Rattle.std.proofs.lemmas.List.{drop_all, drop-map}
use Rattle.std.proofs.lemmas.List.Elements.{All-drop, All-head}
use Rattle.h5w_model.specs.Numbers.{undefined}
use Rattle.h5w_model.specs.Blocks.{block_tests}
use Rattle.h5w_model.specs.Programs.{Prog, ret, stored, Kept, kept_bytes, used}
use Rattle.h5w_model.specs.Tables.{Reading, in_leaf, in_node, key_below, key_equal, tree_lookup, tree_node}
use Rattle.h5w_model.specs.Trees.{RecordFields, ChildFields, BtinFields, btlf_at, btin_at, btin_fields, btin_len, node_tests, child_tests, capacity_of}
use Rattle.h5w_model.specs.Datasets.{then_also, refused_as}
use Rattle.h5w_model.specs.declared.cell.Key.{Key}
use Rattle.h5w_model.specs.declared.refusal.BlockFault.{BlockFault}
use Rattle.h5w_model.specs.declared.refusal.ReadError.{ReadError}
use Rattle.h5w_model.specs.declared.refusal.ReadError.TheVariants.{Damaged}
use Rattle.h5w_model.proofs.CheckedLemmas.{checked-passed}
use Rattle.h5w_bt.specs.declared.records.Record.{Record}
use Rattle.h5w_bt.specs.declared.children.Child.{Child}
use Rattle.h5w_bt.specs.Parts.{record_of, child_of}
use Rattle.h5w_laws.proofs.NodeLemmas.{children_few}
use Rattle.h5w_lookup.specs.Blocks.{IsRead, node_at}
use Rattle.h5w_bt.specs.Lengths.{node_len}
use Rattle.h5w_lookup.specs.Contents.{inner_in}
use Rattle.h5w_lookup.specs.Turns.{ForChild}
use Rattle.h5w_lookup.specs.Turning.{turning}
use Rattle.h5w_lookup.specs.Seeking.{store_rest, next_rest, node_given, wait_rest}
use Rattle.h5w_lookup.specs.declared.content.Content.{Content}
use Rattle.h5w_lookup.specs.declared.content.Turn.{Turn}
use Rattle.h5w_lookup.specs.declared.content.Turn.TheVariants as turns
use Rattle.h5w_lookup.specs.declared.wait.NodeWait.{NodeWait}
use Rattle.h5w_lookup.specs.declared.wait.Wait.TheVariants as waits
use Rattle.h5w_lookup.proofs.PieceLemmas.{cut_up_is}
use Rattle.h5w_lookup.proofs.SeekLemmas.{stored_is}

-- ---- Numbers

pub few_records : (depth n : ℕ) → depth ≤ 3 → n ≤ capacity_of depth → n ≤ 84
few_records zero n h k = omega arith
few_records (suc zero) n h k = omega arith
few_records (suc (suc zero)) n h k = omega arith
few_records (suc (suc (suc zero))) n h k = omega arith
few_records (suc (suc (suc (suc d)))) n h k = absurd (omega arith)

-- how many records a node has is said by its length
pub same_len : (depth m n : ℕ) → suc depth ≤ 3 → btin_len m (suc depth) ≡ btin_len n (suc depth) → m ≡ n
same_len zero m n h e = omega arith
same_len (suc zero) m n h e = omega arith
same_len (suc (suc zero)) m n h e = omega arith
same_len (suc (suc (suc d))) m n h e = absurd (omega arith)

-- ---- Records and children, one by one

next_from : {A : Type 0} (xs : List A) (i : ℕ) (d : A) → i < length xs → drop i xs ≡ get_or xs i d ∷ drop (i + 1) xs
next_from xs i d h = rw (add-one, drop-cons xs i d) refl

pub next_mapped : {A B : Type 0} (f : A → B) (xs : List A) (i : ℕ) (d : A) → i < length xs → drop i (map f xs) ≡ f (get_or xs i d) ∷ drop (i + 1) (map f xs)
next_mapped f xs i d h =
    drop-map f i xs ∙ ap (map f) (next_from xs i d h) ∙ ap (λ ys. f (get_or xs i d) ∷ ys) (sym (drop-map f (i + 1) xs))

pub none_mapped : {A B : Type 0} (f : A → B) (xs : List A) (i : ℕ) → length xs ≤ i → drop i (map f xs) ≡ []
none_mapped f xs i h = drop-map f i xs ∙ ap (map f) (drop_all i xs h)

pub leaf_next : (key : Key) (rs : List Record) (i : ℕ) (d : Record) → i < length rs
    → in_leaf key (drop i (map record_of rs)) ≡ cond (key_below (get_or rs i d).key key) (in_leaf key (drop (i + 1) (map record_of rs))) (cond (key_equal (get_or rs i d).key key) (get_or rs i d).address undefined)
leaf_next key rs i d h = ap (in_leaf key) (next_mapped record_of rs i d h)

-- the first record that is not below the key decides
pub leaf_here : (key : Key) (rs : List Record) (i : ℕ) (d : Record) (same : Bool) → i < length rs → key_below (get_or rs i d).key key ≡ false → key_equal (get_or rs i d).key key ≡ same
    → in_leaf key (drop i (map record_of rs)) ≡ cond same (get_or rs i d).address undefined
leaf_here key rs i d same h below equal = leaf_next key rs i d h ∙ rw (below, equal) refl

pub leaf_more : (key : Key) (rs : List Record) (i : ℕ) (d : Record) → i < length rs → key_below (get_or rs i d).key key ≡ true → in_leaf key (drop i (map record_of rs)) ≡ in_leaf key (drop (i + 1) (map record_of rs))
leaf_more key rs i d h below = leaf_next key rs i d h ∙ rw below refl

pub children_next : (go : ChildFields → Prog (Result ℕ ReadError)) (key : Key) (rs : List Record) (cs : List Child) (i : ℕ) (r : Record) (d : Child) → i < length rs → i < length cs
    → in_node go key (drop i (map record_of rs)) (drop i (map child_of cs))
    ≡ cond (key_below (get_or rs i r).key key) (in_node go key (drop (i + 1) (map record_of rs)) (drop (i + 1) (map child_of cs))) (cond (key_equal (get_or rs i r).key key) (ret (Ok (get_or rs i r).address)) (go (child_of (get_or cs i d))))
children_next go key rs cs i r d h k =
    ap (λ (xs : List RecordFields). in_node go key xs (drop i (map child_of cs))) (next_mapped record_of rs i r h)
    ∙ ap (in_node go key (record_of (get_or rs i r) ∷ drop (i + 1) (map record_of rs))) (next_mapped child_of cs i d k)

pub children_here : (go : ChildFields → Prog (Result ℕ ReadError)) (key : Key) (rs : List Record) (cs : List Child) (i : ℕ) (r : Record) (d : Child) (same : Bool) → i < length rs → i < length cs
    → key_below (get_or rs i r).key key ≡ false → key_equal (get_or rs i r).key key ≡ same
    → in_node go key (drop i (map record_of rs)) (drop i (map child_of cs)) ≡ cond same (ret (Ok (get_or rs i r).address)) (go (child_of (get_or cs i d)))
children_here go key rs cs i r d same h k below equal = children_next go key rs cs i r d h k ∙ rw (below, equal) refl

pub children_more : (go : ChildFields → Prog (Result ℕ ReadError)) (key : Key) (rs : List Record) (cs : List Child) (i : ℕ) (r : Record) (d : Child) → i < length rs → i < length cs → key_below (get_or rs i r).key key ≡ true
    → in_node go key (drop i (map record_of rs)) (drop i (map child_of cs)) ≡ in_node go key (drop (i + 1) (map record_of rs)) (drop (i + 1) (map child_of cs))
children_more go key rs cs i r d h k below = children_next go key rs cs i r d h k ∙ rw below refl

pub children_last : (go : ChildFields → Prog (Result ℕ ReadError)) (key : Key) (rs : List Record) (cs : List Child) (i : ℕ) (d : Child) → length rs ≤ i → i < length cs
    → in_node go key (drop i (map record_of rs)) (drop i (map child_of cs)) ≡ go (child_of (get_or cs i d))
children_last go key rs cs i d h k =
    ap (λ (xs : List RecordFields). in_node go key xs (drop i (map child_of cs))) (none_mapped record_of rs i h)
    ∙ ap (in_node go key []) (next_mapped child_of cs i d k)

-- what holds of each child holds of one
pub child_holds : (most : ℕ) (cs : List Child) (i : ℕ) (d : Child) → i < length cs → All (λ (c : ChildFields). c.records ≤ most) (map child_of cs) → (get_or cs i d).records ≤ most
child_holds most cs i d h all =
    let P : ChildFields → Type 0 = λ c. c.records ≤ most in
    let rest : All P (child_of (get_or cs i d) ∷ drop (i + 1) (map child_of cs)) = subst (All P) (next_mapped child_of cs i d h) (All-drop P i (map child_of cs) all) in
    All-head P (child_of (get_or cs i d)) (drop (i + 1) (map child_of cs)) rest

-- ---- What decoders say

pub inner_few : (b : List ℕ) (at n depth : ℕ) (t : BtinFields) → btin_at b at n depth ≡ Ok t → All (λ (c : ChildFields). c.records ≤ capacity_of (depth - 1)) t.children
inner_few b p n depth t h =
    let fields = btin_fields b n depth in
    let tests = block_tests (codes "BTIN") (btin_len n depth) b ++ node_tests b p ++ child_tests b p depth (n + 1) (6 + 24 * n) in
    let passed = checked-passed tests fields t h in
    subst (λ (x : BtinFields). All (λ (c : ChildFields). c.records ≤ capacity_of (depth - 1)) x.children) passed.1 (children_few b p depth (n + 1) (6 + 24 * n) passed.0.1.1.1.1.1)

-- ---- A node that was read

-- what the bytes of an inner node say
pub inner_read : (at depth n : ℕ) (b : List ℕ) (c : Content) → 1 ≤ depth → depth ≤ 3 → btin_at b at n depth ≡ Ok (inner_in c) → IsRead (2 + depth) at (node_len depth n) b c
inner_read p zero n b c low high e = absurd (omega arith)
inner_read p (suc depth) n b c low high e = record {
  of_data = λ m kind len. absurd (omega arith);
  of_second = λ m kind len. absurd (omega arith);
  of_leaf = λ m kind len. absurd (omega arith);
  of_inner = λ d m h kind len.
      let same : depth ≡ d = omega arith in
      let long : btin_len n (suc depth) ≡ btin_len m (suc depth) = len ∙ ap (λ k. btin_len m (suc k)) (sym same) in
      let count : n ≡ m = same_len depth n m high long in
      subst (λ k. btin_at b p k (suc d) ≡ Ok (inner_in c)) count (subst (λ k. btin_at b p n (suc k) ≡ Ok (inner_in c)) same e);
}

-- its children are within their capacity
pub read_few : (depth at n : ℕ) (b : List ℕ) (c : Content) → depth ≤ 3 → IsRead (tree_node depth) at (node_len depth n) b c → (d : ℕ) → depth ≡ d + 1 → All (λ (x : ChildFields). x.records ≤ capacity_of d) (inner_in c).children
read_few zero p n b c h read d e = absurd (omega arith)
read_few (suc depth) p n b c h read d e =
    let same : depth ≡ d = omega arith in
    let one : suc depth - 1 ≡ depth = omega arith in
    let few : All (λ (x : ChildFields). x.records ≤ capacity_of depth) (inner_in c).children = subst (λ k. All (λ (x : ChildFields). x.records ≤ capacity_of k) (inner_in c).children) one (inner_few b p n (suc depth) (inner_in c) (read.of_inner depth n h refl refl)) in
    subst (λ k. All (λ (x : ChildFields). x.records ≤ capacity_of k) (inner_in c).children) same few

abbrev inner_by : ℕ → ℕ → Key → Result BtinFields BlockFault → Prog (Result ℕ ReadError)
inner_by d a k r = elim r [ Ok t ↦ in_node (λ x. tree_lookup d k x.address x.records) k t.records t.children | Err f ↦ ret (Err (Damaged a f)) ]

-- the way goes on by what it says
pub read_given : (depth at n : ℕ) (key : Key) (b : List ℕ) (c : Content) → depth ≤ 3 → IsRead (tree_node depth) at (node_len depth n) b c → node_given depth key at n b ≡ turning depth key c
read_given zero p n key b c h read = ap (λ r. let q : Prog (Result ℕ ReadError) = ret (then_also (refused_as (Damaged p) r) (λ rs. Ok (in_leaf key rs))) in q) (read.of_leaf n refl refl)
read_given (suc depth) p n key b c h read = ap (inner_by depth p key) (read.of_inner depth n h refl refl)

-- a node that is none
stops : (ks : List Kept) (p : ℕ) (f : BlockFault) (next : ℕ → Prog (Result Reading ReadError)) → store_rest ks (ret (Err (Damaged p f))) next ≡ ret (Err (Damaged p f))
unfolding store_rest
stops ks p f next = refl

leaf_refused : (p : ℕ) (key : Key) (r : Result (List RecordFields) BlockFault) (f : BlockFault)
    → then_also r (λ rs. let x : Result BtinFields BlockFault = Ok (record { records = rs; children = [] }) in x) ≡ Err f
    → (let q : Prog (Result ℕ ReadError) = ret (then_also (refused_as (Damaged p) r) (λ rs. Ok (in_leaf key rs))) in q) ≡ ret (Err (Damaged p f))
leaf_refused p key (Ok rs) f e = absurd cc
leaf_refused p key (Err g) f e = let same : g ≡ f = cc in ap (λ x. let q : Prog (Result ℕ ReadError) = ret (Err (Damaged p x)) in q) same

given_refused : (depth p n : ℕ) (key : Key) (b : List ℕ) (f : BlockFault) → node_at depth b p n ≡ Err f → node_given depth key p n b ≡ ret (Err (Damaged p f))
given_refused zero p n key b f e = leaf_refused p key (btlf_at b p n) f e
given_refused (suc depth) p n key b f e = ap (inner_by depth p key) e

pub node_refused : (ks : List Kept) (depth at n : ℕ) (key : Key) (b : List ℕ) (f : BlockFault) (next : ℕ → Prog (Result Reading ReadError)) → node_at depth b at n ≡ Err f → store_rest ks (node_given depth key at n b) next ≡ ret (Err (Damaged at f))
node_refused ks depth p n key b f next e = ap (λ (q : Prog (Result ℕ ReadError)). store_rest ks q next) (given_refused depth p n key b f e) ∙ stops ks p f next

-- ---- Looking it up

node_stored : (depth : ℕ) (key : Key) (at n : ℕ) → tree_lookup depth key at n ≡ stored (tree_node depth) at (node_len depth n) (node_given depth key at n)
node_stored zero key p n = refl
node_stored (suc depth) key p n = refl

pub node_waits : (ks : List Kept) (w : NodeWait) (next : ℕ → Prog (Result Reading ReadError)) → kept_bytes (tree_node w.depth) w.at (node_len w.depth w.n) ks ≡ None
    → wait_rest ks (waits.Node w) next ≡ store_rest ks (tree_lookup w.depth w.key w.at w.n) next
unfolding store_rest
node_waits ks w next none =
    let len = node_len w.depth w.n in
    sym (ap (λ (p : Prog (Result ℕ ReadError)). store_rest ks p next) (node_stored w.depth w.key w.at w.n)
    ∙ stored_is ks (tree_node w.depth) w.at len (node_given w.depth w.key w.at w.n) next None none
    ∙ cut_up_is w.at len (λ b. store_rest (used 16 (tree_node w.depth) w.at len b ks) (node_given w.depth w.key w.at w.n b) next))

-- of a node that is kept the way goes on by its content
pub node_kept : (old new : List Kept) (depth at n : ℕ) (key : Key) (b : List ℕ) (c : Content) (next : ℕ → Prog (Result Reading ReadError)) → depth ≤ 3 → kept_bytes (tree_node depth) at (node_len depth n) old ≡ Some b
    → IsRead (tree_node depth) at (node_len depth n) b c → new ≡ used 16 (tree_node depth) at (node_len depth n) b old → store_rest new (turning depth key c) next ≡ store_rest old (tree_lookup depth key at n) next
unfolding store_rest
node_kept old new depth p n key b c next h some read used_is =
    ap (λ (q : Prog (Result ℕ ReadError)). store_rest new q next) (sym (read_given depth p n key b c h read))
    ∙ ap (λ ks. store_rest ks (node_given depth key p n b) next) used_is
    ∙ sym (ap (λ (q : Prog (Result ℕ ReadError)). store_rest old q next) (node_stored depth key p n)
    ∙ stored_is old (tree_node depth) p (node_len depth n) (node_given depth key p n) next (Some b) some)

pub turn_found : (ks : List Kept) (next : ℕ → Prog (Result Reading ReadError)) (a : ℕ) → next_rest ks next a ≡ store_rest ks (ret (Ok a)) next
unfolding store_rest next_rest
turn_found ks next a = refl

-- a child of a node of a depth
pub child_of_depth : (depth most : ℕ) (t : Turn) → 1 ≤ depth → ForChild (λ c. c.records ≤ most) t → ForChild (λ c. (1 ≤ depth) × (c.records ≤ most)) t
child_of_depth depth most (turns.Found a) some few = tt
child_of_depth depth most (turns.Under c bound) some few = (some, few)
