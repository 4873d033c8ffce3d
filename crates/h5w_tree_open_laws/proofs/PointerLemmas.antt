-- What an inner node that was read says, and what a check that finds nothing tells of a node and of a tree.
use Rattle.std.proofs.Common.{◌≡◌, ℕ, zero, suc, ◌+◌, ◌*◌, ◌≤◌, false, eqb, List, [], ◌++◌, length, Result, Ok, Err, refl, sym, ap, subst, ◌∙◌, if◌then◌else◌}
use Rattle.std.specs.Prelude.{codes, nat_le, nat_lt, ◌==◌}
use Rattle.std.specs.List.{All}
use Rattle.std.proofs.lemmas.Bool.{cond_both, ltb-false, both_ways}
use Rattle.std.proofs.lemmas.List.Elements.{All-cons, All-nil}
use Rattle.h5w_model.specs.Numbers.{field, range, undefined}
use Rattle.h5w_model.specs.Blocks.{block_tests}
use Rattle.h5w_model.specs.Programs.{Prog, and_then, eval, ret, whole}
use Rattle.h5w_model.specs.Trees.{BthdFields, BtinFields, ChildFields, bthd_at, bthd_len, btin_at, btin_fields, btin_len, child_tests, children_in, node_size, node_tests, pointer_size}
use Rattle.h5w_model.specs.Findings.{Finding, Under, Used, Visited, bad_index_header, found, node_visit, tree_visit}
use Rattle.h5w_model.proofs.CheckedLemmas.{checked-passed}
use Rattle.h5w_laws.proofs.ResultLemmas.{and_then_ok, choice_ok}
use Rattle.h5w_laws.proofs.ReachLemmas.{block_ok}
use Rattle.h5w_laws.proofs.NodeLemmas.{length-records_in}
use Rattle.h5w_bt_open.specs.Opened.{said}

pub ok_same : {A E : Type 0} (a b : A) → (let x : Result A E = Ok a in x) ≡ Ok b → a ≡ b
ok_same a b e = cc

-- ---- Pointers

-- the number of records under a node, by the pointer to it, is its total: a leaf's are its records
abbrev pub Says : ℕ → ChildFields → Type 0
Says d c = said d c ≡ c.total

child_says : (b : List ℕ) (d from : ℕ) → Says d (record { address = field b from 8; records = field b (from + 8) 1; total = if nat_le (suc d) 1 then field b (from + 8) 1 else field b (from + 9) (suc d) })
child_says b zero from = refl
child_says b (suc d) from = refl

children_say : (b : List ℕ) (d n from : ℕ) → All (Says d) (children_in b (suc d) n from)
children_say b d zero from = All-nil (Says d)
children_say b d (suc n) from = All-cons (Says d) _ (children_in b (suc d) n (from + pointer_size (suc d))) (child_says b d from) (children_say b d n (from + pointer_size (suc d)))

-- an inner node that was read has so many records, and such pointers
pub node_says : (b : List ℕ) (at n d : ℕ) (v : BtinFields) → btin_at b at n (suc d) ≡ Ok v → (length v.records ≡ n) × All (Says d) v.children
node_says b at n d v e =
    let p = checked-passed (block_tests (codes "BTIN") (btin_len n (suc d)) b ++ node_tests b at ++ child_tests b at (suc d) (n + 1) (6 + 24 * n)) (btin_fields b n (suc d)) v e in
    (ap (λ (t : BtinFields). length t.records) (sym p.1) ∙ length-records_in b n 6, subst (λ (t : BtinFields). All (Says d) t.children) p.1 (children_say b d (n + 1) (6 + 24 * n)))

-- ---- What a check tells

-- a node that is visited ends within the file
pub node_ends : (img : List ℕ) (end place len : ℕ) (visit : List ℕ → Prog (Result Under Finding)) (u : Under)
    → eval img (if nat_lt end (place + node_size) then ret (Err (found 18 place)) else whole place len visit) ≡ Ok u → place + node_size ≤ end
node_ends img end place len visit u h =
    cond_both (nat_lt end (place + node_size)) (ret (Err (found 18 place))) (whole place len visit)
    (λ (q : Prog (Result Under Finding)). eval img q ≡ Ok u → place + node_size ≤ end)
    (λ t e. cc) (λ t e. ltb-false end (place + node_size) t) h

abbrev Visits : List ℕ → ℕ → ℕ → BthdFields → Type 0
Visits img end bytes f = (u : Under) × (eval img (node_visit end bytes f.depth f.root f.records) ≡ Ok u)

-- behind a header that names a root, the nodes are visited
pub tree_visits : (img : List ℕ) (end bytes header : ℕ) (f : BthdFields) (us : List Used) → bthd_at (range img header bthd_len) header ≡ Ok f → eqb f.root undefined ≡ false → eval img (tree_visit end bytes header) ≡ Ok us → Visits img end bytes f
tree_visits img end bytes header f us read some h =
    let nodes : BthdFields → Visited = λ t. and_then (node_visit end bytes t.depth t.root t.records) (λ u. ret (Ok u.ranges)) in
    let going : BthdFields → Visited = λ t. if t.root == undefined then ret (Ok []) else nodes t in
    let visit : List ℕ → Visited = λ b. elim (bthd_at b header) as (λ _. Visited) [ Ok t ↦ going t | Err e ↦ ret (Err (found bad_index_header header)) ] in
    let there = block_ok img end header bthd_len visit us h in
    let decoded = choice_ok img (bthd_at (range img header bthd_len) header) going (λ e. found bad_index_header header) there.0 there.1 in
    let gone : eval img (going f) ≡ Ok there.0 = subst (λ (t : BthdFields). eval img (going t) ≡ Ok there.0) (ok_same decoded.0 f (sym decoded.1 ∙ read)) decoded.2 in
    cond_both (eqb f.root undefined) (ret (Ok [])) (nodes f) (λ (q : Visited). eval img q ≡ Ok there.0 → Visits img end bytes f) (λ t e. absurd (both_ways (eqb f.root undefined) some t))
    (λ t e.
    let a = and_then_ok img (node_visit end bytes f.depth f.root f.records) (λ u. ret (Ok u.ranges)) there.0 e in
    (a.0, a.1))
    gone
