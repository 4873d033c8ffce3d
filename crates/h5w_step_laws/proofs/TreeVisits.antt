-- What the check of a version 2 B-tree tells of its nodes, and of each key's look-up.
use Rattle.std.proofs.Common.{◌≡◌, ◌≢◌, ℕ, zero, suc, ◌+◌, ◌-◌, ◌*◌, ◌≤◌, Bool, true, false, cond, List, [], ◌∷◌, ◌++◌, length, get_or, map, Result, Ok, Err, refl, ◌∙◌, ap, subst, inl, inr, arith}
use Rattle.std.specs.Prelude.{◌==◌, ◌&&◌, nat_lt, codes}
use Rattle.std.specs.List.{AllByRecursion}
use Rattle.std.proofs.lemmas.Bool.{cond_both, leb-true, ltb-false}
use Rattle.h5w_model.specs.Numbers.{range, field, undefined}
use Rattle.h5w_model.specs.Programs.{Prog, ret, whole, eval, and_then}
use Rattle.h5w_model.specs.Blocks.{block_tests}
use Rattle.h5w_model.specs.Trees.{RecordFields, ChildFields, BtinFields, btlf_at, btin_at, btlf_len, btin_len, node_size, capacity_of, pointer_size, children_in, child_tests, node_tests, btin_fields}
use Rattle.h5w_model.specs.Datasets.{then_also, refused_as}
use Rattle.h5w_model.specs.Tables.{tree_leaf, tree_node, in_leaf, in_node, key_below, key_equal, tree_lookup}
use Rattle.h5w_model.specs.Findings.{Finding, found, Used, Under, chunk_ranges, are_rising, keys_of, joined, record_under, node_at, node_finding, children_under, node_visit, bad_node, block_past_end, keys_not_rising}
use Rattle.h5w_model.specs.declared.cell.Key.{Key}
use Rattle.h5w_model.specs.declared.refusal.ReadError.{ReadError}
use Rattle.h5w_model.specs.declared.refusal.ReadError.TheVariants.{Damaged}
use Rattle.h5w_model.proofs.CheckedLemmas.{AllPass, checked-passed}
use Rattle.h5w_laws.proofs.ResultLemmas.{passes, then_ok, then_from, choice_ok, and_then_ok}
use Rattle.h5w_step_laws.specs.Ranges.{Among, AllAmong, chunk_at}
use Rattle.h5w_step_laws.proofs.RangeLemmas.{among_left, among_right, ends_nil, some_nil}
use Rattle.h5w_step_laws.proofs.VisitTells.{VisitTells, told_as, told_next, told_choice, told_look}
use Rattle.h5w_step_laws.proofs.ArrayVisits.{chunks_known, Answers, answers_more, answers_none, looked_block, looked_on, looked_last}

-- ---- A node's bytes, and its children's

pub leaf_low : (n : ℕ) → n ≤ capacity_of zero → btlf_len n ≤ node_size
leaf_low n h = omega (arith, h)

pub inner_low : (depth n : ℕ) → suc depth ≤ 3 → n ≤ capacity_of (suc depth) → btin_len n (suc depth) ≤ node_size
inner_low zero n low h = omega (arith, h)
inner_low (suc zero) n low h = omega (arith, h)
inner_low (suc (suc zero)) n low h = omega (arith, h)
inner_low (suc (suc (suc depth))) n low h = absurd (omega (arith, low))

abbrev pub FitsCapacity : ℕ → ChildFields → Type 0
FitsCapacity depth c = c.records ≤ capacity_of depth

pub pass_right : {E : Type 0} (xs ys : List (Bool × E)) → AllPass (xs ++ ys) → AllPass ys
pass_right [] ys h = h
pass_right (x ∷ xs) ys h = pass_right xs ys h.1

pub children_fit : (b : List ℕ) (place depth n from : ℕ) → AllPass (child_tests b place depth n from) → AllByRecursion (FitsCapacity (depth - 1)) (children_in b depth n from)
children_fit b place depth zero from h = tt
children_fit b place depth (suc n) from h =
    (leb-true (field b (from + 8) 1) (capacity_of (depth - 1)) h.0, children_fit b place depth n (from + pointer_size depth) h.1)

pub fit_in : (b : List ℕ) (place n depth : ℕ) (t : BtinFields) → btin_at b place n (suc depth) ≡ Ok t → AllByRecursion (FitsCapacity depth) t.children
fit_in b place n depth t h =
    let front = block_tests (codes "BTIN") (btin_len n (suc depth)) b ++ node_tests b place in
    let own = child_tests b place (suc depth) (n + 1) (6 + 24 * n) in
    let fields = btin_fields b n (suc depth) in
    let passed = checked-passed (front ++ own) fields t h in
    let one_less : suc depth - 1 ≡ depth = omega arith in
    subst (λ k. AllByRecursion (FitsCapacity k) t.children) one_less
    (subst (λ (v : BtinFields). AllByRecursion (FitsCapacity (suc depth - 1)) v.children) passed.1 (children_fit b place (suc depth) (n + 1) (6 + 24 * n) (pass_right front own passed.0)))

-- ---- A node's answer

abbrev pub under_is : Under → Result Under Finding
under_is u = Ok u

pub same_under : (u v : Under) → under_is u ≡ under_is v → u ≡ v
same_under u v h = cc

-- what a node's visit comes to
pub record Finished (place : ℕ) (totals : Bool) (u v : Under) : Type 0 where
  pub totals_right : totals ≡ true
  pub rising : are_rising u.keys ≡ true
  pub is : node_at place u ≡ v

pub finished : (place : ℕ) (totals : Bool) (u v : Under) → node_finding place totals u ≡ Ok v → Finished place totals u v
finished place true u v h =
    let r = passes (are_rising u.keys) (under_is (node_at place u)) (found keys_not_rising place) v h in
    record { totals_right = refl; rising = r.0; is = same_under (node_at place u) v r.1 }
finished place false u v h = absurd cc

pub finds : (place : ℕ) (totals : Bool) (u v : Under) → Finished place totals u v → node_finding place totals u ≡ Ok v
finds place true u v f = ap (λ b. cond b (under_is (node_at place u)) (Err (found keys_not_rising place))) f.rising ∙ ap (λ x. under_is x) f.is
finds place false u v f = let t = f.totals_right in absurd cc

pub node_parts : (img : List ℕ) (end place len : ℕ) (visit : List ℕ → Prog (Result Under Finding)) (u : Under)
    → eval img (cond (nat_lt end (place + node_size)) (ret (Err (found block_past_end place))) (whole place len visit)) ≡ Ok u → (place + node_size ≤ end) × (eval img (visit (range img place len)) ≡ Ok u)
node_parts img end place len visit u h =
    cond_both (nat_lt end (place + node_size)) (ret (Err (found block_past_end place))) (whole place len visit)
    (λ (q : Prog (Result Under Finding)). eval img q ≡ Ok u → (place + node_size ≤ end) × (eval img (visit (range img place len)) ≡ Ok u))
    (λ t e. absurd cc) (λ t e. (ltb-false end (place + node_size) t, e)) h

-- ---- Nodes

pub record Node (img : List ℕ) (end bytes depth place n : ℕ) (u : Under) : Type 0 where
  pub told : VisitTells img end bytes (λ e. node_visit e bytes depth place n) u u.ranges
  pub keys : (key : Key) → Answers img bytes u.ranges (tree_lookup depth key place n)

-- what a node's own fields say, told of its place
pub node_from : (img : List ℕ) (end bytes depth place n : ℕ) (u v : Under) → u ≡ v → Node img end bytes depth place n u → Node img end bytes depth place n v
node_from img end bytes depth place n u v e h = subst (λ (x : Under). Node img end bytes depth place n x) e h

pub leaf_member : (bytes : ℕ) (us : List Used) (key : Key) (rs : List RecordFields)
    → ((k : ℕ) → get_or (map (λ r. r.address) rs) k undefined ≢ undefined → Among (chunk_at (get_or (map (λ r. r.address) rs) k undefined) bytes) us)
    → in_leaf key rs ≢ undefined → Among (chunk_at (in_leaf key rs) bytes) us
leaf_member bytes us key [] each d = absurd (d refl)
leaf_member bytes us key (r ∷ rs) each d =
    cond_both (key_below r.key key) (in_leaf key rs) (cond (key_equal r.key key) r.address undefined) (λ x. x ≢ undefined → Among (chunk_at x bytes) us)
    (λ t. leaf_member bytes us key rs (λ k. each (suc k)))
    (λ t. cond_both (key_equal r.key key) r.address undefined (λ x. x ≢ undefined → Among (chunk_at x bytes) us) (λ s. each 0) (λ s f. absurd (f refl)))
    d

pub leaf_known : (img : List ℕ) (end bytes place n : ℕ) (u : Under) → n ≤ capacity_of zero → eval img (node_visit end bytes zero place n) ≡ Ok u → Node img end bytes zero place n u
leaf_known img end bytes place n u low h =
    let len : ℕ = btlf_len n in
    let b : List ℕ = range img place len in
    let as_under : List RecordFields → List Used → Under = λ rs us. record { ranges = us; keys = keys_of rs } in
    let after : ℕ → List RecordFields → Result Under Finding = λ e rs. then_also (chunk_ranges e bytes (map (λ r. r.address) rs)) (λ us. node_finding place true (as_under rs us)) in
    let visit : ℕ → List ℕ → Prog (Result Under Finding) = λ e b. elim (btlf_at b place n) as (λ _. Prog (Result Under Finding)) [ Ok rs ↦ ret (after e rs) | Err f ↦ ret (Err (found bad_node place)) ] in
    let parts = node_parts img end place len (visit end) u h in
    let decoded = choice_ok img (btlf_at b place n) (λ rs. ret (after end rs)) (λ f. found bad_node place) u parts.1 in
    let rs = decoded.0 in
    let found_chunks = then_ok (chunk_ranges end bytes (map (λ r. r.address) rs)) (λ us. node_finding place true (as_under rs us)) u decoded.2 in
    let us = found_chunks.0 in
    let chunks = chunks_known end bytes (map (λ r. r.address) rs) us found_chunks.1 in
    let f = finished place true (as_under rs us) u found_chunks.2 in
    let whole_node : Under = node_at place (as_under rs us) in
    let own : VisitTells img end bytes (λ e. ret (after e rs)) whole_node us = record {
      visited = tt;
      ends = chunks.ends;
      some = chunks.some;
      other = λ new g. then_from (chunk_ranges new bytes (map (λ r. r.address) rs)) (λ us. node_finding place true (as_under rs us)) us whole_node (chunks.other new g)
          (finds place true (as_under rs us) whole_node (record { totals_right = refl; rising = f.rising; is = refl }));
    } in
    node_from img end bytes zero place n whole_node u f.is (record {
      told = told_look img end bytes place node_size len visit whole_node us (omega arith) (leaf_low n low) parts.0
          (told_choice img end bytes (btlf_at b place n) (λ e rs. ret (after e rs)) (λ f. found bad_node place) rs whole_node us decoded.1 own);
      keys = λ key.
          let look : List ℕ → Prog (Result ℕ ReadError) = λ b. ret (then_also (refused_as (Damaged place) (btlf_at b place n)) (λ rs. Ok (in_leaf key rs))) in
          looked_block img bytes tree_leaf place node_size len whole_node.ranges look (leaf_low n low) (inl refl)
          (looked_last img bytes whole_node.ranges (btlf_at b place n) (λ rs. in_leaf key rs) (Damaged place) rs decoded.1 (λ d. inr (leaf_member bytes us key rs chunks.each d)));
    })

-- ---- Children

pub record Children (img : List ℕ) (end bytes : ℕ) (visit : ℕ → ChildFields → Prog (Result Under Finding)) (look : Key → ChildFields → Prog (Result ℕ ReadError)) (rs : List RecordFields) (cs : List ChildFields)
    (x : Bool × Under) : Type 0 where
  pub told : VisitTells img end bytes (λ e. children_under e bytes (visit e) rs cs) x x.1.ranges
  pub keys : (key : Key) → Answers img bytes x.1.ranges (in_node (look key) key rs cs)

-- what is known of each child that is visited
pub record Child (img : List ℕ) (end bytes : ℕ) (visit : ℕ → ChildFields → Prog (Result Under Finding)) (look : Key → ChildFields → Prog (Result ℕ ReadError)) (c : ChildFields) (u : Under) : Type 0 where
  pub told : VisitTells img end bytes (λ e. visit e c) u u.ranges
  pub keys : (key : Key) → Answers img bytes u.ranges (look key c)

abbrev pub pair_is : Bool × Under → Result (Bool × Under) Finding
pair_is x = Ok x

pub same_pair : (x y : Bool × Under) → pair_is x ≡ pair_is y → x ≡ y
same_pair x y h = cc

pub no_child : (img : List ℕ) (end bytes : ℕ) (x : Bool × Under) → pair_is (true, record { ranges = []; keys = [] }) ≡ pair_is x → VisitTells {R = Bool × Under} img end bytes (λ e. ret (Ok (true, record { ranges = []; keys = [] }))) x x.1.ranges
no_child img end bytes x h =
    subst (λ (y : Bool × Under). VisitTells {R = Bool × Under} img end bytes (λ e. ret (Ok (true, record { ranges = []; keys = [] }))) y y.1.ranges) (same_pair (true, record { ranges = []; keys = [] }) x h)
    (record { visited = tt; ends = ends_nil end; some = λ h. some_nil; other = λ new h. refl })

-- a key that is asked for at a record, or before it
pub node_keys : (img : List ℕ) (bytes : ℕ) (us : List Used) (look : ChildFields → Prog (Result ℕ ReadError)) (key : Key) (r : RecordFields) (rs : List RecordFields) (c : ChildFields) (cs : List ChildFields)
    → (r.address ≢ undefined → Among (chunk_at r.address bytes) us) → Answers img bytes us (look c) → Answers img bytes us (in_node look key rs cs) → Answers img bytes us (in_node look key (r ∷ rs) (c ∷ cs))
node_keys img bytes us look key r rs c cs own child later =
    cond_both (key_below r.key key) (in_node look key rs cs) (cond (key_equal r.key key) (ret (Ok r.address)) (look c)) (λ (q : Prog (Result ℕ ReadError)). Answers img bytes us q)
    (λ t. later)
    (λ t. cond_both (key_equal r.key key) (ret (Ok r.address)) (look c) (λ (q : Prog (Result ℕ ReadError)). Answers img bytes us q)
    (λ s. record { address = r.address; is = refl; chunk = own; within = tt })
    (λ s. child))

pub children_known : (img : List ℕ) (end bytes depth : ℕ) (visit : ℕ → ChildFields → Prog (Result Under Finding)) (look : Key → ChildFields → Prog (Result ℕ ReadError)) (rs : List RecordFields) (cs : List ChildFields) (x : Bool × Under)
    → ((c : ChildFields) (u : Under) → FitsCapacity depth c → eval img (visit end c) ≡ Ok u → Child img end bytes visit look c u) → AllByRecursion (FitsCapacity depth) cs
    → eval img (children_under end bytes (visit end) rs cs) ≡ Ok x → Children img end bytes visit look rs cs x
children_known img end bytes depth visit look [] [] x child fit h = record { told = no_child img end bytes x h; keys = λ key. answers_none img bytes x.1.ranges }
children_known img end bytes depth visit look (r ∷ rs) [] x child fit h = record { told = no_child img end bytes x h; keys = λ key. answers_none img bytes x.1.ranges }
children_known img end bytes depth visit look [] (c ∷ cs) x child fit h =
    let after : Under → Result (Bool × Under) Finding = λ u. Ok ((c.total == length u.keys), u) in
    let first = and_then_ok img (visit end c) (λ u. ret (after u)) x h in
    let one = child c first.0 fit.0 first.1 in
    let all : Bool × Under = ((c.total == length first.0.keys), first.0) in
    subst (λ (y : Bool × Under). Children img end bytes visit look [] (c ∷ cs) y) (same_pair all x first.2) (record {
      told = told_as img end bytes (λ e. visit e c) after first.0 all first.0.ranges refl one.told;
      keys = one.keys;
    })
children_known img end bytes depth visit look (r ∷ rs) (c ∷ cs) x child fit h =
    let final : Under → Under → Bool × Under → Bool × Under = λ u v rest. (((c.total == length u.keys) && rest.0), joined u (joined v rest.1)) in
    let last : Under → Under → Bool × Under → Result (Bool × Under) Finding = λ u v rest. Ok (final u v rest) in
    let others : ℕ → Prog (Result (Bool × Under) Finding) = λ e. children_under e bytes (visit e) rs cs in
    let third : ℕ → Under → Under → Prog (Result (Bool × Under) Finding) = λ e u v. and_then (others e) (λ rest. ret (last u v rest)) in
    let second : ℕ → Under → Prog (Result (Bool × Under) Finding) = λ e u. and_then (ret (record_under e bytes r)) (third e u) in
    let first = and_then_ok img (visit end c) (second end) x h in
    let own = and_then_ok img (ret (record_under end bytes r)) (third end first.0) x first.2 in
    let later = and_then_ok img (others end) (λ rest. ret (last first.0 own.0 rest)) x own.2 in
    let one = child c first.0 fit.0 first.1 in
    let rest = children_known img end bytes depth visit look rs cs later.0 child fit.1 later.1 in
    let with_key : List Used → Result Under Finding = λ us. Ok (record { ranges = us; keys = r.key ∷ [] }) in
    let its = then_ok (chunk_ranges end bytes (r.address ∷ [])) with_key own.0 own.1 in
    let chunks = chunks_known end bytes (r.address ∷ []) its.0 its.1 in
    let its_under : Under = record { ranges = its.0; keys = r.key ∷ [] } in
    let is_own : its_under ≡ own.0 = same_under its_under own.0 its.2 in
    let all : Bool × Under = final first.0 its_under later.0 in
    let same : all ≡ x = ap (λ v. final first.0 v later.0) is_own ∙ same_pair (final first.0 own.0 later.0) x later.2 in
    let told_record : VisitTells img end bytes (λ e. ret (record_under e bytes r)) its_under its.0 = record {
      visited = tt;
      ends = chunks.ends;
      some = chunks.some;
      other = λ new g. then_from (chunk_ranges new bytes (r.address ∷ [])) with_key its.0 its_under (chunks.other new g) refl;
    } in
    let in_first : AllAmong first.0.ranges all.1.ranges = λ u a. among_left u first.0.ranges (its.0 ++ later.0.1.ranges) a in
    let in_own : AllAmong its.0 all.1.ranges = λ u a. among_right u first.0.ranges (its.0 ++ later.0.1.ranges) (among_left u its.0 later.0.1.ranges a) in
    let in_later : AllAmong later.0.1.ranges all.1.ranges = λ u a. among_right u first.0.ranges (its.0 ++ later.0.1.ranges) (among_right u its.0 later.0.1.ranges a) in
    subst (λ (y : Bool × Under). Children img end bytes visit look (r ∷ rs) (c ∷ cs) y) same (record {
      told =
          told_next img end bytes (λ e. visit e c) second first.0 all first.0.ranges (its.0 ++ later.0.1.ranges) one.told
          (told_next img end bytes (λ e. ret (record_under e bytes r)) (λ e. third e first.0) its_under all its.0 later.0.1.ranges told_record
          (told_as img end bytes others (last first.0 its_under) later.0 all later.0.1.ranges refl rest.told));
      keys = λ key.
          node_keys img bytes all.1.ranges (look key) key r rs c cs (λ d. in_own (chunk_at r.address bytes) (chunks.each 0 d))
          (answers_more img bytes first.0.ranges all.1.ranges (look key c) in_first (one.keys key))
          (answers_more img bytes later.0.1.ranges all.1.ranges (in_node (look key) key rs cs) in_later (rest.keys key));
    })

pub inner_known : (img : List ℕ) (end bytes depth place n : ℕ) (u : Under) → suc depth ≤ 3 → n ≤ capacity_of (suc depth)
    → ((c : ChildFields) (v : Under) → FitsCapacity depth c → eval img (node_visit end bytes depth c.address c.records) ≡ Ok v → Node img end bytes depth c.address c.records v)
    → eval img (node_visit end bytes (suc depth) place n) ≡ Ok u → Node img end bytes (suc depth) place n u
inner_known img end bytes depth place n u shallow low under h =
    let len : ℕ = btin_len n (suc depth) in
    let b : List ℕ = range img place len in
    let visit_child : ℕ → ChildFields → Prog (Result Under Finding) = λ e c. node_visit e bytes depth c.address c.records in
    let look_child : Key → ChildFields → Prog (Result ℕ ReadError) = λ key c. tree_lookup depth key c.address c.records in
    let last : Bool × Under → Result Under Finding = λ x. node_finding place x.0 x.1 in
    let children : ℕ → BtinFields → Prog (Result (Bool × Under) Finding) = λ e t. children_under e bytes (visit_child e) t.records t.children in
    let after : ℕ → BtinFields → Prog (Result Under Finding) = λ e t. and_then (children e t) (λ x. ret (last x)) in
    let visit : ℕ → List ℕ → Prog (Result Under Finding) = λ e b. elim (btin_at b place n (suc depth)) as (λ _. Prog (Result Under Finding)) [ Ok t ↦ after e t | Err f ↦ ret (Err (found bad_node place)) ] in
    let parts = node_parts img end place len (visit end) u h in
    let decoded = choice_ok img (btin_at b place n (suc depth)) (after end) (λ f. found bad_node place) u parts.1 in
    let t = decoded.0 in
    let step = and_then_ok img (children end t) (λ x. ret (last x)) u decoded.2 in
    let x = step.0 in
    let c = children_known img end bytes depth visit_child look_child t.records t.children x
    (λ c v f g. let k = under c v f g in record { told = k.told; keys = k.keys })
    (fit_in b place n depth t decoded.1) step.1 in
    let f = finished place x.0 x.1 u step.2 in
    let whole_node : Under = node_at place x.1 in
    node_from img end bytes (suc depth) place n whole_node u f.is (record {
      told = told_look img end bytes place node_size len visit whole_node x.1.ranges (omega arith) (inner_low depth n shallow low) parts.0
          (told_choice img end bytes (btin_at b place n (suc depth)) after (λ f. found bad_node place) t whole_node x.1.ranges decoded.1
          (told_as img end bytes (λ e. children e t) last x whole_node x.1.ranges
          (finds place x.0 x.1 whole_node (record { totals_right = f.totals_right; rising = f.rising; is = refl })) c.told));
      keys = λ key.
          let look : List ℕ → Prog (Result ℕ ReadError) = λ b. elim (btin_at b place n (suc depth)) as (λ _. Prog (Result ℕ ReadError)) [
            | Ok t ↦ in_node (look_child key) key t.records t.children
            | Err f ↦ ret (Err (Damaged place f))
          ] in
          looked_block img bytes (tree_node (suc depth)) place node_size len whole_node.ranges look (inner_low depth n shallow low) (inl refl)
          (looked_on img bytes whole_node.ranges (btin_at b place n (suc depth)) (λ t. in_node (look_child key) key t.records t.children) (Damaged place) t decoded.1
          (answers_more img bytes x.1.ranges whole_node.ranges (in_node (look_child key) key t.records t.children) (λ v a. inr a) (c.keys key)));
    })

pub node_known : (img : List ℕ) (end bytes depth place n : ℕ) (u : Under) → depth ≤ 3 → n ≤ capacity_of depth → eval img (node_visit end bytes depth place n) ≡ Ok u → Node img end bytes depth place n u
node_known img end bytes zero place n u shallow low h = leaf_known img end bytes place n u low h
node_known img end bytes (suc depth) place n u shallow low h =
    inner_known img end bytes depth place n u shallow low (λ c v f g. node_known img end bytes depth c.address c.records v (omega (arith, shallow)) f g) h
