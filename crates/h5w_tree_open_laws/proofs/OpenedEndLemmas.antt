-- The nodes of a tree that was opened end by the end of the file, where a check of it finds nothing.
use Rattle.std.proofs.Common.{◌≡◌, ℕ, zero, suc, ◌+◌, ◌≤◌, ◌==◌, ◌&&◌, Bool, true, false, eqb, List, [], ◌∷◌, length, map, flat_map, Option, Result, Ok, Err, inl, inr, sym, ap, subst, ◌∙◌, arith, if◌then◌else◌}
use Rattle.std.specs.List.{All}
use Rattle.std.proofs.lemmas.Bool.{cases_Bool, cond_both, eqb-true}
use Rattle.std.proofs.lemmas.List.Elements.{All-append, All-cons, All-head, All-nil, All-tail}
use Rattle.h5w_model.specs.Numbers.{range, undefined}
use Rattle.h5w_model.specs.Programs.{Prog, and_then, eval, ret}
use Rattle.h5w_model.specs.Datasets.{then_also}
use Rattle.h5w_model.specs.Trees.{BthdFields, BtinFields, ChildFields, RecordFields, btin_at, btin_len, btlf_at, btlf_len, capacity_of, node_size}
use Rattle.h5w_model.specs.Findings.{Finding, Under, Used, children_under, chunk_ranges, found, joined as under_both, keys_of as field_keys, node_finding, node_visit, record_under, tree_visit}
use Rattle.h5w_model.specs.declared.cell.Key.{Key}
use Rattle.h5w_laws.proofs.ResultLemmas.{and_then_ok, choice_ok}
use Rattle.h5w_laws.proofs.ReachLemmas.{node_ok}
use Rattle.h5w_space.specs.Space.{extent}
use Rattle.h5w_space.specs.declared.Extent.{Extent}
use Rattle.h5w_bt.specs.declared.records.Record.{Record}
use Rattle.h5w_bt.specs.Parts.{record_of}
use Rattle.h5w_bt_nodes.specs.Nodes.{Tree}
use Rattle.h5w_bt_index.specs.Sound.{IsSound}
use Rattle.h5w_bt_index.specs.Index.{Index, IsIndex}
use Rattle.h5w_bt_open.specs.declared.span.Span.{Span}
use Rattle.h5w_bt_open.specs.Spans.{high_of, low_behind, low_of, span_here}
use Rattle.h5w_bt_open.specs.Kept.{node_ranges, ranges_of}
use Rattle.h5w_bt_open.specs.Opened.{EachOpened, IsOpened, IsStanding, from_key, root_pointer, told_under}
use Rattle.h5w_tree_open_laws.specs.OpenedEnds.{OpenedEnds}
use Rattle.h5w_tree_open_laws.proofs.PointerLemmas.{node_ends, ok_same, tree_visits}

abbrev Ends : ℕ → Extent → Type 0
Ends end r = r.at + r.size ≤ end

-- a node's own range
own_ends : (end place : ℕ) → place + node_size ≤ end → All (Ends end) (if place == undefined then [] else extent place node_size ∷ [])
own_ends end place h =
    cond_both (place == undefined) [] (extent place node_size ∷ []) (λ (rs : List Extent). All (Ends end) rs) (λ t. All-nil (Ends end)) (λ t. All-cons (Ends end) (extent place node_size) [] h (All-nil (Ends end)))

module _ (img : List ℕ) (end bytes d : ℕ) (visit : ChildFields → Prog (Result Under Finding))
    (ends : (c : ChildFields) (s : Option Span) (t : Tree d) (u : Under) → IsOpened img d c s t → IsSound d (capacity_of d) t → eval img (visit c) ≡ Ok u → All (Ends end) (node_ranges d t)) where
  each_ends : (low high : Option Key) (rs : List Record) (cs : List ChildFields) (ts : List (Tree d)) (x : Bool × Under) → EachOpened (IsOpened img d) low high rs cs ts → All (IsSound d (capacity_of d)) ts → length ts ≡ length rs + 1
      → eval img (children_under end bytes visit (map record_of rs) cs) ≡ Ok x → All (Ends end) (flat_map (node_ranges d) ts)
  each_ends low high rs [] [] x e all n h = absurd (omega arith)
  each_ends low high rs [] (t ∷ ts) x e all n h = absurd e
  each_ends low high rs (c ∷ cs) [] x e all n h = absurd e
  each_ends low high [] (c ∷ cs) (t ∷ s ∷ ts) x e all n h = absurd (omega (arith, n))
  each_ends low high [] (c ∷ []) (t ∷ []) x e all n h =
      let first = and_then_ok img (visit c) (λ u. ret (Ok ((c.total == length u.keys), u))) x h in
      All-append (Ends end) (node_ranges d t) [] (ends c (span_here low high []) t first.0 e.0 (All-head (IsSound d (capacity_of d)) t [] all) first.1) (All-nil (Ends end))
  each_ends low high [] (c ∷ b ∷ cs) (t ∷ []) x e all n h = absurd e.1
  each_ends low high (r ∷ rs) (c ∷ cs) (t ∷ ts) x e all n h =
      let first = and_then_ok img (visit c) (λ u.
      and_then (ret (record_under end bytes (record_of r))) (λ v.
      and_then (children_under end bytes visit (map record_of rs) cs) (λ rest.
      ret (Ok (((c.total == length u.keys) && rest.0), under_both u (under_both v rest.1)))))) x h in
      let mid = and_then_ok img (ret (record_under end bytes (record_of r))) (λ v.
      and_then (children_under end bytes visit (map record_of rs) cs) (λ rest.
      ret (Ok (((c.total == length first.0.keys) && rest.0), under_both first.0 (under_both v rest.1))))) x first.2 in
      let later = and_then_ok img (children_under end bytes visit (map record_of rs) cs) (λ rest.
      ret (Ok (((c.total == length first.0.keys) && rest.0), under_both first.0 (under_both mid.0 rest.1)))) x mid.2 in
      All-append (Ends end) (node_ranges d t) (flat_map (node_ranges d) ts) (ends c (span_here low high (r ∷ rs)) t first.0 e.0 (All-head (IsSound d (capacity_of d)) t ts all) first.1)
      (each_ends (low_behind low (r ∷ rs)) high rs cs ts later.0 e.1 (All-tail (IsSound d (capacity_of d)) t ts all) (omega (arith, n)) later.1)

-- the nodes of a tree behind a pointer, each of which was visited
under_ends : (img : List ℕ) (end bytes d : ℕ) (c : ChildFields) (s : Option Span) (t : Tree d) (u : Under) → IsOpened img d c s t → IsSound d (capacity_of d) t → eval img (node_visit end bytes d c.address c.records) ≡ Ok u
    → All (Ends end) (node_ranges d t)
under_ends img end bytes zero c s t u o sound h =
    let visit : List ℕ → Prog (Result Under Finding) = λ b. elim (btlf_at b c.address c.records) as (λ _. Prog (Result Under Finding)) [
      | Ok rs ↦ ret (then_also (chunk_ranges end bytes (map (λ r. r.address) rs)) (λ us. node_finding c.address true (record { ranges = us; keys = field_keys rs })))
      | Err f ↦ ret (Err (found 14 c.address))
    ] in
    let here = node_ends img end c.address (btlf_len c.records) visit u h in
    elim o [
      | inl leaf ↦ own_ends end t.place (omega (arith, leaf.place, here))
      | inr passed ↦ (let at : t.place ≡ c.address = ap (λ (x : Tree zero). x.place) passed.is in own_ends end t.place (omega (arith, at, here)))
    ]
under_ends img end bytes (suc d) c s t u o sound h =
    let len : ℕ = btin_len c.records (suc d) in
    let child : ChildFields → Prog (Result Under Finding) = λ p. node_visit end bytes d p.address p.records in
    let visit : List ℕ → Prog (Result Under Finding) = λ b. elim (btin_at b c.address c.records (suc d)) as (λ _. Prog (Result Under Finding)) [
      | Ok v ↦ and_then (children_under end bytes child v.records v.children) (λ x. ret (node_finding c.address x.0 x.1))
      | Err f ↦ ret (Err (found 14 c.address))
    ] in
    let here = node_ends img end c.address len visit u h in
    let there = node_ok img end c.address len visit u h in
    let decoded = choice_ok img (btin_at (range img c.address len) c.address c.records (suc d)) (λ v. and_then (children_under end bytes child v.records v.children) (λ x. ret (node_finding c.address x.0 x.1))) (λ f. found 14 c.address) u there in
    let under = and_then_ok img (children_under end bytes child decoded.0.records decoded.0.children) (λ x. ret (node_finding c.address x.0 x.1)) u decoded.2 in
    elim o [
      | inl inner ↦ (
          let v : decoded.0 ≡ inner.fields = ok_same decoded.0 inner.fields (sym decoded.1 ∙ inner.reads) in
          let visited : eval img (children_under end bytes child (map record_of t.records) inner.fields.children) ≡ Ok under.0 =
          ap (λ (l : List RecordFields). eval img (children_under end bytes child l inner.fields.children)) inner.records
          ∙ ap (λ (w : BtinFields). eval img (children_under end bytes child w.records w.children)) (sym v) ∙ under.1 in
          All-append (Ends end) _ (flat_map (node_ranges d) t.children) (own_ends end t.place (omega (arith, inner.place, here)))
          (each_ends img end bytes d child (λ b q r y is below g. under_ends img end bytes d b q r y is below g) (low_of s) (high_of s) t.records inner.fields.children t.children under.0 inner.children sound.each sound.children visited)
          )
      | inr passed ↦ (let no : Ok decoded.0 ≡ Err passed.fault = sym decoded.1 ∙ passed.refused in absurd cc)
    ]

-- ---- The tree

module _ (img : List ℕ) (header end bytes : ℕ) (first : Key) (v : Index) (us : List Used) (s : IsStanding img header first v) (index : IsIndex v) (visited : eval img (tree_visit end bytes header) ≡ Ok us) where
  abbrev f : BthdFields
  f = s.fields

  none_end : All (Ends end) []
  none_end = All-nil (Ends end)

  some_end : eqb f.root undefined ≡ false → All (Ends end) (ranges_of v)
  some_end e =
      let differs : f.root ≡ undefined → ⊥ = λ is. (let clash : ◌≡◌ {A = Bool} false true = sym e ∙ ap (λ (n : ℕ). eqb n undefined) is in cc) in
      let visit = tree_visits img end bytes header f us s.read e visited in
      let p = s.root differs in
      let seen : eval img (node_visit end bytes v.depth f.root f.records) ≡ Ok visit.0 = ap (λ (n : ℕ). eval img (node_visit end bytes n f.root f.records)) p.0 ∙ visit.1 in
      under_ends img end bytes v.depth (root_pointer f (told_under v.depth v.root)) (from_key first) v.root visit.0 p.1 index.sound seen

  all_end : All (Ends end) (ranges_of v)
  all_end = elim (cases_Bool (eqb f.root undefined)) [
    | inl e ↦ subst (λ (w : Index). All (Ends end) (ranges_of w)) (sym (s.none (eqb-true f.root undefined e))) none_end
    | inr e ↦ some_end e
  ]

pub opened_ends : OpenedEnds
opened_ends img header end bytes first v us s index visited = all_end img header end bytes first v us s index visited
