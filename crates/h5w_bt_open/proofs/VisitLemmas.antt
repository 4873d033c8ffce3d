-- What a check of a tree's nodes tells of the tree that was opened.
use Rattle.std.proofs.Common.{◌≡◌, inl, inr, ℕ, zero, suc, ◌+◌, ◌≤◌, ◌==◌, ◌&&◌, Bool, true, List, [], ◌∷◌, ◌++◌, length, map, Option, Result, Ok, Err, refl, sym, ap, ap₂, subst, ◌∙◌, arith, eqb}
use Rattle.std.specs.List.{All}
use Rattle.std.proofs.lemmas.Bool.{and_parts, eqb-true}
use Rattle.std.proofs.lemmas.List.{length-map, map-append}
use Rattle.std.proofs.lemmas.List.Elements.{All-cons, All-head, All-nil, All-tail}
use Rattle.h5w_model.specs.Numbers.{range}
use Rattle.h5w_model.specs.Programs.{Prog, and_then, eval, ret}
use Rattle.h5w_model.specs.Datasets.{then_also}
use Rattle.h5w_model.specs.Trees.{BthdFields, BtinFields, ChildFields, RecordFields, btin_at, btin_len, btlf_at, btlf_len, capacity_of}
use Rattle.h5w_model.specs.Tables.{key_below}
use Rattle.h5w_model.specs.Findings.{Finding, Under, are_rising, children_under, chunk_ranges, found, joined as under_both, keys_of as field_keys, node_at, node_checks, node_finding, node_visit, record_under}
use Rattle.h5w_model.specs.declared.cell.Key.{Key}
use Rattle.h5w_model.proofs.CheckedLemmas.{checked-passed}
use Rattle.h5w_laws.proofs.ResultLemmas.{and_then_ok, choice_ok, then_ok}
use Rattle.h5w_laws.proofs.ReachLemmas.{node_ok}
use Rattle.h5w_bt.specs.declared.records.Record.{Record}
use Rattle.h5w_bt.specs.Parts.{record_of}
use Rattle.h5w_bt.proofs.KeyLemmas.{below-trans}
use Rattle.h5w_bt_nodes.specs.Nodes.{Tree, all_records, joined}
use Rattle.h5w_bt_nodes.specs.Shapes.{IsShape, IsShapedChild}
use Rattle.h5w_bt_index.specs.Sound.{IsRising, IsSound}
use Rattle.h5w_bt_nodes.specs.Puts.{changed_node, counted}
use Rattle.h5w_bt_index.specs.Index.{keys_of, records}
use Rattle.h5w_bt_index.proofs.Grown.{total_is}
use Rattle.h5w_bt_open.specs.declared.span.Span.{Span}
use Rattle.h5w_bt_open.specs.Spans.{high_of, low_behind, low_of, span_here}
use Rattle.h5w_bt_open.specs.Opened.{EachOpened, IsOpened, from_key, root_pointer, told_under}
use Rattle.h5w_bt_open.specs.OpenedLaws.{OpenedIsIndex}

-- ---- Keys that rise

keys_same : (rs : List Record) → field_keys (map record_of rs) ≡ keys_of rs
keys_same [] = refl
keys_same (r ∷ rs) = ap (λ (l : List Key). r.key ∷ l) (keys_same rs)

-- one below the first of some keys that rise is below each
below_each : (k : Key) (r : Record) (rs : List Record) → key_below k r.key ≡ true → are_rising (keys_of (r ∷ rs)) ≡ true → All (λ (s : Record). key_below k s.key ≡ true) (r ∷ rs)
below_each k r [] h rise = All-cons (λ (s : Record). key_below k s.key ≡ true) r [] h (All-nil (λ (s : Record). key_below k s.key ≡ true))
below_each k r (s ∷ rs) h rise =
    let p = and_parts (key_below r.key s.key) (are_rising (keys_of (s ∷ rs))) rise in
    All-cons (λ (s : Record). key_below k s.key ≡ true) r (s ∷ rs) h (below_each k s rs (below-trans k r.key s.key h p.0) p.1)

pub rises : (rs : List Record) → are_rising (keys_of rs) ≡ true → IsRising rs
rises [] h = tt
rises (r ∷ []) h = (All-nil (λ (s : Record). key_below r.key s.key ≡ true), tt)
rises (r ∷ s ∷ rs) h =
    let p = and_parts (key_below r.key s.key) (are_rising (keys_of (s ∷ rs))) h in
    (below_each r.key s rs p.0 p.1, rises (s ∷ rs) p.1)

-- ---- Nodes

-- the check found these keys under the node, which rise, and its children say how many they are; where the pointer to it does, it is sound
pub record Told (d : ℕ) (c : ChildFields) (t : Tree d) (u : Under) : Type 0 where
  pub keys : keys_of (all_records d t) ≡ u.keys
  pub rises : are_rising u.keys ≡ true
  pub under : told_under d t ≡ length u.keys
  pub sound : c.total ≡ length u.keys → IsSound d (capacity_of d) t

pub record AllTold (d : ℕ) (rs : List Record) (ts : List (Tree d)) (x : Bool × Under) : Type 0 where
  pub keys : keys_of (joined rs (map (all_records d) ts)) ≡ x.1.keys
  pub sound : x.0 ≡ true → All (IsSound d (capacity_of d)) ts

ok_same : {A E : Type 0} (a b : A) → (let x : Result A E = Ok a in x) ≡ Ok b → a ≡ b
ok_same a b e = cc

keys_long : (rs : List Record) → length (keys_of rs) ≡ length rs
keys_long rs = length-map rs (λ (r : Record). r.key)

-- so many records are under a node whose children are sound
counted_is : (d : ℕ) (rs : List Record) (ts : List (Tree d)) → length rs ≤ capacity_of (suc d) → length ts ≡ length rs + 1 → All (IsSound d (capacity_of d)) ts → counted d rs ts ≡ length (joined rs (map (all_records d) ts))
counted_is d rs ts few n each = total_is (suc d) (capacity_of (suc d)) (changed_node d rs ts 0) (record { few = few; children = n; total = refl; each = each })

leaf_told : (end bytes place : ℕ) (c : ChildFields) (t : Tree zero) (rs : List RecordFields) (u : Under) → rs ≡ map record_of t.records → length t.records ≤ capacity_of zero
    → then_also (chunk_ranges end bytes (map (λ (r : RecordFields). r.address) rs)) (λ us. node_finding place true (record { ranges = us; keys = field_keys rs })) ≡ Ok u → Told zero c t u
leaf_told end bytes place c t rs u e few h =
    let us = then_ok (chunk_ranges end bytes (map (λ (r : RecordFields). r.address) rs)) (λ us. node_finding place true (record { ranges = us; keys = field_keys rs })) u h in
    let p = checked-passed (node_checks place true (record { ranges = us.0; keys = field_keys rs })) (node_at place (record { ranges = us.0; keys = field_keys rs })) u us.2 in
    let k : field_keys rs ≡ u.keys = ap (λ (x : Under). x.keys) p.1 in
    let keys : keys_of t.records ≡ u.keys = sym (keys_same t.records) ∙ ap field_keys (sym e) ∙ k in
    record {
      keys = keys;
      under = sym (keys_long t.records) ∙ ap (length {A = Key}) keys;
      rises = ap are_rising (sym k) ∙ p.0.1.0;
      sound = λ total. few;
    }

module _ (img : List ℕ) (end bytes d : ℕ) (visit : ChildFields → Prog (Result Under Finding))
    (tells : (c : ChildFields) (s : Option Span) (t : Tree d) (u : Under) → IsOpened img d c s t → IsShape d (capacity_of d) t → eval img (visit c) ≡ Ok u → Told d c t u) where
  each_told : (low high : Option Key) (rs : List Record) (cs : List ChildFields) (ts : List (Tree d)) (x : Bool × Under) → EachOpened (IsOpened img d) low high rs cs ts → All (IsShapedChild d) ts → length ts ≡ length rs + 1
      → eval img (children_under end bytes visit (map record_of rs) cs) ≡ Ok x → AllTold d rs ts x
  each_told low high rs [] [] x e all n h = absurd (omega arith)
  each_told low high rs [] (t ∷ ts) x e all n h = absurd e
  each_told low high rs (c ∷ cs) [] x e all n h = absurd e
  each_told low high [] (c ∷ cs) (t ∷ s ∷ ts) x e all n h = absurd (omega (arith, n))
  each_told low high [] (c ∷ cs) (t ∷ []) x e all n h =
      let first = and_then_ok img (visit c) (λ u. ret (Ok ((c.total == length u.keys), u))) x h in
      let told = tells c (span_here low high []) t first.0 e.0 (All-head (IsShapedChild d) t [] all).0 first.1 in
      let same : (c.total == length first.0.keys, first.0) ≡ x = ok_same (c.total == length first.0.keys, first.0) x first.2 in
      record {
        keys = told.keys ∙ ap (λ (y : Bool × Under). y.1.keys) same;
        sound = λ true_total. All-cons (IsSound d (capacity_of d)) t [] (told.sound (eqb-true c.total (length first.0.keys) (ap (λ (y : Bool × Under). y.0) same ∙ true_total))) (All-nil (IsSound d (capacity_of d)));
      }
  each_told low high (r ∷ rs) (c ∷ cs) (t ∷ ts) x e all n h =
      let first = and_then_ok img (visit c) (λ u.
      and_then (ret (record_under end bytes (record_of r))) (λ v.
      and_then (children_under end bytes visit (map record_of rs) cs) (λ rest.
      ret (Ok (((c.total == length u.keys) && rest.0), under_both u (under_both v rest.1)))))) x h in
      let own = and_then_ok img (ret (record_under end bytes (record_of r))) (λ v.
      and_then (children_under end bytes visit (map record_of rs) cs) (λ rest.
      ret (Ok (((c.total == length first.0.keys) && rest.0), under_both first.0 (under_both v rest.1))))) x first.2 in
      let later = and_then_ok img (children_under end bytes visit (map record_of rs) cs) (λ rest.
      ret (Ok (((c.total == length first.0.keys) && rest.0), under_both first.0 (under_both own.0 rest.1)))) x own.2 in
      let told = tells c (span_here low high (r ∷ rs)) t first.0 e.0 (All-head (IsShapedChild d) t ts all).0 first.1 in
      let others = each_told (low_behind low (r ∷ rs)) high rs cs ts later.0 e.1 (All-tail (IsShapedChild d) t ts all) (omega (arith, n)) later.1 in
      let same = ok_same (((c.total == length first.0.keys) && later.0.0), under_both first.0 (under_both own.0 later.0.1)) x later.2 in
      let one = then_ok (chunk_ranges end bytes (r.address ∷ [])) (λ us. Ok (record { ranges = us; keys = r.key ∷ [] })) own.0 own.1 in
      let key_is : r.key ∷ [] ≡ own.0.keys = ap (λ (u : Under). u.keys) (ok_same (record { ranges = one.0; keys = r.key ∷ [] }) own.0 one.2) in
      record {
        keys =
            map-append (λ (s : Record). s.key) (all_records d t) (r ∷ joined rs (map (all_records d) ts))
            ∙ ap₂ (λ (a b : List Key). a ++ (r.key ∷ b)) told.keys others.keys
            ∙ ap (λ (l : List Key). first.0.keys ++ (l ++ later.0.1.keys)) key_is
            ∙ ap (λ (y : Bool × Under). y.1.keys) same;
        sound = λ all_true.
            let p = and_parts (eqb c.total (length first.0.keys)) later.0.0 (ap (λ (y : Bool × Under). y.0) same ∙ all_true) in
            All-cons (IsSound d (capacity_of d)) t ts (told.sound (eqb-true c.total (length first.0.keys) p.0)) (others.sound p.1);
      }

pub visit_told : (img : List ℕ) (end bytes d : ℕ) (c : ChildFields) (s : Option Span) (t : Tree d) (u : Under) → IsOpened img d c s t → IsShape d (capacity_of d) t → eval img (node_visit end bytes d c.address c.records) ≡ Ok u → Told d c t u
visit_told img end bytes zero c s t u o shape h =
    let visit : List ℕ → Prog (Result Under Finding) = λ b. elim (btlf_at b c.address c.records) as (λ _. Prog (Result Under Finding)) [
      | Ok rs ↦ ret (then_also (chunk_ranges end bytes (map (λ r. r.address) rs)) (λ us. node_finding c.address true (record { ranges = us; keys = field_keys rs })))
      | Err f ↦ ret (Err (found 14 c.address))
    ] in
    let there = node_ok img end c.address (btlf_len c.records) visit u h in
    let decoded = choice_ok img (btlf_at (range img c.address (btlf_len c.records)) c.address c.records)
    (λ rs. ret (then_also (chunk_ranges end bytes (map (λ r. r.address) rs)) (λ us. node_finding c.address true (record { ranges = us; keys = field_keys rs })))) (λ f. found 14 c.address) u there in
    elim o [
      | inl leaf ↦ leaf_told end bytes c.address c t decoded.0 u (ok_same decoded.0 (map record_of t.records) (sym decoded.1 ∙ leaf.records)) shape decoded.2
      | inr passed ↦ (let no : Ok decoded.0 ≡ Err passed.fault = sym decoded.1 ∙ passed.refused in absurd cc)
    ]
visit_told img end bytes (suc d) c s t u o shape h =
    let len : ℕ = btin_len c.records (suc d) in
    let child : ChildFields → Prog (Result Under Finding) = λ p. node_visit end bytes d p.address p.records in
    let visit : List ℕ → Prog (Result Under Finding) = λ b. elim (btin_at b c.address c.records (suc d)) as (λ _. Prog (Result Under Finding)) [
      | Ok v ↦ and_then (children_under end bytes child v.records v.children) (λ x. ret (node_finding c.address x.0 x.1))
      | Err f ↦ ret (Err (found 14 c.address))
    ] in
    let there = node_ok img end c.address len visit u h in
    let decoded = choice_ok img (btin_at (range img c.address len) c.address c.records (suc d)) (λ v. and_then (children_under end bytes child v.records v.children) (λ x. ret (node_finding c.address x.0 x.1))) (λ f. found 14 c.address) u there in
    let under = and_then_ok img (children_under end bytes child decoded.0.records decoded.0.children) (λ x. ret (node_finding c.address x.0 x.1)) u decoded.2 in
    let p = checked-passed (node_checks c.address under.0.0 under.0.1) (node_at c.address under.0.1) u under.2 in
    elim o [
      | inl inner ↦ (
          let v : decoded.0 ≡ inner.fields = ok_same decoded.0 inner.fields (sym decoded.1 ∙ inner.reads) in
          let visited : eval img (children_under end bytes child (map record_of t.records) inner.fields.children) ≡ Ok under.0 =
          ap (λ (l : List RecordFields). eval img (children_under end bytes child l inner.fields.children)) inner.records
          ∙ ap (λ (w : BtinFields). eval img (children_under end bytes child w.records w.children)) (sym v) ∙ under.1 in
          let told = each_told img end bytes d child (λ b q r y is low g. visit_told img end bytes d b q r y is low g) (low_of s) (high_of s) t.records inner.fields.children t.children under.0 inner.children shape.each shape.children visited in
          let k : under.0.1.keys ≡ u.keys = ap (λ (x : Under). x.keys) p.1 in
          let all : All (IsSound d (capacity_of d)) t.children = told.sound p.0.0 in
          let rs : List Record = joined t.records (map (all_records d) t.children) in
          let under : counted d t.records t.children ≡ length u.keys = counted_is d t.records t.children shape.few shape.children all ∙ sym (keys_long rs) ∙ ap (length {A = Key}) (told.keys ∙ k) in
          record {
            keys = told.keys ∙ k;
            under = under;
            rises = ap are_rising (sym k) ∙ p.0.1.0;
            sound = λ total. record {
              few = shape.few;
              children = shape.children;
              total = inner.total ∙ total ∙ sym under;
              each = all;
            };
          }
          )
      | inr passed ↦ (let no : Ok decoded.0 ≡ Err passed.fault = sym decoded.1 ∙ passed.refused in absurd cc)
    ]

-- ---- The tree

pub opened_is_index : OpenedIsIndex
opened_is_index img header end bytes first v h u s shaped read some visited =
    let same : s.fields ≡ h = ok_same s.fields h (sym s.read ∙ read) in
    let p = s.root (λ (e : s.fields.root ≡ _). some (ap (λ (f : BthdFields). f.root) (sym same) ∙ e)) in
    let deep : v.depth ≡ h.depth = p.0 ∙ ap (λ (f : BthdFields). f.depth) same in
    let said : ℕ = told_under v.depth v.root in
    let opened : IsOpened img v.depth (root_pointer h said) (from_key first) v.root = subst (λ (f : BthdFields). IsOpened img v.depth (root_pointer f said) (from_key first) v.root) same p.1 in
    let seen : eval img (node_visit end bytes v.depth h.root h.records) ≡ Ok u = ap (λ (n : ℕ). eval img (node_visit end bytes n h.root h.records)) deep ∙ visited in
    let told = visit_told img end bytes v.depth (root_pointer h said) (from_key first) v.root u opened shaped.shape seen in
    record {
      index = record { shallow = shaped.shallow; sound = told.sound told.under; rises = rises (records v) (ap are_rising told.keys ∙ told.rises); marked = shaped.marked };
      keys = told.keys;
    }
