-- What a tree that was opened finds is what a lookup finds on its image.
use Rattle.std.proofs.Common.{◌≡◌, inl, inr, ℕ, zero, suc, ◌+◌, List, [], ◌∷◌, length, map, Option, Some, None, Result, Ok, Err, refl, sym, ap, subst, ◌∙◌, arith, if◌then◌else◌, slice_get}
use Rattle.std.proofs.lemmas.Bool.{cond-false, cond-true}
use Rattle.std.specs.Option.{unwrap_or}
use Rattle.std.specs.List.{All}
use Rattle.std.proofs.lemmas.List.Elements.{All-head, All-tail}
use Rattle.h5w_model.specs.Numbers.{range, undefined}
use Rattle.h5w_model.specs.Programs.{Prog, eval, ret}
use Rattle.h5w_model.specs.Datasets.{refused_as}
use Rattle.h5w_model.specs.Trees.{BtinFields, ChildFields, RecordFields, btin_at, btin_len, btlf_at, btlf_len, capacity_of}
use Rattle.h5w_model.specs.Tables.{in_leaf, in_node, key_below, key_equal}
use Rattle.h5w_model.specs.declared.cell.Key.{Key}
use Rattle.h5w_model.specs.declared.refusal.BlockFault.{BlockFault}
use Rattle.h5w_model.specs.declared.refusal.ReadError.{ReadError}
use Rattle.h5w_model.specs.declared.refusal.ReadError.TheVariants.{Damaged}
use Rattle.h5w_laws.proofs.ResultLemmas.{then_from}
use Rattle.h5w_laws.proofs.SlotLemmas.{refused_from}
use Rattle.h5w_bt.specs.declared.records.Record.{Record}
use Rattle.h5w_bt.specs.Parts.{record_of}
use Rattle.h5w_bt.proofs.KeyLemmas.{above-from}
use Rattle.h5w_bt_nodes.specs.Nodes.{Tree, address_in, found, rank}
use Rattle.h5w_bt_nodes.specs.Shapes.{IsShape, IsShapedChild}
use Rattle.h5w_bt_index.proofs.Laws.{in_leaf-is}
use Rattle.h5w_bt_nodes.proofs.Records.{here, in-here, in-past, in-under, past, rank-not_under, rank-under, side, under}
use Rattle.h5w_bt_open.specs.declared.span.Span.{Span}
use Rattle.h5w_bt_open.specs.Spans.{IsKey, Leads, after, before, high_of, low_of, span_of}
use Rattle.h5w_bt_open.specs.Opened.{EachOpened, IsOpened, going, looked_below, looked_up}
use Rattle.h5w_bt_open.proofs.SpanLemmas.{IsBetween, between_leads, from_after, of_span, up_before}

-- ---- The way in a tree, record by record

abbrev pub walk : (d : ℕ) → Key → List Record → List (Tree d) → Option ℕ
walk d key rs [] = None
walk d key [] (t ∷ ts) = found d key t
walk d key (r ∷ rs) (t ∷ ts) = if key_below r.key key then walk d key rs ts else if key_equal r.key key then Some r.address else found d key t

abbrev by_rank : (d : ℕ) → Key → ℕ → Option ℕ → List (Tree d) → Option ℕ
by_rank d key n o ts = elim o as (λ q. Option ℕ) [
  | Some address ↦ Some address
  | None ↦ elim (slice_get ts n) as (λ q. Option ℕ) [ None ↦ None | Some c ↦ found d key c ]
]

found_walk : (d : ℕ) (key : Key) (rs : List Record) (ts : List (Tree d)) → length ts ≡ length rs + 1 → by_rank d key (rank key rs) (address_in key rs) ts ≡ walk d key rs ts
found_walk d key rs [] n = absurd (omega arith)
found_walk d key [] (t ∷ ts) n = refl
found_walk d key (r ∷ rs) (t ∷ ts) n = elim (side r.key key) [
  | under u ↦
      ap (λ (k : ℕ). by_rank d key k (address_in key (r ∷ rs)) (t ∷ ts)) (rank-under key r rs u)
      ∙ ap (λ (o : Option ℕ). by_rank d key (suc (rank key rs)) o (t ∷ ts)) (in-under key r rs u)
      ∙ found_walk d key rs ts (omega (arith, n)) ∙ sym (cond-true (key_below r.key key) _ _ u)
  | here u f ↦
      ap (λ (o : Option ℕ). by_rank d key (rank key (r ∷ rs)) o (t ∷ ts)) (in-here key r rs u f)
      ∙ sym (cond-false (key_below r.key key) _ _ u ∙ cond-true (key_equal r.key key) _ _ f)
  | past u f ↦
      ap (λ (k : ℕ). by_rank d key k (address_in key (r ∷ rs)) (t ∷ ts)) (rank-not_under key r rs u)
      ∙ ap (λ (o : Option ℕ). by_rank d key 0 o (t ∷ ts)) (in-past key r rs u f)
      ∙ sym (cond-false (key_below r.key key) _ _ u ∙ cond-false (key_equal r.key key) _ _ f)
]

abbrev pub or_none : Option ℕ → ℕ
or_none o = unwrap_or o undefined

abbrev pub address_ok : ℕ → Result ℕ ReadError
address_ok a = Ok a

-- ---- On the image

-- below a node whose children give what the trees find, a lookup gives what the way finds
module _ (img : List ℕ) (d : ℕ) (high : Option Key) (key : Key) (fits : IsKey key)
    (R : ChildFields → Option Span → Tree d → Type 0) (gives : (c : ChildFields) (s : Option Span) (t : Tree d) → R c s t → IsShape d (capacity_of d) t → Leads s key → looked_up img d c key ≡ Ok (or_none (found d key t))) where
  pub below_gives : (low : Option Key) (rs : List Record) (cs : List ChildFields) (ts : List (Tree d)) → EachOpened R low high rs cs ts → All (IsShapedChild d) ts → IsBetween low high key
      → looked_below img d (map record_of rs) cs key ≡ Ok (or_none (walk d key rs ts))
  below_gives low rs [] [] e all b = refl
  below_gives low rs [] (t ∷ ts) e all b = absurd e
  below_gives low rs (c ∷ cs) [] e all b = absurd e
  below_gives low [] (c ∷ cs) (t ∷ ts) e all b = gives c (span_of low high) t e.0 (All-head (IsShapedChild d) t ts all).0 (between_leads low high key b)
  below_gives low (r ∷ rs) (c ∷ cs) (t ∷ ts) e all b = elim (side r.key key) [
    | under u ↦
        ap (eval img) (cond-true (key_below r.key key) _ _ u)
        ∙ below_gives (after low r.key) rs cs ts e.1 (All-tail (IsShapedChild d) t ts all) (record { low = from_after low r.key key fits b.low u; high = b.high })
        ∙ ap (λ (o : Option ℕ). address_ok (or_none o)) (sym (cond-true (key_below r.key key) _ _ u))
    | here u f ↦
        ap (eval img) (cond-false (key_below r.key key) _ _ u ∙ cond-true (key_equal r.key key) _ _ f)
        ∙ ap (λ (o : Option ℕ). address_ok (or_none o)) (sym (cond-false (key_below r.key key) _ _ u ∙ cond-true (key_equal r.key key) _ _ f))
    | past u f ↦
        ap (eval img) (cond-false (key_below r.key key) _ _ u ∙ cond-false (key_equal r.key key) _ _ f)
        ∙ gives c (span_of low (before high r.key)) t e.0 (All-head (IsShapedChild d) t ts all).0
        (between_leads low (before high r.key) key (record { low = b.low; high = up_before high r.key key b.high (above-from r.key key u f) }))
        ∙ ap (λ (o : Option ℕ). address_ok (or_none o)) (sym (cond-false (key_below r.key key) _ _ u ∙ cond-false (key_equal r.key key) _ _ f))
  ]

-- a lookup behind a pointer to a node is one below that node
pub node_lookup : (img : List ℕ) (d : ℕ) (c : ChildFields) (v : BtinFields) (key : Key) → btin_at (range img c.address (btin_len c.records (suc d))) c.address c.records (suc d) ≡ Ok v
    → looked_up img (suc d) c key ≡ looked_below img d v.records v.children key
node_lookup img d c v key e = go (btin_at (range img c.address (btin_len c.records (suc d))) c.address c.records (suc d)) e
  where
    go : (r : Result BtinFields BlockFault) → r ≡ Ok v
        → eval img (elim r as (λ _. Prog (Result ℕ ReadError)) [ Ok t ↦ in_node (going d key) key t.records t.children | Err f ↦ ret (Err (Damaged c.address f)) ]) ≡ looked_below img d v.records v.children key
    go r e = ap (λ (x : Result BtinFields BlockFault). eval img (elim x as (λ _. Prog (Result ℕ ReadError)) [ Ok t ↦ in_node (going d key) key t.records t.children | Err f ↦ ret (Err (Damaged c.address f)) ])) e

pub opened_gives : (img : List ℕ) (d : ℕ) (c : ChildFields) (s : Option Span) (t : Tree d) (key : Key) → IsKey key → IsOpened img d c s t → IsShape d (capacity_of d) t → Leads s key → looked_up img d c key ≡ Ok (or_none (found d key t))
opened_gives img zero c s t key fits (inl leaf) shape h =
    let r = btlf_at (range img c.address (btlf_len c.records)) c.address c.records in
    then_from (refused_as (Damaged c.address) r) (λ (rs : List RecordFields). address_ok (in_leaf key rs)) (map record_of t.records) (or_none (address_in key t.records))
    (refused_from (Damaged c.address) r (map record_of t.records) leaf.records) (ap address_ok (in_leaf-is key t.records))
opened_gives img zero c s t key fits (inr passed) shape h = absurd (subst (λ (o : Option Span). Leads o key) passed.unneeded h)
opened_gives img (suc d) c s t key fits (inl inner) shape h =
    node_lookup img d c inner.fields key inner.reads
    ∙ ap (λ (l : List RecordFields). looked_below img d l inner.fields.children key) (sym inner.records)
    ∙ below_gives img d (high_of s) key fits (IsOpened img d) (λ b p u is low led. opened_gives img d b p u key fits is low led) (low_of s) t.records inner.fields.children t.children inner.children shape.each (of_span s key h)
    ∙ ap (λ (o : Option ℕ). address_ok (or_none o)) (sym (found_walk d key t.records t.children shape.children))
opened_gives img (suc d) c s t key fits (inr passed) shape h = absurd (subst (λ (o : Option Span). Leads o key) passed.unneeded h)
