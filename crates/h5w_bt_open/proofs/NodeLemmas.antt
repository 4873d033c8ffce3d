-- An inner node whose bytes were read, and the header.
use Rattle.std.proofs.Common.{◌≡◌, inl, inr, ℕ, suc, ◌+◌, ◌-◌, ◌<◌, ◌≤◌, ◌^◌, min, Bool, true, false, List, length, map, Option, Some, None, Result, Ok, Err, IfOk, refl, sym, ap, ◌∙◌, arith, is_some, leb-true}
use Rattle.h5w_model.specs.Numbers.{range}
use Rattle.h5w_model.specs.Trees.{BthdFields, BtinFields, ChildFields, bthd_at, bthd_fields, bthd_tests, btin_at, btin_len}
use Rattle.h5w_model.specs.declared.refusal.BlockFault.{BlockFault}
use Rattle.h5w_model.proofs.CheckedLemmas.{checked-passed}
use Rattle.h5w_laws.proofs.LoweringLemmas.{length_range}
use Rattle.h5w_bt.specs.Parts.{record_of}
use Rattle.h5w_bt_nodes.specs.Nodes.{Tree}
use Rattle.h5w_bt_open.specs.declared.span.Span.{Span}
use Rattle.h5w_bt_open.specs.Spans.{high_of, low_of}
use Rattle.h5w_bt_open.specs.Opened.{EachOpened, IsHeld, IsOpened, passed_of}

-- what was read is what stands there
pub node_reads : (img : List ℕ) (d : ℕ) (c : ChildFields) (bytes seen : List ℕ) (n depth : ℕ) (r : Result BtinFields BlockFault) → bytes ≡ range img c.address n → seen ≡ bytes → depth ≡ suc d → n ≡ btin_len c.records depth
    → btin_at seen c.address c.records depth ≡ r → btin_at (range img c.address (btin_len c.records (suc d))) c.address c.records (suc d) ≡ r
node_reads img d c bytes seen n depth r read same deep len e =
    ap (λ k. btin_at (range img c.address (btin_len c.records k)) c.address c.records k) (sym deep) ∙ ap (λ k. btin_at (range img c.address k) c.address c.records depth) (sym len)
    ∙ ap (λ l. btin_at l c.address c.records depth) (sym (same ∙ read)) ∙ e

pub inner_opened : (img : List ℕ) (d : ℕ) (c : ChildFields) (s : Option Span) (v : BtinFields) (t : Tree (suc d)) → btin_at (range img c.address (btin_len c.records (suc d))) c.address c.records (suc d) ≡ Ok v
    → IsHeld (suc d) c t → map record_of t.records ≡ v.records → t.place ≡ c.address → EachOpened (IsOpened img d) (low_of s) (high_of s) t.records v.children t.children → IsOpened img (suc d) c s t
inner_opened img d c s v t reads h records place below = inl (record { fields = v; reads = reads; records = records; children = below; total = h.total; place = place; clean = h.clean })

none_is : (s : Option Span) → is_some s ≡ false → s ≡ None
none_is None h = refl
none_is (Some s) h = let no : true ≡ false = h in absurd cc

pub passed_opened : (img : List ℕ) (d : ℕ) (c : ChildFields) (s : Option Span) (b : Bool) (f : BlockFault) (t : Tree (suc d)) → btin_at (range img c.address (btin_len c.records (suc d))) c.address c.records (suc d) ≡ Err f
    → b ≡ is_some s → b ≡ false → t ≡ passed_of (suc d) c → IsOpened img (suc d) c s t
passed_opened img d c s b f t refused is needless e = inr (record { fault = f; refused = refused; unneeded = none_is s (sym is ∙ needless); is = e })

-- under Ok
pub if_ok_four : {A E : Type 0} (r : Result A E) (P Q R S T : A → Type 0) → ((a : A) → P a → Q a → R a → S a → T a) → IfOk r P → IfOk r Q → IfOk r R → IfOk r S → IfOk r T
if_ok_four (Ok a) P Q R S T up p q x s = up a p q x s
if_ok_four (Err e) P Q R S T up p q x s = tt

-- a header that stands in an image ends within it
pub header_inside : (img : List ℕ) (at : ℕ) (bytes : List ℕ) (h : BthdFields) → bytes ≡ range img at 38 → length img < 2 ^ 64 → bthd_at bytes at ≡ Ok h → at + 38 < 2 ^ 64
header_inside img at bytes h read short e =
    let p = checked-passed (bthd_tests bytes at) (bthd_fields bytes) h e in
    let long : 38 ≤ length bytes = leb-true 38 (length bytes) p.0.0 in
    let l : length bytes ≡ min 38 (length img - at) = ap length read ∙ length_range img at 38 in
    omega (arith, long, l, short)
