-- The least key whose lookup is refused: at a node, and below one.
use Rattle.std.proofs.Common.{◌≡◌, ℕ, zero, suc, Bool, true, false, List, [], ◌∷◌, map, Option, Some, None, IfSome, Result, Ok, Err, refl, sym, ap, subst, ◌∙◌, is_some}
use Rattle.std.proofs.lemmas.Bool.{both_ways, cond-false, cond-true}
use Rattle.h5w_model.specs.Numbers.{range, undefined}
use Rattle.h5w_model.specs.Programs.{Prog, eval, ret}
use Rattle.h5w_model.specs.Datasets.{refused_as, then_also}
use Rattle.h5w_model.specs.Trees.{BtinFields, ChildFields, RecordFields, btin_at, btin_len, btlf_at, btlf_len}
use Rattle.h5w_model.specs.Tables.{in_leaf, in_node, key_below, key_equal}
use Rattle.h5w_model.specs.declared.cell.Key.{Key}
use Rattle.h5w_model.specs.declared.refusal.BlockFault.{BlockFault}
use Rattle.h5w_model.specs.declared.refusal.ReadError.{ReadError}
use Rattle.h5w_model.specs.declared.refusal.ReadError.TheVariants.{Damaged}
use Rattle.h5w_bt.specs.declared.records.Record.{Record}
use Rattle.h5w_bt.specs.Parts.{record_of}
use Rattle.h5w_bt.proofs.KeyLemmas.{below-trans, below-not_back, below-not_self, above-not_equal, above-from}
use Rattle.h5w_bt_nodes.proofs.Records.{here, past, side, under}
use Rattle.h5w_bt_open.specs.declared.span.Span.{Span}
use Rattle.h5w_bt_open.specs.Spans.{IsKey, IsProper, Leads, after, before, low_behind, rest, span_here, span_of}
use Rattle.h5w_bt_open.specs.Opened.{IsRefused, going, looked_below, looked_up}
use Rattle.h5w_bt_open.proofs.SpanLemmas.{IsBetween, after_from, before_up, between_leads, from_after, leads_between, up_before}

-- by other words for what is asked, and which keys lead there
pub refused_as_well : (ask seek : Key → Result ℕ ReadError) (P Q : Key → Type 0) (at : ℕ) (f : BlockFault) → ((k : Key) → seek k ≡ ask k) → ((k : Key) → P k → Q k) → ((k : Key) → Q k → P k)
    → IsRefused ask P at f → IsRefused seek Q at f
refused_as_well ask seek P Q at f same to from r = record {
  key = r.key;
  fits = r.fits;
  led = to r.key r.led;
  is = same r.key ∙ r.is;
  before = λ k fits led b. let g = r.before k fits (from k led) b in (g.0, same k ∙ g.1);
}

-- ---- A node that is refused itself

pub leaf_refused : (img : List ℕ) (c : ChildFields) (key : Key) (f : BlockFault) → btlf_at (range img c.address (btlf_len c.records)) c.address c.records ≡ Err f → looked_up img zero c key ≡ Err (Damaged c.address f)
leaf_refused img c key f e = ap (λ (r : Result (List RecordFields) BlockFault). then_also (refused_as (Damaged c.address) r) (λ (rs : List RecordFields). Ok (in_leaf key rs))) e

pub node_refused : (img : List ℕ) (d : ℕ) (c : ChildFields) (key : Key) (f : BlockFault) → btin_at (range img c.address (btin_len c.records (suc d))) c.address c.records (suc d) ≡ Err f → looked_up img (suc d) c key ≡ Err (Damaged c.address f)
node_refused img d c key f e =
    ap (λ (x : Result BtinFields BlockFault). eval img (elim x as (λ _. Prog (Result ℕ ReadError)) [ Ok t ↦ in_node (going d key) key t.records t.children | Err g ↦ ret (Err (Damaged c.address g)) ])) e

-- it is refused for each key, so for the first that leads there
pub refused_first : (ask : Key → Result ℕ ReadError) (s : Option Span) (at : ℕ) (f : BlockFault) → IfSome s IsProper → is_some s ≡ true → ((k : Key) → ask k ≡ Err (Damaged at f)) → IsRefused ask (Leads s) at f
refused_first ask None at f proper h e = let no : false ≡ true = h in absurd cc
refused_first ask (Some s) at f proper h e = record {
  key = s.from;
  fits = proper.fits;
  led = (self s.from, proper.some);
  is = e s.from;
  before = λ k fits led b. absurd (both_ways (key_below k s.from) led.0 b);
}
  where
    self : (k : Key) → key_below k k ≡ false
    self k = below-not_self k

-- ---- Below a node

module _ (img : List ℕ) (d : ℕ) (low high : Option Key) (r : Record) (rs : List Record) (c : ChildFields) (cs : List ChildFields) where
  abbrev ask : Key → Result ℕ ReadError
  ask key = looked_below img d (map record_of (r ∷ rs)) (c ∷ cs) key

  asks_on : (key : Key) → key_below r.key key ≡ true → ask key ≡ looked_below img d (map record_of rs) cs key
  asks_on key u = ap (eval img) (cond-true (key_below r.key key) _ _ u)

  asks_here : (key : Key) → key_below r.key key ≡ false → key_equal r.key key ≡ false → ask key ≡ looked_up img d c key
  asks_here key u f = ap (eval img) (cond-false (key_below r.key key) _ _ u ∙ cond-false (key_equal r.key key) _ _ f)

  asks_own : (key : Key) → key_below r.key key ≡ false → key_equal r.key key ≡ true → ask key ≡ Ok r.address
  asks_own key u f = ap (eval img) (cond-false (key_below r.key key) _ _ u ∙ cond-true (key_equal r.key key) _ _ f)

  -- the child before the first record
  pub refused_here : (at : ℕ) (f : BlockFault) → IsRefused (looked_up img d c) (Leads (span_of low (before high r.key))) at f → IsRefused ask (IsBetween low high) at f
  refused_here at f q =
      let b : IsBetween low (before high r.key) q.key = leads_between low (before high r.key) q.key q.led in
      let p = before_up high r.key q.key b.high in
      let under_it : key_below q.key r.key ≡ true = p.1 in
      record {
        key = q.key;
        fits = q.fits;
        led = record { low = b.low; high = p.0 };
        is = asks_here q.key (below-not_back q.key r.key under_it) (above-not_equal q.key r.key under_it) ∙ q.is;
        before = λ k fits led less.
            let low_too : key_below k r.key ≡ true = below-trans k q.key r.key less under_it in
            let g = q.before k fits (between_leads low (before high r.key) k (record { low = led.low; high = up_before high r.key k led.high low_too })) less in
            (g.0, asks_here k (below-not_back k r.key low_too) (above-not_equal k r.key low_too) ∙ g.1);
      }

  -- behind it
  pub refused_on : (at : ℕ) (f : BlockFault) → ((k : Key) → IsKey k → Leads (span_of low (before high r.key)) k → (a : ℕ) × (looked_up img d c k ≡ Ok a))
      → IsRefused (looked_below img d (map record_of rs) cs) (IsBetween (after low r.key) high) at f → IsRefused ask (IsBetween low high) at f
  refused_on at f good q =
      let p = after_from low r.key q.key q.led.low in
      record {
        key = q.key;
        fits = q.fits;
        led = record { low = p.0; high = q.led.high };
        is = asks_on q.key p.1 ∙ q.is;
        before = λ k fits led less. elim (side r.key k) [
          | under u ↦ (let g = q.before k fits (record { low = from_after low r.key k fits led.low u; high = led.high }) less in (g.0, asks_on k u ∙ g.1))
          | here u e ↦ (r.address, asks_own k u e)
          | past u e ↦ (let g = good k fits (between_leads low (before high r.key) k (record { low = led.low; high = up_before high r.key k led.high (above-from r.key k u e) })) in
              (g.0, asks_here k u e ∙ g.1))
        ];
      }

-- the last child
pub refused_last : (img : List ℕ) (d : ℕ) (low high : Option Key) (c : ChildFields) (cs : List ChildFields) (at : ℕ) (f : BlockFault) → IsRefused (looked_up img d c) (Leads (span_of low high)) at f
    → IsRefused (looked_below img d [] (c ∷ cs)) (IsBetween low high) at f
refused_last img d low high c cs at f q =
    refused_as_well (looked_up img d c) (looked_below img d [] (c ∷ cs)) (Leads (span_of low high)) (IsBetween low high) at f (λ k. refl) (leads_between low high) (between_leads low high) q

-- a child, whichever
pub refused_child : (img : List ℕ) (d : ℕ) (low high : Option Key) (rs : List Record) (c : ChildFields) (cs : List ChildFields) (at : ℕ) (f : BlockFault) → IsRefused (looked_up img d c) (Leads (span_here low high rs)) at f
    → IsRefused (looked_below img d (map record_of rs) (c ∷ cs)) (IsBetween low high) at f
refused_child img d low high [] c cs at f q = refused_last img d low high c cs at f q
refused_child img d low high (r ∷ rs) c cs at f q = refused_here img d low high r rs c cs at f q

-- one behind it: a last child has none
pub refused_behind : (img : List ℕ) (d : ℕ) (low high : Option Key) (rs : List Record) (c : ChildFields) (cs : List ChildFields) (at : ℕ) (f : BlockFault)
    → ((k : Key) → IsKey k → Leads (span_here low high rs) k → (a : ℕ) × (looked_up img d c k ≡ Ok a)) → (rs ≡ [] → cs ≡ [])
    → IsRefused (looked_below img d (map record_of (rest rs)) cs) (IsBetween (low_behind low rs) high) at f → IsRefused (looked_below img d (map record_of rs) (c ∷ cs)) (IsBetween low high) at f
refused_behind img d low high [] c cs at f good last q =
    let e : cs ≡ [] = last refl in
    let no : Ok undefined ≡ Err (Damaged at f) = sym (ap (λ l. looked_below img d [] l q.key) e) ∙ q.is in
    absurd cc
refused_behind img d low high (r ∷ rs) c cs at f good last q = refused_on img d low high r rs c cs at f good q

-- ---- A node whose bytes were read

pub leaf_first : (img : List ℕ) (c : ChildFields) (s : Option Span) (bytes : List ℕ) (n a : ℕ) (b : Bool) (f : BlockFault) → bytes ≡ range img c.address n → n ≡ btlf_len c.records → IfSome s IsProper → b ≡ is_some s
    → (a ≡ c.address) × ((btlf_at bytes c.address c.records ≡ Err f) × (b ≡ true)) → IsRefused (looked_up img zero c) (Leads s) a f
leaf_first img c s bytes n a b f read len proper is h =
    let e : btlf_at (range img c.address (btlf_len c.records)) c.address c.records ≡ Err f = ap (λ k. btlf_at (range img c.address k) c.address c.records) (sym len) ∙ ap (λ l. btlf_at l c.address c.records) (sym read) ∙ h.1.0 in
    subst (λ q. IsRefused (looked_up img zero c) (Leads s) q f) (sym h.0) (refused_first (looked_up img zero c) s c.address f proper (sym is ∙ h.1.1) (λ k. leaf_refused img c k f e))

pub node_first : (img : List ℕ) (d : ℕ) (c : ChildFields) (s : Option Span) (bytes : List ℕ) (n a depth : ℕ) (b : Bool) (f : BlockFault) → bytes ≡ range img c.address n → depth ≡ suc d → n ≡ btin_len c.records depth → IfSome s IsProper → b ≡ is_some s
    → (a ≡ c.address) × ((btin_at bytes c.address c.records depth ≡ Err f) × (b ≡ true)) → IsRefused (looked_up img (suc d) c) (Leads s) a f
node_first img d c s bytes n a depth b f read deep len proper is h =
    let e : btin_at (range img c.address (btin_len c.records (suc d))) c.address c.records (suc d) ≡ Err f = ap (λ k. btin_at (range img c.address (btin_len c.records k)) c.address c.records k) (sym deep)
    ∙ ap (λ k. btin_at (range img c.address k) c.address c.records depth) (sym len) ∙ ap (λ l. btin_at l c.address c.records depth) (sym read) ∙ h.1.0 in
    subst (λ q. IsRefused (looked_up img (suc d) c) (Leads s) q f) (sym h.0) (refused_first (looked_up img (suc d) c) s c.address f proper (sym is ∙ h.1.1) (λ k. node_refused img d c k f e))
