-- What a lookup finds from the header on.
use Rattle.std.proofs.Common.{◌≡◌, inl, inr, ℕ, List, Result, Ok, Err, refl, sym, ap, subst, ◌∙◌, ◌==◌, if◌then◌else◌, eqb, eq-eqb}
use Rattle.std.proofs.lemmas.Bool.{cases_eq, cond-false, cond-true, false_from_ne_true, eqb-true}
use Rattle.h5w_model.specs.Numbers.{range, undefined}
use Rattle.h5w_model.specs.Programs.{eval}
use Rattle.h5w_model.specs.Datasets.{refused_as, then_also}
use Rattle.h5w_model.specs.Trees.{BthdFields, bthd_at, bthd_len}
use Rattle.h5w_model.specs.Tables.{InPlace, address_behind, in_tree, nowhere, tree_in_place}
use Rattle.h5w_model.specs.declared.cell.Key.{Key}
use Rattle.h5w_model.specs.declared.refusal.BlockFault.{BlockFault}
use Rattle.h5w_model.specs.declared.refusal.ReadError.{ReadError}
use Rattle.h5w_model.specs.declared.refusal.ReadError.TheVariants.{Damaged}
use Rattle.h5w_laws.proofs.ProgramLemmas.{eval_and_then}
use Rattle.h5w_bt_index.specs.Index.{Index, found_address, no_tree}
use Rattle.h5w_bt_open.specs.Spans.{IsKey, Leads}
use Rattle.h5w_bt_open.specs.Opened.{IsOpened, IsRefused, IsStanding, from_key, looked_in, looked_up, root_pointer, told_under}
use Rattle.h5w_bt_open.specs.OpenedLaws.{OpenedFinds}
use Rattle.h5w_bt_open.proofs.FindLemmas.{address_ok, opened_gives}
use Rattle.h5w_bt_open.proofs.RefusedLemmas.{refused_as_well, refused_first}

abbrev named : BthdFields → Result InPlace ReadError
named t = Ok (if t.root == undefined then nowhere else in_tree t)

abbrev behind : List ℕ → Key → InPlace → Result ℕ ReadError
behind img key p = eval img (address_behind p key)

by_header : (img : List ℕ) (header : ℕ) (key : Key) (r : Result BthdFields BlockFault) → bthd_at (range img header bthd_len) header ≡ r
    → looked_in img header key ≡ then_also (then_also (refused_as (Damaged header) r) named) (behind img key)
by_header img header key r e =
    eval_and_then img (tree_in_place header) (λ (p : InPlace). address_behind p key)
    ∙ ap (λ (x : Result BthdFields BlockFault). then_also (then_also (refused_as (Damaged header) x) named) (behind img key)) e

pub header_refused : (img : List ℕ) (header : ℕ) (f : BlockFault) (key : Key) → bthd_at (range img header bthd_len) header ≡ Err f → looked_in img header key ≡ Err (Damaged header f)
header_refused img header f key e = by_header img header key (Err f) e

pub no_root : (img : List ℕ) (header : ℕ) (h : BthdFields) (key : Key) → bthd_at (range img header bthd_len) header ≡ Ok h → h.root ≡ undefined → looked_in img header key ≡ Ok undefined
no_root img header h key e none =
    by_header img header key (Ok h) e ∙ ap (behind img key) (cond-true (eqb h.root undefined) nowhere (in_tree h) (eq-eqb h.root undefined none))

pub root_lookup : (img : List ℕ) (header : ℕ) (h : BthdFields) (key : Key) → bthd_at (range img header bthd_len) header ≡ Ok h → (h.root ≡ undefined → ⊥) → looked_in img header key ≡ looked_up img h.depth (root_pointer h h.total) key
root_lookup img header h key e some =
    by_header img header key (Ok h) e
    ∙ ap (behind img key) (cond-false (eqb h.root undefined) nowhere (in_tree h) (false_from_ne_true (eqb h.root undefined) (λ t. some (eqb-true h.root undefined t))))

-- ---- Refusals

pub top_refused : (img : List ℕ) (header : ℕ) (first : Key) (a : ℕ) (f : BlockFault) → IsKey first → (a ≡ header) × (bthd_at (range img header bthd_len) header ≡ Err f) → IsRefused (looked_in img header) (Leads (from_key first)) a f
top_refused img header first a f fits h =
    subst (λ q. IsRefused (looked_in img header) (Leads (from_key first)) q f) (sym h.0)
    (refused_first (looked_in img header) (from_key first) header f (record { fits = fits; some = tt }) refl (λ k. header_refused img header f k h.1))

pub root_refused : (img : List ℕ) (header : ℕ) (first : Key) (h : BthdFields) (a : ℕ) (f : BlockFault) → bthd_at (range img header bthd_len) header ≡ Ok h → (h.root ≡ undefined → ⊥)
    → IsRefused (looked_up img h.depth (root_pointer h h.total)) (Leads (from_key first)) a f → IsRefused (looked_in img header) (Leads (from_key first)) a f
root_refused img header first h a f e some r =
    refused_as_well (looked_up img h.depth (root_pointer h h.total)) (looked_in img header) (Leads (from_key first)) (Leads (from_key first)) a f (λ k. root_lookup img header h k e some) (λ k l. l) (λ k l. l) r

-- ---- What is found

pub opened_finds : OpenedFinds
opened_finds img header first v key s shaped fits h = elim (cases_eq s.fields.root undefined) [
  | inl e ↦ no_root img header s.fields key s.read e ∙ ap (λ (u : Index). address_ok (found_address u key)) (sym (s.none e))
  | inr e ↦ (let p = s.root e in
      root_lookup img header s.fields key s.read e ∙ ap (λ (n : ℕ). looked_up img n (root_pointer s.fields s.fields.total) key) (sym p.0)
      ∙ opened_gives img v.depth (root_pointer s.fields (told_under v.depth v.root)) (from_key first) v.root key fits p.1 shaped.shape (h, tt))
]

pub stands_empty : (img : List ℕ) (header : ℕ) (first : Key) (h : BthdFields) (v : Index) → bthd_at (range img header bthd_len) header ≡ Ok h → h.root ≡ undefined → v ≡ no_tree → IsStanding img header first v
stands_empty img header first h v e none is = record { fields = h; read = e; none = λ u. is; root = λ no. absurd (no none) }

pub stands_root : (img : List ℕ) (header : ℕ) (first : Key) (h : BthdFields) (v : Index) → bthd_at (range img header bthd_len) header ≡ Ok h → (h.root ≡ undefined → ⊥) → v.depth ≡ h.depth
    → IsOpened img v.depth (root_pointer h (told_under v.depth v.root)) (from_key first) v.root → IsStanding img header first v
stands_root img header first h v e some deep o = record { fields = h; read = e; none = λ u. absurd (some u); root = λ no. (deep, o) }
