-- A tree in which a check finds nothing is kept.
use Rattle.std.proofs.Common.{◌≡◌, inl, inr, ℕ, ◌<◌, ◌^◌, false, eqb, List, length, Ok, sym, subst, arith}
use Rattle.std.proofs.lemmas.Bool.{cases_eq, eqb-true, false_from_ne_true}
use Rattle.h5w_model.specs.Numbers.{undefined}
use Rattle.h5w_model.specs.Programs.{eval}
use Rattle.h5w_model.specs.Trees.{BthdFields}
use Rattle.h5w_model.specs.Findings.{Used, tree_visit}
use Rattle.h5w_model.specs.declared.cell.Key.{Key}
use Rattle.h5w_bt_index.specs.Index.{Index, IsIndex, IsShaped, no_tree}
use Rattle.h5w_bt_open.specs.Opened.{IsStanding}
use Rattle.h5w_bt_open.proofs.VisitLemmas.{opened_is_index}
use Rattle.h5w_tree_open_laws.specs.OpenedTrees.{OpenedIsKept}
use Rattle.h5w_tree_open_laws.proofs.PointerLemmas.{tree_visits}

no_tree_is : IsIndex no_tree
no_tree_is = record { shallow = omega arith; sound = omega arith; rises = tt; marked = tt }

some_index : (img : List ℕ) (header end bytes : ℕ) (first : Key) (v : Index) (us : List Used) (s : IsStanding img header first v) → IsShaped v → eval img (tree_visit end bytes header) ≡ Ok us → (s.fields.root ≡ undefined → ⊥) → IsIndex v
some_index img header end bytes first v us s shaped visited some =
    let f : BthdFields = s.fields in
    let named : eqb f.root undefined ≡ false = false_from_ne_true (eqb f.root undefined) (λ t. some (eqb-true f.root undefined t)) in
    let visit = tree_visits img end bytes header f us s.read named visited in
    (opened_is_index img header end bytes first v f visit.0 s shaped s.read some visit.1).index

pub opened_is_kept : OpenedIsKept
opened_is_kept img header end bytes first v us s short shaped visited =
    let index : IsIndex v = elim (cases_eq s.fields.root undefined) [
      | inl e ↦ subst (λ (w : Index). IsIndex w) (sym (s.none e)) no_tree_is
      | inr e ↦ some_index img header end bytes first v us s shaped visited e
    ] in
    record { short = short; standing = s; kept = index }
