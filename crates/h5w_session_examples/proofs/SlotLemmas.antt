-- An index block that names no block answers by its own slots.
use Rattle.std.proofs.Common.{◌≡◌, ◌⊎◌, ℕ, ◌+◌, ◌-◌, ◌<◌, ◌≤◌, Bool, true, false, List, length, get_or, Ok, sym, ◌∙◌, ap, inl, inr, arith}
use Rattle.std.specs.Prelude.{nat_lt, if◌then◌else◌, replicate}
use Rattle.std.proofs.lemmas.Bool.{cases_lt, lt-ltb, le-ltb, cond-true, cond-false}
use Rattle.std.proofs.lemmas.List.{get_or_past}
use Rattle.h5w_model.specs.Numbers.{undefined}
use Rattle.h5w_model.specs.Programs.{eval}
use Rattle.h5w_model.specs.Arrays.{EaibFields, SlotPlace, blocks_before, place_of, named_place, slot_place_of, super_block_of}
use Rattle.h5w_model.specs.Tables.{array_slot, data_slot, secondary_slot, super_block_of_first}
use Rattle.h5w_model.specs.declared.cell.Place.TheVariants.{Index, Direct, Second}
use Rattle.h5w_model.proofs.SlotLemmas.{slot_of}
use Rattle.h5w_examples.proofs.BehindLemmas.{all_undefined}

direct_none : (img : List ℕ) (e : EaibFields) (block slot : ℕ) → e.first ≡ replicate 6 undefined → eval img (slot_of e (Direct block slot)) ≡ Ok undefined
direct_none img e block slot first =
    ap (λ a. eval img (data_slot a (super_block_of (super_block_of_first block)).slots slot)) (ap (λ (xs : List ℕ). get_or xs block undefined) first ∙ all_undefined 6 block)

second_none : (img : List ℕ) (e : EaibFields) (sblock block slot : ℕ) → e.second ≡ replicate 25 undefined → eval img (slot_of e (Second sblock block slot)) ≡ Ok undefined
second_none img e sblock block slot second =
    ap (λ a. eval img (secondary_slot a sblock block slot)) (ap (λ (xs : List ℕ). get_or xs (sblock - 4) undefined) second ∙ all_undefined 25 (sblock - 4))

named_none : (img : List ℕ) (e : EaibFields) (p : SlotPlace) → e.first ≡ replicate 6 undefined → e.second ≡ replicate 25 undefined → eval img (slot_of e (named_place p)) ≡ Ok undefined
named_none img e p first second = go (nat_lt p.sblock 4)
  where
    go : (b : Bool) → eval img (slot_of e (if b then Direct (blocks_before p.sblock + p.block) p.slot else Second p.sblock p.block p.slot)) ≡ Ok undefined
    go true = direct_none img e (blocks_before p.sblock + p.block) p.slot first
    go false = second_none img e p.sblock p.block p.slot second

-- each chunk's address is that of its slot in the index block, where that names no block
pub slot_here : (img : List ℕ) (e : EaibFields) (i : ℕ) → e.first ≡ replicate 6 undefined → e.second ≡ replicate 25 undefined → length e.slots ≡ 4 → eval img (array_slot e i) ≡ Ok (get_or e.slots i undefined)
slot_here img e i first second four = go (cases_lt i 4)
  where
    go : (i < 4) ⊎ (4 ≤ i) → eval img (slot_of e (place_of i)) ≡ Ok (get_or e.slots i undefined)
    go (inl low) = ap (λ p. eval img (slot_of e p)) (cond-true (nat_lt i 4) (Index i) (named_place (slot_place_of (i - 4))) (lt-ltb i 4 low))
    go (inr high) =
        ap (λ p. eval img (slot_of e p)) (cond-false (nat_lt i 4) (Index i) (named_place (slot_place_of (i - 4))) (le-ltb i 4 high))
        ∙ named_none img e (slot_place_of (i - 4)) first second
        ∙ ap Ok (sym (get_or_past e.slots i undefined (omega (arith, four, high))))
