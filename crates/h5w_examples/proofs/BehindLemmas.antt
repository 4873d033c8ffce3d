-- What stands behind an index block that names no block, or one data block.
use Rattle.std.proofs.Common.{◌≡◌, ℕ, zero, suc, ◌-◌, Bool, true, false, cond, eqb, List, [], ◌∷◌, get_or, Result, Ok, refl, sym, ap, ◌∙◌}
use Rattle.std.specs.Prelude.{replicate}
use Rattle.h5w_model.specs.Numbers.{range, undefined}
use Rattle.h5w_model.specs.Programs.{ret, stored, eval, visits, Same}
use Rattle.h5w_model.specs.Arrays.{EaibFields, eadb_at, place_of, super_block_of}
use Rattle.h5w_model.specs.Datasets.{Described, then_also, refused_as}
use Rattle.h5w_model.specs.Tables.{InPlace, in_array, in_place, data_block, data_slot, secondary_slot, super_block_of_first, address_behind}
use Rattle.h5w_model.specs.declared.cell.Key.{Key}
use Rattle.h5w_model.specs.declared.cell.Place.{Place}
use Rattle.h5w_model.specs.declared.cell.Place.TheVariants.{Index, Direct, Second}
use Rattle.h5w_model.specs.declared.refusal.ReadError.{ReadError}
use Rattle.h5w_model.specs.declared.refusal.ReadError.TheVariants.{Damaged}
use Rattle.h5w_model.proofs.SlotLemmas.{slot_of}

pub all_undefined : (n k : ℕ) → get_or (replicate n undefined) k undefined ≡ undefined
all_undefined zero k = refl
all_undefined (suc n) zero = refl
all_undefined (suc n) (suc k) = all_undefined n k

no_blocks : (img : List ℕ) (e : EaibFields) (p : Place) → e.first ≡ replicate 6 undefined → e.second ≡ replicate 25 undefined → visits img (slot_of e p) ≡ []
no_blocks img e (Index slot) first second = refl
no_blocks img e (Direct block slot) first second =
    ap (λ a. visits img (data_slot a (super_block_of (super_block_of_first block)).slots slot))
    (ap (λ (xs : List ℕ). get_or xs block undefined) first ∙ all_undefined 6 block)
no_blocks img e (Second sblock block slot) first second =
    ap (λ a. visits img (secondary_slot a sblock block slot)) (ap (λ (xs : List ℕ). get_or xs (sblock - 4) undefined) second ∙ all_undefined 25 (sblock - 4))

abbrev is_in_place : InPlace → Result InPlace ReadError
is_in_place p = Ok p

one_place : (p q : InPlace) → is_in_place p ≡ is_in_place q → q ≡ p
one_place p q h = cc

-- for every chunk that the index can name
pub none_behind : (old new : List ℕ) (d : Described) (e : EaibFields) → eval old (in_place d) ≡ Ok (in_array e) → e.first ≡ replicate 6 undefined → e.second ≡ replicate 25 undefined
    → (p : InPlace) (key : Key) → eval old (in_place d) ≡ Ok p → Same old new (visits old (address_behind p key))
none_behind old new d e found first second p key h = rw (here, no_blocks old e (place_of (key.i)) first second) tt
  where
    here : p ≡ in_array e
    here = one_place (in_array e) p (sym found ∙ h)

-- ---- One data block

-- the block of 16 slots at this address is the same in both images
data_block_same : (old new : List ℕ) (address slot : ℕ) → range new address 150 ≡ range old address 150 → Same old new (visits old (data_slot address 16 slot))
data_block_same old new address slot same = go (eqb address undefined)
  where
    go : (t : Bool) → Same old new (visits old (cond t (ret (Ok undefined)) (stored data_block address 150 (λ b. ret (then_also (refused_as (Damaged address) (eadb_at b address 16)) (λ d. Ok (get_or d.slots slot undefined)))))))
    go true = tt
    go false = (same, tt)

one_block : (old new : List ℕ) (e : EaibFields) (address : ℕ) (p : Place) → e.first ≡ address ∷ replicate 5 undefined → e.second ≡ replicate 25 undefined
    → range new address 150 ≡ range old address 150 → Same old new (visits old (slot_of e p))
one_block old new e address (Index slot) first second same = tt
one_block old new e address (Direct zero slot) first second same =
    rw (ap (λ (xs : List ℕ). get_or xs zero undefined) first) (data_block_same old new address slot same)
one_block old new e address (Direct (suc block) slot) first second same =
    rw (ap (λ (xs : List ℕ). get_or xs (suc block) undefined) first ∙ all_undefined 5 block) tt
one_block old new e address (Second sblock block slot) first second same =
    rw (ap (λ (xs : List ℕ). get_or xs (sblock - 4) undefined) second ∙ all_undefined 25 (sblock - 4)) tt

-- for every chunk that the index can name
pub block_behind : (old new : List ℕ) (d : Described) (e : EaibFields) (address : ℕ) → eval old (in_place d) ≡ Ok (in_array e)
    → e.first ≡ address ∷ replicate 5 undefined → e.second ≡ replicate 25 undefined → range new address 150 ≡ range old address 150
    → (p : InPlace) (key : Key) → eval old (in_place d) ≡ Ok p → Same old new (visits old (address_behind p key))
block_behind old new d e address found first second same p key h = rw here (one_block old new e address (place_of (key.i)) first second same)
  where
    here : p ≡ in_array e
    here = one_place (in_array e) p (sym found ∙ h)
