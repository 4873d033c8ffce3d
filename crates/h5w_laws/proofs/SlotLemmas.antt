-- The array slot, as a program and as a relation.
use Rattle.std.proofs.Common.{◌≡◌, ◌≢◌, ◌⊎◌, ℕ, ◌-◌, Bool, true, false, cond, List, get_or, Result, Ok, Err, refl, sym, ◌∙◌, ap, subst, inl, inr, eqb}
use Rattle.std.proofs.lemmas.Bool.Decides.{eqb_tells}
use Rattle.h5w_model.specs.Numbers.{range, undefined}
use Rattle.h5w_model.specs.Programs.{Prog, ret, whole, stored, eval}
use Rattle.h5w_model.specs.Arrays.{EahdFields, EaibFields, SlotsFields, eahd_at, eaib_at, easb_at, eadb_at, eahd_len, eaib_len, slots_len, super_block_of, place_of}
use Rattle.h5w_model.specs.Datasets.{then_also, refused_as}
use Rattle.h5w_model.specs.Tables.{InPlace, nowhere, in_array, array_in_place, address_behind, data_slot, secondary_slot, data_block, secondary_block, super_block_of_first}
use Rattle.h5w_model.specs.Relations.{DataSlot, SecondarySlot, SlotAt, ArraySlot, IsIndexBlock}
use Rattle.h5w_model.specs.declared.cell.Key.{Key}
use Rattle.h5w_model.specs.declared.cell.Place.{Place}
use Rattle.h5w_model.specs.declared.cell.Place.TheVariants.{Index, Direct, Second}
use Rattle.h5w_model.specs.declared.refusal.ReadError.{ReadError}
use Rattle.h5w_model.specs.declared.refusal.ReadError.TheVariants.{Damaged}
use Rattle.h5w_laws.proofs.ResultLemmas.{then_ok, then_from, refused_ok, and_then_ok, and_then_from, choice_ok, choice_from}
use Rattle.h5w_laws.specs.Relations.{array_chunk, FindsArraySlots}

-- a program that goes on by whether two numbers are equal
pub by_test : {A : Type 0} (img : List ℕ) (a b : ℕ) (p q : Prog A) (x : A) → eval img (cond (eqb a b) p q) ≡ x → (a ≡ b) × (eval img p ≡ x) ⊎ (a ≢ b) × (eval img q ≡ x)
by_test {A} img a b p q x h = go (eqb_tells a b)
  where
    go : ((eqb a b ≡ true) × (a ≡ b)) ⊎ ((eqb a b ≡ false) × (a ≢ b)) → (a ≡ b) × (eval img p ≡ x) ⊎ (a ≢ b) × (eval img q ≡ x)
    go (inl t) = inl (t.1, ap (λ (c : Bool). eval img (cond c p q)) (sym t.0) ∙ h)
    go (inr t) = inr (t.1, ap (λ (c : Bool). eval img (cond c p q)) (sym t.0) ∙ h)

pub where_equal : {A : Type 0} (img : List ℕ) (a b : ℕ) (p q : Prog A) (x : A) → a ≡ b → eval img p ≡ x → eval img (cond (eqb a b) p q) ≡ x
where_equal {A} img a b p q x e h = go (eqb_tells a b)
  where
    go : ((eqb a b ≡ true) × (a ≡ b)) ⊎ ((eqb a b ≡ false) × (a ≢ b)) → eval img (cond (eqb a b) p q) ≡ x
    go (inl t) = ap (λ (c : Bool). eval img (cond c p q)) t.0 ∙ h
    go (inr t) = absurd (t.1 e)

pub where_other : {A : Type 0} (img : List ℕ) (a b : ℕ) (p q : Prog A) (x : A) → a ≢ b → eval img q ≡ x → eval img (cond (eqb a b) p q) ≡ x
where_other {A} img a b p q x n h = go (eqb_tells a b)
  where
    go : ((eqb a b ≡ true) × (a ≡ b)) ⊎ ((eqb a b ≡ false) × (a ≢ b)) → eval img (cond (eqb a b) p q) ≡ x
    go (inl t) = absurd (n t.1)
    go (inr t) = ap (λ (c : Bool). eval img (cond c p q)) t.0 ∙ h

-- an answer of a reader
abbrev pub of_reader : ℕ → Result ℕ ReadError
of_reader a = Ok a

pub answered : (a b : ℕ) → of_reader a ≡ of_reader b → b ≡ a
answered a b h = cc

pub refused_from : {A E F : Type 0} (f : E → F) (r : Result A E) (a : A) → r ≡ Ok a → refused_as f r ≡ Ok a
refused_from f r a h = ap (refused_as f) h

-- ---- A data block

pub data_found : (img : List ℕ) (address n slot x : ℕ) → eval img (data_slot address n slot) ≡ Ok x → DataSlot img address n slot x
data_found img address n slot x h = go (by_test img address undefined (ret (Ok undefined)) (stored data_block address (slots_len n) (λ b. ret (then_also (refused_as (Damaged address) (eadb_at b address n)) (λ d. Ok (get_or d.slots slot undefined))))) (Ok x) h)
  where
    go : (address ≡ undefined) × (of_reader undefined ≡ of_reader x) ⊎ (address ≢ undefined) × (then_also (refused_as (Damaged address) (eadb_at (range img address (slots_len n)) address n)) (λ d. Ok (get_or d.slots slot undefined)) ≡ Ok x)
        → DataSlot img address n slot x
    go (inl t) = inl (t.0, answered undefined x t.1)
    go (inr t) =
        let d = then_ok (refused_as (Damaged address) (eadb_at (range img address (slots_len n)) address n)) (λ d. Ok (get_or d.slots slot undefined)) x t.1 in
        inr (d.0, t.0, refused_ok (Damaged address) (eadb_at (range img address (slots_len n)) address n) d.0 d.1, answered (get_or (d.0).slots slot undefined) x d.2)

pub data_read : (img : List ℕ) (address n slot x : ℕ) → DataSlot img address n slot x → eval img (data_slot address n slot) ≡ Ok x
data_read img address n slot x (inl t) = where_equal img address undefined (ret (Ok undefined)) (stored data_block address (slots_len n) (λ b. ret (then_also (refused_as (Damaged address) (eadb_at b address n)) (λ d. Ok (get_or d.slots slot undefined))))) (Ok x) t.0 (ap Ok (sym t.1))
data_read img address n slot x (inr t) =
    where_other img address undefined (ret (Ok undefined)) (stored data_block address (slots_len n) (λ b. ret (then_also (refused_as (Damaged address) (eadb_at b address n)) (λ d. Ok (get_or d.slots slot undefined))))) (Ok x) t.1
    (then_from (refused_as (Damaged address) (eadb_at (range img address (slots_len n)) address n)) (λ d. Ok (get_or d.slots slot undefined)) t.0 x
    (refused_from (Damaged address) (eadb_at (range img address (slots_len n)) address n) t.0 t.2) (ap Ok (sym t.3)))

-- ---- A secondary block

pub second_found : (img : List ℕ) (address sblock block slot x : ℕ) → eval img (secondary_slot address sblock block slot) ≡ Ok x → SecondarySlot img address sblock block slot x
second_found img address sblock block slot x h = go (by_test img address undefined (ret (Ok undefined)) (stored secondary_block address (slots_len (super_block_of sblock).blocks) (λ b. elim (easb_at b address (super_block_of sblock).blocks) as (λ _. Prog (Result ℕ ReadError)) [ Ok s ↦ data_slot (get_or s.slots block undefined) (super_block_of sblock).slots slot | Err f ↦ ret (Err (Damaged address f)) ])) (Ok x) h)
  where
    go : (address ≡ undefined) × (of_reader undefined ≡ of_reader x)
        ⊎ (address ≢ undefined)
        × (eval img (elim (easb_at (range img address (slots_len (super_block_of sblock).blocks)) address (super_block_of sblock).blocks) as (λ _. Prog (Result ℕ ReadError)) [
          | Ok s ↦ data_slot (get_or s.slots block undefined) (super_block_of sblock).slots slot
          | Err f ↦ ret (Err (Damaged address f))
        ]) ≡ Ok x)
        → SecondarySlot img address sblock block slot x
    go (inl t) = inl (t.0, answered undefined x t.1)
    go (inr t) =
        let s = choice_ok img (easb_at (range img address (slots_len (super_block_of sblock).blocks)) address (super_block_of sblock).blocks)
        (λ (s : SlotsFields). data_slot (get_or s.slots block undefined) (super_block_of sblock).slots slot) (Damaged address) x t.1 in
        inr (s.0, t.0, s.1, data_found img (get_or (s.0).slots block undefined) (super_block_of sblock).slots slot x s.2)

pub second_read : (img : List ℕ) (address sblock block slot x : ℕ) → SecondarySlot img address sblock block slot x → eval img (secondary_slot address sblock block slot) ≡ Ok x
second_read img address sblock block slot x (inl t) = where_equal img address undefined (ret (Ok undefined)) (stored secondary_block address (slots_len (super_block_of sblock).blocks) (λ b. elim (easb_at b address (super_block_of sblock).blocks) as (λ _. Prog (Result ℕ ReadError)) [ Ok s ↦ data_slot (get_or s.slots block undefined) (super_block_of sblock).slots slot | Err f ↦ ret (Err (Damaged address f)) ])) (Ok x) t.0 (ap Ok (sym t.1))
second_read img address sblock block slot x (inr t) =
    where_other img address undefined (ret (Ok undefined)) (stored secondary_block address (slots_len (super_block_of sblock).blocks) (λ b. elim (easb_at b address (super_block_of sblock).blocks) as (λ _. Prog (Result ℕ ReadError)) [ Ok s ↦ data_slot (get_or s.slots block undefined) (super_block_of sblock).slots slot | Err f ↦ ret (Err (Damaged address f)) ])) (Ok x) t.1
    (choice_from img (easb_at (range img address (slots_len (super_block_of sblock).blocks)) address (super_block_of sblock).blocks)
    (λ (s : SlotsFields). data_slot (get_or s.slots block undefined) (super_block_of sblock).slots slot) (Damaged address) t.0 x t.2
    (data_read img (get_or (t.0).slots block undefined) (super_block_of sblock).slots slot x t.3))

-- ---- The slot at a place

pub slot_program : EaibFields → Place → Prog (Result ℕ ReadError)
slot_program e p = elim p [
  | Index slot ↦ ret (Ok (get_or e.slots slot undefined))
  | Direct block slot ↦ data_slot (get_or e.first block undefined) (super_block_of (super_block_of_first block)).slots slot
  | Second sblock block slot ↦ secondary_slot (get_or e.second (sblock - 4) undefined) sblock block slot
]

pub slot_found : (img : List ℕ) (e : EaibFields) (p : Place) (x : ℕ) → eval img (slot_program e p) ≡ Ok x → SlotAt img e p x
unfolding slot_program
slot_found img e (Index slot) x h = answered (get_or e.slots slot undefined) x h
slot_found img e (Direct block slot) x h = data_found img (get_or e.first block undefined) (super_block_of (super_block_of_first block)).slots slot x h
slot_found img e (Second sblock block slot) x h = second_found img (get_or e.second (sblock - 4) undefined) sblock block slot x h

pub slot_read : (img : List ℕ) (e : EaibFields) (p : Place) (x : ℕ) → SlotAt img e p x → eval img (slot_program e p) ≡ Ok x
unfolding slot_program
slot_read img e (Index slot) x h = ap Ok (sym h)
slot_read img e (Direct block slot) x h = data_read img (get_or e.first block undefined) (super_block_of (super_block_of_first block)).slots slot x h
slot_read img e (Second sblock block slot) x h = second_read img (get_or e.second (sblock - 4) undefined) sblock block slot x h

-- ---- The array

-- the blocks in place, from what the array's header says
pub block_program : EahdFields → Prog (Result InPlace ReadError)
block_program a =
    cond (eqb a.block undefined) (ret (Ok nowhere))
    (whole a.block eaib_len (λ b. ret (then_also (refused_as (Damaged a.block) (eaib_at b a.block)) (λ e. Ok (in_array e)))))

abbrev pub in_place_as : InPlace → Result InPlace ReadError
in_place_as p = Ok p

pub same_place : (p q : InPlace) → in_place_as p ≡ in_place_as q → q ≡ p
same_place p q h = cc

abbrev pub number_key : ℕ → Key
number_key i' = record { i = i'; j = 0 }

-- what the blocks in place are, by the header
pub BlockCases : List ℕ → EahdFields → InPlace → Type 0
BlockCases img a p = (a.block ≡ undefined) × (p ≡ nowhere) ⊎ (e : EaibFields) × (a.block ≢ undefined) × IsIndexBlock img a.block e × (p ≡ in_array e)

pub block_found : (img : List ℕ) (a : EahdFields) (p : InPlace) → eval img (block_program a) ≡ Ok p → BlockCases img a p
unfolding block_program BlockCases
block_found img a p h = go (by_test img a.block undefined (ret (Ok nowhere)) (whole a.block eaib_len (λ b. ret (then_also (refused_as (Damaged a.block) (eaib_at b a.block)) (λ e. Ok (in_array e))))) (Ok p) h)
  where
    go : (a.block ≡ undefined) × (in_place_as nowhere ≡ in_place_as p)
        ⊎ (a.block ≢ undefined) × (then_also (refused_as (Damaged a.block) (eaib_at (range img a.block eaib_len) a.block)) (λ e. in_place_as (in_array e)) ≡ Ok p)
        → (a.block ≡ undefined) × (p ≡ nowhere) ⊎ (e : EaibFields) × (a.block ≢ undefined) × IsIndexBlock img a.block e × (p ≡ in_array e)
    go (inl t) = inl (t.0, same_place nowhere p t.1)
    go (inr t) =
        let e = then_ok (refused_as (Damaged a.block) (eaib_at (range img a.block eaib_len) a.block)) (λ e. in_place_as (in_array e)) p t.1 in
        inr (e.0, t.0, refused_ok (Damaged a.block) (eaib_at (range img a.block eaib_len) a.block) e.0 e.1, same_place (in_array e.0) p e.2)

-- the slot, once the blocks in place are known
pub slot_behind : (img : List ℕ) (a : EahdFields) (p : InPlace) (i x : ℕ) → BlockCases img a p → eval img (address_behind p (number_key i)) ≡ Ok x
    → (a.block ≡ undefined) × (x ≡ undefined) ⊎ (e : EaibFields) × (a.block ≢ undefined) × IsIndexBlock img a.block e × SlotAt img e (place_of i) x
unfolding BlockCases slot_program
slot_behind img a p i x (inl t) h =
    inl (t.0, answered undefined x (subst (λ (q : InPlace). eval img (address_behind q (number_key i)) ≡ Ok x) t.1 h))
slot_behind img a p i x (inr t) h =
    inr (t.0, t.1, t.2, slot_found img t.0 (place_of i) x (subst (λ (q : InPlace). eval img (address_behind q (number_key i)) ≡ Ok x) t.3 h))

pub array_found : (img : List ℕ) (address i x : ℕ) → eval img (array_chunk address i) ≡ Ok x → ArraySlot img address i x
unfolding block_program
array_found img address i x h =
    let s = and_then_ok img (array_in_place address) (λ (p : InPlace). address_behind p (number_key i)) x h in
    let a = choice_ok img (eahd_at (range img address eahd_len) address) block_program (Damaged address) s.0 s.1 in
    (a.0, a.1, slot_behind img a.0 s.0 i x (block_found img a.0 s.0 a.2) s.2)

pub array_read : (img : List ℕ) (address i x : ℕ) → ArraySlot img address i x → eval img (array_chunk address i) ≡ Ok x
unfolding block_program slot_program
array_read img address i x t = go t.2
  where
    found : (p : InPlace) → eval img (block_program t.0) ≡ Ok p → eval img (address_behind p (number_key i)) ≡ Ok x → eval img (array_chunk address i) ≡ Ok x
    found p e f = and_then_from img (array_in_place address) (λ (q : InPlace). address_behind q (number_key i)) p x
        (choice_from img (eahd_at (range img address eahd_len) address) block_program (Damaged address) t.0 p t.1 e) f

    go : (t.0.block ≡ undefined) × (x ≡ undefined) ⊎ (e : EaibFields) × (t.0.block ≢ undefined) × IsIndexBlock img t.0.block e × SlotAt img e (place_of i) x → eval img (array_chunk address i) ≡ Ok x
    go (inl u) = found nowhere (where_equal img t.0.block undefined (ret (Ok nowhere)) (whole t.0.block eaib_len (λ b. ret (then_also (refused_as (Damaged t.0.block) (eaib_at b t.0.block)) (λ e. Ok (in_array e))))) (Ok nowhere) u.0 refl) (ap of_reader (sym u.1))
    go (inr u) =
        found (in_array u.0)
        (where_other img t.0.block undefined (ret (Ok nowhere)) (whole t.0.block eaib_len (λ b. ret (then_also (refused_as (Damaged t.0.block) (eaib_at b t.0.block)) (λ e. Ok (in_array e))))) (Ok (in_array u.0)) u.1
        (then_from (refused_as (Damaged t.0.block) (eaib_at (range img t.0.block eaib_len) t.0.block)) (λ e. in_place_as (in_array e)) u.0 (in_array u.0)
        (refused_from (Damaged t.0.block) (eaib_at (range img t.0.block eaib_len) t.0.block) u.0 u.2) refl))
        (slot_read img u.0 (place_of i) x u.3)

-- a chunk's address is found exactly where the blocks of the array say it
pub finds_array_slots : FindsArraySlots
finds_array_slots img address i x = (array_found img address i x, array_read img address i x)

-- ---- The array's slot of a key

-- an array's blocks in place find a chunk by dimension 0 alone
pub by_row : (img : List ℕ) (a : EahdFields) (p : InPlace) (key : Key) → BlockCases img a p → address_behind p key ≡ address_behind p (number_key key.i)
unfolding BlockCases
by_row img a p key (inl t) = ap (λ (q : InPlace). address_behind q key) t.1 ∙ sym (ap (λ (q : InPlace). address_behind q (number_key key.i)) t.1)
by_row img a p key (inr t) = ap (λ (q : InPlace). address_behind q key) t.3 ∙ sym (ap (λ (q : InPlace). address_behind q (number_key key.i)) t.3)

pub array_by_row : (img : List ℕ) (address : ℕ) (p : InPlace) (key : Key) → eval img (array_in_place address) ≡ Ok p → address_behind p key ≡ address_behind p (number_key key.i)
unfolding block_program
array_by_row img address p key h =
    let a = choice_ok img (eahd_at (range img address eahd_len) address) block_program (Damaged address) p h in
    by_row img a.0 p key (block_found img a.0 p a.2)
