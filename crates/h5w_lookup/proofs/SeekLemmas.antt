-- Looking up one chunk with a store of kept blocks.
use Rattle.std.proofs.Common.{◌≡◌, ◌≢◌, ℕ, List, get_or, Option, Some, None, Result, Ok, Err, refl, sym, ◌∙◌, ap}
use Rattle.std.proofs.lemmas.Bool.{eq-eqb, ne_eqb}
use Rattle.h5w_model.specs.Programs.{Prog, ret, stored, and_then, lowered, cut_up, Kept, kept_bytes, used}
use Rattle.h5w_model.specs.Numbers.{undefined}
use Rattle.h5w_model.specs.Arrays.{SlotsFields, EaibFields, super_block_of, place_of, eadb_at, easb_at, slots_len}
use Rattle.h5w_model.specs.Datasets.{then_also, refused_as}
use Rattle.h5w_model.specs.Tables.{Reading, array_slot, data_slot, secondary_slot, data_block, secondary_block}
use Rattle.h5w_model.specs.declared.cell.Place.{Place}
use Rattle.h5w_model.specs.declared.cell.Place.TheVariants.{Index}
use Rattle.h5w_model.specs.declared.refusal.BlockFault.{BlockFault}
use Rattle.h5w_model.specs.declared.refusal.ReadError.{ReadError}
use Rattle.h5w_model.specs.declared.refusal.ReadError.TheVariants.{Damaged}
use Rattle.h5w_model.proofs.SlotLemmas.{slot_of}
use Rattle.h5w_lookup.specs.Blocks.{GivesSlots, IsRead}
use Rattle.h5w_lookup.specs.Seeking.{store_rest, next_rest, data_given, second_given, wait_rest}
use Rattle.h5w_lookup.specs.Contents.{slots_in}
use Rattle.h5w_lookup.specs.declared.content.Content.{Content}
use Rattle.h5w_lookup.specs.declared.wait.DataWait.{DataWait}
use Rattle.h5w_lookup.specs.declared.wait.SecondWait.{SecondWait}
use Rattle.h5w_lookup.specs.declared.wait.Wait.TheVariants as waits
use Rattle.h5w_lookup.proofs.PieceLemmas.{cut_up_is}

-- ---- A block, kept or not

abbrev pub stored_by : List Kept → ℕ → ℕ → ℕ → (List ℕ → Prog (Result ℕ ReadError)) → (ℕ → Prog (Result Reading ReadError)) → Option (List ℕ) → Prog (Result Reading ReadError)
stored_by ks kind at len after next o = elim o [
  | Some b ↦ lowered 16 (used 16 kind at len b ks) (and_then (after b) next)
  | None ↦ cut_up at len (λ b. lowered 16 (used 16 kind at len b ks) (and_then (after b) next))
]

pub stored_is : (ks : List Kept) (kind at len : ℕ) (after : List ℕ → Prog (Result ℕ ReadError)) (next : ℕ → Prog (Result Reading ReadError)) (o : Option (List ℕ)) → kept_bytes kind at len ks ≡ o
    → store_rest ks (stored kind at len after) next ≡ stored_by ks kind at len after next o
unfolding store_rest
stored_is ks kind at len after next o e = ap (stored_by ks kind at len after next) e

-- ---- A data block

data_stored : (at n slot : ℕ) → at ≢ undefined → data_slot at n slot ≡ stored data_block at (slots_len n) (data_given at n slot)
data_stored at n slot there = rw (ne_eqb at undefined there) refl

pub data_nowhere : (ks : List Kept) (at n slot : ℕ) (next : ℕ → Prog (Result Reading ReadError)) → at ≡ undefined → next_rest ks next undefined ≡ store_rest ks (data_slot at n slot) next
unfolding store_rest next_rest
data_nowhere ks at n slot next e = rw (eq-eqb at undefined e) refl

-- a whole block
data_whole : (at slot : ℕ) (given : Result SlotsFields BlockFault) (slots : List ℕ) → GivesSlots slots given
    → ret (then_also (refused_as (Damaged at) given) (λ d. Ok (get_or d.slots slot undefined))) ≡ (let p : Prog (Result ℕ ReadError) = ret (Ok (get_or slots slot undefined)) in p)
data_whole at slot (Ok d) slots h = ap (λ (xs : List ℕ). let p : Prog (Result ℕ ReadError) = ret (Ok (get_or xs slot undefined)) in p) h
data_whole at slot (Err f) slots h = absurd h

pub data_read : (ks : List Kept) (at n slot : ℕ) (b slots : List ℕ) (next : ℕ → Prog (Result Reading ReadError)) → GivesSlots slots (eadb_at b at n) → next_rest ks next (get_or slots slot undefined) ≡ store_rest ks (data_given at n slot b) next
unfolding store_rest next_rest
data_read ks at n slot b slots next h = sym (ap (λ (p : Prog (Result ℕ ReadError)). lowered 16 ks (and_then p next)) (data_whole at slot (eadb_at b at n) slots h))

pub data_gives : (old new : List Kept) (at n slot : ℕ) (b slots : List ℕ) (next : ℕ → Prog (Result Reading ReadError)) → at ≢ undefined → kept_bytes data_block at (slots_len n) old ≡ Some b
    → GivesSlots slots (eadb_at b at n) → new ≡ used 16 data_block at (slots_len n) b old → next_rest new next (get_or slots slot undefined) ≡ store_rest old (data_slot at n slot) next
unfolding store_rest
data_gives old new p n slot b slots next there some gives used_is =
    data_read new p n slot b slots next gives
    ∙ ap (λ ks. store_rest ks (data_given p n slot b) next) used_is
    ∙ sym (ap (λ (q : Prog (Result ℕ ReadError)). store_rest old q next) (data_stored p n slot there) ∙ stored_is old data_block p (slots_len n) (data_given p n slot) next (Some b) some)

pub data_kept : (old new : List Kept) (at n slot : ℕ) (b : List ℕ) (c : Content) (next : ℕ → Prog (Result Reading ReadError)) → at ≢ undefined → kept_bytes data_block at (slots_len n) old ≡ Some b
    → IsRead data_block at (slots_len n) b c → new ≡ used 16 data_block at (slots_len n) b old → next_rest new next (get_or (slots_in c) slot undefined) ≡ store_rest old (data_slot at n slot) next
data_kept old new p n slot b c next there some read used_is = data_gives old new p n slot b (slots_in c) next there some (read.of_data n refl refl) used_is

pub data_waits : (ks : List Kept) (w : DataWait) (next : ℕ → Prog (Result Reading ReadError)) → w.at ≢ undefined → kept_bytes data_block w.at (slots_len w.n) ks ≡ None
    → wait_rest ks (waits.Data w) next ≡ store_rest ks (data_slot w.at w.n w.slot) next
unfolding store_rest
data_waits ks w next there none =
    sym (ap (λ (p : Prog (Result ℕ ReadError)). store_rest ks p next) (data_stored w.at w.n w.slot there)
    ∙ stored_is ks data_block w.at (slots_len w.n) (data_given w.at w.n w.slot) next None none
    ∙ cut_up_is w.at (slots_len w.n) (λ b. store_rest (used 16 data_block w.at (slots_len w.n) b ks) (data_given w.at w.n w.slot b) next))

-- ---- A secondary block

second_stored : (at s block slot : ℕ) → at ≢ undefined → secondary_slot at s block slot ≡ stored secondary_block at (slots_len (super_block_of s).blocks) (second_given at s block slot)
second_stored at s block slot there = rw (ne_eqb at undefined there) refl

pub second_nowhere : (ks : List Kept) (at s block slot : ℕ) (next : ℕ → Prog (Result Reading ReadError)) → at ≡ undefined → next_rest ks next undefined ≡ store_rest ks (secondary_slot at s block slot) next
unfolding store_rest next_rest
second_nowhere ks at s block slot next e = rw (eq-eqb at undefined e) refl

second_whole : (at s block slot : ℕ) (given : Result SlotsFields BlockFault) (slots : List ℕ) → GivesSlots slots given
    → (elim given as (λ _. Prog (Result ℕ ReadError)) [ Ok t ↦ data_slot (get_or t.slots block undefined) (super_block_of s).slots slot | Err f ↦ ret (Err (Damaged at f)) ]) ≡ data_slot (get_or slots block undefined) (super_block_of s).slots slot
second_whole at s block slot (Ok t) slots h = ap (λ (xs : List ℕ). data_slot (get_or xs block undefined) (super_block_of s).slots slot) h
second_whole at s block slot (Err f) slots h = absurd h

pub second_read : (ks : List Kept) (at s block slot : ℕ) (b slots : List ℕ) (next : ℕ → Prog (Result Reading ReadError)) → GivesSlots slots (easb_at b at (super_block_of s).blocks)
    → store_rest ks (data_slot (get_or slots block undefined) (super_block_of s).slots slot) next ≡ store_rest ks (second_given at s block slot b) next
second_read ks at s block slot b slots next h = sym (ap (λ (p : Prog (Result ℕ ReadError)). store_rest ks p next) (second_whole at s block slot (easb_at b at (super_block_of s).blocks) slots h))

pub second_gives : (old new : List Kept) (at s block slot : ℕ) (b slots : List ℕ) (next : ℕ → Prog (Result Reading ReadError)) → at ≢ undefined → kept_bytes secondary_block at (slots_len (super_block_of s).blocks) old ≡ Some b
    → GivesSlots slots (easb_at b at (super_block_of s).blocks) → new ≡ used 16 secondary_block at (slots_len (super_block_of s).blocks) b old
    → store_rest new (data_slot (get_or slots block undefined) (super_block_of s).slots slot) next ≡ store_rest old (secondary_slot at s block slot) next
unfolding store_rest
second_gives old new p s block slot b slots next there some gives used_is =
    second_read new p s block slot b slots next gives
    ∙ ap (λ ks. store_rest ks (second_given p s block slot b) next) used_is
    ∙ sym (ap (λ (q : Prog (Result ℕ ReadError)). store_rest old q next) (second_stored p s block slot there)
    ∙ stored_is old secondary_block p (slots_len (super_block_of s).blocks) (second_given p s block slot) next (Some b) some)

pub second_kept : (old new : List Kept) (at s block slot : ℕ) (b : List ℕ) (c : Content) (next : ℕ → Prog (Result Reading ReadError)) → at ≢ undefined → kept_bytes secondary_block at (slots_len (super_block_of s).blocks) old ≡ Some b
    → IsRead secondary_block at (slots_len (super_block_of s).blocks) b c → new ≡ used 16 secondary_block at (slots_len (super_block_of s).blocks) b old
    → store_rest new (data_slot (get_or (slots_in c) block undefined) (super_block_of s).slots slot) next ≡ store_rest old (secondary_slot at s block slot) next
second_kept old new p s block slot b c next there some read used_is = second_gives old new p s block slot b (slots_in c) next there some (read.of_second (super_block_of s).blocks refl refl) used_is

pub second_waits : (ks : List Kept) (w : SecondWait) (next : ℕ → Prog (Result Reading ReadError)) → w.at ≢ undefined → kept_bytes secondary_block w.at (slots_len (super_block_of w.sblock).blocks) ks ≡ None
    → wait_rest ks (waits.Second w) next ≡ store_rest ks (secondary_slot w.at w.sblock w.block w.slot) next
unfolding store_rest
second_waits ks w next there none =
    let len = slots_len (super_block_of w.sblock).blocks in
    sym (ap (λ (p : Prog (Result ℕ ReadError)). store_rest ks p next) (second_stored w.at w.sblock w.block w.slot there)
    ∙ stored_is ks secondary_block w.at len (second_given w.at w.sblock w.block w.slot) next None none
    ∙ cut_up_is w.at len (λ b. store_rest (used 16 secondary_block w.at len b ks) (second_given w.at w.sblock w.block w.slot b) next))

-- ---- A chunk

pub seek_at : (ks : List Kept) (e : EaibFields) (i : ℕ) (p : Place) (next : ℕ → Prog (Result Reading ReadError)) → place_of i ≡ p → store_rest ks (array_slot e i) next ≡ store_rest ks (slot_of e p) next
seek_at ks e i p next h = ap (λ q. store_rest ks (slot_of e q) next) h

pub seek_index : (ks : List Kept) (e : EaibFields) (i slot : ℕ) (next : ℕ → Prog (Result Reading ReadError)) → place_of i ≡ Index slot → next_rest ks next (get_or e.slots slot undefined) ≡ store_rest ks (array_slot e i) next
unfolding store_rest next_rest
seek_index ks e i slot next h = sym (seek_at ks e i (Index slot) next h)
