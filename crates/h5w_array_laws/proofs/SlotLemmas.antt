-- Look-ups of slots, by the blocks that stand on an image.
use Rattle.std.proofs.Common.{◌≡◌, ◌≢◌, ◌⊎◌, ℕ, true, false, cond, List, get_or, Result, Ok, Err, sym, ap, ◌∙◌, inl, inr}
use Rattle.std.specs.Prelude.{◌==◌, if◌then◌else◌}
use Rattle.std.proofs.lemmas.Bool.Decides.{eqb_tells}
use Rattle.h5w_model.specs.Numbers.{undefined}
use Rattle.h5w_model.specs.Programs.{Prog, ret, stored, eval}
use Rattle.h5w_model.specs.Arrays.{slots_fields, slots_len, numbers_in, super_block_of, eadb_at, easb_at}
use Rattle.h5w_model.specs.Datasets.{then_also, refused_as}
use Rattle.h5w_model.specs.Tables.{data_slot, secondary_slot, data_block, secondary_block}
use Rattle.h5w_model.specs.declared.refusal.ReadError.{ReadError}
use Rattle.h5w_model.specs.declared.refusal.ReadError.TheVariants.{Damaged}
use Rattle.h5w_laws.proofs.ResultLemmas.{choice_from}
use Rattle.h5w_array_laws.proofs.BlockLemmas.{data_head, secondary_head, data_decoded, secondary_decoded}
use Rattle.h5w_array_laws.proofs.VisitLemmas.{IsThere, range_there}

-- what is looked up behind a place, which may be undefined
abbrev pub if_placed : ℕ → ℕ → ℕ
if_placed place x = if place == undefined then undefined else x

pub if_placed-none : (place x : ℕ) → place ≡ undefined → if_placed place x ≡ undefined
if_placed-none place x e = go (eqb_tells place undefined)
  where
    go : ((place == undefined) ≡ true) × (place ≡ undefined) ⊎ ((place == undefined) ≡ false) × (place ≢ undefined) → if_placed place x ≡ undefined
    go (inl t) = ap (λ c. cond c undefined x) t.0
    go (inr t) = absurd (t.1 e)

pub if_placed-some : (place x : ℕ) → place ≢ undefined → if_placed place x ≡ x
if_placed-some place x n = go (eqb_tells place undefined)
  where
    go : ((place == undefined) ≡ true) × (place ≡ undefined) ⊎ ((place == undefined) ≡ false) × (place ≢ undefined) → if_placed place x ≡ x
    go (inl t) = absurd (n t.1)
    go (inr t) = ap (λ c. cond c undefined x) t.0

pub data_slot_found : (img : List ℕ) (n place slot : ℕ) (b : List ℕ) → (place ≢ undefined → IsThere img data_head (slots_len n) place b)
    → eval img (data_slot place n slot) ≡ Ok (if_placed place (get_or (numbers_in b n 18) slot undefined))
data_slot_found img n place slot b stands = go (eqb_tells place undefined)
  where
    look : List ℕ → Result ℕ ReadError
    look x = then_also (refused_as (Damaged place) (eadb_at x place n)) (λ d. Ok (get_or d.slots slot undefined))

    go : ((place == undefined) ≡ true) × (place ≡ undefined) ⊎ ((place == undefined) ≡ false) × (place ≢ undefined)
        → eval img (cond (place == undefined) (ret (Ok undefined)) (stored data_block place (slots_len n) (λ x. ret (look x)))) ≡ Ok (if_placed place (get_or (numbers_in b n 18) slot undefined))
    go (inl t) =
        ap (λ c. eval img (cond c (ret (Ok undefined)) (stored data_block place (slots_len n) (λ x. ret (look x))))) t.0
        ∙ ap Ok (sym (if_placed-none place (get_or (numbers_in b n 18) slot undefined) t.1))
    go (inr t) =
        let s = stands t.1 in
        ap (λ c. eval img (cond c (ret (Ok undefined)) (stored data_block place (slots_len n) (λ x. ret (look x))))) t.0
        ∙ ap look (range_there img data_head (slots_len n) place b s)
        ∙ ap (λ r. then_also (refused_as (Damaged place) r) (λ d. Ok (get_or d.slots slot undefined))) (data_decoded n place b s.spelled)
        ∙ ap Ok (sym (if_placed-some place (get_or (numbers_in b n 18) slot undefined) t.1))

-- behind a secondary block, by what is found behind its address
pub secondary_slot_found : (img : List ℕ) (sblock place block slot x : ℕ) (b : List ℕ) → (place ≢ undefined → IsThere img secondary_head (slots_len (super_block_of sblock).blocks) place b)
    → (place ≢ undefined → eval img (data_slot (get_or (numbers_in b (super_block_of sblock).blocks 18) block undefined) (super_block_of sblock).slots slot) ≡ Ok x)
    → eval img (secondary_slot place sblock block slot) ≡ Ok (if_placed place x)
secondary_slot_found img sblock place block slot x b stands behind = go (eqb_tells place undefined)
  where
    look : List ℕ → Prog (Result ℕ ReadError)
    look y = elim (easb_at y place (super_block_of sblock).blocks) as (λ _. Prog (Result ℕ ReadError)) [
      | Ok s ↦ data_slot (get_or s.slots block undefined) (super_block_of sblock).slots slot
      | Err f ↦ ret (Err (Damaged place f))
    ]

    go : ((place == undefined) ≡ true) × (place ≡ undefined) ⊎ ((place == undefined) ≡ false) × (place ≢ undefined)
        → eval img (cond (place == undefined) (ret (Ok undefined)) (stored secondary_block place (slots_len (super_block_of sblock).blocks) look)) ≡ Ok (if_placed place x)
    go (inl t) =
        ap (λ c. eval img (cond c (ret (Ok undefined)) (stored secondary_block place (slots_len (super_block_of sblock).blocks) look))) t.0
        ∙ ap Ok (sym (if_placed-none place x t.1))
    go (inr t) =
        let s = stands t.1 in
        ap (λ c. eval img (cond c (ret (Ok undefined)) (stored secondary_block place (slots_len (super_block_of sblock).blocks) look))) t.0
        ∙ ap (λ y. eval img (look y)) (range_there img secondary_head (slots_len (super_block_of sblock).blocks) place b s)
        ∙ choice_from img (easb_at b place (super_block_of sblock).blocks) (λ s. data_slot (get_or s.slots block undefined) (super_block_of sblock).slots slot) (Damaged place)
        (slots_fields b (super_block_of sblock).blocks) x (secondary_decoded (super_block_of sblock).blocks place b s.spelled) (behind t.1)
        ∙ ap Ok (sym (if_placed-some place x t.1))
