-- What the blocks in place of an array say, by their bytes.
use Rattle.std.proofs.Common.{◌≡◌, ◌≢◌, ◌⊎◌, ℕ, true, false, cond, List, [], ◌∷◌, Result, Ok, Err, ap, ◌∙◌, inl, inr}
use Rattle.std.specs.Prelude.{◌==◌, if◌then◌else◌}
use Rattle.std.proofs.lemmas.Bool.Decides.{eqb_tells}
use Rattle.h5w_model.specs.Numbers.{range, undefined}
use Rattle.h5w_model.specs.Programs.{Prog, ret, eval, visits}
use Rattle.h5w_model.specs.Arrays.{EahdFields, eahd_at, eaib_at, eaib_fields, eahd_len, eaib_len}
use Rattle.h5w_model.specs.Datasets.{Described, then_also, refused_as}
use Rattle.h5w_model.specs.Tables.{InPlace, nowhere, in_array, in_place, array_in_place, tree_in_place}
use Rattle.h5w_model.specs.declared.cell.IndexKind.TheVariants.{Array, Tree}
use Rattle.h5w_model.specs.declared.refusal.ReadError.{ReadError}
use Rattle.h5w_model.specs.declared.refusal.ReadError.TheVariants.{Damaged}
use Rattle.h5w_step_laws.proofs.IndexVisits.{look_at, block_read}
use Rattle.h5w_array_laws.proofs.BlockLemmas.{index_head, index_decoded}
use Rattle.h5w_array_laws.proofs.VisitLemmas.{IsThere, range_there}

-- where two numbers differ, the test says so
pub unequal : (a b : ℕ) → a ≢ b → (a == b) ≡ false
unequal a b n = go (eqb_tells a b)
  where
    go : ((a == b) ≡ true) × (a ≡ b) ⊎ ((a == b) ≡ false) × (a ≢ b) → (a == b) ≡ false
    go (inl t) = absurd (n t.1)
    go (inr t) = t.0

abbrev pub header_read : EahdFields → Prog (Result InPlace ReadError)
header_read a = if a.block == undefined then ret (Ok nowhere) else block_read a.block

abbrev pub from_header : ℕ → List ℕ → Prog (Result InPlace ReadError)
from_header place h = elim (eahd_at h place) as (λ _. Prog (Result InPlace ReadError)) [ Ok a ↦ header_read a | Err f ↦ ret (Err (Damaged place f)) ]

-- a header is read at its place, and the index block that it names stands
pub record AreReadInPlace (img : List ℕ) (place : ℕ) (a : EahdFields) (block : List ℕ) : Type 0 where
  pub header_read : eahd_at (range img place eahd_len) place ≡ Ok a
  pub named : a.block ≢ undefined
  pub block_there : IsThere img index_head eaib_len a.block block

pub block_found : (img : List ℕ) (place : ℕ) (b : List ℕ) → IsThere img index_head eaib_len place b → eval img (block_read place) ≡ Ok (in_array (eaib_fields b))
block_found img place b t =
    ap (λ x. then_also (refused_as (Damaged place) (eaib_at x place)) (λ e. Ok (in_array e))) (range_there img index_head eaib_len place b t)
    ∙ ap (λ r. then_also (refused_as (Damaged place) r) (λ e. Ok (in_array e))) (index_decoded place b t.spelled)

-- whatever is asked of the program that reads them: it goes on with the index block that the header names
pub onward : {A : Type 0} (img : List ℕ) (place : ℕ) (a : EahdFields) (f : Prog (Result InPlace ReadError) → A) → eahd_at (range img place eahd_len) place ≡ Ok a → a.block ≢ undefined
    → f (from_header place (range img place eahd_len)) ≡ f (block_read a.block)
onward img place a f read named =
    ap (λ (r : Result EahdFields _). f (elim r as (λ _. Prog (Result InPlace ReadError)) [ Ok a ↦ header_read a | Err e ↦ ret (Err (Damaged place e)) ])) read
    ∙ ap (λ c. f (cond c (ret (Ok nowhere)) (block_read a.block))) (unequal a.block undefined named)

pub array_found : (img : List ℕ) (place : ℕ) (a : EahdFields) (block : List ℕ) → AreReadInPlace img place a block → eval img (array_in_place place) ≡ Ok (in_array (eaib_fields block))
array_found img place a block s = onward img place a (eval img) s.header_read s.named ∙ block_found img a.block block s.block_there

pub array_looks : (img : List ℕ) (place : ℕ) (a : EahdFields) → eahd_at (range img place eahd_len) place ≡ Ok a → a.block ≢ undefined
    → visits img (array_in_place place) ≡ look_at place eahd_len ∷ look_at a.block eaib_len ∷ []
array_looks img place a read named = ap (λ vs. look_at place eahd_len ∷ vs) (onward img place a (visits img) read named)

-- the same of a dataset whose layout names the header
pub of_dataset : {A : Type 0} (d : Described) (f : Prog (Result InPlace ReadError) → A) → d.layout.index ≡ Array → d.layout.address ≢ undefined → f (in_place d) ≡ f (array_in_place d.layout.address)
of_dataset d f kind named =
    ap (λ c. f (cond c (ret (Ok nowhere)) (elim d.layout.index as (λ _. Prog (Result InPlace ReadError)) [ Array ↦ array_in_place d.layout.address | Tree ↦ tree_in_place d.layout.address ]))) (unequal d.layout.address undefined named)
    ∙ ap (λ k. f (elim k as (λ _. Prog (Result InPlace ReadError)) [ Array ↦ array_in_place d.layout.address | Tree ↦ tree_in_place d.layout.address ])) kind
