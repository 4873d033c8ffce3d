-- The index of a created file: its blocks in place are read, and no chunk has an address.
use Rattle.std.proofs.Common.{◌≡◌, ℕ, ◌-◌, ◌^◌, ◌<◌, ◌≤◌, false, List, [], ◌∷◌, get_or, Result, Ok, Err, refl, ap, ◌∙◌, ◌⊎◌, inl, inr, arith}
use Rattle.std.specs.Prelude.{replicate, ◌==◌, if◌then◌else◌}
use Rattle.std.proofs.lemmas.Bool.{ne_eqb, cases_lt}
use Rattle.std.proofs.lemmas.List.{get_or-replicate, get_or_past, length-replicate}
use Rattle.h5w_model.specs.Numbers.{range, undefined}
use Rattle.h5w_model.specs.Images.{At, Holds}
use Rattle.h5w_model.specs.Programs.{Prog, Visit, ret, whole, eval, visits, all_of}
use Rattle.h5w_model.specs.Arrays.{EahdFields, EaibFields, eahd_at, eaib_at, eahd_bytes, eaib_bytes, eahd_len, eaib_len, place_of, super_block_of}
use Rattle.h5w_model.specs.Trees.{bthd_at, bthd_bytes, bthd_len}
use Rattle.h5w_model.specs.Datasets.{Described, then_also, refused_as}
use Rattle.h5w_model.specs.Tables.{InPlace, nowhere, in_array, in_tree, array_in_place, tree_in_place, in_place, data_slot, secondary_slot, address_behind, super_block_of_first}
use Rattle.h5w_model.specs.Findings.{Used}
use Rattle.h5w_model.specs.declared.cell.Key.{Key}
use Rattle.h5w_model.specs.declared.cell.Place.{Place}
use Rattle.h5w_model.specs.declared.cell.Place.TheVariants.{Index, Direct, Second}
use Rattle.h5w_model.specs.declared.cell.IndexKind.{IndexKind}
use Rattle.h5w_model.specs.declared.cell.IndexKind.TheVariants.{Array, Tree}
use Rattle.h5w_model.specs.declared.refusal.ReadError.{ReadError}
use Rattle.h5w_model.specs.declared.refusal.ReadError.TheVariants.{Damaged}
use Rattle.h5w_model.proofs.ArrayLaws.{eaib_at-eaib_bytes}
use Rattle.h5w_bt.proofs.Spelling.{bthd_bytes-is, bthd_at-bthd_body}
use Rattle.h5w_step_laws.specs.Ranges.{blocks_of}
use Rattle.h5w_step_laws.specs.Indexes.{behind_visit}
use Rattle.h5w_array_laws.proofs.CreatedLemmas.{all_undefined, header_read, header_size, index_size}
use Rattle.h5w_creation_laws.specs.CreatedFiles.{CreatedFile, IsCreatable, block_place, index_blocks, empty_array, empty_index_block, empty_tree, described_of, fixed_of}
use Rattle.h5w_creation_laws.proofs.SizeLemmas.{index_low, tree_long}
use Rattle.h5w_creation_laws.proofs.RootLemmas.{look_at}

defined : (n : ℕ) → n < 2 ^ 63 → (n == undefined) ≡ false
defined n h = ne_eqb n undefined (λ e. omega arith)

-- the visit of all of a range
abbrev look_of : ℕ → ℕ → Visit
look_of at n = record { place = at; len = n; counts = all_of }

-- ---- The array

array_by : (d : Described) → (d.layout.address == undefined) ≡ false → d.layout.index ≡ Array → in_place d ≡ array_in_place d.layout.address
array_by d known kind = rw (known, in_place, kind) refl

abbrev block_from : ℕ → List ℕ → Prog (Result InPlace ReadError)
block_from block b = ret (then_also (refused_as (Damaged block) (eaib_at b block)) (λ e. Ok (in_array e)))

abbrev header_from : ℕ → List ℕ → Prog (Result InPlace ReadError)
header_from address h =
    elim (eahd_at h address) [
      | Ok a ↦ (if a.block == undefined then ret (Ok nowhere) else whole a.block eaib_len (block_from a.block))
      | Err f ↦ ret (Err (Damaged address f))
    ]

header_from-by : (address : ℕ) (b : List ℕ) (h : EahdFields) → eahd_at b address ≡ Ok h → (h.block == undefined) ≡ false → header_from address b ≡ whole h.block eaib_len (block_from h.block)
header_from-by address b h read known = rw (read, header_from, known) refl

block_from-by : (block : ℕ) (b : List ℕ) (e : EaibFields) → eaib_at b block ≡ Ok e → block_from block b ≡ ret (Ok (in_array e))
block_from-by block b e read = rw read refl

index_read : (at block : ℕ) → at < 2 ^ 64 → eaib_at (eaib_bytes (empty_index_block at)) block ≡ Ok (empty_index_block at)
index_read at block h = eaib_at-eaib_bytes (empty_index_block at) block h refl (all_undefined 4) refl (all_undefined 6) refl (all_undefined 25)

-- header and index block of an array, on an image where they stand, by whatever is made of the program
array_found : {A : Type 0} (img : List ℕ) (at block : ℕ) (go : Prog (Result InPlace ReadError) → A) → block < 2 ^ 63 → At img at (eahd_bytes (empty_array block))
    → go (header_from at (range img at eahd_len)) ≡ go (whole block eaib_len (block_from block))
array_found img at block go low header =
    ap (λ (b : List ℕ). go (header_from at b)) (look_at img at eahd_len (eahd_bytes (empty_array block)) header (header_size block))
    ∙ ap go (header_from-by at (eahd_bytes (empty_array block)) (empty_array block) (header_read at block (omega arith)) (defined block low))

block_found : {A : Type 0} (img : List ℕ) (at block : ℕ) (go : Prog (Result InPlace ReadError) → A) → at < 2 ^ 63 → At img block (eaib_bytes (empty_index_block at))
    → go (block_from block (range img block eaib_len)) ≡ go (ret (Ok (in_array (empty_index_block at))))
block_found img at block go low stands =
    ap (λ (b : List ℕ). go (block_from block b)) (look_at img block eaib_len (eaib_bytes (empty_index_block at)) stands (index_size at))
    ∙ ap go (block_from-by block (eaib_bytes (empty_index_block at)) (empty_index_block at) (index_read at block (omega arith)))

array_read : (img : List ℕ) (at block : ℕ) → at < 2 ^ 63 → block < 2 ^ 63 → At img at (eahd_bytes (empty_array block)) → At img block (eaib_bytes (empty_index_block at))
    → eval img (array_in_place at) ≡ Ok (in_array (empty_index_block at))
array_read img at block low high header stands =
    array_found img at block (eval img) high header ∙ block_found img at block (eval img) low stands

array_looks : (img : List ℕ) (at block : ℕ) → at < 2 ^ 63 → block < 2 ^ 63 → At img at (eahd_bytes (empty_array block)) → At img block (eaib_bytes (empty_index_block at))
    → visits img (array_in_place at) ≡ look_of at eahd_len ∷ look_of block eaib_len ∷ []
array_looks img at block low high header stands =
    array_found img at block (λ p. look_of at eahd_len ∷ visits img p) high header
    ∙ block_found img at block (λ p. look_of at eahd_len ∷ look_of block eaib_len ∷ visits img p) low stands

-- nothing stands behind the index block
array_behind : (img : List ℕ) (end bytes at : ℕ) → eval img (behind_visit end bytes (in_array (empty_index_block at))) ≡ Ok []
array_behind img end bytes at = refl

all_absent : (n k : ℕ) → get_or (replicate n undefined) k undefined ≡ undefined
all_absent n k = go (cases_lt k n)
  where
    go : (k < n) ⊎ (n ≤ k) → get_or (replicate n undefined) k undefined ≡ undefined
    go (inl below) = get_or-replicate n k undefined undefined below
    go (inr past) = get_or_past (replicate n undefined) k undefined (omega (arith, length-replicate n undefined))

data_absent : (address n slot : ℕ) → address ≡ undefined → data_slot address n slot ≡ ret (Ok undefined)
data_absent address n slot e = ap (λ (a : ℕ). data_slot a n slot) e

secondary_absent : (address sblock block slot : ℕ) → address ≡ undefined → secondary_slot address sblock block slot ≡ ret (Ok undefined)
secondary_absent address sblock block slot e = ap (λ (a : ℕ). secondary_slot a sblock block slot) e

-- the look-up of a slot by its place
abbrev slot_at : EaibFields → Place → Prog (Result ℕ ReadError)
slot_at e (Index slot) = ret (Ok (get_or e.slots slot undefined))
slot_at e (Direct block slot) = data_slot (get_or e.first block undefined) (super_block_of (super_block_of_first block)).slots slot
slot_at e (Second sblock block slot) = secondary_slot (get_or e.second (sblock - 4) undefined) sblock block slot

slot_absent : (at : ℕ) (p : Place) → slot_at (empty_index_block at) p ≡ ret (Ok undefined)
slot_absent at (Index slot) = ap (λ (a : ℕ). ret (Ok a)) (all_absent 4 slot)
slot_absent at (Direct block slot) = data_absent (get_or (replicate 6 undefined) block undefined) (super_block_of (super_block_of_first block)).slots slot (all_absent 6 block)
slot_absent at (Second sblock block slot) = secondary_absent (get_or (replicate 25 undefined) (sblock - 4) undefined) sblock block slot (all_absent 25 (sblock - 4))

array_answer : (img : List ℕ) (at : ℕ) (key : Key) → eval img (address_behind (in_array (empty_index_block at)) key) ≡ Ok undefined
array_answer img at key = ap (eval img) (slot_absent at (place_of key.i))

-- ---- The tree

tree_by : (d : Described) → (d.layout.address == undefined) ≡ false → d.layout.index ≡ Tree → in_place d ≡ tree_in_place d.layout.address
tree_by d known kind = rw (known, in_place, kind) refl

pub tree_at : (place : ℕ) → bthd_at (bthd_bytes empty_tree) place ≡ Ok empty_tree
tree_at place =
    ap (λ (b : List ℕ). bthd_at b place) (bthd_bytes-is empty_tree)
    ∙ bthd_at-bthd_body empty_tree place (record { shallow = omega arith; few = omega arith }) (omega arith) (omega arith)

abbrev tree_from : ℕ → List ℕ → Prog (Result InPlace ReadError)
tree_from address h = ret (then_also (refused_as (Damaged address) (bthd_at h address)) (λ t. Ok (if t.root == undefined then nowhere else in_tree t)))

tree_from-by : (address : ℕ) (b : List ℕ) → bthd_at b address ≡ Ok empty_tree → tree_from address b ≡ ret (Ok nowhere)
tree_from-by address b read = rw read refl

tree_found : {A : Type 0} (img : List ℕ) (at : ℕ) (go : Prog (Result InPlace ReadError) → A) → At img at (bthd_bytes empty_tree) → go (tree_from at (range img at bthd_len)) ≡ go (ret (Ok nowhere))
tree_found img at go stands =
    ap (λ (b : List ℕ). go (tree_from at b)) (look_at img at bthd_len (bthd_bytes empty_tree) stands tree_long)
    ∙ ap go (tree_from-by at (bthd_bytes empty_tree) (tree_at at))

-- ---- Of either kind

-- what the blocks in place say, what was looked at for that, and what stands behind them and is found there
pub record IsEmpty (img : List ℕ) (d : Described) (fixed : List Used) : Type 0 where
  pub blocks : InPlace
  pub read : eval img (in_place d) ≡ Ok blocks
  pub looks : blocks_of (visits img (in_place d)) ≡ fixed
  pub behind : (end bytes : ℕ) → eval img (behind_visit end bytes blocks) ≡ Ok []
  pub answers : (key : Key) → eval img (address_behind blocks key) ≡ Ok undefined

-- an array without chunks, whose index block stands at `block`
pub empty_array_there : (img : List ℕ) (d : Described) (block : ℕ) → d.layout.index ≡ Array → d.layout.address < 2 ^ 63 → block < 2 ^ 63 → At img d.layout.address (eahd_bytes (empty_array block))
    → At img block (eaib_bytes (empty_index_block d.layout.address)) → IsEmpty img d (blocks_of (look_of d.layout.address eahd_len ∷ look_of block eaib_len ∷ []))
empty_array_there img d block kind low high header stands =
    let at = d.layout.address in
    let by = array_by d (defined at low) kind in
    record {
      blocks = in_array (empty_index_block at);
      read = ap (eval img) by ∙ array_read img at block low high header stands;
      looks = ap (λ p. blocks_of (visits img p)) by ∙ ap blocks_of (array_looks img at block low high header stands);
      behind = λ end bytes. array_behind img end bytes at;
      answers = array_answer img at;
    }

-- a tree without records
pub empty_tree_there : (img : List ℕ) (d : Described) → d.layout.index ≡ Tree → d.layout.address < 2 ^ 63 → At img d.layout.address (bthd_bytes empty_tree)
    → IsEmpty img d (blocks_of (look_of d.layout.address bthd_len ∷ []))
empty_tree_there img d kind low header =
    let at = d.layout.address in
    let by = tree_by d (defined at low) kind in
    record {
      blocks = nowhere;
      read = ap (eval img) by ∙ tree_found img at (eval img) header;
      looks = ap (λ p. blocks_of (visits img p)) by ∙ tree_found img at (λ p. blocks_of (look_of at bthd_len ∷ visits img p)) header;
      behind = λ end bytes. refl;
      answers = λ key. refl;
    }

pub empty_there : (img : List ℕ) (f : CreatedFile) (k : IndexKind) → IsCreatable f → f.index ≡ k → Holds img (index_blocks k f) → IsEmpty img (described_of f) (fixed_of k f)
empty_there img f Array h kind holds =
    let low = index_low f h in
    empty_array_there img (described_of f) (block_place f) kind (omega arith) (omega arith) holds.1.0 holds.0
empty_there img f Tree h kind holds =
    let low = index_low f h in
    empty_tree_there img (described_of f) kind (omega arith) holds.0
