-- The index of a dataset of a created file, wherever it stands: its blocks in place are read, and nothing stands behind them.
use Rattle.std.proofs.Common.{◌≡◌, ℕ, ◌+◌, ◌^◌, ◌<◌, ◌≤◌, List, [], ◌∷◌, refl, sym, subst, arith}
use Rattle.h5w_model.specs.Images.{Holds}
use Rattle.h5w_model.specs.Arrays.{eahd_len, eaib_len}
use Rattle.h5w_model.specs.Trees.{bthd_len}
use Rattle.h5w_model.specs.Findings.{Used, chunk_bytes}
use Rattle.h5w_model.specs.declared.cell.IndexKind.{IndexKind}
use Rattle.h5w_model.specs.declared.cell.IndexKind.TheVariants.{Array, Tree}
use Rattle.h5w_step_laws.specs.Ranges.{AllEndBy, block_at}
use Rattle.h5w_step_laws.specs.Indexes.{IsIndex}
use Rattle.h5w_step_laws.proofs.RangeLemmas.{ends_nil, ends_cons}
use Rattle.h5w_step_laws.proofs.IndexLaws.{index_of_parts}
use Rattle.h5w_creation_laws.specs.CreatedFiles.{CreatedFile, index_len}
use Rattle.h5w_creation_laws.proofs.IndexLemmas.{IsEmpty, empty_array_there, empty_tree_there}
use Rattle.h5w_several_creation_laws.specs.SeveralFiles.{index_behind, block_behind, end_behind, described_at, index_at, fixed_at}

empty_there : (img : List ℕ) (place : ℕ) (f : CreatedFile) (k : IndexKind) → end_behind place f < 2 ^ 62 → f.index ≡ k → Holds img (index_at k place f) → IsEmpty img (described_at place f) (fixed_at k place f)
empty_there img place f Array low kind holds = empty_array_there img (described_at place f) (block_behind place f) kind (omega arith) (omega arith) holds.1.0 holds.0
empty_there img place f Tree low kind holds = empty_tree_there img (described_at place f) kind (omega arith) holds.0

fixed_ends : (k : IndexKind) (place : ℕ) (f : CreatedFile) (end : ℕ) → index_behind place f + index_len k ≤ end → AllEndBy end (fixed_at k place f)
fixed_ends Array place f end h =
    ends_cons end (block_at (index_behind place f) eahd_len) (block_at (block_behind place f) eaib_len ∷ []) (omega arith) (ends_cons end (block_at (block_behind place f) eaib_len) [] (omega arith) (ends_nil end))
fixed_ends Tree place f end h = ends_cons end (block_at (index_behind place f) bthd_len) [] (omega arith) (ends_nil end)

-- it is an index, within any end that its blocks are within
pub index_there : (img : List ℕ) (place : ℕ) (f : CreatedFile) (end : ℕ) → end_behind place f ≤ end → end_behind place f < 2 ^ 62 → Holds img (index_at f.index place f)
    → IsIndex img end (described_at place f) (fixed_at f.index place f) []
index_there img place f end within low holds =
    let e = empty_there img place f f.index low refl holds in
    subst (λ (us : List Used). IsIndex img end (described_at place f) us []) e.looks
    (index_of_parts img end (described_at place f) e.blocks [] e.read (subst (λ (us : List Used). AllEndBy end us) (sym e.looks) (fixed_ends f.index place f end within)) (e.behind end (chunk_bytes (described_at place f))))
