-- The places of a first flush: those of chunks that were written early were taken first, then those of the index's blocks in place, then those
-- of the other chunks.
use Rattle.std.proofs.Common.{◌≡◌, ℕ, ◌+◌, ◌<◌, List, [], ◌∷◌, ◌++◌, length, refl, sym, ap, ◌∙◌, subst, arith}
use Rattle.h5w_model.specs.Arrays.{eahd_len, eaib_len}
use Rattle.h5w_model.specs.Trees.{bthd_len}
use Rattle.h5w_model.specs.Datasets.{Described}
use Rattle.h5w_model.specs.Findings.{Used}
use Rattle.h5w_model.specs.declared.cell.Key.{Key}
use Rattle.h5w_step_laws.specs.Needed.{AreFew}
use Rattle.h5w_step_laws.specs.Ranges.{block_at}
use Rattle.h5w_space.specs.Space.{Space}
use Rattle.h5w_chunks.specs.Shares.{touched}
use Rattle.h5w_chunks.specs.Rows.{ChunksApart}
use Rattle.h5w_chunks.specs.declared.grid.ChunkPlace.{ChunkPlace}
use Rattle.h5w_step_laws.specs.Files.{with_rows}
use Rattle.h5w_step_laws.specs.Moments.{Moment}
use Rattle.h5w_array_laws.proofs.NamingLemmas.{part_moved}
use Rattle.h5w_flush_laws.specs.Knowledge.{Knows}
use Rattle.h5w_flush_laws.specs.Rows.{new_chunks}
use Rattle.h5w_flush_laws.specs.Spaces.{Taken}
use Rattle.h5w_flush_laws.specs.Chunks.{chunks_for}
use Rattle.h5w_flush_laws.proofs.ChunkPlaceLemmas.{places_apart}
use Rattle.h5w_flush_laws.proofs.NewChunkLemmas.{new_joined}
use Rattle.h5w_flush_laws.proofs.SpaceLemmas.{taken_laws}
use Rattle.h5w_first_flush_laws.specs.FirstFlushes.{no_chunk}
use Rattle.h5w_first_flush_laws.proofs.StartCallLemmas.{two_taken}
use Rattle.h5w_first_flush_laws.proofs.TakenLemmas.{taken_again, taken_right}
use Rattle.h5w_index.specs.Naming.{AreTaken, AreTakenBehind}
use Rattle.h5w_index.specs.Views.{IndexView, an_array, a_tree}
use Rattle.h5w_writer.specs.Starts.{IsMadeAt, TookTops, both, block_alone}

-- places were taken for the blocks in place of an index that is made
pub made_tops : (address : ℕ) (s : Space) (at : ℕ) (v : IndexView) (t : Space) → IsMadeAt address s at v t → (tops : List Used) × Taken s tops t
made_tops address s at (an_array v) t made = go made.block made.tops
  where
    go : (block : ℕ) → TookTops address s at block t → (tops : List Used) × Taken s tops t
    go block (both none two) = (block_at at eahd_len ∷ block_at block eaib_len ∷ [], two_taken s two.between t at block two.first two.second)
    go block (block_alone named there took) = (block_at block eaib_len ∷ [], taken_laws.one s t (block_at block eaib_len) (omega arith) took)
made_tops address s at (a_tree p v) t made = (block_at at bthd_len ∷ [], taken_laws.one s t (block_at at bthd_len) (omega arith) made.header)

-- the new chunks are those that were written early and the others
chunks_in_two : (d : Described) (old : Key → ℕ) (from : ℕ) (early later all : List ChunkPlace) → all ≡ early ++ later → new_chunks d old from 0 all ≡ new_chunks d old from 0 early ++ new_chunks d old from (length early) later
chunks_in_two d old from early later all e =
    ap (new_chunks d old from 0) e ∙ new_joined d old from 0 early later
    ∙ ap (λ (k : ℕ). new_chunks d old from 0 early ++ new_chunks d old from k later) (let same : 0 + length early ≡ length early = omega arith in same)

-- all these places were taken together
pub taken_between : (d : Described) (old : Key → ℕ) (rest base first b : Space) (early chunks : List ChunkPlace) (tops : List Used) → AreTaken d old rest early base → AreTakenBehind d old early first chunks b → Taken base tops first
    → Taken rest (tops ++ new_chunks d old d.shape.rows 0 chunks) b
taken_between d old rest base first b early chunks tops before behind top =
    let some : List Used = new_chunks d old d.shape.rows 0 early in
    let others : List Used = new_chunks d old d.shape.rows (length early) behind.later in
    let all : Taken rest (some ++ (tops ++ others)) b = taken_laws.joined rest base b some (tops ++ others) before.taken (taken_laws.joined base first b tops others top behind.taken) in
    subst (λ (us : List Used). Taken rest (tops ++ us) b) (sym (chunks_in_two d old d.shape.rows early behind.later chunks behind.all))
    (taken_again rest b (some ++ (tops ++ others)) (tops ++ (some ++ others)) all (part_moved some tops others) (part_moved tops some others))

-- so that no two of the chunks meet
pub first_apart : (img name : List ℕ) (m : Moment) (rest b : Space) (rows : ℕ) (places : List ChunkPlace) (tops : List Used) → Knows img name m no_chunk rest → Taken rest (tops ++ chunks_for m no_chunk places) b
    → m.dataset.shape.rows < rows → AreFew (with_rows rows m.dataset) → length places ≡ touched m.dataset m.dataset.shape.rows rows → ChunksApart m.dataset places
first_apart img name m rest b rows places tops knows taken rises few all =
    let own = taken_right rest b tops (chunks_for m no_chunk places) taken in
    places_apart img name m no_chunk rest own.0 rows places knows own.1 rises few all (λ k p here e. absurd (e refl))
