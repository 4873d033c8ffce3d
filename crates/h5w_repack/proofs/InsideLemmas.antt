-- All that is copied of a valid file stands in it.
use Rattle.std.proofs.Common.{ℕ, zero, suc, ◌+◌, ◌-◌, ◌*◌, ◌<◌, ◌≤◌, min, List, [], ◌∷◌, length, flat_map, sym, subst, arith}
use Rattle.std.specs.List.{All}
use Rattle.std.proofs.lemmas.List.Elements.{All-append, All-cons, All-head, All-nil, All-tail}
use Rattle.h5w_model.specs.Tables.{Reading}
use Rattle.h5w_model.specs.Findings.{AllSummary, AllValid}
use Rattle.h5w_model.specs.declared.piece.Write.{Write}
use Rattle.h5w_packing.specs.Jobs.{PackingView, all_jobs, behind_address, block_jobs, chunk_jobs, first_jobs, piece_count}
use Rattle.h5w_packing.specs.Plans.{IsPlanned, Wanted, planned_writes, set_chunks}
use Rattle.h5w_packing.specs.Whole.{AllShow, AllWanted}
use Rattle.h5w_packing.specs.declared.job.Copied.{Copied}
use Rattle.h5w_packing.specs.declared.job.Job.{Job}
use Rattle.h5w_packing.specs.declared.job.Job.TheVariants.{Chunk, Block}
use Rattle.h5w_packing.proofs.TableLemmas.{StandsIn}
use Rattle.h5w_packing.proofs.WholeLemmas.{plan_inside}
use Rattle.h5w_repack.specs.Copies.{IsInside}

first_inside : (img : List ℕ) (k from to at left : ℕ) → 512 * k < left + 512 → (0 < k → from + at + left ≤ length img) → All (IsInside img) (first_jobs k from to at left)
unfolding first_jobs
first_inside img zero from to at left few low = All-nil (IsInside img)
first_inside img (suc k) from to at left few low =
    let here : behind_address from at + min 512 left ≤ length img = (let all = low (omega arith) in omega (arith, all)) in
    All-cons (IsInside img) (Chunk (behind_address from at) (to + at) (min 512 left)) (first_jobs k from to (at + 512) (left - 512)) here
    (first_inside img k from to (at + 512) (left - 512) (omega (arith, few)) (λ some. let all = low (omega arith) in omega (arith, few, some, all)))

chunk_inside : (img : List ℕ) (c : Copied) → c.from + c.len ≤ length img → All (IsInside img) (chunk_jobs c)
chunk_inside img c inside = first_inside img (piece_count (c.len - 0)) c.from c.to 0 (c.len - 0) (omega arith) (λ some. omega (arith, inside))

chunks_inside : (img : List ℕ) (cs : List Copied) → All (StandsIn img) cs → All (IsInside img) (flat_map chunk_jobs cs)
chunks_inside img [] h = All-nil (IsInside img)
chunks_inside img (c ∷ cs) h =
    All-append (IsInside img) (chunk_jobs c) (flat_map chunk_jobs cs) (chunk_inside img c (All-head (StandsIn img) c cs h).inside) (chunks_inside img cs (All-tail (StandsIn img) c cs h))

blocks_inside : (img : List ℕ) (ws : List Write) → All (IsInside img) (block_jobs ws)
blocks_inside img [] = All-nil (IsInside img)
blocks_inside img (w ∷ ws) = All-cons (IsInside img) (Block w) (block_jobs ws) tt (blocks_inside img ws)

all_inside : (img : List ℕ) (cs : List Copied) (ws : List Write) → All (StandsIn img) cs → All (IsInside img) (all_jobs cs ws)
all_inside img cs ws h = All-append (IsInside img) (flat_map chunk_jobs cs) (block_jobs ws) (chunks_inside img cs h) (blocks_inside img ws)

-- each piece of a chunk that is copied
pub jobs_inside : (img : List ℕ) (names : List (List ℕ)) (s : AllSummary) (rs : List Reading) (ws : List Wanted) (limit : ℕ) (p : PackingView) → AllValid img names s → AllShow img names rs → AllWanted names rs ws → IsPlanned ws limit p → All (IsInside img) p.left
jobs_inside img names s rs ws limit p valid shows wanted x =
    subst (λ (js : List Job). All (IsInside img) js) (sym x.jobs) (all_inside img (flat_map set_chunks x.sets) (planned_writes x.sets x.end) (plan_inside img names s rs ws limit p valid shows wanted x))
