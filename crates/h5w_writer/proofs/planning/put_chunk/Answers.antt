use Rattle.std.proofs.Common.{◌≡◌, ℕ, zero, suc, ◌+◌, ◌^◌, ◌<◌, [], ◌∷◌, None, Some, Option, subst}
use Rattle.std.specs.List.{slice_get}
use Rattle.h5w_chunks.specs.Grids.{chunk_len, dataset_of}
use Rattle.h5w_chunks.specs.declared.grid.ChunkPlace.{ChunkPlace}
use Rattle.h5w_writer.proofs.planning.put_chunk.Goals as goal

pub new_bytes-requires-clause-ends : goal.new_bytes-requires-clause-ends
new_bytes-requires-clause-ends c k p at = go k at
  where
    go : (k : ℕ) → slice_get (c.args.place ∷ []) k ≡ Some p → p.address + chunk_len (dataset_of c.args.grid.now) < 2 ^ 64
    go zero is = let same : c.args.place ≡ p = cc in subst (λ (q : ChunkPlace). q.address + chunk_len (dataset_of c.args.grid.now) < 2 ^ 64) same c.requires.ends
    go (suc k) is = let clash : ◌≡◌ {A = Option ChunkPlace} None (Some p) = is in absurd cc
