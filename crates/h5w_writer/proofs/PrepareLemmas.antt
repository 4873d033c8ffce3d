-- The chunks of rows that were written early are named first, and the others get their places behind them.
use Rattle.std.proofs.Common.{◌≡◌, ◌⊎◌, ℕ, ◌+◌, ◌-◌, ◌*◌, ◌/◌, ◌^◌, ◌<◌, ◌≤◌, nat_lt, List, Some, refl, sym, subst, inl, inr, arith, mul-le-mul_right}
use Rattle.std.specs.List.{slice_get}
use Rattle.std.proofs.lemmas.Bool.{cases_lt, cond-false, le-ltb}
use Rattle.std.proofs.Math.Nat.{div-mul-le_self}
use Rattle.h5w_model.specs.Logs.{div_up}
use Rattle.h5w_model.specs.Datasets.{Described}
use Rattle.h5w_model.specs.Tables.{chunks_across, format_limits, keys_across, limit_of}
use Rattle.h5w_model.specs.declared.cell.Key.{Key}
use Rattle.h5w_space.specs.Space.{Space}
use Rattle.h5w_chunks.specs.Grids.{chunk_len}
use Rattle.h5w_chunks.specs.Shares.{first_line, touched}
use Rattle.h5w_chunks.specs.declared.grid.ChunkPlace.{ChunkPlace}
use Rattle.h5w_chunks.proofs.KeyLemmas.{line_chunks}
use Rattle.h5w_flush_laws.proofs.NewChunkLemmas.{touched_is}
use Rattle.h5w_index.specs.Naming.{AreNamed, AreTakenBehind}
use Rattle.h5w_index.specs.Views.{IndexView}
use Rattle.h5w_index.proofs.BehindLemmas.{behind_laws, get_joined}
use Rattle.h5w_writer.specs.Sessions.{most_lines}
use Rattle.h5w_writer.proofs.TakingLemmas.{limit_top}

-- these chunks are named, whichever way they are told
pub named_as : (d : Described) (to : ℕ) (v w : IndexView) (early chunks : List ChunkPlace) (added : List Key) → chunks ≡ early → AreNamed d to v early added w → AreNamed d to v chunks added w
named_as d to v w early chunks added same named = subst (λ (cs : List ChunkPlace). AreNamed d to v cs added w) (sym same) named

-- no other has its place yet
pub taken_as : (d : Described) (old : Key → ℕ) (early chunks : List ChunkPlace) (s t : Space) → chunks ≡ early → t ≡ s → AreTakenBehind d old early s chunks t
taken_as d old early chunks s t same still =
    subst (λ (u : Space). AreTakenBehind d old early s chunks u) (sym still)
    (subst (λ (cs : List ChunkPlace). AreTakenBehind d old early s cs s) (sym same) (behind_laws.behind_none d old early s s (record { end = refl; free = refl; retired = refl; limit = refl })))

-- chunks that few lines of keys have are few
pub touched_few : (d : Described) (from to : ℕ) → first_line d (div_up to d.layout.chunk_rows) ≤ most_lines d → touched d from to ≤ 1000000
touched_few d from to few = go (cases_lt from to)
  where
    bands : ℕ
    bands = div_up to d.layout.chunk_rows

    go : (from < to) ⊎ (to ≤ from) → touched d from to ≤ 1000000
    go (inl rises) =
        let lines : first_line d bands * keys_across d ≤ most_lines d * keys_across d = mul-le-mul_right (keys_across d) few in
        let limit : most_lines d * keys_across d ≤ limit_of format_limits d.layout.index = div-mul-le_self (limit_of format_limits d.layout.index) (keys_across d) in
        let less : (bands - from / d.layout.chunk_rows) * chunks_across d ≤ bands * chunks_across d = mul-le-mul_right (chunks_across d) (omega arith) in
        omega (arith, touched_is d from to rises, less, line_chunks d bands, lines, limit, limit_top d.layout.index)
    go (inr none) = omega (arith, cond-false (nat_lt from to) ((bands - from / d.layout.chunk_rows) * chunks_across d) 0 (le-ltb from to none))

-- each chunk ends in a file that can be counted with
pub chunks_end : (d : Described) (old : Key → ℕ) (early chunks : List ChunkPlace) (s t : Space) → ((k : ℕ) (p : ChunkPlace) → slice_get early k ≡ Some p → p.address + chunk_len d ≤ s.end) → s.end < 2 ^ 64 → s.limit ≤ 2 ^ 40
    → AreTakenBehind d old early s chunks t → (k : ℕ) (p : ChunkPlace) → slice_get chunks k ≡ Some p → p.address + chunk_len d < 2 ^ 64
chunks_end d old early chunks s t ends small limit taken k p at = go (get_joined early taken.later k p (subst (λ (ps : List ChunkPlace). slice_get ps k ≡ Some p) taken.all at))
  where
    go : (slice_get early k ≡ Some p) ⊎ ((j : ℕ) × (slice_get taken.later j ≡ Some p)) → p.address + chunk_len d < 2 ^ 64
    go (inl first) = omega (arith, ends k p first, small)
    go (inr later) = omega (arith, taken.inside later.0 p later.1, taken.raised.fits, small, taken.raised.limit, limit)
