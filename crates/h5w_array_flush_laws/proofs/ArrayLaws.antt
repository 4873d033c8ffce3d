-- A flush whose index is an array.
use Rattle.std.proofs.Common.{◌≡◌, ℕ, suc, Bool, true, false, List, [], ◌∷◌, ◌++◌, sym, ap, subst, inl, inr}
use Rattle.std.specs.Prelude.{◌==◌}
use Rattle.h5w_model.specs.Numbers.{undefined}
use Rattle.h5w_model.specs.Datasets.{Described}
use Rattle.h5w_model.specs.Findings.{Used, chunk_bytes}
use Rattle.h5w_model.specs.declared.cell.Key.{Key}
use Rattle.h5w_step_laws.specs.Ranges.{Among, chunk_at}
use Rattle.h5w_chunks.specs.Shares.{touched_key}
use Rattle.h5w_chunks.specs.declared.grid.ChunkPlace.{ChunkPlace}
use Rattle.h5w_array_laws.specs.ArrayPlans.{fresh}
use Rattle.h5w_flush_laws.specs.Spaces.{Taken}
use Rattle.h5w_flush_laws.specs.Parts.{block_ranges}
use Rattle.h5w_flush_laws.specs.Rows.{new_chunks}
use Rattle.h5w_flush_laws.specs.Chunks.{AreChunks, chunks_for}
use Rattle.h5w_flush_laws.proofs.SpaceLemmas.{taken_laws}
use Rattle.h5w_flush_laws.proofs.NewChunkLemmas.{or_none}
use Rattle.h5w_flush_laws.proofs.RowsLaws.{rows_flush}
use Rattle.h5w_array_flush_laws.specs.ArrayFlushes.{array_parts, ArrayIsFlush}
use Rattle.h5w_array_flush_laws.proofs.ArrayFlushLemmas.{array_flushed}
use Rattle.h5w_array_flush_laws.proofs.ArrayPlaceLemmas.{array_places}

pub new_are : (d : Described) (old : Key → ℕ) (from base : ℕ) (places : List ChunkPlace) → AreChunks (new_chunks d old from base places)
new_are d old from base [] u a = absurd a
new_are d old from base (p ∷ places) u a = go (old (touched_key d from base) == undefined) (λ b. new_are d old from (suc base) places u b) a
  where
    go : (t : Bool) → (Among u (new_chunks d old from (suc base) places) → u.chunk ≡ true) → Among u (or_none t (chunk_at p.address (chunk_bytes d)) (new_chunks d old from (suc base) places)) → u.chunk ≡ true
    go true later (inl e) = ap (λ (x : Used). x.chunk) (sym e)
    go true later (inr b) = later b
    go false later b = later b

pub array_is_flush : ArrayIsFlush
array_is_flush img name m old s b t v w ms rows more writes places copies supers fixed k first rises small few count placed ended x =
    let chunks : List Used = chunks_for m old places in
    let f = array_parts (chunk_bytes m.dataset) w rows more writes chunks copies supers t.end fixed in
    let part = rows_flush img name m old s b f places k first rises few count placed in
    let are = new_are m.dataset old m.dataset.shape.rows 0 places in
    let p = array_places img m b t v w ms chunks copies fixed are x in
    let taken : Taken s (chunks ++ block_ranges copies) p.between = subst (λ (us : List Used). Taken s (chunks ++ us) p.between) x.copied (taken_laws.joined s b p.between chunks (fresh ms) first p.taken) in
    record {
      rises = rises;
      small = small;
      few = few;
      count = count;
      named = tt;
      written = part.flushed;
      index = array_flushed img name m old s b p.between t v w ms rows more writes chunks copies supers t.end fixed k taken p.let_go.end ended part.flushed.unseen are part.kept x;
      between = p.between;
      taken = taken;
      end = p.let_go.end;
      super = ended;
      left = p.left;
      let_go = p.let_go;
      left_before = p.left_before;
      left_after = p.left_after;
    }
