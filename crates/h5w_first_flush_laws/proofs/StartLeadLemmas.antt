-- What a first flush leads to.
use Rattle.std.proofs.Common.{ℕ, List, [], refl}
use Rattle.std.specs.Prelude.{Some, ℤ}
use Rattle.h5w_model.specs.Findings.{chunk_bytes}
use Rattle.h5w_model.specs.declared.piece.Write.{Write}
use Rattle.h5w_space.specs.Space.{Space}
use Rattle.h5w_cache.specs.Stores.{Store}
use Rattle.h5w_cache.specs.declared.moves.Move.{Move}
use Rattle.h5w_chunks.specs.declared.grid.ChunkPlace.{ChunkPlace}
use Rattle.h5w_step_laws.specs.Moments.{Moment}
use Rattle.h5w_step_laws.specs.Logs.{image_now}
use Rattle.h5w_array_laws.specs.ArrayStores.{header_place}
use Rattle.h5w_array_laws.specs.ArrayImages.{StandsArray}
use Rattle.h5w_array_laws.specs.ArrayPlans.{IsArrayPlan}
use Rattle.h5w_flush_laws.specs.Parts.{block_writes}
use Rattle.h5w_flush_laws.specs.Chunks.{chunks_for}
use Rattle.h5w_first_flush_laws.specs.FirstFlushes.{IsFirstFlush, no_chunk}
use Rattle.h5w_first_flush_laws.specs.Starting.{StartKnows}
use Rattle.h5w_first_flush_laws.specs.StartFlushes.{first_blocks, parts_for, IsStart, IsStarted, StartLeads, StartRuns}
use Rattle.h5w_first_flush_laws.proofs.ArrayLeadLemmas.{StandsThen, array_leads, array_runs, array_stays}
use Rattle.h5w_first_flush_laws.proofs.FirstFlushLemmas.{stands_ended}
use Rattle.h5w_first_flush_laws.proofs.StartFlushLemmas.{planned, stands, start_first}

module _ (img name : List ℕ) (m : Moment) (base b t : Space) (u v w : Store) (ms : List Move) (rows : ℕ) (more : List ℤ) (writes : List Write) (places : List ChunkPlace) (copies : List (ℕ × List ℕ)) (fixed supers : List Write)
    (r : StartKnows img name m base u) (x : IsStart img m base b u v ms w t rows more writes places copies fixed supers) where
  i : IsFirstFlush img m r.knows.held base t (parts_for m w rows more writes places copies supers t.end)
  i = start_first img name m base b t u v w ms rows more writes places copies fixed supers r x

  array : IsArrayPlan v b ms (block_writes copies) fixed w t
  array = planned img name m base b t u v w ms rows more writes places copies fixed supers r x

  then : StandsThen img m t w (parts_for m w rows more writes places copies supers t.end)
  then = record {
    kind = r.unnamed.kind;
    at = refl;
    array = array.array;
    clean = array.clean;
    standing = x.part.plan.keeps.standing x.part.plan.standing;
    stands = stands_ended (StandsArray w) img name m base t (parts_for m w rows more writes places copies supers t.end) r.knows i (array_stays (chunk_bytes m.dataset) w array.array)
        (stands img name m base b t u v w ms rows more writes places copies fixed supers r x);
  }

  started : IsStarted img name m r.knows.held t w (parts_for m w rows more writes places copies supers t.end)
  started = array_leads img name m base t w rows more writes (chunks_for m no_chunk places) copies (first_blocks w) supers t.end [] (Some (header_place w)) r.knows i then

pub start_leads : StartLeads
start_leads img name m base b t u v w ms rows more writes places copies fixed supers r x = started img name m base b t u v w ms rows more writes places copies fixed supers r x

pub start_runs : StartRuns
start_runs name log m base b t u v w ms rows more writes places copies fixed supers r runs x values =
    array_runs name log m base t w rows more writes (chunks_for m no_chunk places) copies (first_blocks w) supers [] (Some (header_place w)) r.knows runs
    (start_first (image_now log) name m base b t u v w ms rows more writes places copies fixed supers r x)
    (start_leads (image_now log) name m base b t u v w ms rows more writes places copies fixed supers r x) values
