-- What such a flush leads to.
use Rattle.std.proofs.Common.{◌≡◌, ◌⊎◌, ℕ, ◌<◌, List, [], ◌∷◌, length, None, subst, sym, inl, inr, arith}
use Rattle.std.specs.Prelude.{ℤ}
use Rattle.h5w_model.specs.Images.{At}
use Rattle.h5w_model.specs.Findings.{chunk_bytes}
use Rattle.h5w_model.specs.declared.piece.Write.{Write}
use Rattle.h5w_step_laws.specs.Ranges.{block_at}
use Rattle.h5w_space.specs.Space.{Space}
use Rattle.h5w_cache.specs.Stores.{Store, place_of}
use Rattle.h5w_cache.specs.Plans.{bytes_in}
use Rattle.h5w_cache.specs.StoreLaws.{IsPlaced}
use Rattle.h5w_cache.specs.declared.moves.Move.{Move}
use Rattle.h5w_chunks.specs.declared.grid.ChunkPlace.{ChunkPlace}
use Rattle.h5w_step_laws.specs.Moments.{Moment}
use Rattle.h5w_step_laws.specs.Logs.{image_now}
use Rattle.h5w_array_laws.specs.ArrayImages.{BehindStands, StandsArray}
use Rattle.h5w_array_laws.specs.ArrayPlans.{IsArrayPlan}
use Rattle.h5w_array_laws.proofs.PlanLemmas.{two_apart}
use Rattle.h5w_array_laws.proofs.StandLemmas.{header_placed, header_stands}
use Rattle.h5w_array_laws.proofs.WriteLemmas.{which_part, writes_leave}
use Rattle.h5w_flush_laws.specs.Parts.{Parts, block_writes, ended}
use Rattle.h5w_flush_laws.specs.Chunks.{chunks_for}
use Rattle.h5w_flush_laws.proofs.HeaderLemmas.{last_image}
use Rattle.h5w_array_flush_laws.proofs.ArrayFlushLemmas.{placed_range}
use Rattle.h5w_first_flush_laws.specs.FirstFlushes.{IsFirstFlush, no_chunk}
use Rattle.h5w_first_flush_laws.specs.StartFlushes.{IsStarted}
use Rattle.h5w_first_flush_laws.proofs.ArrayLeadLemmas.{StandsThen, array_leads, array_runs}
use Rattle.h5w_first_flush_laws.proofs.FirstFlushLemmas.{stands_ended}
use Rattle.h5w_first_flush_laws.specs.HeaderAlone.{AloneKnows}
use Rattle.h5w_first_flush_laws.specs.BlockFlushes.{new_block, top_piece, block_parts_for, IsBlockStart, BlockLeads, BlockRuns}
use Rattle.h5w_first_flush_laws.proofs.BlockFlushLemmas as flushes
use Rattle.h5w_first_flush_laws.proofs.BlockFlushLemmas.{block_first}

module _ (img name : List ℕ) (m : Moment) (base b t : Space) (u v w : Store) (ms : List Move) (rows : ℕ) (more : List ℤ) (writes : List Write) (places : List ChunkPlace) (copies : List (ℕ × List ℕ)) (fixed supers : List Write)
    (r : AloneKnows img name m base) (x : IsBlockStart img m base b u v ms w t rows more writes places copies fixed supers) where
  abbrev f : Parts
  f = block_parts_for m w rows more writes places copies supers t.end

  i : IsFirstFlush img m r.knows.held base t f
  i = block_first img name m base b t u v w ms rows more writes places copies fixed supers r x

  array : IsArrayPlan v b ms (block_writes copies) fixed w t
  array = flushes.planned img name m base b t u v w ms rows more writes places copies fixed supers r x

  -- superblock and header miss the blocks behind those in place
  behind_last : BehindStands w (last_image img f)
  behind_last =
      let standing = flushes.standing img name m base b t u v w ms rows more writes places copies fixed supers r x in
      writes_leave.behind w (ended img f) (top_piece w ∷ []) (λ n placed low. (two_apart w t standing 846 n (λ e. absurd (omega (arith, e, low))) (header_placed w array.array) placed, tt))
      (stands_ended (BehindStands w) img name m base t f r.knows i (λ other ws off. writes_leave.behind w other ws (λ n placed low. off (block_at (place_of w n) (length (bytes_in w.blocks n))) (placed_range (chunk_bytes m.dataset) w n array.array placed)))
      (flushes.behind img name m base b t u v w ms rows more writes places copies fixed supers r x))

  all_last : (n : ℕ) → IsPlaced w n → (n < 845) ⊎ (n ≡ 845) ⊎ (n ≡ 846) → At (last_image img f) (place_of w n) (bytes_in w.blocks n)
  all_last n placed (inl low) = behind_last n placed low
  all_last n placed (inr (inl e)) =
      subst (λ k. At (last_image img f) (place_of w k) (bytes_in w.blocks k)) (sym e) (flushes.index_last img name m base b t u v w ms rows more writes places copies fixed supers r x)
  all_last n placed (inr (inr e)) =
      subst (λ k. At (last_image img f) (place_of w k) (bytes_in w.blocks k)) (sym e) (flushes.header_last img name m base b t u v w ms rows more writes places copies fixed supers r x)

  stands : StandsArray w (last_image img f)
  stands = record {
    there = λ n placed clean. all_last n placed (which_part w array.array n placed);
    headed = header_stands w (last_image img f) array.array array.clean (flushes.header_last img name m base b t u v w ms rows more writes places copies fixed supers r x);
  }

  then : StandsThen img m t w f
  then = record {
    kind = r.alone.kind;
    at = flushes.at img name m base b t u v w ms rows more writes places copies fixed supers r x;
    array = array.array;
    clean = array.clean;
    standing = flushes.standing img name m base b t u v w ms rows more writes places copies fixed supers r x;
    stands = stands;
  }

  leads : IsStarted img name m r.knows.held t w f
  leads = array_leads img name m base t w rows more writes (chunks_for m no_chunk places) copies (new_block w) supers t.end (top_piece w ∷ []) None r.knows i then

pub block_leads : BlockLeads
block_leads img name m base b t u v w ms rows more writes places copies fixed supers r x = leads img name m base b t u v w ms rows more writes places copies fixed supers r x

pub block_runs : BlockRuns
block_runs name log m base b t u v w ms rows more writes places copies fixed supers r runs x values =
    array_runs name log m base t w rows more writes (chunks_for m no_chunk places) copies (new_block w) supers (top_piece w ∷ []) None r.knows runs
    (block_first (image_now log) name m base b t u v w ms rows more writes places copies fixed supers r x)
    (block_leads (image_now log) name m base b t u v w ms rows more writes places copies fixed supers r x) values
