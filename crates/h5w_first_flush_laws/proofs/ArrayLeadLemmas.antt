-- What the first flush of an array leads to, where its layout named none as where it named its header.
use Rattle.std.proofs.Common.{◌≡◌, ℕ, ◌++◌, List, [], length, Option, refl, sym, ◌∙◌, subst}
use Rattle.std.specs.Prelude.{unwrap_or, ℤ}
use Rattle.h5w_model.specs.Images.{AllMiss, image}
use Rattle.h5w_model.specs.Findings.{Used, chunk_bytes}
use Rattle.h5w_model.specs.Logs.{Log, appended}
use Rattle.h5w_model.specs.declared.cell.IndexKind.TheVariants.{Array}
use Rattle.h5w_model.specs.declared.piece.Write.{Write}
use Rattle.h5w_step_laws.specs.Ranges.{Among, block_at}
use Rattle.h5w_space.specs.Space.{Space}
use Rattle.h5w_cache.specs.Stores.{Store, place_of}
use Rattle.h5w_cache.specs.Plans.{bytes_in}
use Rattle.h5w_cache.specs.StoreLaws.{Standing}
use Rattle.h5w_step_laws.specs.Moments.{Moment}
use Rattle.h5w_step_laws.specs.Logs.{image_now}
use Rattle.h5w_step_laws.specs.Sessions.{Runs}
use Rattle.h5w_array_laws.specs.ArrayStores.{IsArray, behind_of, fixed_of, header_place, map_of}
use Rattle.h5w_array_laws.specs.ArrayImages.{StandsArray}
use Rattle.h5w_array_laws.proofs.WriteLemmas.{writes_leave}
use Rattle.h5w_flush_laws.specs.Knowledge.{Knows}
use Rattle.h5w_flush_laws.specs.Parts.{Parts, flushed_to, pieces_of}
use Rattle.h5w_flush_laws.specs.Flushes.{flush_planned}
use Rattle.h5w_flush_laws.proofs.FlushLaws.{flush_safe, knows_then, freed_known}
use Rattle.h5w_flush_laws.proofs.HeaderLemmas.{last_image}
use Rattle.h5w_flush_laws.proofs.SessionLaws.{shown_image}
use Rattle.h5w_array_flush_laws.specs.ArrayFlushes.{ArrayRests}
use Rattle.h5w_array_flush_laws.proofs.ArrayFlushLemmas.{placed_range}
use Rattle.h5w_array_flush_laws.proofs.ArrayRestLemmas.{standing_freed}
use Rattle.h5w_first_flush_laws.specs.FirstFlushes.{IsFirstFlush, IsFirstOver, no_chunk}
use Rattle.h5w_first_flush_laws.specs.StartFlushes.{first_parts, IsStarted, IsStartedOver}
use Rattle.h5w_first_flush_laws.specs.StartCalls.{ArePending}
use Rattle.h5w_first_flush_laws.proofs.FirstFlushLemmas.{first_runs, stands_shown}

-- what the array is once its flush is planned, and where it stands before the header's piece
pub record StandsThen (img : List ℕ) (m : Moment) (t : Space) (w : Store) (f : Parts) : Type 0 where
  pub kind : m.dataset.layout.index ≡ Array
  pub at : unwrap_or f.named m.dataset.layout.address ≡ header_place w
  pub array : IsArray w
  pub clean : w.changed ≡ []
  pub standing : Standing w t
  pub stands : StandsArray w (last_image img f)

-- an array stays under writes that miss its ranges
pub array_stays : (bytes : ℕ) (w : Store) → IsArray w → (other : List ℕ) (ws : List Write) → ((u : Used) → Among u (fixed_of w ++ behind_of bytes w) → AllMiss ws u.place u.len) → StandsArray w other → StandsArray w (image other ws)
array_stays bytes w array other ws off here = writes_leave.array w other ws array (λ n placed. off (block_at (place_of w n) (length (bytes_in w.blocks n))) (placed_range bytes w n array placed)) here

module _ (img name : List ℕ) (m : Moment) (base t : Space) (w : Store) (rows : ℕ) (more : List ℤ) (writes : List Write) (chunks : List Used) (copies first : List (ℕ × List ℕ)) (supers : List Write) (end : ℕ) (in_place : List Write) (naming : Option ℕ)
    (k : Knows img name m no_chunk base) (i : IsFirstFlush img m k.held base t (first_parts (chunk_bytes m.dataset) w rows more writes chunks copies first supers end in_place naming))
    (x : StandsThen img m t w (first_parts (chunk_bytes m.dataset) w rows more writes chunks copies first supers end in_place naming)) where
  abbrev f : Parts
  f = first_parts (chunk_bytes m.dataset) w rows more writes chunks copies first supers end in_place naming

  rests : (s : Space) → Standing w s → ArrayRests (image img (pieces_of img m f)) (flushed_to m f) (λ key. map_of w key.i) s w
  rests s standing = record {
    kind = x.kind;
    at = x.at;
    array = x.array;
    clean = x.clean;
    stands = stands_shown (StandsArray w) img name m base t f k i (array_stays (chunk_bytes m.dataset) w x.array) x.stands;
    standing = standing;
    fixed = refl;
    behind = refl;
    map = λ key. refl;
  }

  pub array_leads : IsStarted img name m k.held t w f
  array_leads =
      let known = knows_then img name m no_chunk base t f k i.flush i.missed in
      record {
        safe = flush_safe img name m no_chunk base t f k i.flush i.missed;
        begins = record { knows = known.knows; held = known.held; rests = rests t x.standing };
        freed = λ later c.
            let freed = freed_known (image img (pieces_of img m f)) name (flushed_to m f) (λ key. map_of w key.i) t later c known.knows in
            record { knows = freed.knows; held = freed.is ∙ known.held; rests = rests later (standing_freed w t later c x.standing) };
        header = known.header;
      }

-- the same over a session's log
module _ (name : List ℕ) (log : Log) (m : Moment) (base t : Space) (w : Store) (rows : ℕ) (more : List ℤ) (writes : List Write) (chunks : List Used) (copies first : List (ℕ × List ℕ)) (supers : List Write) (in_place : List Write) (naming : Option ℕ)
    (k : Knows (image_now log) name m no_chunk base) (runs : Runs name log [] m k.held)
    (i : IsFirstFlush (image_now log) m k.held base t (first_parts (chunk_bytes m.dataset) w rows more writes chunks copies first supers t.end in_place naming))
    (leads : IsStarted (image_now log) name m k.held t w (first_parts (chunk_bytes m.dataset) w rows more writes chunks copies first supers t.end in_place naming)) (values : m.values ++ more ≡ appended log) where
  abbrev g : Parts
  g = first_parts (chunk_bytes m.dataset) w rows more writes chunks copies first supers t.end in_place naming

  over : IsFirstOver name log m t g
  over = first_runs name log m base t g k runs i values

  pub array_runs : IsStartedOver name log m t w g
  array_runs = record {
    runs = over.runs;
    rests = over.rests;
    array = λ later c. subst (λ (y : List ℕ). ArrayRests y (flushed_to m g) (λ key. map_of w key.i) later w) (sym (shown_image (pieces_of (image_now log) m g) (flush_planned m g log))) (leads.freed later c).rests;
  }

  -- where these are its pieces
  pub array_pending : (ws : List Write) → pieces_of (image_now log) m g ≡ ws → ArePending name log m naming w t rows more ws
  array_pending ws same = subst (λ (xs : List Write). ArePending name log m naming w t rows more xs) same (record { runs = over.runs; begins = leads.begins; header = leads.header })
