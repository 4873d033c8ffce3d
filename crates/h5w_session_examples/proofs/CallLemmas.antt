-- What an array's calls give of the flush.
use Rattle.std.proofs.Common.{◌≡◌, ◌≢◌, ℕ, zero, suc, ◌+◌, ◌≤◌, false, List, [], ◌∷◌, refl, ◌∙◌, subst, inl, inr, arith, lit≤}
use Rattle.std.specs.Prelude.{slice_get, ◌==◌, Option, Some}
use Rattle.std.proofs.lemmas.Bool.{cond-false, ne_eqb}
use Rattle.h5w_model.specs.Numbers.{undefined}
use Rattle.h5w_model.specs.Findings.{Used}
use Rattle.h5w_model.specs.declared.piece.Write.{Write}
use Rattle.h5w_step_laws.specs.Ranges.{Among, block_at, chunk_at}
use Rattle.h5w_space.specs.Space.{Space}
use Rattle.h5w_cache.specs.Stores.{Store}
use Rattle.h5w_cache.specs.declared.moves.Move.{Move}
use Rattle.h5w_chunks.specs.declared.grid.ChunkPlace.{ChunkPlace}
use Rattle.h5w_examples.specs.Readings.{data_name, described_by}
use Rattle.h5w_array_laws.specs.Among.{AreAmong}
use Rattle.h5w_array_laws.specs.ArrayStores.{map_of, behind_of}
use Rattle.h5w_session_examples.proofs.Decisions.{disjoint_by}
use Rattle.h5w_flush_laws.specs.Spaces.{Taken}
use Rattle.h5w_flush_laws.specs.Parts.{AreEnded}
use Rattle.h5w_flush_laws.specs.Rows.{IsPlaced, ArePlaced}
use Rattle.h5w_session_examples.specs.FirstFlush.{places_to}
use Rattle.h5w_first_flush_laws.specs.FirstFlushes.{no_chunk}
use Rattle.h5w_first_flush_laws.specs.Starting.{StartKnows}
use Rattle.h5w_first_flush_laws.specs.StartFlushes.{IsStarted, parts_for}
use Rattle.h5w_first_flush_laws.specs.StartCalls.{AreStartCalls}
use Rattle.h5w_first_flush_laws.proofs.StartLemmas.{created_blank}
use Rattle.h5w_first_flush_laws.proofs.StartCallLemmas.{start_calls}
use Rattle.h5w_first_flush_laws.proofs.StartLeadLemmas.{start_leads}
use Rattle.h5w_session_examples.specs.UnnamedFlush.{open_to_write, opened_file, fourth_row, new_place}
use Rattle.h5w_session_examples.specs.ArrayCalls.{AreCalls, StartIt, ArrayStarts}
use Rattle.h5w_session_examples.proofs.UnnamedLemmas.{known, row_stands, each_fits, taken_from}

abbrev with_chunk : List Used
with_chunk = block_at 546 72 ∷ block_at 248 298 ∷ chunk_at 240 8 ∷ []

chunk_taken_too : Taken (places_to 240) with_chunk (places_to 618)
chunk_taken_too = taken_from 240 618 with_chunk (disjoint_by with_chunk refl refl) inside (lit≤ tt) (block_at 546 72) (inl refl) refl
  where
    inside : (u : Used) → Among u with_chunk → (240 ≤ u.place) × (u.place + u.len ≤ 618)
    inside u (inl e) = subst (λ (y : Used). (240 ≤ y.place) × (y.place + y.len ≤ 618)) e (lit≤ tt, lit≤ tt)
    inside u (inr (inl e)) = subst (λ (y : Used). (240 ≤ y.place) × (y.place + y.len ≤ 618)) e (lit≤ tt, lit≤ tt)
    inside u (inr (inr (inl e))) = subst (λ (y : Used). (240 ≤ y.place) × (y.place + y.len ≤ 618)) e (lit≤ tt, lit≤ tt)
    inside u (inr (inr (inr a))) = absurd a

module _ (u h v w : Store) (ms : List Move) (cs fixed supers : List Write) (t : Space) (c : AreCalls u h v ms cs fixed w t) (ended : AreEnded open_to_write.super t.end supers) where
  knows : StartKnows opened_file data_name open_to_write (places_to 240) u
  knows = record { knows = known.knows; unnamed = record { kind = refl; address = refl }; blank = created_blank 546 248 u c.made (lit≤ tt) (lit≤ tt) }

  named_there : map_of w 1 ≡ 240
  named_there = c.plan.map 1 ∙ c.named.map 1

  none_else : (i : ℕ) → i ≢ 1 → map_of w i ≡ undefined
  none_else i ne = c.plan.map i ∙ c.named.map i ∙ cond-false (i == 1) 240 (map_of h i) (ne_eqb i 1 ne) ∙ c.held.map i ∙ knows.blank.map i

  each_placed : (k : ℕ) (p : ChunkPlace) → slice_get new_place k ≡ Some p → IsPlaced (described_by 2 3 undefined) no_chunk (λ key. map_of w key.i) 3 k p
  each_placed zero p found = subst (λ (q : ChunkPlace). IsPlaced (described_by 2 3 undefined) no_chunk (λ key. map_of w key.i) 3 zero q) (some_place (record { address = 240; stored = false }) p found) (record {
    named = named_there;
    defined = λ e. absurd (omega (arith, e));
    kept = λ d. absurd (d refl);
    stored = λ e. absurd cc;
    whole = λ e d. absurd (d refl);
  })
    where
      some_place : (p q : ChunkPlace) → ◌≡◌ {A = Option ChunkPlace} (Some p) (Some q) → p ≡ q
      some_place p q e = cc
  each_placed (suc k) p found = absurd cc

  all_placed : (copies : List (ℕ × List ℕ)) → ArePlaced opened_file open_to_write no_chunk (parts_for open_to_write w 4 fourth_row.more fourth_row.writes new_place copies supers t.end) new_place
  all_placed copies = record {
    written = row_stands;
    all = refl;
    placed = each_placed;
    others = λ key asked outside. none_else key.i (λ e. elim outside [ inl low ↦ absurd (omega (arith, low, e)) | inr high ↦ absurd (omega (arith, high, e)) ]);
    chunks = refl;
    typed = refl;
    filled = refl;
    fit = each_fits;
  }

  are : AreStartCalls opened_file open_to_write (places_to 240) (places_to 618) 546 248 u v ms w t 4 fourth_row.more fourth_row.writes new_place cs fixed supers
  are = record {
    rising = λ copies. record { rises = lit≤ tt; small = lit≤ tt; few = refl; count = refl; placed = all_placed copies; ended = ended };
    taken = chunk_taken_too;
    made = record { created = c.made; header_ends = lit≤ tt; block_ends = lit≤ tt };
    names = record {
      array = c.array;
      standing = λ s h. c.named.standing s (c.held.standing s h);
      places = λ n. c.named.places n ∙ c.held.places n;
      changed = c.named.marks 845 c.changed;
      behind = subst (λ (us : List Used). AreAmong (behind_of 8 v) (chunk_at 240 8 ∷ us)) (c.held.behind 8) (c.named.behind 8);
    };
    plan = c.plan;
  }

  start_it : StartIt u v ms cs fixed supers w t
  start_it =
      let k : StartKnows opened_file data_name open_to_write (places_to 240) u = record { knows = known.knows; unnamed = knows.unnamed; blank = knows.blank } in
      let calls = start_calls opened_file data_name open_to_write (places_to 240) (places_to 618) t 546 248 u u v w ms 4 fourth_row.more fourth_row.writes new_place cs fixed supers k are in
      record {
        calls = calls;
        started =
            subst (λ (us : List Used). IsStarted opened_file data_name open_to_write us t w (parts_for open_to_write w 4 fourth_row.more fourth_row.writes new_place calls.copies supers t.end)) known.is
            (start_leads opened_file data_name open_to_write (places_to 240) (places_to 618) t u v w ms 4 fourth_row.more fourth_row.writes new_place calls.copies fixed supers k calls.start);
      }

pub array_starts : ArrayStarts
array_starts u h v w ms cs fixed supers t c ended = start_it u h v w ms cs fixed supers t c ended
