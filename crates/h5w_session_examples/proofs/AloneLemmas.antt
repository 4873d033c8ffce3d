-- A fourth row in a file whose array is a header alone.
use Rattle.std.proofs.Common.{◌≡◌, ◌≢◌, ℕ, zero, suc, ◌+◌, ◌≤◌, false, List, [], ◌∷◌, length, refl, ◌∙◌, subst, inl, inr, arith, lit≤}
use Rattle.std.specs.Prelude.{slice_get, ◌==◌, ◌/◌, ◌%◌, Option, Some}
use Rattle.std.proofs.lemmas.Bool.{cond-false, ne_eqb}
use Rattle.h5w_model.specs.Arrays.{numbers_in}
use Rattle.h5w_model.specs.Checksum.{mix_line, mixed, finish_line, finished, added, rounds, sum_of}
use Rattle.h5w_model.specs.Headers.{prefix_at, msgs_in, header_at, messages_at, prefix_bytes, data_in_header, rows_in_header, index_in_header, rows_changed, header_view}
use Rattle.h5w_model.specs.Headers as headers
use Rattle.h5w_model.specs.Images.{apply, first_pieces, pieces}
use Rattle.h5w_model.specs.Integers.{value_at, cell_bytes_of}
use Rattle.h5w_model.specs.Links.{links_at, find_link}
use Rattle.h5w_model.specs.Messages.{shape_tests, shape_fields, shape_at, int_type_tests, int_type_fields, int_type_at, fill_tests, fill_fields, fill_at, fill_value_bytes, layout_fields, layout_at}
use Rattle.h5w_model.specs.Numbers.{num, le, halvings, width_of, undefined}
use Rattle.h5w_model.specs.Tables.{cell}
use Rattle.h5w_model.specs.Findings.{Used, Valid}
use Rattle.h5w_model.specs.declared.piece.Write.{Write}
use Rattle.h5w_step_laws.specs.Ranges.{Among, AllEndBy, block_at, chunk_at}
use Rattle.h5w_step_laws.specs.Indexes.{IsIndex}
use Rattle.h5w_step_laws.proofs.IndexLaws.{index_of_parts}
use Rattle.h5w_space.specs.Space.{Space}
use Rattle.h5w_cache.specs.Stores.{Store}
use Rattle.h5w_cache.specs.declared.moves.Move.{Move}
use Rattle.h5w_chunks.specs.Runs.{run_bytes}
use Rattle.h5w_chunks.specs.Grids.{IsCut, cells_of, copies}
use Rattle.h5w_chunks.specs.Shares.{new_writes, padded_rows, row_blocks, writes_from, writes_of}
use Rattle.h5w_chunks.specs.Rows.{RowsWritten}
use Rattle.h5w_chunks.specs.Early.{RowsStand}
use Rattle.h5w_chunks.specs.declared.grid.ChunkPlace.{ChunkPlace}
use Rattle.h5w_chunks.proofs.EarlyLemmas.{rows_stand}
use Rattle.h5w_chunks.proofs.WriteLaws.{rows_written}
use Rattle.h5w_examples.proofs.CellLemmas.{each_cell}
use Rattle.h5w_examples.specs.Readings.{data_name, described_by, summary_as}
use Rattle.h5w_step_laws.specs.Moments.{Represents, reading_of, all_used}
use Rattle.h5w_step_laws.specs.Steps.{Ends}
use Rattle.h5w_session_examples.proofs.Decisions.{disjoint_by}
use Rattle.h5w_array_laws.specs.Among.{AreAmong}
use Rattle.h5w_array_laws.specs.ArrayStores.{map_of, behind_of}
use Rattle.h5w_flush_laws.specs.Spaces.{Taken}
use Rattle.h5w_flush_laws.specs.Parts.{AreEnded}
use Rattle.h5w_flush_laws.specs.Rows.{IsPlaced, ArePlaced}
use Rattle.h5w_session_examples.specs.FirstFlush.{places_to}
use Rattle.h5w_first_flush_laws.specs.FirstFlushes.{no_chunk}
use Rattle.h5w_first_flush_laws.specs.Starting.{IsBlank}
use Rattle.h5w_first_flush_laws.specs.StartFlushes.{IsStarted}
use Rattle.h5w_first_flush_laws.proofs.StartLemmas.{created_blank}
use Rattle.h5w_first_flush_laws.specs.HeaderAlone.{AloneKnows, IsHeaderAlone}
use Rattle.h5w_first_flush_laws.specs.BlockFlushes.{block_parts_for}
use Rattle.h5w_first_flush_laws.specs.BlockCalls.{AreBlockCalls}
use Rattle.h5w_first_flush_laws.proofs.AloneLemmas.{alone_begins, alone_ends}
use Rattle.h5w_first_flush_laws.proofs.BlockCallLemmas.{block_calls}
use Rattle.h5w_first_flush_laws.proofs.BlockLeadLemmas.{block_leads}
use Rattle.h5w_session_examples.specs.AloneBytes.{alone_file}
use Rattle.h5w_session_examples.specs.AloneFlush.{alone_found, alone_opened, alone_piece, alone_to_write, seven, seven_place, seven_writes, AreAloneCalls, BlockIt, BlockStarts, IsAloneFile}
use Rattle.h5w_session_examples.proofs.UnnamedLemmas.{each_fits, one_apart, taken_from}

-- ---- The file

header_index : IsIndex alone_file 312 (described_by 2 3 240) (block_at 240 72 ∷ []) []
unfolding headers.first_of numbers_in mix_line mixed finish_line finished added rounds sum_of prefix_at msgs_in header_at messages_at prefix_bytes data_in_header rows_in_header index_in_header rows_changed header_view apply first_pieces pieces value_at links_at find_link shape_tests shape_fields shape_at int_type_tests int_type_fields int_type_at fill_tests fill_fields fill_at fill_value_bytes layout_fields layout_at num le halvings width_of
header_index = index_of_parts alone_file 312 (described_by 2 3 240) _ [] refl inside refl
  where
    inside : AllEndBy 312 (block_at 240 72 ∷ [])
    inside u (inl e) = subst (λ (y : Used). y.place + y.len ≤ 312) e (lit≤ tt)
    inside u (inr a) = absurd a

is_file : Represents alone_file data_name alone_found
unfolding headers.first_of numbers_in mix_line mixed finish_line finished added rounds sum_of prefix_at msgs_in header_at messages_at prefix_bytes data_in_header rows_in_header index_in_header rows_changed header_view apply first_pieces pieces value_at links_at find_link shape_tests shape_fields shape_at int_type_tests int_type_fields int_type_at fill_tests fill_fields fill_at fill_value_bytes layout_fields layout_at num le halvings width_of
is_file = record {
  super = refl;
  root = record { own = alone_found.root; others = []; is = refl; checked = refl; ends = λ u a. absurd a };
  header = refl;
  index = header_index;
  apart = disjoint_by (all_used alone_found) refl refl;
  table = refl;
  count = refl;
  cells = each_cell (λ (k : ℕ). cell alone_file (reading_of alone_found) (k / 1) (k % 1)) 3 alone_found.values refl;
}

opens : Ends alone_file alone_found alone_piece alone_to_write
unfolding headers.first_of numbers_in mix_line mixed finish_line finished added rounds sum_of prefix_at msgs_in header_at messages_at prefix_bytes data_in_header rows_in_header index_in_header rows_changed header_view apply first_pieces pieces value_at links_at find_link shape_tests shape_fields shape_at int_type_tests int_type_fields int_type_at fill_tests fill_fields fill_at fill_value_bytes layout_fields layout_at num le halvings width_of
opens = record { is = refl; place = refl; len = refl; reads = refl; root = refl; swmr = refl; rises = lit≤ tt; there = lit≤ tt }

is_alone : IsHeaderAlone alone_file (described_by 2 3 240)
unfolding headers.first_of numbers_in mix_line mixed finish_line finished added rounds sum_of prefix_at msgs_in header_at messages_at prefix_bytes data_in_header rows_in_header index_in_header rows_changed header_view apply first_pieces pieces value_at links_at find_link shape_tests shape_fields shape_at int_type_tests int_type_fields int_type_at fill_tests fill_fields fill_at fill_value_bytes layout_fields layout_at num le halvings width_of
is_alone = record { kind = refl; named = λ e. absurd (omega (arith, e)); fields = record { numbers = 0 ∷ 0 ∷ 0 ∷ 0 ∷ 0 ∷ 0 ∷ []; block = undefined }; read = refl; none = refl }

known : (x : AloneKnows alone_opened data_name alone_to_write (places_to 312)) × (x.knows.held ≡ alone_to_write.behind)
known =
    let begun = alone_begins alone_file data_name alone_found (places_to 312) is_file is_alone (record { end = refl; none_free = refl; none_retired = refl }) in
    let ended = alone_ends alone_file data_name alone_found alone_to_write (places_to 312) alone_piece begun.0 opens (lit≤ tt) in
    (ended.0, ended.1 ∙ begun.1)

is_valid : Valid alone_file data_name (summary_as 3 0 4 312)
unfolding headers.first_of numbers_in mix_line mixed finish_line finished added rounds sum_of prefix_at msgs_in header_at messages_at prefix_bytes data_in_header rows_in_header index_in_header rows_changed header_view apply first_pieces pieces value_at links_at find_link shape_tests shape_fields shape_at int_type_tests int_type_fields int_type_at fill_tests fill_fields fill_at fill_value_bytes layout_fields layout_at num le halvings width_of
is_valid = refl

pub alone_is_file : IsAloneFile
alone_is_file = record { valid = is_valid; file = is_file; opens = opens; known = known.0 }

-- ---- The fourth row

cut : IsCut (described_by 2 3 240)
cut = record { rows = lit≤ tt; cols = lit≤ tt; some = lit≤ tt; few = lit≤ tt; small = lit≤ tt; fill = refl }

are_writes : new_writes (described_by 2 3 240) (cells_of (described_by 2 3 240) seven) 3 4 seven_place ≡ seven_writes
unfolding writes_from writes_of pieces first_pieces padded_rows row_blocks copies run_bytes cell_bytes_of le num
are_writes = refl

cells_length : length (cells_of (described_by 2 3 240) seven) ≡ 4
unfolding run_bytes cell_bytes_of le
cells_length = refl

written : RowsWritten (described_by 2 3 240) (cells_of (described_by 2 3 240) seven) 3 4 seven_place seven_writes
written =
    subst (λ (ws : List Write). RowsWritten (described_by 2 3 240) (cells_of (described_by 2 3 240) seven) 3 4 seven_place ws) are_writes
    (rows_written (described_by 2 3 240) (cells_of (described_by 2 3 240) seven) 3 4 seven_place cut (lit≤ tt) cells_length refl)

row_stands : RowsStand alone_opened (described_by 2 3 240) (cells_of (described_by 2 3 240) seven) 3 4 seven_place seven_writes
row_stands = rows_stand alone_opened (described_by 2 3 240) (cells_of (described_by 2 3 240) seven) 3 4 seven_place seven_writes written (one_apart (described_by 2 3 240) (record { address = 610; stored = false }))

taken : Taken (places_to 312) (block_at 312 298 ∷ chunk_at 610 8 ∷ []) (places_to 618)
taken = taken_from 312 618 (block_at 312 298 ∷ chunk_at 610 8 ∷ []) (disjoint_by (block_at 312 298 ∷ chunk_at 610 8 ∷ []) refl refl) inside (lit≤ tt) (chunk_at 610 8) (inr (inl refl)) refl
  where
    inside : (u : Used) → Among u (block_at 312 298 ∷ chunk_at 610 8 ∷ []) → (312 ≤ u.place) × (u.place + u.len ≤ 618)
    inside u (inl e) = subst (λ (y : Used). (312 ≤ y.place) × (y.place + y.len ≤ 618)) e (lit≤ tt, lit≤ tt)
    inside u (inr (inl e)) = subst (λ (y : Used). (312 ≤ y.place) × (y.place + y.len ≤ 618)) e (lit≤ tt, lit≤ tt)
    inside u (inr (inr a)) = absurd a

module _ (u h v w : Store) (ms : List Move) (cs fixed supers : List Write) (t : Space) (c : AreAloneCalls u h v ms cs fixed w t) (ended : AreEnded alone_to_write.super t.end supers) where
  blank : IsBlank u
  blank = created_blank 240 312 u c.made (lit≤ tt) (lit≤ tt)

  named_there : map_of w 1 ≡ 610
  named_there = c.plan.map 1 ∙ c.named.map 1

  none_else : (i : ℕ) → i ≢ 1 → map_of w i ≡ undefined
  none_else i ne = c.plan.map i ∙ c.named.map i ∙ cond-false (i == 1) 610 (map_of h i) (ne_eqb i 1 ne) ∙ c.held.map i ∙ blank.map i

  each_placed : (k : ℕ) (p : ChunkPlace) → slice_get seven_place k ≡ Some p → IsPlaced (described_by 2 3 240) no_chunk (λ key. map_of w key.i) 3 k p
  each_placed zero p found = subst (λ (q : ChunkPlace). IsPlaced (described_by 2 3 240) no_chunk (λ key. map_of w key.i) 3 zero q) (some_place (record { address = 610; stored = false }) p found) (record {
    named = named_there;
    defined = λ e. absurd (omega (arith, e));
    kept = λ d. absurd (d refl);
    stored = λ e. absurd cc;
    whole = λ e d. absurd (d refl);
  })
    where
      some_place : (p q : ChunkPlace) → ◌≡◌ {A = Option ChunkPlace} (Some p) (Some q) → p ≡ q
      some_place p q e = cc
  each_placed (suc k) p found = absurd cc

  all_placed : (copies : List (ℕ × List ℕ)) → ArePlaced alone_opened alone_to_write no_chunk (block_parts_for alone_to_write w 4 seven seven_writes seven_place copies supers t.end) seven_place
  all_placed copies = record {
    written = row_stands;
    all = refl;
    placed = each_placed;
    others = λ key asked outside. none_else key.i (λ e. elim outside [ inl low ↦ absurd (omega (arith, low, e)) | inr high ↦ absurd (omega (arith, high, e)) ]);
    chunks = refl;
    typed = refl;
    filled = refl;
    fit = each_fits;
  }

  are : AreBlockCalls alone_opened alone_to_write (places_to 312) (places_to 618) 312 u v ms w t 4 seven seven_writes seven_place cs fixed supers
  are = record {
    rising = λ copies. record { rises = lit≤ tt; small = lit≤ tt; few = refl; count = refl; placed = all_placed copies; ended = ended };
    taken = taken;
    made = record { created = c.made; header_ends = lit≤ tt; block_ends = lit≤ tt };
    names = record {
      array = c.array;
      standing = λ s x. c.named.standing s (c.held.standing s x);
      places = λ n. c.named.places n ∙ c.held.places n;
      changed = c.named.marks 845 c.changed;
      behind = subst (λ (us : List Used). AreAmong (behind_of 8 v) (chunk_at 610 8 ∷ us)) (c.held.behind 8) (c.named.behind 8);
    };
    plan = c.plan;
  }

  block_it : BlockIt u v ms cs fixed supers w t
  block_it =
      let calls = block_calls alone_opened data_name alone_to_write (places_to 312) (places_to 618) t 312 u v w ms 4 seven seven_writes seven_place cs fixed supers known.0 are in
      record {
        calls = calls;
        started =
            subst (λ (us : List Used). IsStarted alone_opened data_name alone_to_write us t w (block_parts_for alone_to_write w 4 seven seven_writes seven_place calls.copies supers t.end)) known.1
            (block_leads alone_opened data_name alone_to_write (places_to 312) (places_to 618) t u v w ms 4 seven seven_writes seven_place calls.copies fixed supers known.0 calls.start);
      }

pub block_starts : BlockStarts
block_starts u h v w ms cs fixed supers t c ended = block_it u h v w ms cs fixed supers t c ended
