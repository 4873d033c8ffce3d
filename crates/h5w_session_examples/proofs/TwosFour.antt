-- The second flush of the log of two flushes: the fourth row, beside the third in its chunk.
use Rattle.std.proofs.Common.{◌≢◌, ℕ, zero, suc, ◌/◌, ◌%◌, ◌<◌, [], ◌∷◌, pos, refl, inl, inr, arith, lit≤}
use Rattle.h5w_model.specs.Arrays.{numbers_in}
use Rattle.h5w_model.specs.Checksum.{mix_line, mixed, finish_line, finished, added, rounds, sum_of}
use Rattle.h5w_model.specs.Headers.{prefix_at, msgs_in, header_at, messages_at, prefix_bytes, data_in_header, rows_in_header, index_in_header, rows_changed, header_view}
use Rattle.h5w_model.specs.Headers as headers
use Rattle.h5w_model.specs.Images.{apply, Apart, first_pieces, pieces}
use Rattle.h5w_model.specs.Integers.{value_at}
use Rattle.h5w_model.specs.Links.{links_at, find_link}
use Rattle.h5w_model.specs.Logs.{Log, appends, plans, shows, and_now}
use Rattle.h5w_model.specs.Messages.{shape_tests, shape_fields, shape_at, int_type_tests, int_type_fields, int_type_at, fill_tests, fill_fields, fill_at, fill_value_bytes, layout_fields, layout_at}
use Rattle.h5w_model.specs.Numbers.{num, le, halvings, width_of, range, undefined}
use Rattle.h5w_model.specs.Tables.{cell}
use Rattle.h5w_examples.specs.Files.{file_of_four}
use Rattle.h5w_examples.specs.Readings.{piece_of, data_name}
use Rattle.h5w_examples.proofs.CellLemmas.{each_cell}
use Rattle.h5w_examples.proofs.HeaderBytes.{header_stays}
use Rattle.h5w_step_laws.specs.Ranges.{block_at, chunk_at}
use Rattle.h5w_step_laws.specs.Moments.{reading_of, chunk_of, cell_place}
use Rattle.h5w_step_laws.specs.Steps.{Step}
use Rattle.h5w_step_laws.specs.Logs.{Goes, image_now}
use Rattle.h5w_step_laws.specs.Plans.{UnseenRange}
use Rattle.h5w_step_laws.specs.Writers.{Growing}
use Rattle.h5w_step_laws.proofs.GoesLemmas.{event_goes, piece_goes}
use Rattle.h5w_step_laws.proofs.PlanLaws.{own_cells}
use Rattle.h5w_step_laws.proofs.WriterLaws.{growing_commits}
use Rattle.h5w_session_examples.specs.Moments.{chunks_of_two, with_three, with_four, values_of_four}
use Rattle.h5w_session_examples.proofs.StepHelpers.{unseen_goes}
use Rattle.h5w_session_examples.proofs.TwosThree.{three_6, goes_three_6}

-- the cells of three rows are beside the fourth's
cells_beside : (k : ℕ) → k < 3 → chunk_of with_three k ≢ undefined → Apart 570 4 (cell_place with_three k) 4
cells_beside zero low known = inr (lit≤ tt)
cells_beside (suc zero) low known = inr (lit≤ tt)
cells_beside (suc (suc zero)) low known = inr (lit≤ tt)
cells_beside (suc (suc (suc k))) low known = absurd (omega (arith, low))

beside : (log : Log) → Goes data_name log with_three chunks_of_two → UnseenRange with_three chunks_of_two 570 4
beside log g =
    own_cells (image_now log) data_name with_three chunks_of_two (chunk_at 566 8) 570 4 g.now g.clear (inr (inl refl)) refl (lit≤ tt) (lit≤ tt) cells_beside

abbrev pub four_appended : Log
four_appended = and_now (appends (pos 4 ∷ [])) three_6

abbrev pub four_planned : Log
four_planned = and_now (plans 2) four_appended

pub goes_four_planned : Goes data_name four_planned with_three chunks_of_two
goes_four_planned = event_goes data_name (plans 2) four_appended with_three chunks_of_two refl refl (event_goes data_name (appends (pos 4 ∷ [])) three_6 with_three chunks_of_two refl refl goes_three_6)

abbrev pub four_1 : Log
four_1 = and_now (shows (piece_of file_of_four 570 4)) four_planned

pub goes_four_1 : Goes data_name four_1 with_three chunks_of_two
goes_four_1 = unseen_goes data_name four_planned with_three chunks_of_two (piece_of file_of_four 570 4) goes_four_planned (beside four_planned goes_four_planned) refl

abbrev pub four_2 : Log
four_2 = and_now (shows (piece_of file_of_four 106 82)) four_1

growing_four_2 : Growing (image_now four_1) with_three (piece_of file_of_four 106 82) with_four
unfolding headers.first_of numbers_in mix_line mixed finish_line finished added rounds sum_of prefix_at msgs_in header_at messages_at prefix_bytes data_in_header rows_in_header index_in_header rows_changed header_view apply first_pieces pieces value_at links_at find_link shape_tests shape_fields shape_at int_type_tests int_type_fields int_type_at fill_tests fill_fields fill_at fill_value_bytes layout_fields layout_at num le halvings width_of
growing_four_2 = record {
  more = (pos 4 ∷ []);
  is = refl;
  inside = record { first = block_at 106 82; continued = []; header_is = refl; from = lit≤ tt; to = lit≤ tt };
  header = refl;
  chunk_0 = header_stays (header_view (range (image_now four_1) 106 512)) (header_view (range (apply (piece_of file_of_four 106 82) (image_now four_1)) 106 512)) 188 15 refl refl refl refl refl refl;
  shape = refl;
  rises = lit≤ tt;
  table = refl;
  count = refl;
  cells = each_cell (λ (k : ℕ). cell (image_now four_1) (reading_of with_four) (k / 1) (k % 1)) 4 values_of_four refl;
}

step_four_2 : Step (image_now four_1) with_three chunks_of_two (piece_of file_of_four 106 82) with_four chunks_of_two
step_four_2 = growing_commits (image_now four_1) data_name with_three chunks_of_two (piece_of file_of_four 106 82) with_four goes_four_1.now growing_four_2

pub goes_four_2 : Goes data_name four_2 with_four chunks_of_two
goes_four_2 = piece_goes data_name four_1 with_three chunks_of_two (piece_of file_of_four 106 82) with_four chunks_of_two goes_four_1 step_four_2 refl
