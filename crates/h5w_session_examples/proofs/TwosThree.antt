-- The first flush of the log of two flushes: three rows in two chunks.
use Rattle.std.proofs.Common.{ℕ, ◌/◌, ◌%◌, [], ◌++◌, refl, inl, inr, lit≤}
use Rattle.h5w_model.specs.Arrays.{numbers_in, eaib_fields, eaib_len}
use Rattle.h5w_model.specs.Checksum.{mix_line, mixed, finish_line, finished, added, rounds, sum_of}
use Rattle.h5w_model.specs.Headers.{prefix_at, msgs_in, header_at, messages_at, prefix_bytes, data_in_header, rows_in_header, index_in_header, rows_changed, header_view}
use Rattle.h5w_model.specs.Headers as headers
use Rattle.h5w_model.specs.Images.{apply, first_pieces, pieces}
use Rattle.h5w_model.specs.Integers.{value_at}
use Rattle.h5w_model.specs.Links.{links_at, find_link}
use Rattle.h5w_model.specs.Logs.{Log, appends, plans, shows, and_now}
use Rattle.h5w_model.specs.Messages.{shape_tests, shape_fields, shape_at, int_type_tests, int_type_fields, int_type_at, fill_tests, fill_fields, fill_at, fill_value_bytes, layout_fields, layout_at}
use Rattle.h5w_model.specs.Numbers.{num, le, halvings, width_of, range}
use Rattle.h5w_model.specs.Tables.{in_array, cell}
use Rattle.h5w_examples.specs.Files.{file_of_three}
use Rattle.h5w_examples.specs.Readings.{piece_of, data_name}
use Rattle.h5w_examples.proofs.CellLemmas.{each_cell}
use Rattle.h5w_examples.proofs.HeaderBytes.{header_stays}
use Rattle.h5w_step_laws.specs.Ranges.{block_at}
use Rattle.h5w_step_laws.specs.Moments.{Moment, reading_of, all_used}
use Rattle.h5w_step_laws.specs.Steps.{Step, ends}
use Rattle.h5w_step_laws.specs.Logs.{Goes, image_now}
use Rattle.h5w_step_laws.specs.Writers.{Naming, Growing}
use Rattle.h5w_step_laws.proofs.GoesLemmas.{event_goes, piece_goes}
use Rattle.h5w_step_laws.proofs.WriterLaws.{naming_switches, growing_commits}
use Rattle.h5w_session_examples.specs.Moments.{file_at, chunks_of_two, with_none, with_three, created_twos, values_of_three}
use Rattle.h5w_session_examples.proofs.Decisions.{disjoint_by, ends_by, off_by, clear_by}
use Rattle.h5w_session_examples.proofs.StepHelpers.{past_goes}
use Rattle.h5w_session_examples.proofs.TwosCreated.{goes_created}

abbrev pub three_appended : Log
three_appended = and_now (appends values_of_three) created_twos

abbrev pub three_planned : Log
three_planned = and_now (plans 6) three_appended

pub goes_three_planned : Goes data_name three_planned with_none []
goes_three_planned = event_goes data_name (plans 6) three_appended with_none [] refl refl (event_goes data_name (appends values_of_three) created_twos with_none [] refl refl goes_created)

abbrev pub three_1 : Log
three_1 = and_now (shows (piece_of file_of_three 558 8)) three_planned

pub goes_three_1 : Goes data_name three_1 with_none []
goes_three_1 = past_goes data_name three_planned with_none [] (piece_of file_of_three 558 8) goes_three_planned (lit≤ tt) refl

abbrev pub three_2 : Log
three_2 = and_now (shows (piece_of file_of_three 566 8)) three_1

pub goes_three_2 : Goes data_name three_2 with_none []
goes_three_2 = past_goes data_name three_1 with_none [] (piece_of file_of_three 566 8) goes_three_1 (lit≤ tt) refl

abbrev pub three_3 : Log
three_3 = and_now (shows (piece_of file_of_three 0 48)) three_2

abbrev pub three_ended : Moment
three_ended = file_at 2 0 574 [] [] []

step_three_3 : Step (image_now three_2) with_none [] (piece_of file_of_three 0 48) three_ended []
unfolding headers.first_of numbers_in mix_line mixed finish_line finished added rounds sum_of prefix_at msgs_in header_at messages_at prefix_bytes data_in_header rows_in_header index_in_header rows_changed header_view apply first_pieces pieces value_at links_at find_link shape_tests shape_fields shape_at int_type_tests int_type_fields int_type_at fill_tests fill_fields fill_at fill_value_bytes layout_fields layout_at num le halvings width_of
step_three_3 = ends (record { is = refl; place = refl; len = refl; reads = refl; root = refl; swmr = refl; rises = lit≤ tt; there = lit≤ tt }) refl

pub goes_three_3 : Goes data_name three_3 three_ended []
goes_three_3 = piece_goes data_name three_2 with_none [] (piece_of file_of_three 0 48) three_ended [] goes_three_2 step_three_3 refl

abbrev pub three_4 : Log
three_4 = and_now (shows (piece_of file_of_three 260 298)) three_3

abbrev pub three_named : Moment
three_named = file_at 2 0 574 chunks_of_two [] []

naming_three_4 : Naming (image_now three_3) three_ended (piece_of file_of_three 260 298) (in_array (eaib_fields (range (piece_of file_of_three 260 298).piece 0 eaib_len))) three_named
unfolding headers.first_of numbers_in mix_line mixed finish_line finished added rounds sum_of prefix_at msgs_in header_at messages_at prefix_bytes data_in_header rows_in_header index_in_header rows_changed header_view apply first_pieces pieces value_at links_at find_link shape_tests shape_fields shape_at int_type_tests int_type_fields int_type_at fill_tests fill_fields fill_at fill_value_bytes layout_fields layout_at num le halvings width_of
naming_three_4 = record {
  is = refl;
  inside = record { used = block_at 260 298; among = inr (inl refl); from = lit≤ tt; to = lit≤ tt };
  says = refl;
  fixed = refl;
  added = [];
  begins = refl;
  ends = ends_by 574 three_named.fixed refl;
  behind = refl;
  apart = disjoint_by (all_used three_named) refl refl;
  table = refl;
  addresses = λ k low known. refl;
  cells = each_cell (λ (k : ℕ). cell (image_now three_3) (reading_of three_named) (k / 1) (k % 1)) 0 [] refl;
}

step_three_4 : Step (image_now three_3) three_ended [] (piece_of file_of_three 260 298) three_named (chunks_of_two ++ [])
step_three_4 =
    naming_switches (image_now three_3) data_name three_ended [] (piece_of file_of_three 260 298) (in_array (eaib_fields (range (piece_of file_of_three 260 298).piece 0 eaib_len))) three_named goes_three_3.now (off_by [] three_named.fixed refl)
    (clear_by [] three_named refl) naming_three_4

pub goes_three_4 : Goes data_name three_4 three_named (chunks_of_two ++ [])
goes_three_4 = piece_goes data_name three_3 three_ended [] (piece_of file_of_three 260 298) three_named (chunks_of_two ++ []) goes_three_3 step_three_4 refl

abbrev pub three_5 : Log
three_5 = and_now (shows (piece_of file_of_three 188 72)) three_4

naming_three_5 : Naming (image_now three_4) three_named (piece_of file_of_three 188 72) (in_array (eaib_fields (range (piece_of file_of_three 260 298).piece 0 eaib_len))) three_named
unfolding headers.first_of numbers_in mix_line mixed finish_line finished added rounds sum_of prefix_at msgs_in header_at messages_at prefix_bytes data_in_header rows_in_header index_in_header rows_changed header_view apply first_pieces pieces value_at links_at find_link shape_tests shape_fields shape_at int_type_tests int_type_fields int_type_at fill_tests fill_fields fill_at fill_value_bytes layout_fields layout_at num le halvings width_of
naming_three_5 = record {
  is = refl;
  inside = record { used = block_at 188 72; among = inl refl; from = lit≤ tt; to = lit≤ tt };
  says = refl;
  fixed = refl;
  added = [];
  begins = refl;
  ends = ends_by 574 three_named.fixed refl;
  behind = refl;
  apart = disjoint_by (all_used three_named) refl refl;
  table = refl;
  addresses = λ k low known. refl;
  cells = each_cell (λ (k : ℕ). cell (image_now three_4) (reading_of three_named) (k / 1) (k % 1)) 0 [] refl;
}

step_three_5 : Step (image_now three_4) three_named (chunks_of_two ++ []) (piece_of file_of_three 188 72) three_named (chunks_of_two ++ (chunks_of_two ++ []))
step_three_5 =
    naming_switches (image_now three_4) data_name three_named (chunks_of_two ++ []) (piece_of file_of_three 188 72) (in_array (eaib_fields (range (piece_of file_of_three 260 298).piece 0 eaib_len))) three_named goes_three_4.now (off_by (chunks_of_two ++ []) three_named.fixed refl)
    (clear_by (chunks_of_two ++ []) three_named refl) naming_three_5

pub goes_three_5 : Goes data_name three_5 three_named (chunks_of_two ++ (chunks_of_two ++ []))
goes_three_5 = piece_goes data_name three_4 three_named (chunks_of_two ++ []) (piece_of file_of_three 188 72) three_named (chunks_of_two ++ (chunks_of_two ++ [])) goes_three_4 step_three_5 refl

abbrev pub three_6 : Log
three_6 = and_now (shows (piece_of file_of_three 106 82)) three_5

growing_three_6 : Growing (image_now three_5) three_named (piece_of file_of_three 106 82) with_three
unfolding headers.first_of numbers_in mix_line mixed finish_line finished added rounds sum_of prefix_at msgs_in header_at messages_at prefix_bytes data_in_header rows_in_header index_in_header rows_changed header_view apply first_pieces pieces value_at links_at find_link shape_tests shape_fields shape_at int_type_tests int_type_fields int_type_at fill_tests fill_fields fill_at fill_value_bytes layout_fields layout_at num le halvings width_of
growing_three_6 = record {
  more = values_of_three;
  is = refl;
  inside = record { first = block_at 106 82; continued = []; header_is = refl; from = lit≤ tt; to = lit≤ tt };
  header = refl;
  chunk_0 = header_stays (header_view (range (image_now three_5) 106 512)) (header_view (range (apply (piece_of file_of_three 106 82) (image_now three_5)) 106 512)) 188 15 refl refl refl refl refl refl;
  shape = refl;
  rises = lit≤ tt;
  table = refl;
  count = refl;
  cells = each_cell (λ (k : ℕ). cell (image_now three_5) (reading_of with_three) (k / 1) (k % 1)) 3 values_of_three refl;
}

step_three_6 : Step (image_now three_5) three_named (chunks_of_two ++ (chunks_of_two ++ [])) (piece_of file_of_three 106 82) with_three chunks_of_two
step_three_6 = growing_commits (image_now three_5) data_name three_named (chunks_of_two ++ (chunks_of_two ++ [])) (piece_of file_of_three 106 82) with_three goes_three_5.now growing_three_6

pub goes_three_6 : Goes data_name three_6 with_three chunks_of_two
goes_three_6 = piece_goes data_name three_5 three_named (chunks_of_two ++ (chunks_of_two ++ [])) (piece_of file_of_three 106 82) with_three chunks_of_two goes_three_5 step_three_6 refl
