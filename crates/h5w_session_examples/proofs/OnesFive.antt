-- The first flush of the log of one-row chunks: five rows, of which the fifth stands behind a data block.
use Rattle.std.proofs.Common.{ℕ, ◌/◌, ◌%◌, [], ◌++◌, refl, inl, inr, lit≤}
use Rattle.h5w_model.specs.Arrays.{numbers_in, eaib_fields, eaib_len}
use Rattle.h5w_model.specs.Checksum.{mix_line, mixed, finish_line, finished, added, rounds, sum_of}
use Rattle.h5w_model.specs.Headers.{prefix_at, msgs_in, header_at, messages_at, prefix_bytes, data_in_header, rows_in_header, index_in_header, rows_changed, header_view}
use Rattle.h5w_model.specs.Headers as headers
use Rattle.h5w_model.specs.Images.{apply, first_pieces, pieces}
use Rattle.h5w_model.specs.Integers.{value_at}
use Rattle.h5w_model.specs.Links.{links_at, find_link}
use Rattle.h5w_model.specs.Logs.{Log, appends, plans, shows, and_now}
use Rattle.h5w_model.specs.Messages.{shape_tests, shape_fields, shape_at, int_type_tests, int_type_fields, int_type_at, fill_tests, fill_fields, fill_at, fill_value_bytes, layout_fields, layout_at}
use Rattle.h5w_model.specs.Numbers.{num, le, halvings, width_of, range}
use Rattle.h5w_model.specs.Tables.{in_array, cell}
use Rattle.h5w_examples.specs.OneRowFiles.{five_of_ones}
use Rattle.h5w_examples.specs.Readings.{piece_of, data_name}
use Rattle.h5w_examples.proofs.CellLemmas.{each_cell}
use Rattle.h5w_examples.proofs.HeaderBytes.{header_stays}
use Rattle.h5w_step_laws.specs.Ranges.{block_at}
use Rattle.h5w_step_laws.specs.Moments.{Moment, reading_of, all_used}
use Rattle.h5w_step_laws.specs.Steps.{Step, ends}
use Rattle.h5w_step_laws.specs.Logs.{Goes, image_now}
use Rattle.h5w_step_laws.specs.Writers.{Naming, Growing}
use Rattle.h5w_step_laws.proofs.GoesLemmas.{event_goes, piece_goes}
use Rattle.h5w_step_laws.proofs.WriterLaws.{naming_switches, growing_commits}
use Rattle.h5w_session_examples.specs.Moments.{file_at, behind_five, values_of_five, ones_of_none, ones_of_five, created_ones}
use Rattle.h5w_session_examples.proofs.Decisions.{disjoint_by, ends_by, off_by, clear_by}
use Rattle.h5w_session_examples.proofs.StepHelpers.{past_goes}
use Rattle.h5w_session_examples.proofs.OnesCreated.{goes_created}

abbrev pub five_appended : Log
five_appended = and_now (appends values_of_five) created_ones

abbrev pub five_planned : Log
five_planned = and_now (plans 10) five_appended

pub goes_five_planned : Goes data_name five_planned ones_of_none []
goes_five_planned = event_goes data_name (plans 10) five_appended ones_of_none [] refl refl (event_goes data_name (appends values_of_five) created_ones ones_of_none [] refl refl goes_created)

abbrev pub five_1 : Log
five_1 = and_now (shows (piece_of five_of_ones 558 4)) five_planned

pub goes_five_1 : Goes data_name five_1 ones_of_none []
goes_five_1 = past_goes data_name five_planned ones_of_none [] (piece_of five_of_ones 558 4) goes_five_planned (lit≤ tt) refl

abbrev pub five_2 : Log
five_2 = and_now (shows (piece_of five_of_ones 562 4)) five_1

pub goes_five_2 : Goes data_name five_2 ones_of_none []
goes_five_2 = past_goes data_name five_1 ones_of_none [] (piece_of five_of_ones 562 4) goes_five_1 (lit≤ tt) refl

abbrev pub five_3 : Log
five_3 = and_now (shows (piece_of five_of_ones 566 4)) five_2

pub goes_five_3 : Goes data_name five_3 ones_of_none []
goes_five_3 = past_goes data_name five_2 ones_of_none [] (piece_of five_of_ones 566 4) goes_five_2 (lit≤ tt) refl

abbrev pub five_4 : Log
five_4 = and_now (shows (piece_of five_of_ones 570 4)) five_3

pub goes_five_4 : Goes data_name five_4 ones_of_none []
goes_five_4 = past_goes data_name five_3 ones_of_none [] (piece_of five_of_ones 570 4) goes_five_3 (lit≤ tt) refl

abbrev pub five_5 : Log
five_5 = and_now (shows (piece_of five_of_ones 574 4)) five_4

pub goes_five_5 : Goes data_name five_5 ones_of_none []
goes_five_5 = past_goes data_name five_4 ones_of_none [] (piece_of five_of_ones 574 4) goes_five_4 (lit≤ tt) refl

abbrev pub five_6 : Log
five_6 = and_now (shows (piece_of five_of_ones 578 150)) five_5

pub goes_five_6 : Goes data_name five_6 ones_of_none []
goes_five_6 = past_goes data_name five_5 ones_of_none [] (piece_of five_of_ones 578 150) goes_five_5 (lit≤ tt) refl

abbrev pub five_7 : Log
five_7 = and_now (shows (piece_of five_of_ones 0 48)) five_6

abbrev pub five_ended : Moment
five_ended = file_at 1 0 728 [] [] []

step_five_7 : Step (image_now five_6) ones_of_none [] (piece_of five_of_ones 0 48) five_ended []
unfolding headers.first_of numbers_in mix_line mixed finish_line finished added rounds sum_of prefix_at msgs_in header_at messages_at prefix_bytes data_in_header rows_in_header index_in_header rows_changed header_view apply first_pieces pieces value_at links_at find_link shape_tests shape_fields shape_at int_type_tests int_type_fields int_type_at fill_tests fill_fields fill_at fill_value_bytes layout_fields layout_at num le halvings width_of
step_five_7 = ends (record { is = refl; place = refl; len = refl; reads = refl; root = refl; swmr = refl; rises = lit≤ tt; there = lit≤ tt }) refl

pub goes_five_7 : Goes data_name five_7 five_ended []
goes_five_7 = piece_goes data_name five_6 ones_of_none [] (piece_of five_of_ones 0 48) five_ended [] goes_five_6 step_five_7 refl

abbrev pub five_8 : Log
five_8 = and_now (shows (piece_of five_of_ones 260 298)) five_7

abbrev pub five_named : Moment
five_named = file_at 1 0 728 behind_five [] []

naming_five_8 : Naming (image_now five_7) five_ended (piece_of five_of_ones 260 298) (in_array (eaib_fields (range (piece_of five_of_ones 260 298).piece 0 eaib_len))) five_named
unfolding headers.first_of numbers_in mix_line mixed finish_line finished added rounds sum_of prefix_at msgs_in header_at messages_at prefix_bytes data_in_header rows_in_header index_in_header rows_changed header_view apply first_pieces pieces value_at links_at find_link shape_tests shape_fields shape_at int_type_tests int_type_fields int_type_at fill_tests fill_fields fill_at fill_value_bytes layout_fields layout_at num le halvings width_of
naming_five_8 = record {
  is = refl;
  inside = record { used = block_at 260 298; among = inr (inl refl); from = lit≤ tt; to = lit≤ tt };
  says = refl;
  fixed = refl;
  added = [];
  begins = refl;
  ends = ends_by 728 five_named.fixed refl;
  behind = refl;
  apart = disjoint_by (all_used five_named) refl refl;
  table = refl;
  addresses = λ k low known. refl;
  cells = each_cell (λ (k : ℕ). cell (image_now five_7) (reading_of five_named) (k / 1) (k % 1)) 0 [] refl;
}

step_five_8 : Step (image_now five_7) five_ended [] (piece_of five_of_ones 260 298) five_named (behind_five ++ [])
step_five_8 =
    naming_switches (image_now five_7) data_name five_ended [] (piece_of five_of_ones 260 298) (in_array (eaib_fields (range (piece_of five_of_ones 260 298).piece 0 eaib_len))) five_named goes_five_7.now (off_by [] five_named.fixed refl)
    (clear_by [] five_named refl) naming_five_8

pub goes_five_8 : Goes data_name five_8 five_named (behind_five ++ [])
goes_five_8 = piece_goes data_name five_7 five_ended [] (piece_of five_of_ones 260 298) five_named (behind_five ++ []) goes_five_7 step_five_8 refl

abbrev pub five_9 : Log
five_9 = and_now (shows (piece_of five_of_ones 188 72)) five_8

naming_five_9 : Naming (image_now five_8) five_named (piece_of five_of_ones 188 72) (in_array (eaib_fields (range (piece_of five_of_ones 260 298).piece 0 eaib_len))) five_named
unfolding headers.first_of numbers_in mix_line mixed finish_line finished added rounds sum_of prefix_at msgs_in header_at messages_at prefix_bytes data_in_header rows_in_header index_in_header rows_changed header_view apply first_pieces pieces value_at links_at find_link shape_tests shape_fields shape_at int_type_tests int_type_fields int_type_at fill_tests fill_fields fill_at fill_value_bytes layout_fields layout_at num le halvings width_of
naming_five_9 = record {
  is = refl;
  inside = record { used = block_at 188 72; among = inl refl; from = lit≤ tt; to = lit≤ tt };
  says = refl;
  fixed = refl;
  added = [];
  begins = refl;
  ends = ends_by 728 five_named.fixed refl;
  behind = refl;
  apart = disjoint_by (all_used five_named) refl refl;
  table = refl;
  addresses = λ k low known. refl;
  cells = each_cell (λ (k : ℕ). cell (image_now five_8) (reading_of five_named) (k / 1) (k % 1)) 0 [] refl;
}

step_five_9 : Step (image_now five_8) five_named (behind_five ++ []) (piece_of five_of_ones 188 72) five_named (behind_five ++ (behind_five ++ []))
step_five_9 =
    naming_switches (image_now five_8) data_name five_named (behind_five ++ []) (piece_of five_of_ones 188 72) (in_array (eaib_fields (range (piece_of five_of_ones 260 298).piece 0 eaib_len))) five_named goes_five_8.now (off_by (behind_five ++ []) five_named.fixed refl)
    (clear_by (behind_five ++ []) five_named refl) naming_five_9

pub goes_five_9 : Goes data_name five_9 five_named (behind_five ++ (behind_five ++ []))
goes_five_9 = piece_goes data_name five_8 five_named (behind_five ++ []) (piece_of five_of_ones 188 72) five_named (behind_five ++ (behind_five ++ [])) goes_five_8 step_five_9 refl

abbrev pub five_10 : Log
five_10 = and_now (shows (piece_of five_of_ones 106 82)) five_9

growing_five_10 : Growing (image_now five_9) five_named (piece_of five_of_ones 106 82) ones_of_five
unfolding headers.first_of numbers_in mix_line mixed finish_line finished added rounds sum_of prefix_at msgs_in header_at messages_at prefix_bytes data_in_header rows_in_header index_in_header rows_changed header_view apply first_pieces pieces value_at links_at find_link shape_tests shape_fields shape_at int_type_tests int_type_fields int_type_at fill_tests fill_fields fill_at fill_value_bytes layout_fields layout_at num le halvings width_of
growing_five_10 = record {
  more = values_of_five;
  is = refl;
  inside = record { first = block_at 106 82; continued = []; header_is = refl; from = lit≤ tt; to = lit≤ tt };
  header = refl;
  chunk_0 = header_stays (header_view (range (image_now five_9) 106 512)) (header_view (range (apply (piece_of five_of_ones 106 82) (image_now five_9)) 106 512)) 188 15 refl refl refl refl refl refl;
  shape = refl;
  rises = lit≤ tt;
  table = refl;
  count = refl;
  cells = each_cell (λ (k : ℕ). cell (image_now five_9) (reading_of ones_of_five) (k / 1) (k % 1)) 5 values_of_five refl;
}

step_five_10 : Step (image_now five_9) five_named (behind_five ++ (behind_five ++ [])) (piece_of five_of_ones 106 82) ones_of_five behind_five
step_five_10 = growing_commits (image_now five_9) data_name five_named (behind_five ++ (behind_five ++ [])) (piece_of five_of_ones 106 82) ones_of_five goes_five_9.now growing_five_10

pub goes_five_10 : Goes data_name five_10 ones_of_five behind_five
goes_five_10 = piece_goes data_name five_9 five_named (behind_five ++ (behind_five ++ [])) (piece_of five_of_ones 106 82) ones_of_five behind_five goes_five_9 step_five_10 refl
