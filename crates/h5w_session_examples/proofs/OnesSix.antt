-- The second flush of the log of one-row chunks: the sixth row, and a copy of the data block.
use Rattle.std.proofs.Common.{ℕ, ◌/◌, ◌%◌, [], ◌∷◌, ◌++◌, pos, refl, inl, inr, lit≤}
use Rattle.h5w_model.specs.Arrays.{numbers_in, eaib_fields, eaib_len}
use Rattle.h5w_model.specs.Checksum.{mix_line, mixed, finish_line, finished, added, rounds, sum_of}
use Rattle.h5w_model.specs.Headers.{prefix_at, msgs_in, header_at, messages_at, prefix_bytes, data_in_header, rows_in_header, index_in_header, rows_changed, header_view}
use Rattle.h5w_model.specs.Headers as headers
use Rattle.h5w_model.specs.Images.{apply, first_pieces, pieces}
use Rattle.h5w_model.specs.Integers.{value_at}
use Rattle.h5w_model.specs.Links.{links_at, find_link}
use Rattle.h5w_model.specs.Logs.{Log, appends, plans, shows, and_now}
use Rattle.h5w_model.specs.Messages.{shape_tests, shape_fields, shape_at, int_type_tests, int_type_fields, int_type_at, fill_tests, fill_fields, fill_at, fill_value_bytes, layout_fields, layout_at}
use Rattle.h5w_model.specs.Numbers.{num, le, halvings, width_of, range}
use Rattle.h5w_model.specs.Tables.{in_array, cell}
use Rattle.h5w_examples.specs.OneRowFiles.{six_of_ones}
use Rattle.h5w_examples.specs.Readings.{piece_of, data_name}
use Rattle.h5w_examples.proofs.CellLemmas.{each_cell}
use Rattle.h5w_examples.proofs.HeaderBytes.{header_stays}
use Rattle.h5w_step_laws.specs.Ranges.{block_at}
use Rattle.h5w_step_laws.specs.Moments.{Moment, reading_of, all_used}
use Rattle.h5w_step_laws.specs.Steps.{Step, ends}
use Rattle.h5w_step_laws.specs.Logs.{Goes, image_now}
use Rattle.h5w_step_laws.specs.Writers.{Naming, Growing}
use Rattle.h5w_step_laws.proofs.GoesLemmas.{event_goes, piece_goes}
use Rattle.h5w_step_laws.proofs.WriterLaws.{naming_switches, growing_commits}
use Rattle.h5w_session_examples.specs.Moments.{file_at, behind_five, behind_six, table_of_five, values_of_five, values_of_six, ones_of_five, ones_of_six}
use Rattle.h5w_session_examples.proofs.Decisions.{disjoint_by, ends_by, off_by, clear_by}
use Rattle.h5w_session_examples.proofs.StepHelpers.{past_goes}
use Rattle.h5w_session_examples.proofs.OnesFive.{five_10, goes_five_10}

abbrev pub six_appended : Log
six_appended = and_now (appends (pos 6 ∷ [])) five_10

abbrev pub six_planned : Log
six_planned = and_now (plans 6) six_appended

pub goes_six_planned : Goes data_name six_planned ones_of_five behind_five
goes_six_planned = event_goes data_name (plans 6) six_appended ones_of_five behind_five refl refl (event_goes data_name (appends (pos 6 ∷ [])) five_10 ones_of_five behind_five refl refl goes_five_10)

abbrev pub six_1 : Log
six_1 = and_now (shows (piece_of six_of_ones 728 4)) six_planned

pub goes_six_1 : Goes data_name six_1 ones_of_five behind_five
goes_six_1 = past_goes data_name six_planned ones_of_five behind_five (piece_of six_of_ones 728 4) goes_six_planned (lit≤ tt) refl

abbrev pub six_2 : Log
six_2 = and_now (shows (piece_of six_of_ones 732 150)) six_1

pub goes_six_2 : Goes data_name six_2 ones_of_five behind_five
goes_six_2 = past_goes data_name six_1 ones_of_five behind_five (piece_of six_of_ones 732 150) goes_six_1 (lit≤ tt) refl

abbrev pub six_3 : Log
six_3 = and_now (shows (piece_of six_of_ones 0 48)) six_2

abbrev pub six_ended : Moment
six_ended = file_at 1 5 882 behind_five table_of_five values_of_five

step_six_3 : Step (image_now six_2) ones_of_five behind_five (piece_of six_of_ones 0 48) six_ended behind_five
unfolding headers.first_of numbers_in mix_line mixed finish_line finished added rounds sum_of prefix_at msgs_in header_at messages_at prefix_bytes data_in_header rows_in_header index_in_header rows_changed header_view apply first_pieces pieces value_at links_at find_link shape_tests shape_fields shape_at int_type_tests int_type_fields int_type_at fill_tests fill_fields fill_at fill_value_bytes layout_fields layout_at num le halvings width_of
step_six_3 = ends (record { is = refl; place = refl; len = refl; reads = refl; root = refl; swmr = refl; rises = lit≤ tt; there = lit≤ tt }) refl

pub goes_six_3 : Goes data_name six_3 six_ended behind_five
goes_six_3 = piece_goes data_name six_2 ones_of_five behind_five (piece_of six_of_ones 0 48) six_ended behind_five goes_six_2 step_six_3 refl

abbrev pub six_4 : Log
six_4 = and_now (shows (piece_of six_of_ones 260 298)) six_3

abbrev pub six_named : Moment
six_named = file_at 1 5 882 behind_six table_of_five values_of_five

naming_six_4 : Naming (image_now six_3) six_ended (piece_of six_of_ones 260 298) (in_array (eaib_fields (range (piece_of six_of_ones 260 298).piece 0 eaib_len))) six_named
unfolding headers.first_of numbers_in mix_line mixed finish_line finished added rounds sum_of prefix_at msgs_in header_at messages_at prefix_bytes data_in_header rows_in_header index_in_header rows_changed header_view apply first_pieces pieces value_at links_at find_link shape_tests shape_fields shape_at int_type_tests int_type_fields int_type_at fill_tests fill_fields fill_at fill_value_bytes layout_fields layout_at num le halvings width_of
naming_six_4 = record {
  is = refl;
  inside = record { used = block_at 260 298; among = inr (inl refl); from = lit≤ tt; to = lit≤ tt };
  says = refl;
  fixed = refl;
  added = [];
  begins = refl;
  ends = ends_by 882 six_named.fixed refl;
  behind = refl;
  apart = disjoint_by (all_used six_named) refl refl;
  table = refl;
  addresses = λ k low known. refl;
  cells = each_cell (λ (k : ℕ). cell (image_now six_3) (reading_of six_named) (k / 1) (k % 1)) 5 values_of_five refl;
}

step_six_4 : Step (image_now six_3) six_ended behind_five (piece_of six_of_ones 260 298) six_named (behind_six ++ behind_five)
step_six_4 =
    naming_switches (image_now six_3) data_name six_ended behind_five (piece_of six_of_ones 260 298) (in_array (eaib_fields (range (piece_of six_of_ones 260 298).piece 0 eaib_len))) six_named goes_six_3.now (off_by behind_five six_named.fixed refl)
    (clear_by behind_five six_named refl) naming_six_4

pub goes_six_4 : Goes data_name six_4 six_named (behind_six ++ behind_five)
goes_six_4 = piece_goes data_name six_3 six_ended behind_five (piece_of six_of_ones 260 298) six_named (behind_six ++ behind_five) goes_six_3 step_six_4 refl

abbrev pub six_5 : Log
six_5 = and_now (shows (piece_of six_of_ones 188 72)) six_4

naming_six_5 : Naming (image_now six_4) six_named (piece_of six_of_ones 188 72) (in_array (eaib_fields (range (piece_of six_of_ones 260 298).piece 0 eaib_len))) six_named
unfolding headers.first_of numbers_in mix_line mixed finish_line finished added rounds sum_of prefix_at msgs_in header_at messages_at prefix_bytes data_in_header rows_in_header index_in_header rows_changed header_view apply first_pieces pieces value_at links_at find_link shape_tests shape_fields shape_at int_type_tests int_type_fields int_type_at fill_tests fill_fields fill_at fill_value_bytes layout_fields layout_at num le halvings width_of
naming_six_5 = record {
  is = refl;
  inside = record { used = block_at 188 72; among = inl refl; from = lit≤ tt; to = lit≤ tt };
  says = refl;
  fixed = refl;
  added = [];
  begins = refl;
  ends = ends_by 882 six_named.fixed refl;
  behind = refl;
  apart = disjoint_by (all_used six_named) refl refl;
  table = refl;
  addresses = λ k low known. refl;
  cells = each_cell (λ (k : ℕ). cell (image_now six_4) (reading_of six_named) (k / 1) (k % 1)) 5 values_of_five refl;
}

step_six_5 : Step (image_now six_4) six_named (behind_six ++ behind_five) (piece_of six_of_ones 188 72) six_named (behind_six ++ (behind_six ++ behind_five))
step_six_5 =
    naming_switches (image_now six_4) data_name six_named (behind_six ++ behind_five) (piece_of six_of_ones 188 72) (in_array (eaib_fields (range (piece_of six_of_ones 260 298).piece 0 eaib_len))) six_named goes_six_4.now (off_by (behind_six ++ behind_five) six_named.fixed refl)
    (clear_by (behind_six ++ behind_five) six_named refl) naming_six_5

pub goes_six_5 : Goes data_name six_5 six_named (behind_six ++ (behind_six ++ behind_five))
goes_six_5 = piece_goes data_name six_4 six_named (behind_six ++ behind_five) (piece_of six_of_ones 188 72) six_named (behind_six ++ (behind_six ++ behind_five)) goes_six_4 step_six_5 refl

abbrev pub six_6 : Log
six_6 = and_now (shows (piece_of six_of_ones 106 82)) six_5

growing_six_6 : Growing (image_now six_5) six_named (piece_of six_of_ones 106 82) ones_of_six
unfolding headers.first_of numbers_in mix_line mixed finish_line finished added rounds sum_of prefix_at msgs_in header_at messages_at prefix_bytes data_in_header rows_in_header index_in_header rows_changed header_view apply first_pieces pieces value_at links_at find_link shape_tests shape_fields shape_at int_type_tests int_type_fields int_type_at fill_tests fill_fields fill_at fill_value_bytes layout_fields layout_at num le halvings width_of
growing_six_6 = record {
  more = (pos 6 ∷ []);
  is = refl;
  inside = record { first = block_at 106 82; continued = []; header_is = refl; from = lit≤ tt; to = lit≤ tt };
  header = refl;
  chunk_0 = header_stays (header_view (range (image_now six_5) 106 512)) (header_view (range (apply (piece_of six_of_ones 106 82) (image_now six_5)) 106 512)) 188 15 refl refl refl refl refl refl;
  shape = refl;
  rises = lit≤ tt;
  table = refl;
  count = refl;
  cells = each_cell (λ (k : ℕ). cell (image_now six_5) (reading_of ones_of_six) (k / 1) (k % 1)) 6 values_of_six refl;
}

step_six_6 : Step (image_now six_5) six_named (behind_six ++ (behind_six ++ behind_five)) (piece_of six_of_ones 106 82) ones_of_six behind_six
step_six_6 = growing_commits (image_now six_5) data_name six_named (behind_six ++ (behind_six ++ behind_five)) (piece_of six_of_ones 106 82) ones_of_six goes_six_5.now growing_six_6

pub goes_six_6 : Goes data_name six_6 ones_of_six behind_six
goes_six_6 = piece_goes data_name six_5 six_named (behind_six ++ (behind_six ++ behind_five)) (piece_of six_of_ones 106 82) ones_of_six behind_six goes_six_5 step_six_6 refl
