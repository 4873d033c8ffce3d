-- A third flush of the log of one-row chunks: the seventh row, and a copy of the data block at the place of the first one.
use Rattle.std.proofs.Common.{◌≡◌, ℕ, ◌/◌, ◌%◌, Bool, true, false, List, [], ◌∷◌, ◌++◌, pos, refl, inl, inr, lit≤}
use Rattle.h5w_model.specs.Arrays.{numbers_in, eaib_fields, eaib_len}
use Rattle.h5w_model.specs.Checksum.{mix_line, mixed, finish_line, finished, added, rounds, sum_of}
use Rattle.h5w_model.specs.Headers.{prefix_at, msgs_in, header_at, messages_at, prefix_bytes, data_in_header, rows_in_header, index_in_header, rows_changed, header_view}
use Rattle.h5w_model.specs.Headers as headers
use Rattle.h5w_model.specs.Images.{apply, first_pieces, pieces}
use Rattle.h5w_model.specs.Integers.{value_at}
use Rattle.h5w_model.specs.Links.{links_at, find_link}
use Rattle.h5w_model.specs.Logs.{Log, appends, plans, shows, and_now}
use Rattle.h5w_model.specs.Messages.{shape_tests, shape_fields, shape_at, int_type_tests, int_type_fields, int_type_at, fill_tests, fill_fields, fill_at, fill_value_bytes, layout_fields, layout_at}
use Rattle.h5w_model.specs.Numbers.{num, le, halvings, width_of, range}
use Rattle.h5w_model.specs.Tables.{in_array, cell}
use Rattle.h5w_model.specs.Findings.{Used}
use Rattle.h5w_examples.specs.Readings.{data_name}
use Rattle.h5w_examples.proofs.CellLemmas.{each_cell}
use Rattle.h5w_examples.proofs.HeaderBytes.{header_stays}
use Rattle.h5w_step_laws.specs.Ranges.{block_at, chunk_at}
use Rattle.h5w_step_laws.specs.Moments.{Moment, reading_of, all_used}
use Rattle.h5w_step_laws.specs.Steps.{Step, ends}
use Rattle.h5w_step_laws.specs.Logs.{Goes, image_now}
use Rattle.h5w_step_laws.specs.Plans.{UnseenRange}
use Rattle.h5w_step_laws.specs.Writers.{Naming, Growing}
use Rattle.h5w_step_laws.proofs.GoesLemmas.{event_goes, piece_goes}
use Rattle.h5w_step_laws.proofs.PlanLaws.{retired_place}
use Rattle.h5w_step_laws.proofs.WriterLaws.{naming_switches, growing_commits}
use Rattle.h5w_session_examples.specs.SevenOfOnes.{seventh_chunk, third_block, super_of_seven, index_of_seven, array_of_seven, header_of_seven}
use Rattle.h5w_session_examples.specs.Moments.{file_at, behind_six, behind_seven, table_of_six, values_of_six, values_of_seven, ones_of_five, ones_of_six, ones_of_seven}
use Rattle.h5w_session_examples.proofs.Decisions.{disjoint_by, ends_by, off_by, clear_by, all_among_by, among_by, among_is}
use Rattle.h5w_session_examples.proofs.StepHelpers.{unseen_goes, past_goes}
use Rattle.h5w_session_examples.proofs.OnesSix.{six_6, goes_six_6}

-- what the second flush added to the ranges of the first
abbrev pub sixth : List Used
sixth = chunk_at 728 4 ∷ block_at 732 150 ∷ []

-- the place of the first data block is free, after the header of six rows
retired : (log : Log) → Goes data_name log ones_of_six behind_six → UnseenRange ones_of_six behind_six 578 150
retired log g =
    retired_place (image_now log) data_name ones_of_five ones_of_six sixth (block_at 578 150) g.now (disjoint_by (sixth ++ all_used ones_of_five) refl refl)
    (all_among_by (all_used ones_of_six) (sixth ++ all_used ones_of_five) refl) (among_by (block_at 578 150) (all_used ones_of_five) refl)
    (λ a. not_there (among_is (block_at 578 150) (all_used ones_of_six) a))
  where
    not_there : ◌≡◌ {A = Bool} false true → ⊥
    not_there e = cc

abbrev pub seven_appended : Log
seven_appended = and_now (appends (pos 7 ∷ [])) six_6

abbrev pub seven_planned : Log
seven_planned = and_now (plans 6) seven_appended

pub goes_seven_planned : Goes data_name seven_planned ones_of_six behind_six
goes_seven_planned = event_goes data_name (plans 6) seven_appended ones_of_six behind_six refl refl (event_goes data_name (appends (pos 7 ∷ [])) six_6 ones_of_six behind_six refl refl goes_six_6)

abbrev pub seven_1 : Log
seven_1 = and_now (shows (record { at = 882; piece = seventh_chunk })) seven_planned

pub goes_seven_1 : Goes data_name seven_1 ones_of_six behind_six
goes_seven_1 = past_goes data_name seven_planned ones_of_six behind_six (record { at = 882; piece = seventh_chunk }) goes_seven_planned (lit≤ tt) refl

abbrev pub seven_2 : Log
seven_2 = and_now (shows (record { at = 578; piece = third_block })) seven_1

pub goes_seven_2 : Goes data_name seven_2 ones_of_six behind_six
goes_seven_2 = unseen_goes data_name seven_1 ones_of_six behind_six (record { at = 578; piece = third_block }) goes_seven_1 (retired seven_1 goes_seven_1) refl

abbrev pub seven_3 : Log
seven_3 = and_now (shows (record { at = 0; piece = super_of_seven })) seven_2

abbrev pub seven_ended : Moment
seven_ended = file_at 1 6 886 behind_six table_of_six values_of_six

step_seven_3 : Step (image_now seven_2) ones_of_six behind_six (record { at = 0; piece = super_of_seven }) seven_ended behind_six
unfolding headers.first_of numbers_in mix_line mixed finish_line finished added rounds sum_of prefix_at msgs_in header_at messages_at prefix_bytes data_in_header rows_in_header index_in_header rows_changed header_view apply first_pieces pieces value_at links_at find_link shape_tests shape_fields shape_at int_type_tests int_type_fields int_type_at fill_tests fill_fields fill_at fill_value_bytes layout_fields layout_at num le halvings width_of
step_seven_3 = ends (record { is = refl; place = refl; len = refl; reads = refl; root = refl; swmr = refl; rises = lit≤ tt; there = lit≤ tt }) refl

pub goes_seven_3 : Goes data_name seven_3 seven_ended behind_six
goes_seven_3 = piece_goes data_name seven_2 ones_of_six behind_six (record { at = 0; piece = super_of_seven }) seven_ended behind_six goes_seven_2 step_seven_3 refl

abbrev pub seven_4 : Log
seven_4 = and_now (shows (record { at = 260; piece = index_of_seven })) seven_3

abbrev pub seven_named : Moment
seven_named = file_at 1 6 886 behind_seven table_of_six values_of_six

naming_seven_4 : Naming (image_now seven_3) seven_ended (record { at = 260; piece = index_of_seven }) (in_array (eaib_fields (range index_of_seven 0 eaib_len))) seven_named
unfolding headers.first_of numbers_in mix_line mixed finish_line finished added rounds sum_of prefix_at msgs_in header_at messages_at prefix_bytes data_in_header rows_in_header index_in_header rows_changed header_view apply first_pieces pieces value_at links_at find_link shape_tests shape_fields shape_at int_type_tests int_type_fields int_type_at fill_tests fill_fields fill_at fill_value_bytes layout_fields layout_at num le halvings width_of
naming_seven_4 = record {
  is = refl;
  inside = record { used = block_at 260 298; among = inr (inl refl); from = lit≤ tt; to = lit≤ tt };
  says = refl;
  fixed = refl;
  added = [];
  begins = refl;
  ends = ends_by 886 seven_named.fixed refl;
  behind = refl;
  apart = disjoint_by (all_used seven_named) refl refl;
  table = refl;
  addresses = λ k low known. refl;
  cells = each_cell (λ (k : ℕ). cell (image_now seven_3) (reading_of seven_named) (k / 1) (k % 1)) 6 values_of_six refl;
}

step_seven_4 : Step (image_now seven_3) seven_ended behind_six (record { at = 260; piece = index_of_seven }) seven_named (behind_seven ++ behind_six)
step_seven_4 =
    naming_switches (image_now seven_3) data_name seven_ended behind_six (record { at = 260; piece = index_of_seven }) (in_array (eaib_fields (range index_of_seven 0 eaib_len))) seven_named goes_seven_3.now (off_by behind_six seven_named.fixed refl)
    (clear_by behind_six seven_named refl) naming_seven_4

pub goes_seven_4 : Goes data_name seven_4 seven_named (behind_seven ++ behind_six)
goes_seven_4 = piece_goes data_name seven_3 seven_ended behind_six (record { at = 260; piece = index_of_seven }) seven_named (behind_seven ++ behind_six) goes_seven_3 step_seven_4 refl

abbrev pub seven_5 : Log
seven_5 = and_now (shows (record { at = 188; piece = array_of_seven })) seven_4

naming_seven_5 : Naming (image_now seven_4) seven_named (record { at = 188; piece = array_of_seven }) (in_array (eaib_fields (range index_of_seven 0 eaib_len))) seven_named
unfolding headers.first_of numbers_in mix_line mixed finish_line finished added rounds sum_of prefix_at msgs_in header_at messages_at prefix_bytes data_in_header rows_in_header index_in_header rows_changed header_view apply first_pieces pieces value_at links_at find_link shape_tests shape_fields shape_at int_type_tests int_type_fields int_type_at fill_tests fill_fields fill_at fill_value_bytes layout_fields layout_at num le halvings width_of
naming_seven_5 = record {
  is = refl;
  inside = record { used = block_at 188 72; among = inl refl; from = lit≤ tt; to = lit≤ tt };
  says = refl;
  fixed = refl;
  added = [];
  begins = refl;
  ends = ends_by 886 seven_named.fixed refl;
  behind = refl;
  apart = disjoint_by (all_used seven_named) refl refl;
  table = refl;
  addresses = λ k low known. refl;
  cells = each_cell (λ (k : ℕ). cell (image_now seven_4) (reading_of seven_named) (k / 1) (k % 1)) 6 values_of_six refl;
}

step_seven_5 : Step (image_now seven_4) seven_named (behind_seven ++ behind_six) (record { at = 188; piece = array_of_seven }) seven_named (behind_seven ++ (behind_seven ++ behind_six))
step_seven_5 =
    naming_switches (image_now seven_4) data_name seven_named (behind_seven ++ behind_six) (record { at = 188; piece = array_of_seven }) (in_array (eaib_fields (range index_of_seven 0 eaib_len))) seven_named goes_seven_4.now (off_by (behind_seven ++ behind_six) seven_named.fixed refl)
    (clear_by (behind_seven ++ behind_six) seven_named refl) naming_seven_5

pub goes_seven_5 : Goes data_name seven_5 seven_named (behind_seven ++ (behind_seven ++ behind_six))
goes_seven_5 = piece_goes data_name seven_4 seven_named (behind_seven ++ behind_six) (record { at = 188; piece = array_of_seven }) seven_named (behind_seven ++ (behind_seven ++ behind_six)) goes_seven_4 step_seven_5 refl

abbrev pub seven_6 : Log
seven_6 = and_now (shows (record { at = 106; piece = header_of_seven })) seven_5

growing_seven_6 : Growing (image_now seven_5) seven_named (record { at = 106; piece = header_of_seven }) ones_of_seven
unfolding headers.first_of numbers_in mix_line mixed finish_line finished added rounds sum_of prefix_at msgs_in header_at messages_at prefix_bytes data_in_header rows_in_header index_in_header rows_changed header_view apply first_pieces pieces value_at links_at find_link shape_tests shape_fields shape_at int_type_tests int_type_fields int_type_at fill_tests fill_fields fill_at fill_value_bytes layout_fields layout_at num le halvings width_of
growing_seven_6 = record {
  more = (pos 7 ∷ []);
  is = refl;
  inside = record { first = block_at 106 82; continued = []; header_is = refl; from = lit≤ tt; to = lit≤ tt };
  header = refl;
  chunk_0 = header_stays (header_view (range (image_now seven_5) 106 512)) (header_view (range (apply (record { at = 106; piece = header_of_seven }) (image_now seven_5)) 106 512)) 188 15 refl refl refl refl refl refl;
  shape = refl;
  rises = lit≤ tt;
  table = refl;
  count = refl;
  cells = each_cell (λ (k : ℕ). cell (image_now seven_5) (reading_of ones_of_seven) (k / 1) (k % 1)) 7 values_of_seven refl;
}

step_seven_6 : Step (image_now seven_5) seven_named (behind_seven ++ (behind_seven ++ behind_six)) (record { at = 106; piece = header_of_seven }) ones_of_seven behind_seven
step_seven_6 = growing_commits (image_now seven_5) data_name seven_named (behind_seven ++ (behind_seven ++ behind_six)) (record { at = 106; piece = header_of_seven }) ones_of_seven goes_seven_5.now growing_seven_6

pub goes_seven_6 : Goes data_name seven_6 ones_of_seven behind_seven
goes_seven_6 = piece_goes data_name seven_5 seven_named (behind_seven ++ (behind_seven ++ behind_six)) (record { at = 106; piece = header_of_seven }) ones_of_seven behind_seven goes_seven_5 step_seven_6 refl
