-- By computing, at each pair of positions.
use Rattle.std.proofs.Common.{◌≡◌, ℕ, zero, suc, ◌<◌, [], ◌∷◌, refl, sym, ◌∙◌, arith, lit≤}
use Rattle.h5w_model.specs.Arrays.{numbers_in, eaib_fields, eaib_len}
use Rattle.h5w_model.specs.Checksum.{mix_line, mixed, finish_line, finished, added, rounds, sum_of}
use Rattle.h5w_model.specs.Headers.{prefix_at, msgs_in, header_at, messages_at, prefix_bytes, data_in_header, rows_in_header, index_in_header, rows_changed, header_view}
use Rattle.h5w_model.specs.Headers as headers
use Rattle.h5w_model.specs.Images.{apply, first_pieces, pieces}
use Rattle.h5w_model.specs.Integers.{value_at}
use Rattle.h5w_model.specs.Links.{links_at, find_link}
use Rattle.h5w_model.specs.Messages.{shape_tests, shape_fields, shape_at, int_type_tests, int_type_fields, int_type_at, fill_tests, fill_fields, fill_at, fill_value_bytes, layout_fields, layout_at}
use Rattle.h5w_model.specs.Numbers.{num, le, range}
use Rattle.h5w_model.specs.Tables.{cell}
use Rattle.h5w_model.specs.Prefixed.{image_at}
use Rattle.h5w_examples.specs.Readings.{reading_as, described_as, two_flushes}
use Rattle.h5w_examples.proofs.HeaderBytes.{header_stays}
use Rattle.h5w_examples.proofs.BehindLemmas.{none_behind}
use Rattle.h5w_examples.proofs.logs.two_flushes_keep.Goals as goal

pub returns-clause-first : goal.returns-clause-first
unfolding headers.first_of numbers_in mix_line mixed finish_line finished added rounds sum_of prefix_at msgs_in messages_at prefix_bytes data_in_header rows_in_header index_in_header rows_changed header_at header_view apply first_pieces pieces value_at links_at find_link shape_tests shape_fields shape_at int_type_tests int_type_fields int_type_at fill_tests fill_fields fill_at fill_value_bytes layout_fields layout_at num le
returns-clause-first c = record {
  stays = record {
    root = refl;
    root_header = (refl, tt);
    place = refl;
    named = refl;
    continuations = tt;
    described = record { rows_alone = refl; address = λ defined. refl };
    chunk_0 = header_stays (header_view (range (image_at two_flushes 5) 106 512)) (header_view (range (image_at two_flushes 11) 106 512)) 188 15 refl refl refl refl refl refl;
    rows = lit≤ tt;
    header = λ same. absurd (omega (arith, same));
    index_block = λ a b array there before after defined. sym after ∙ before;
    addresses = λ k low defined. absurd (omega arith);
    cells = λ row column low here. absurd (omega arith);
  };
  behind = λ same. absurd (omega (arith, same));
}

cells-between : (row column : ℕ) → row < 3 → column < 1 → cell (image_at two_flushes 12) (reading_as 3 188 (558 ∷ 566 ∷ [])) row column ≡ cell (image_at two_flushes 11) (reading_as 3 188 (558 ∷ 566 ∷ [])) row column
unfolding headers.first_of numbers_in mix_line mixed finish_line finished added rounds sum_of prefix_at msgs_in messages_at prefix_bytes data_in_header rows_in_header index_in_header rows_changed header_at header_view apply first_pieces pieces value_at links_at find_link shape_tests shape_fields shape_at int_type_tests int_type_fields int_type_at fill_tests fill_fields fill_at fill_value_bytes layout_fields layout_at num le
cells-between zero zero low here = refl
cells-between zero (suc column) low here = absurd (omega arith)
cells-between (suc zero) zero low here = refl
cells-between (suc zero) (suc column) low here = absurd (omega arith)
cells-between (suc (suc zero)) zero low here = refl
cells-between (suc (suc zero)) (suc column) low here = absurd (omega arith)
cells-between (suc (suc (suc row))) column low here = absurd (omega arith)

pub returns-clause-between : goal.returns-clause-between
unfolding headers.first_of numbers_in mix_line mixed finish_line finished added rounds sum_of prefix_at msgs_in messages_at prefix_bytes data_in_header rows_in_header index_in_header rows_changed header_at header_view apply first_pieces pieces value_at links_at find_link shape_tests shape_fields shape_at int_type_tests int_type_fields int_type_at fill_tests fill_fields fill_at fill_value_bytes layout_fields layout_at num le
returns-clause-between c = record {
  stays = record {
    root = refl;
    root_header = (refl, tt);
    place = refl;
    named = refl;
    continuations = tt;
    described = record { rows_alone = refl; address = λ defined. refl };
    chunk_0 = header_stays (header_view (range (image_at two_flushes 11) 106 512)) (header_view (range (image_at two_flushes 12) 106 512)) 188 15 refl refl refl refl refl refl;
    rows = lit≤ tt;
    header = λ same. refl;
    index_block = λ a b array there before after defined. sym after ∙ before;
    addresses = λ k low defined. refl;
    cells = cells-between;
  };
  behind = λ same p key found is_key. none_behind (image_at two_flushes 11) (image_at two_flushes 12) (described_as 3 188) (eaib_fields (range (image_at two_flushes 11) 260 eaib_len)) refl refl refl p key found;
}

cells-second : (row column : ℕ) → row < 3 → column < 1 → cell (image_at two_flushes 13) (reading_as 4 188 (558 ∷ 566 ∷ [])) row column ≡ cell (image_at two_flushes 11) (reading_as 3 188 (558 ∷ 566 ∷ [])) row column
unfolding headers.first_of numbers_in mix_line mixed finish_line finished added rounds sum_of prefix_at msgs_in messages_at prefix_bytes data_in_header rows_in_header index_in_header rows_changed header_at header_view apply first_pieces pieces value_at links_at find_link shape_tests shape_fields shape_at int_type_tests int_type_fields int_type_at fill_tests fill_fields fill_at fill_value_bytes layout_fields layout_at num le
cells-second zero zero low here = refl
cells-second zero (suc column) low here = absurd (omega arith)
cells-second (suc zero) zero low here = refl
cells-second (suc zero) (suc column) low here = absurd (omega arith)
cells-second (suc (suc zero)) zero low here = refl
cells-second (suc (suc zero)) (suc column) low here = absurd (omega arith)
cells-second (suc (suc (suc row))) column low here = absurd (omega arith)

pub returns-clause-second : goal.returns-clause-second
unfolding headers.first_of numbers_in mix_line mixed finish_line finished added rounds sum_of prefix_at msgs_in messages_at prefix_bytes data_in_header rows_in_header index_in_header rows_changed header_at header_view apply first_pieces pieces value_at links_at find_link shape_tests shape_fields shape_at int_type_tests int_type_fields int_type_at fill_tests fill_fields fill_at fill_value_bytes layout_fields layout_at num le
returns-clause-second c = record {
  stays = record {
    root = refl;
    root_header = (refl, tt);
    place = refl;
    named = refl;
    continuations = tt;
    described = record { rows_alone = refl; address = λ defined. refl };
    chunk_0 = header_stays (header_view (range (image_at two_flushes 11) 106 512)) (header_view (range (image_at two_flushes 13) 106 512)) 188 15 refl refl refl refl refl refl;
    rows = lit≤ tt;
    header = λ same. absurd (omega (arith, same));
    index_block = λ a b array there before after defined. sym after ∙ before;
    addresses = λ k low defined. refl;
    cells = cells-second;
  };
  behind = λ same. absurd (omega (arith, same));
}

pub returns-clause-both : goal.returns-clause-both
unfolding headers.first_of numbers_in mix_line mixed finish_line finished added rounds sum_of prefix_at msgs_in messages_at prefix_bytes data_in_header rows_in_header index_in_header rows_changed header_at header_view apply first_pieces pieces value_at links_at find_link shape_tests shape_fields shape_at int_type_tests int_type_fields int_type_at fill_tests fill_fields fill_at fill_value_bytes layout_fields layout_at num le
returns-clause-both c = record {
  stays = record {
    root = refl;
    root_header = (refl, tt);
    place = refl;
    named = refl;
    continuations = tt;
    described = record { rows_alone = refl; address = λ defined. refl };
    chunk_0 = header_stays (header_view (range (image_at two_flushes 5) 106 512)) (header_view (range (image_at two_flushes 13) 106 512)) 188 15 refl refl refl refl refl refl;
    rows = lit≤ tt;
    header = λ same. absurd (omega (arith, same));
    index_block = λ a b array there before after defined. sym after ∙ before;
    addresses = λ k low defined. absurd (omega arith);
    cells = λ row column low here. absurd (omega arith);
  };
  behind = λ same. absurd (omega (arith, same));
}
