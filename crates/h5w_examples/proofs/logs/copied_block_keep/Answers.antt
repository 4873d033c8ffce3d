-- By computing, at each pair of positions.
use Rattle.std.proofs.Common.{◌≡◌, ℕ, zero, suc, ◌<◌, [], ◌∷◌, refl, sym, ◌∙◌, arith, lit≤}
use Rattle.std.specs.Prelude.{get_or}
use Rattle.h5w_model.specs.Arrays.{numbers_in, eaib_fields, eaib_len}
use Rattle.h5w_model.specs.Checksum.{mix_line, mixed, finish_line, finished, added, rounds, sum_of}
use Rattle.h5w_model.specs.Headers.{prefix_at, msgs_in, header_at, messages_at, prefix_bytes, data_in_header, rows_in_header, index_in_header, rows_changed, header_view}
use Rattle.h5w_model.specs.Headers as headers
use Rattle.h5w_model.specs.Images.{apply, first_pieces, pieces}
use Rattle.h5w_model.specs.Integers.{value_at}
use Rattle.h5w_model.specs.Links.{links_at, find_link}
use Rattle.h5w_model.specs.Messages.{shape_tests, shape_fields, shape_at, int_type_tests, int_type_fields, int_type_at, fill_tests, fill_fields, fill_at, fill_value_bytes, layout_fields, layout_at}
use Rattle.h5w_model.specs.Numbers.{num, le, halvings, range, undefined}
use Rattle.h5w_model.specs.Tables.{cell}
use Rattle.h5w_model.specs.Prefixed.{image_at}
use Rattle.h5w_examples.specs.Readings.{one_row_reading, described_by, copied_block}
use Rattle.h5w_examples.proofs.HeaderBytes.{header_stays}
use Rattle.h5w_examples.proofs.BehindLemmas.{block_behind}
use Rattle.h5w_examples.proofs.logs.copied_block_keep.Goals as goal

-- five addresses are the first five of six
longer : (k : ℕ) → k < 5 → get_or (558 ∷ 562 ∷ 566 ∷ 570 ∷ 574 ∷ 728 ∷ []) k undefined ≡ get_or (558 ∷ 562 ∷ 566 ∷ 570 ∷ 574 ∷ []) k undefined
longer zero low = refl
longer (suc zero) low = refl
longer (suc (suc zero)) low = refl
longer (suc (suc (suc zero))) low = refl
longer (suc (suc (suc (suc zero)))) low = refl
longer (suc (suc (suc (suc (suc k))))) low = absurd (omega arith)

cells-between : (row column : ℕ) → row < 5 → column < 1 → cell (image_at copied_block 20) (one_row_reading 5 (558 ∷ 562 ∷ 566 ∷ 570 ∷ 574 ∷ [])) row column ≡ cell (image_at copied_block 15) (one_row_reading 5 (558 ∷ 562 ∷ 566 ∷ 570 ∷ 574 ∷ [])) row column
unfolding headers.first_of numbers_in mix_line mixed finish_line finished added rounds sum_of prefix_at msgs_in header_at messages_at prefix_bytes data_in_header rows_in_header index_in_header rows_changed header_view apply first_pieces pieces value_at links_at find_link shape_tests shape_fields shape_at int_type_tests int_type_fields int_type_at fill_tests fill_fields fill_at fill_value_bytes layout_fields layout_at halvings num le
cells-between zero zero low here = refl
cells-between zero (suc column) low here = absurd (omega arith)
cells-between (suc zero) zero low here = refl
cells-between (suc zero) (suc column) low here = absurd (omega arith)
cells-between (suc (suc zero)) zero low here = refl
cells-between (suc (suc zero)) (suc column) low here = absurd (omega arith)
cells-between (suc (suc (suc zero))) zero low here = refl
cells-between (suc (suc (suc zero))) (suc column) low here = absurd (omega arith)
cells-between (suc (suc (suc (suc zero)))) zero low here = refl
cells-between (suc (suc (suc (suc zero)))) (suc column) low here = absurd (omega arith)
cells-between (suc (suc (suc (suc (suc row))))) column low here = absurd (omega arith)

pub returns-clause-between : goal.returns-clause-between
unfolding headers.first_of numbers_in mix_line mixed finish_line finished added rounds sum_of prefix_at msgs_in header_at messages_at prefix_bytes data_in_header rows_in_header index_in_header rows_changed header_view apply first_pieces pieces value_at links_at find_link shape_tests shape_fields shape_at int_type_tests int_type_fields int_type_at fill_tests fill_fields fill_at fill_value_bytes layout_fields layout_at halvings num le
returns-clause-between c = record {
  stays = record {
    root = refl;
    root_header = (refl, tt);
    place = refl;
    named = refl;
    continuations = tt;
    described = record { rows_alone = refl; address = λ defined. refl };
    chunk_0 = header_stays (header_view (range (image_at copied_block 15) 106 512)) (header_view (range (image_at copied_block 20) 106 512)) 188 15 refl refl refl refl refl refl;
    rows = lit≤ tt;
    header = λ same. refl;
    index_block = λ a b array there before after defined. sym after ∙ before;
    addresses = λ k low defined. refl;
    cells = cells-between;
  };
  behind = λ same p key found is_key. block_behind (image_at copied_block 15) (image_at copied_block 20) (described_by 1 5 188) (eaib_fields (range (image_at copied_block 15) 260 eaib_len)) 578 refl refl refl refl p key found;
}

cells-last : (row column : ℕ) → row < 5 → column < 1 → cell (image_at copied_block 21) (one_row_reading 6 (558 ∷ 562 ∷ 566 ∷ 570 ∷ 574 ∷ 728 ∷ [])) row column ≡ cell (image_at copied_block 20) (one_row_reading 5 (558 ∷ 562 ∷ 566 ∷ 570 ∷ 574 ∷ [])) row column
unfolding headers.first_of numbers_in mix_line mixed finish_line finished added rounds sum_of prefix_at msgs_in header_at messages_at prefix_bytes data_in_header rows_in_header index_in_header rows_changed header_view apply first_pieces pieces value_at links_at find_link shape_tests shape_fields shape_at int_type_tests int_type_fields int_type_at fill_tests fill_fields fill_at fill_value_bytes layout_fields layout_at halvings num le
cells-last zero zero low here = refl
cells-last zero (suc column) low here = absurd (omega arith)
cells-last (suc zero) zero low here = refl
cells-last (suc zero) (suc column) low here = absurd (omega arith)
cells-last (suc (suc zero)) zero low here = refl
cells-last (suc (suc zero)) (suc column) low here = absurd (omega arith)
cells-last (suc (suc (suc zero))) zero low here = refl
cells-last (suc (suc (suc zero))) (suc column) low here = absurd (omega arith)
cells-last (suc (suc (suc (suc zero)))) zero low here = refl
cells-last (suc (suc (suc (suc zero)))) (suc column) low here = absurd (omega arith)
cells-last (suc (suc (suc (suc (suc row))))) column low here = absurd (omega arith)

pub returns-clause-last : goal.returns-clause-last
unfolding headers.first_of numbers_in mix_line mixed finish_line finished added rounds sum_of prefix_at msgs_in header_at messages_at prefix_bytes data_in_header rows_in_header index_in_header rows_changed header_view apply first_pieces pieces value_at links_at find_link shape_tests shape_fields shape_at int_type_tests int_type_fields int_type_at fill_tests fill_fields fill_at fill_value_bytes layout_fields layout_at halvings num le
returns-clause-last c = record {
  stays = record {
    root = refl;
    root_header = (refl, tt);
    place = refl;
    named = refl;
    continuations = tt;
    described = record { rows_alone = refl; address = λ defined. refl };
    chunk_0 = header_stays (header_view (range (image_at copied_block 20) 106 512)) (header_view (range (image_at copied_block 21) 106 512)) 188 15 refl refl refl refl refl refl;
    rows = lit≤ tt;
    header = λ same. absurd (omega (arith, same));
    index_block = λ a b array there before after defined. sym after ∙ before;
    addresses = λ k low defined. longer k low;
    cells = cells-last;
  };
  behind = λ same. absurd (omega (arith, same));
}

cells-both : (row column : ℕ) → row < 5 → column < 1 → cell (image_at copied_block 21) (one_row_reading 6 (558 ∷ 562 ∷ 566 ∷ 570 ∷ 574 ∷ 728 ∷ [])) row column ≡ cell (image_at copied_block 15) (one_row_reading 5 (558 ∷ 562 ∷ 566 ∷ 570 ∷ 574 ∷ [])) row column
unfolding headers.first_of numbers_in mix_line mixed finish_line finished added rounds sum_of prefix_at msgs_in header_at messages_at prefix_bytes data_in_header rows_in_header index_in_header rows_changed header_view apply first_pieces pieces value_at links_at find_link shape_tests shape_fields shape_at int_type_tests int_type_fields int_type_at fill_tests fill_fields fill_at fill_value_bytes layout_fields layout_at halvings num le
cells-both zero zero low here = refl
cells-both zero (suc column) low here = absurd (omega arith)
cells-both (suc zero) zero low here = refl
cells-both (suc zero) (suc column) low here = absurd (omega arith)
cells-both (suc (suc zero)) zero low here = refl
cells-both (suc (suc zero)) (suc column) low here = absurd (omega arith)
cells-both (suc (suc (suc zero))) zero low here = refl
cells-both (suc (suc (suc zero))) (suc column) low here = absurd (omega arith)
cells-both (suc (suc (suc (suc zero)))) zero low here = refl
cells-both (suc (suc (suc (suc zero)))) (suc column) low here = absurd (omega arith)
cells-both (suc (suc (suc (suc (suc row))))) column low here = absurd (omega arith)

pub returns-clause-both : goal.returns-clause-both
unfolding headers.first_of numbers_in mix_line mixed finish_line finished added rounds sum_of prefix_at msgs_in header_at messages_at prefix_bytes data_in_header rows_in_header index_in_header rows_changed header_view apply first_pieces pieces value_at links_at find_link shape_tests shape_fields shape_at int_type_tests int_type_fields int_type_at fill_tests fill_fields fill_at fill_value_bytes layout_fields layout_at halvings num le
returns-clause-both c = record {
  stays = record {
    root = refl;
    root_header = (refl, tt);
    place = refl;
    named = refl;
    continuations = tt;
    described = record { rows_alone = refl; address = λ defined. refl };
    chunk_0 = header_stays (header_view (range (image_at copied_block 15) 106 512)) (header_view (range (image_at copied_block 21) 106 512)) 188 15 refl refl refl refl refl refl;
    rows = lit≤ tt;
    header = λ same. absurd (omega (arith, same));
    index_block = λ a b array there before after defined. sym after ∙ before;
    addresses = λ k low defined. longer k low;
    cells = cells-both;
  };
  behind = λ same. absurd (omega (arith, same));
}
