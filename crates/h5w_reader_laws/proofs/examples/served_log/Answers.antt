-- By computing, at each position and from each to each later one.
use Rattle.std.proofs.Common.{◌≡◌, ◌⊎◌, ℕ, zero, suc, ◌<◌, ◌≤◌, ◌^◌, [], ◌∷◌, length, refl, sym, ◌∙◌, subst, inl, inr, arith, lit≤}
use Rattle.std.proofs.lemmas.Bool.{cases_lt}
use Rattle.h5w_model.specs.Arrays.{numbers_in}
use Rattle.h5w_model.specs.Checksum.{mix_line, mixed, finish_line, finished, added, rounds, sum_of}
use Rattle.h5w_model.specs.Headers.{prefix_at, msgs_in, header_at, messages_at, prefix_bytes, data_in_header, rows_in_header, index_in_header, rows_changed, header_view}
use Rattle.h5w_model.specs.Headers as headers
use Rattle.h5w_model.specs.Images.{apply, first_pieces, pieces}
use Rattle.h5w_model.specs.Integers.{value_at}
use Rattle.h5w_model.specs.Links.{links_at, find_link}
use Rattle.h5w_model.specs.Messages.{shape_tests, shape_fields, shape_at, int_type_tests, int_type_fields, int_type_at, fill_tests, fill_fields, fill_at, fill_value_bytes, layout_fields, layout_at}
use Rattle.h5w_model.specs.Numbers.{num, le, range}
use Rattle.h5w_model.specs.Programs.{visits}
use Rattle.h5w_model.specs.Tables.{Reading, Shows, address_behind, format_limits, cell}
use Rattle.h5w_model.specs.Prefixed.{image_at, IsPosition, PrefixedAt, Keeps}
use Rattle.h5w_laws.proofs.AnswerLemmas.{one_answer}
use Rattle.h5w_laws.proofs.ProgramLemmas.{same_itself}
use Rattle.h5w_laws.proofs.StaysLemmas.{stays_itself}
use Rattle.h5w_examples.specs.Readings.{data_name, reading_as, two_flushes}
use Rattle.h5w_examples.proofs.HeaderBytes.{header_stays}
use Rattle.h5w_reader_laws.specs.Examples.{after_first_flush}
use Rattle.h5w_reader_laws.proofs.examples.served_log.Goals as goal

-- ---- The positions

abbrev IsOneOf : ℕ → Type 0
IsOneOf p = (p ≡ 11) ⊎ (p ≡ 12) ⊎ (p ≡ 13)

one_of : (p : ℕ) → IsPosition after_first_flush p → IsOneOf p
one_of p at =
    let low : 11 ≤ p = at.begun in
    let high : p ≤ 13 = at.reached in
    elim (cases_lt p 12) [
      | inl first ↦ inl (let e : p ≡ 11 = omega arith in e)
      | inr later ↦ elim (cases_lt p 13) [
        | inl mid ↦ inr (inl (let e : p ≡ 12 = omega arith in e))
        | inr last ↦ inr (inr (let e : p ≡ 13 = omega arith in e))
      ]
    ]

-- what the image at a position has

abbrev three : Reading
three = reading_as 3 188 (558 ∷ 566 ∷ [])

abbrev four : Reading
four = reading_as 4 188 (558 ∷ 566 ∷ [])

shows_first : Shows format_limits (image_at two_flushes 11) data_name three
unfolding headers.first_of numbers_in mix_line mixed finish_line finished added rounds sum_of prefix_at msgs_in header_at messages_at prefix_bytes data_in_header rows_in_header index_in_header rows_changed header_view apply first_pieces pieces value_at links_at find_link shape_tests shape_fields shape_at int_type_tests int_type_fields int_type_at fill_tests fill_fields fill_at fill_value_bytes layout_fields layout_at num le
shows_first = refl

shows_between : Shows format_limits (image_at two_flushes 12) data_name three
unfolding headers.first_of numbers_in mix_line mixed finish_line finished added rounds sum_of prefix_at msgs_in header_at messages_at prefix_bytes data_in_header rows_in_header index_in_header rows_changed header_view apply first_pieces pieces value_at links_at find_link shape_tests shape_fields shape_at int_type_tests int_type_fields int_type_at fill_tests fill_fields fill_at fill_value_bytes layout_fields layout_at num le
shows_between = refl

shows_last : Shows format_limits (image_at two_flushes 13) data_name four
unfolding headers.first_of numbers_in mix_line mixed finish_line finished added rounds sum_of prefix_at msgs_in header_at messages_at prefix_bytes data_in_header rows_in_header index_in_header rows_changed header_view apply first_pieces pieces value_at links_at find_link shape_tests shape_fields shape_at int_type_tests int_type_fields int_type_at fill_tests fill_fields fill_at fill_value_bytes layout_fields layout_at num le
shows_last = refl

fits_first : length (image_at two_flushes 11) ≤ 2 ^ 64
unfolding headers.first_of numbers_in mix_line mixed finish_line finished added rounds sum_of prefix_at msgs_in header_at messages_at prefix_bytes data_in_header rows_in_header index_in_header rows_changed header_view apply first_pieces pieces value_at links_at find_link shape_tests shape_fields shape_at int_type_tests int_type_fields int_type_at fill_tests fill_fields fill_at fill_value_bytes layout_fields layout_at num le
fits_first = lit≤ tt

fits_between : length (image_at two_flushes 12) ≤ 2 ^ 64
unfolding headers.first_of numbers_in mix_line mixed finish_line finished added rounds sum_of prefix_at msgs_in header_at messages_at prefix_bytes data_in_header rows_in_header index_in_header rows_changed header_view apply first_pieces pieces value_at links_at find_link shape_tests shape_fields shape_at int_type_tests int_type_fields int_type_at fill_tests fill_fields fill_at fill_value_bytes layout_fields layout_at num le
fits_between = lit≤ tt

fits_last : length (image_at two_flushes 13) ≤ 2 ^ 64
unfolding headers.first_of numbers_in mix_line mixed finish_line finished added rounds sum_of prefix_at msgs_in header_at messages_at prefix_bytes data_in_header rows_in_header index_in_header rows_changed header_view apply first_pieces pieces value_at links_at find_link shape_tests shape_fields shape_at int_type_tests int_type_fields int_type_at fill_tests fill_fields fill_at fill_value_bytes layout_fields layout_at num le
fits_last = lit≤ tt

-- ---- From each to each later one

abbrev Kept : ℕ → ℕ → Type 0
Kept i j = (r s : Reading) → Shows format_limits (image_at two_flushes i) data_name r → Shows format_limits (image_at two_flushes j) data_name s → Keeps (image_at two_flushes i) r (image_at two_flushes j) s

by_shown : (i j : ℕ) (a b : Reading) → Shows format_limits (image_at two_flushes i) data_name a → Shows format_limits (image_at two_flushes j) data_name b
    → Keeps (image_at two_flushes i) a (image_at two_flushes j) b → Kept i j
by_shown i j a b shows_a shows_b kept r s shows_r shows_s =
    subst (λ (x : Reading). Keeps (image_at two_flushes i) x (image_at two_flushes j) s) (one_answer.reading format_limits (image_at two_flushes i) data_name a r shows_a shows_r)
    (subst (λ (x : Reading). Keeps (image_at two_flushes i) a (image_at two_flushes j) x) (one_answer.reading format_limits (image_at two_flushes j) data_name b s shows_b shows_s) kept)

to_itself : (i : ℕ) (a : Reading) → Shows format_limits (image_at two_flushes i) data_name a → Kept i i
to_itself i a shows =
    by_shown i i a a shows shows
    (record { stays = stays_itself (image_at two_flushes i) a; behind = λ rows p key found is_key. same_itself (image_at two_flushes i) (visits (image_at two_flushes i) (address_behind p key)) })

cells_last : (row column : ℕ) → row < 3 → column < 1 → cell (image_at two_flushes 13) four row column ≡ cell (image_at two_flushes 12) three row column
unfolding headers.first_of numbers_in mix_line mixed finish_line finished added rounds sum_of prefix_at msgs_in header_at messages_at prefix_bytes data_in_header rows_in_header index_in_header rows_changed header_view apply first_pieces pieces value_at links_at find_link shape_tests shape_fields shape_at int_type_tests int_type_fields int_type_at fill_tests fill_fields fill_at fill_value_bytes layout_fields layout_at num le
cells_last zero zero low here = refl
cells_last zero (suc column) low here = absurd (omega arith)
cells_last (suc zero) zero low here = refl
cells_last (suc zero) (suc column) low here = absurd (omega arith)
cells_last (suc (suc zero)) zero low here = refl
cells_last (suc (suc zero)) (suc column) low here = absurd (omega arith)
cells_last (suc (suc (suc row))) column low here = absurd (omega arith)

-- the last piece, which is the header
last_piece : Keeps (image_at two_flushes 12) three (image_at two_flushes 13) four
unfolding headers.first_of numbers_in mix_line mixed finish_line finished added rounds sum_of prefix_at msgs_in header_at messages_at prefix_bytes data_in_header rows_in_header index_in_header rows_changed header_view apply first_pieces pieces value_at links_at find_link shape_tests shape_fields shape_at int_type_tests int_type_fields int_type_at fill_tests fill_fields fill_at fill_value_bytes layout_fields layout_at num le
last_piece = record {
  stays = record {
    root = refl;
    root_header = (refl, tt);
    place = refl;
    named = refl;
    continuations = tt;
    described = record { rows_alone = refl; address = λ defined. refl };
    chunk_0 = header_stays (header_view (range (image_at two_flushes 12) 106 512)) (header_view (range (image_at two_flushes 13) 106 512)) 188 15 refl refl refl refl refl refl;
    rows = lit≤ tt;
    header = λ same. absurd (omega (arith, same));
    index_block = λ a b array there before after defined. sym after ∙ before;
    addresses = λ k low defined. refl;
    cells = cells_last;
  };
  behind = λ same. absurd (omega (arith, same));
}

each_kept : (i j : ℕ) → IsOneOf i → IsOneOf j → i ≤ j → Kept 11 12 → Kept 11 13 → Kept i j
each_kept i j (inl e) (inl f) h a b = subst (λ x. Kept x j) (sym e) (subst (λ y. Kept 11 y) (sym f) (to_itself 11 three shows_first))
each_kept i j (inl e) (inr (inl f)) h a b = subst (λ x. Kept x j) (sym e) (subst (λ y. Kept 11 y) (sym f) a)
each_kept i j (inl e) (inr (inr f)) h a b = subst (λ x. Kept x j) (sym e) (subst (λ y. Kept 11 y) (sym f) b)
each_kept i j (inr (inl e)) (inl f) h a b = absurd (omega arith)
each_kept i j (inr (inl e)) (inr (inl f)) h a b = subst (λ x. Kept x j) (sym e) (subst (λ y. Kept 12 y) (sym f) (to_itself 12 three shows_between))
each_kept i j (inr (inl e)) (inr (inr f)) h a b = subst (λ x. Kept x j) (sym e) (subst (λ y. Kept 12 y) (sym f) (by_shown 12 13 three four shows_between shows_last last_piece))
each_kept i j (inr (inr e)) (inl f) h a b = absurd (omega arith)
each_kept i j (inr (inr e)) (inr (inl f)) h a b = absurd (omega arith)
each_kept i j (inr (inr e)) (inr (inr f)) h a b = subst (λ x. Kept x j) (sym e) (subst (λ y. Kept 13 y) (sym f) (to_itself 13 four shows_last))

each_read : (p : ℕ) → IsOneOf p → PrefixedAt data_name two_flushes 11 → PrefixedAt data_name two_flushes 12 → PrefixedAt data_name two_flushes 13 → PrefixedAt data_name two_flushes p
each_read p (inl e) a b c = subst (λ x. PrefixedAt data_name two_flushes x) (sym e) a
each_read p (inr (inl e)) a b c = subst (λ x. PrefixedAt data_name two_flushes x) (sym e) b
each_read p (inr (inr e)) a b c = subst (λ x. PrefixedAt data_name two_flushes x) (sym e) c

each_fits : (p : ℕ) → IsOneOf p → length (image_at two_flushes p) ≤ 2 ^ 64
each_fits p (inl e) = subst (λ x. length (image_at two_flushes x) ≤ 2 ^ 64) (sym e) fits_first
each_fits p (inr (inl e)) = subst (λ x. length (image_at two_flushes x) ≤ 2 ^ 64) (sym e) fits_between
each_fits p (inr (inr e)) = subst (λ x. length (image_at two_flushes x) ≤ 2 ^ 64) (sym e) fits_last

pub returns : goal.returns
returns c =
    let reads = c.two_flushes_read.ensures in
    let keeps = c.two_flushes_keep.ensures in
    record {
      prefixed = λ p at.
          let r = each_read p (one_of p at) reads.three reads.between reads.four in
          record { summary = r.summary; valid = r.valid; reads = r.reads };
      held = λ i j r s at to below shows_r shows_s.
          each_kept i j (one_of i at) (one_of j to) below (by_shown 11 12 three three shows_first shows_between keeps.between) (by_shown 11 13 three four shows_first shows_last keeps.second)
          r s shows_r shows_s;
      fits = λ p at. each_fits p (one_of p at);
    }
