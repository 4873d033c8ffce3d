-- The log of two flushes, as a run of safe steps: the creation.
use Rattle.std.proofs.Common.{[], ◌∷◌, refl, arith, lit≤}
use Rattle.h5w_model.specs.Arrays.{numbers_in, eaib_fields, eaib_len}
use Rattle.h5w_model.specs.Checksum.{mix_line, mixed, finish_line, finished, added, rounds, sum_of}
use Rattle.h5w_model.specs.Headers.{prefix_at, msgs_in, header_at, messages_at, prefix_bytes, data_in_header, rows_in_header, index_in_header, rows_changed, header_view}
use Rattle.h5w_model.specs.Headers as headers
use Rattle.h5w_model.specs.Images.{apply, first_pieces, pieces}
use Rattle.h5w_model.specs.Integers.{value_at}
use Rattle.h5w_model.specs.Links.{links_at, find_link}
use Rattle.h5w_model.specs.Messages.{shape_tests, shape_fields, shape_at, int_type_tests, int_type_fields, int_type_at, fill_tests, fill_fields, fill_at, fill_value_bytes, layout_fields, layout_at}
use Rattle.h5w_model.specs.Numbers.{num, le, halvings, width_of, range}
use Rattle.h5w_model.specs.Tables.{in_array}
use Rattle.h5w_model.specs.Prefixed.{PrefixedEach}
use Rattle.h5w_examples.specs.Readings.{described_by, data_name}
use Rattle.h5w_step_laws.specs.Ranges.{block_at}
use Rattle.h5w_step_laws.specs.Indexes.{IsIndex}
use Rattle.h5w_step_laws.proofs.IndexLaws.{index_of_parts}
use Rattle.h5w_step_laws.specs.Moments.{Represents, all_used}
use Rattle.h5w_step_laws.specs.Logs.{Goes, image_now}
use Rattle.h5w_step_laws.proofs.GoesLemmas.{begin_goes, reads_now}
use Rattle.h5w_session_examples.specs.Moments.{with_none, created_twos}
use Rattle.h5w_session_examples.proofs.Decisions.{disjoint_by, ends_by}

index_created : IsIndex (image_now created_twos) 558 (described_by 2 0 188) (block_at 188 72 ∷ block_at 260 298 ∷ []) []
unfolding headers.first_of numbers_in mix_line mixed finish_line finished added rounds sum_of prefix_at msgs_in header_at messages_at prefix_bytes data_in_header rows_in_header index_in_header rows_changed header_view apply first_pieces pieces value_at links_at find_link shape_tests shape_fields shape_at int_type_tests int_type_fields int_type_at fill_tests fill_fields fill_at fill_value_bytes layout_fields layout_at num le halvings width_of
index_created =
    index_of_parts (image_now created_twos) 558 (described_by 2 0 188) (in_array (eaib_fields (range (image_now created_twos) 260 eaib_len))) [] refl
    (ends_by 558 (block_at 188 72 ∷ block_at 260 298 ∷ []) refl) refl

represents_created : Represents (image_now created_twos) data_name with_none
unfolding headers.first_of numbers_in mix_line mixed finish_line finished added rounds sum_of prefix_at msgs_in header_at messages_at prefix_bytes data_in_header rows_in_header index_in_header rows_changed header_view apply first_pieces pieces value_at links_at find_link shape_tests shape_fields shape_at int_type_tests int_type_fields int_type_at fill_tests fill_fields fill_at fill_value_bytes layout_fields layout_at num le halvings width_of
represents_created = record {
  super = refl;
  root = record { own = with_none.root; others = []; is = refl; checked = refl; ends = λ u a. absurd a };
  header = refl;
  index = index_created;
  apart = disjoint_by (all_used with_none) refl refl;
  table = refl;
  count = refl;
  cells = λ k low. absurd (omega (arith, low));
}

-- nothing is read before the superblock
prefixed_created : PrefixedEach data_name created_twos
prefixed_created = (
  λ h. reads_now data_name created_twos with_none represents_created refl (lit≤ tt) refl,
  (λ h. absurd (omega (arith, h)), (λ h. absurd (omega (arith, h)), (λ h. absurd (omega (arith, h)), (λ h. absurd (omega (arith, h)), λ h. absurd (omega (arith, h)))))),
)

pub goes_created : Goes data_name created_twos with_none []
goes_created = begin_goes data_name created_twos with_none refl represents_created refl (lit≤ tt) refl prefixed_created
