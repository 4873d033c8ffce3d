-- The first flush of a created file.
use Rattle.std.proofs.Common.{◌≡◌, ℕ, zero, suc, ◌+◌, ◌≤◌, false, List, [], ◌∷◌, ◌++◌, length, get_or, Option, Some, Ok, refl, ◌∙◌, ap, subst, inl, inr, arith, lit≤}
use Rattle.std.specs.Prelude.{slice_get, ℤ, replicate}
use Rattle.std.proofs.lemmas.List.Elements.{All-nil}
use Rattle.h5w_model.specs.Arrays.{numbers_in, eaib_fields}
use Rattle.h5w_model.specs.Checksum.{mix_line, mixed, finish_line, finished, added, rounds, sum_of}
use Rattle.h5w_model.specs.Headers.{prefix_at, msgs_in, header_at, messages_at, prefix_bytes, data_in_header, rows_in_header, index_in_header, rows_changed, header_view}
use Rattle.h5w_model.specs.Headers as headers
use Rattle.h5w_model.specs.Images.{apply, first_pieces, pieces}
use Rattle.h5w_model.specs.Integers.{value_at, cell_bytes_of}
use Rattle.h5w_model.specs.Links.{links_at, find_link}
use Rattle.h5w_model.specs.Messages.{shape_tests, shape_fields, shape_at, int_type_tests, int_type_fields, int_type_at, fill_tests, fill_fields, fill_at, fill_value_bytes, layout_fields, layout_at}
use Rattle.h5w_model.specs.Numbers.{num, le, halvings, width_of, range, undefined}
use Rattle.h5w_model.specs.Programs.{eval}
use Rattle.h5w_model.specs.Tables.{in_array, in_place}
use Rattle.h5w_model.specs.Findings.{Used}
use Rattle.h5w_model.specs.declared.piece.Write.{Write}
use Rattle.h5w_space.specs.Space.{Apart}
use Rattle.h5w_space.specs.declared.Extent.{Extent}
use Rattle.h5w_chunks.specs.Runs.{run_bytes}
use Rattle.h5w_chunks.specs.Grids.{FitsType, IsCut, cells_of, copies}
use Rattle.h5w_chunks.specs.Shares.{new_writes, padded_rows, row_blocks, writes_from, writes_of}
use Rattle.h5w_chunks.specs.Rows.{ChunksApart, RowsWritten}
use Rattle.h5w_chunks.specs.declared.grid.ChunkPlace.{ChunkPlace}
use Rattle.h5w_chunks.proofs.EarlyLemmas.{rows_stand}
use Rattle.h5w_chunks.proofs.WriteLaws.{rows_written}
use Rattle.h5w_examples.specs.Files.{created_file, file_of_three}
use Rattle.h5w_examples.specs.Readings.{data_name, piece_of, described_by}
use Rattle.h5w_step_laws.specs.Ranges.{Among, block_at, chunk_at}
use Rattle.h5w_step_laws.specs.Indexes.{behind_visit}
use Rattle.h5w_step_laws.specs.Logs.{image_now}
use Rattle.h5w_session_examples.specs.Moments.{chunks_of_two, with_none, created_twos, values_of_three}
use Rattle.h5w_session_examples.proofs.Decisions.{disjoint_by, all_among_by}
use Rattle.h5w_session_examples.proofs.TwosCreated.{goes_created}
use Rattle.h5w_flush_laws.specs.Spaces.{extent_of, Taken}
use Rattle.h5w_flush_laws.specs.Knowledge.{IsMap, Knows}
use Rattle.h5w_flush_laws.specs.Parts.{AreEnded, EachSays, IndexFlushed, IsFlush, copied, ended, pieces_of}
use Rattle.h5w_flush_laws.specs.Rows.{IsPlaced, ArePlaced, RowsPart}
use Rattle.h5w_flush_laws.proofs.KnownLaws.{begin_knows}
use Rattle.h5w_flush_laws.proofs.ChunkPlaceLemmas.{places_apart}
use Rattle.h5w_flush_laws.proofs.RowsLaws.{rows_flush}
use Rattle.h5w_session_examples.specs.FirstFlush.{places_to, no_address, two_addresses, two_places, first_parts, IsFirstFlush}
use Rattle.h5w_session_examples.proofs.SlotLemmas.{slot_here}

-- ---- The created file

read_created : eval (image_now created_twos) (in_place with_none.dataset) ≡ Ok (in_array (eaib_fields (range created_file 260 298)))
unfolding headers.first_of numbers_in mix_line mixed finish_line finished added rounds sum_of prefix_at msgs_in header_at messages_at prefix_bytes data_in_header rows_in_header index_in_header rows_changed header_view apply first_pieces pieces value_at links_at find_link shape_tests shape_fields shape_at int_type_tests int_type_fields int_type_at fill_tests fill_fields fill_at fill_value_bytes layout_fields layout_at num le halvings width_of
read_created = refl

-- its index block's slots
empty_slots : (eaib_fields (range created_file 260 298)).slots ≡ undefined ∷ undefined ∷ undefined ∷ undefined ∷ []
unfolding headers.first_of numbers_in mix_line mixed finish_line finished added rounds sum_of prefix_at msgs_in header_at messages_at prefix_bytes data_in_header rows_in_header index_in_header rows_changed header_view apply first_pieces pieces value_at links_at find_link shape_tests shape_fields shape_at int_type_tests int_type_fields int_type_at fill_tests fill_fields fill_at fill_value_bytes layout_fields layout_at num le halvings width_of
empty_slots = refl

no_first : (eaib_fields (range created_file 260 298)).first ≡ replicate 6 undefined
unfolding headers.first_of numbers_in mix_line mixed finish_line finished added rounds sum_of prefix_at msgs_in header_at messages_at prefix_bytes data_in_header rows_in_header index_in_header rows_changed header_view apply first_pieces pieces value_at links_at find_link shape_tests shape_fields shape_at int_type_tests int_type_fields int_type_at fill_tests fill_fields fill_at fill_value_bytes layout_fields layout_at num le halvings width_of
no_first = refl

no_second : (eaib_fields (range created_file 260 298)).second ≡ replicate 25 undefined
unfolding headers.first_of numbers_in mix_line mixed finish_line finished added rounds sum_of prefix_at msgs_in header_at messages_at prefix_bytes data_in_header rows_in_header index_in_header rows_changed header_view apply first_pieces pieces value_at links_at find_link shape_tests shape_fields shape_at int_type_tests int_type_fields int_type_at fill_tests fill_fields fill_at fill_value_bytes layout_fields layout_at num le halvings width_of
no_second = refl

none_there : (i : ℕ) → get_or (undefined ∷ undefined ∷ undefined ∷ undefined ∷ []) i undefined ≡ undefined
none_there zero = refl
none_there (suc zero) = refl
none_there (suc (suc zero)) = refl
none_there (suc (suc (suc zero))) = refl
none_there (suc (suc (suc (suc i)))) = refl

no_map : IsMap (image_now created_twos) with_none.dataset no_address
no_map = record {
  blocks = in_array (eaib_fields (range created_file 260 298));
  read = read_created;
  answers = λ key n.
      slot_here (image_now created_twos) (eaib_fields (range created_file 260 298)) key.i no_first no_second (ap length empty_slots)
      ∙ ap Ok (ap (λ (xs : List ℕ). get_or xs key.i undefined) empty_slots ∙ none_there key.i);
}

known_created : Knows (image_now created_twos) data_name with_none no_address (places_to 558)
known_created =
    (begin_knows (image_now created_twos) data_name with_none no_address (places_to 558) goes_created.now no_map
    (record { end = refl; none_free = refl; none_retired = refl }) (λ e. absurd (omega (arith, e)))).knows

-- ---- The new rows

cut : IsCut (described_by 2 0 188)
cut = record { rows = lit≤ tt; cols = lit≤ tt; some = lit≤ tt; few = lit≤ tt; small = lit≤ tt; fill = refl }

-- the writes of three rows
are_writes : new_writes (described_by 2 0 188) (cells_of (described_by 2 0 188) values_of_three) 0 3 two_places ≡ first_parts.writes
unfolding writes_from writes_of pieces first_pieces padded_rows row_blocks copies run_bytes cell_bytes_of le num
are_writes = refl

cells_length : length (cells_of (described_by 2 0 188) values_of_three) ≡ 12
unfolding run_bytes cell_bytes_of le
cells_length = refl

written : RowsWritten (described_by 2 0 188) (cells_of (described_by 2 0 188) values_of_three) 0 3 two_places first_parts.writes
written =
    subst (λ (ws : List Write). RowsWritten (described_by 2 0 188) (cells_of (described_by 2 0 188) values_of_three) 0 3 two_places ws) are_writes
    (rows_written (described_by 2 0 188) (cells_of (described_by 2 0 188) values_of_three) 0 3 two_places cut (lit≤ tt) cells_length refl)

each_placed : (k : ℕ) (p : ChunkPlace) → slice_get two_places k ≡ Some p → IsPlaced (described_by 2 0 188) no_address two_addresses 0 k p
each_placed zero p found = subst (λ (q : ChunkPlace). IsPlaced (described_by 2 0 188) no_address two_addresses 0 zero q) (some_place (record { address = 558; stored = false }) p found) (record {
  named = refl;
  defined = λ e. absurd (omega (arith, e));
  kept = λ d. absurd (d refl);
  stored = λ e. absurd cc;
  whole = λ e d. absurd (d refl);
})
  where
    some_place : (p q : ChunkPlace) → ◌≡◌ {A = Option ChunkPlace} (Some p) (Some q) → p ≡ q
    some_place p q e = cc
each_placed (suc zero) p found = subst (λ (q : ChunkPlace). IsPlaced (described_by 2 0 188) no_address two_addresses 0 (suc zero) q) (some_place (record { address = 566; stored = false }) p found) (record {
  named = refl;
  defined = λ e. absurd (omega (arith, e));
  kept = λ d. absurd (d refl);
  stored = λ e. absurd cc;
  whole = λ e d. absurd (d refl);
})
  where
    some_place : (p q : ChunkPlace) → ◌≡◌ {A = Option ChunkPlace} (Some p) (Some q) → p ≡ q
    some_place p q e = cc
each_placed (suc (suc k)) p found = absurd cc

each_fits : (k : ℕ) (v : ℤ) → slice_get values_of_three k ≡ Some v → FitsType (described_by 2 0 188) v
unfolding cell_bytes_of le
each_fits zero v found = subst (λ (x : ℤ). FitsType (described_by 2 0 188) x) (some_value _ v found) (1 ∷ 0 ∷ 0 ∷ 0 ∷ [], refl)
  where
    some_value : (v w : ℤ) → ◌≡◌ {A = Option ℤ} (Some v) (Some w) → v ≡ w
    some_value v w e = cc
each_fits (suc zero) v found = subst (λ (x : ℤ). FitsType (described_by 2 0 188) x) (some_value _ v found) (2 ∷ 0 ∷ 0 ∷ 0 ∷ [], refl)
  where
    some_value : (v w : ℤ) → ◌≡◌ {A = Option ℤ} (Some v) (Some w) → v ≡ w
    some_value v w e = cc
each_fits (suc (suc zero)) v found = subst (λ (x : ℤ). FitsType (described_by 2 0 188) x) (some_value _ v found) (3 ∷ 0 ∷ 0 ∷ 0 ∷ [], refl)
  where
    some_value : (v w : ℤ) → ◌≡◌ {A = Option ℤ} (Some v) (Some w) → v ≡ w
    some_value v w e = cc
each_fits (suc (suc (suc k))) v found = absurd cc

past_two : (i : ℕ) → 2 ≤ i → get_or (558 ∷ 566 ∷ undefined ∷ undefined ∷ []) i undefined ≡ undefined
past_two zero h = absurd (omega (arith, h))
past_two (suc zero) h = absurd (omega (arith, h))
past_two (suc (suc i)) h = later i
  where
    later : (i : ℕ) → get_or (undefined ∷ undefined ∷ []) i undefined ≡ undefined
    later zero = refl
    later (suc zero) = refl
    later (suc (suc i)) = refl

chunks_taken : Taken (places_to 558) chunks_of_two (places_to 574)
chunks_taken = record {
  apart = disjoint_by chunks_of_two refl refl;
  off_live = λ u x a live. off u x live.within a;
  live = λ u a. record { within = inside u a; off_free = All-nil (Apart (extent_of u)); off_retired = All-nil (Apart (extent_of u)) };
  stays_live = λ x live. let within = live.within in record { within = omega arith; off_free = live.off_free; off_retired = live.off_retired };
  rises = lit≤ tt;
  end = inr (chunk_at 566 8, inr (inl refl), refl);
}
  where
    off : (u : Used) (x : Extent) → x.at + x.size ≤ 558 → Among u chunks_of_two → Apart (extent_of u) x
    off u x h (inl e) = subst (λ (y : Used). Apart (extent_of y) x) e (omega (arith, h))
    off u x h (inr (inl e)) = subst (λ (y : Used). Apart (extent_of y) x) e (omega (arith, h))
    off u x h (inr (inr a)) = absurd a

    inside : (u : Used) → Among u chunks_of_two → u.place + u.len ≤ 574
    inside u (inl e) = subst (λ (y : Used). y.place + y.len ≤ 574) e (lit≤ tt)
    inside u (inr (inl e)) = subst (λ (y : Used). y.place + y.len ≤ 574) e (lit≤ tt)
    inside u (inr (inr a)) = absurd a

chunks_apart : ChunksApart (described_by 2 0 188) two_places
chunks_apart = places_apart (image_now created_twos) data_name with_none no_address (places_to 558) (places_to 574) 3 two_places known_created chunks_taken (lit≤ tt) refl refl (λ k p found. (each_placed k p found).kept)

placed : ArePlaced (image_now created_twos) with_none no_address first_parts two_places
placed = record {
  written = rows_stand (image_now created_twos) (described_by 2 0 188) (cells_of (described_by 2 0 188) values_of_three) 0 3 two_places first_parts.writes written chunks_apart;
  all = refl;
  placed = each_placed;
  others = λ key asked outside. elim outside [ inl low ↦ absurd (omega (arith, low)) | inr high ↦ past_two key.i high ];
  chunks = refl;
  typed = refl;
  filled = refl;
  fit = each_fits;
}

rows_part : RowsPart (image_now created_twos) with_none known_created.held no_address first_parts
rows_part = rows_flush (image_now created_twos) data_name with_none no_address (places_to 558) (places_to 574) first_parts two_places known_created chunks_taken (lit≤ tt) refl refl placed

-- ---- The index

new_slots : (eaib_fields (range file_of_three 260 298)).slots ≡ 558 ∷ 566 ∷ undefined ∷ undefined ∷ []
unfolding headers.first_of numbers_in mix_line mixed finish_line finished added rounds sum_of prefix_at msgs_in header_at messages_at prefix_bytes data_in_header rows_in_header index_in_header rows_changed header_view apply first_pieces pieces value_at links_at find_link shape_tests shape_fields shape_at int_type_tests int_type_fields int_type_at fill_tests fill_fields fill_at fill_value_bytes layout_fields layout_at num le halvings width_of
new_slots = refl

still_no_first : (eaib_fields (range file_of_three 260 298)).first ≡ replicate 6 undefined
unfolding headers.first_of numbers_in mix_line mixed finish_line finished added rounds sum_of prefix_at msgs_in header_at messages_at prefix_bytes data_in_header rows_in_header index_in_header rows_changed header_view apply first_pieces pieces value_at links_at find_link shape_tests shape_fields shape_at int_type_tests int_type_fields int_type_at fill_tests fill_fields fill_at fill_value_bytes layout_fields layout_at num le halvings width_of
still_no_first = refl

still_no_second : (eaib_fields (range file_of_three 260 298)).second ≡ replicate 25 undefined
unfolding headers.first_of numbers_in mix_line mixed finish_line finished added rounds sum_of prefix_at msgs_in header_at messages_at prefix_bytes data_in_header rows_in_header index_in_header rows_changed header_view apply first_pieces pieces value_at links_at find_link shape_tests shape_fields shape_at int_type_tests int_type_fields int_type_at fill_tests fill_fields fill_at fill_value_bytes layout_fields layout_at num le halvings width_of
still_no_second = refl

named_chunks : eval (copied (image_now created_twos) first_parts) (behind_visit 574 8 (in_array (eaib_fields (range file_of_three 260 298)))) ≡ Ok chunks_of_two
unfolding headers.first_of numbers_in mix_line mixed finish_line finished added rounds sum_of prefix_at msgs_in header_at messages_at prefix_bytes data_in_header rows_in_header index_in_header rows_changed header_view apply first_pieces pieces value_at links_at find_link shape_tests shape_fields shape_at int_type_tests int_type_fields int_type_at fill_tests fill_fields fill_at fill_value_bytes layout_fields layout_at num le halvings width_of
named_chunks = refl

in_turn : EachSays with_none.dataset with_none.fixed (in_array (eaib_fields (range file_of_three 260 298))) first_parts.fixed (ended (image_now created_twos) first_parts) first_parts.in_place
unfolding headers.first_of numbers_in mix_line mixed finish_line finished added rounds sum_of prefix_at msgs_in header_at messages_at prefix_bytes data_in_header rows_in_header index_in_header rows_changed header_view apply first_pieces pieces value_at links_at find_link shape_tests shape_fields shape_at int_type_tests int_type_fields int_type_at fill_tests fill_fields fill_at fill_value_bytes layout_fields layout_at num le halvings width_of
in_turn = (
  record { used = block_at 260 298; among = inr (inl refl); from = lit≤ tt; to = lit≤ tt },
  record { says = refl; looks = refl },
  (record { used = block_at 188 72; among = inl refl; from = lit≤ tt; to = lit≤ tt }, record { says = refl; looks = refl }, tt),
)

new_index : IndexFlushed (image_now created_twos) with_none no_address first_parts
new_index = record {
  blocks = in_array (eaib_fields (range file_of_three 260 298));
  behind = named_chunks;
  answers = λ key n.
      slot_here (copied (image_now created_twos) first_parts) (eaib_fields (range file_of_three 260 298)) key.i still_no_first still_no_second (ap length new_slots)
      ∙ ap Ok (ap (λ (xs : List ℕ). get_or xs key.i undefined) new_slots);
  each_says = in_turn;
  said = λ e. absurd cc;
  added = [];
  begins = refl;
  added_fresh = λ u a. absurd a;
  known = all_among_by (first_parts.fixed ++ first_parts.behind) (chunks_of_two ++ with_none.fixed) refl;
  counts = λ p. omega arith;
  kept = λ key asked d. absurd (d refl);
}

-- ---- The flush

new_end : AreEnded with_none.super 574 first_parts.supers
unfolding headers.first_of numbers_in mix_line mixed finish_line finished added rounds sum_of prefix_at msgs_in header_at messages_at prefix_bytes data_in_header rows_in_header index_in_header rows_changed header_view apply first_pieces pieces value_at links_at find_link shape_tests shape_fields shape_at int_type_tests int_type_fields int_type_at fill_tests fill_fields fill_at fill_value_bytes layout_fields layout_at num le halvings width_of
new_end = (record { place = refl; len = refl; reads = refl }, refl)

is_flush : IsFlush (image_now created_twos) with_none no_address (places_to 558) first_parts (places_to 574)
is_flush = record {
  rises = lit≤ tt;
  small = lit≤ tt;
  few = refl;
  count = refl;
  named = tt;
  written = rows_part.flushed;
  index = new_index;
  between = places_to 574;
  taken = chunks_taken;
  end = refl;
  super = new_end;
  left = [];
  let_go = record { stays_live = λ x l off. l; end = refl };
  left_before = λ u a. absurd a;
  left_after = λ u a. absurd a;
}

are_pieces : pieces_of (image_now created_twos) with_none first_parts
    ≡ piece_of file_of_three 558 8 ∷ piece_of file_of_three 566 8 ∷ piece_of file_of_three 0 48 ∷ piece_of file_of_three 260 298 ∷ piece_of file_of_three 188 72 ∷ piece_of file_of_three 106 82 ∷ []
unfolding headers.first_of numbers_in mix_line mixed finish_line finished added rounds sum_of prefix_at msgs_in header_at messages_at prefix_bytes data_in_header rows_in_header index_in_header rows_changed header_view apply first_pieces pieces value_at links_at find_link shape_tests shape_fields shape_at int_type_tests int_type_fields int_type_at fill_tests fill_fields fill_at fill_value_bytes layout_fields layout_at num le halvings width_of headers.with_rows_bytes
are_pieces = refl

pub first_flush : IsFirstFlush
first_flush = record { known = known_created; flush = is_flush; leads = refl; pieces = are_pieces }
