-- A fourth row in a file whose array is not there yet.
use Rattle.std.proofs.Common.{◌≡◌, ℕ, zero, suc, ◌+◌, ◌/◌, ◌%◌, ◌<◌, ◌≤◌, ◌⊎◌, Bool, true, false, List, [], ◌∷◌, ◌++◌, length, get_or, Option, Some, None, Result, Ok, Err, refl, sym, ◌∙◌, ap, subst, inl, inr, arith, lit≤}
use Rattle.std.specs.Prelude.{slice_get, ℤ, replicate}
use Rattle.std.specs.Option.{option_map}
use Rattle.std.proofs.lemmas.List.Elements.{All-nil}
use Rattle.h5w_model.specs.Arrays.{numbers_in, eaib_fields}
use Rattle.h5w_model.specs.Checksum.{mix_line, mixed, finish_line, finished, added, rounds, sum_of}
use Rattle.h5w_model.specs.Headers.{prefix_at, msgs_in, header_at, messages_at, prefix_bytes, data_in_header, rows_in_header, index_in_header, rows_changed, header_view}
use Rattle.h5w_model.specs.Headers as headers
use Rattle.h5w_model.specs.Images.{apply, first_pieces, image, pieces}
use Rattle.h5w_model.specs.Integers.{value_at, cell_bytes_of}
use Rattle.h5w_model.specs.Links.{links_at, find_link}
use Rattle.h5w_model.specs.Messages.{shape_tests, shape_fields, shape_at, int_type_tests, int_type_fields, int_type_at, fill_tests, fill_fields, fill_at, fill_value_bytes, layout_fields, layout_at}
use Rattle.h5w_model.specs.Numbers.{num, le, halvings, width_of, range, undefined}
use Rattle.h5w_model.specs.Programs.{eval}
use Rattle.h5w_model.specs.Tables.{in_array, cell}
use Rattle.h5w_model.specs.Datasets.{Described, FoundMessage, HeaderFields, dataset_messages, first_of, layout_kind}
use Rattle.h5w_model.specs.Findings.{Used, Valid}
use Rattle.h5w_model.specs.declared.refusal.ReadError.{ReadError}
use Rattle.h5w_model.specs.declared.piece.Write.{Write}
use Rattle.h5w_space.specs.Space.{Apart}
use Rattle.h5w_chunks.specs.Runs.{run_bytes}
use Rattle.h5w_chunks.specs.Grids.{FitsType, IsCut, cells_of, copies}
use Rattle.h5w_chunks.specs.Shares.{new_writes, padded_rows, row_blocks, writes_from, writes_of}
use Rattle.h5w_chunks.specs.Rows.{ChunksApart, RowsWritten}
use Rattle.h5w_chunks.specs.Early.{RowsStand}
use Rattle.h5w_chunks.specs.declared.grid.ChunkPlace.{ChunkPlace}
use Rattle.h5w_chunks.proofs.EarlyLemmas.{rows_stand}
use Rattle.h5w_chunks.proofs.WriteLaws.{rows_written}
use Rattle.h5w_examples.proofs.CellLemmas.{each_cell}
use Rattle.h5w_examples.specs.Readings.{data_name, piece_of, described_by, summary_as}
use Rattle.h5w_step_laws.specs.Ranges.{Among, Disjoint, block_at, chunk_at}
use Rattle.h5w_step_laws.specs.Indexes.{IsIndex, behind_visit}
use Rattle.h5w_step_laws.proofs.IndexLaws.{index_of_parts}
use Rattle.h5w_step_laws.specs.Files.{chunk_0, LayoutInChunk0}
use Rattle.h5w_step_laws.specs.Moments.{Represents, reading_of, all_used}
use Rattle.h5w_step_laws.specs.Steps.{Ends}
use Rattle.h5w_session_examples.proofs.Decisions.{disjoint_by, all_among_by}
use Rattle.h5w_flush_laws.specs.Spaces.{extent_of, Taken}
use Rattle.h5w_flush_laws.specs.Knowledge.{KnownHeld}
use Rattle.h5w_flush_laws.specs.Parts.{AreEnded, IndexFlushed, IsFlush, SaysInPlace, committed, copied, fresh_of, pieces_of}
use Rattle.h5w_flush_laws.specs.Rows.{IsPlaced, ArePlaced, RowsPart}
use Rattle.h5w_flush_laws.proofs.KnownLaws.{begin_knows, end_known}
use Rattle.h5w_flush_laws.proofs.RowsLaws.{rows_flush}
use Rattle.h5w_session_examples.specs.FirstFlush.{places_to}
use Rattle.h5w_session_examples.proofs.SlotLemmas.{slot_here}
use Rattle.h5w_first_flush_laws.specs.FirstFlushes.{no_chunk}
use Rattle.h5w_first_flush_laws.proofs.FirstFlushLemmas.{unnamed_nowhere}
use Rattle.h5w_examples.specs.Files.{file_with_times as unnamed_file}
use Rattle.h5w_session_examples.specs.Bytes.{named_file}
use Rattle.h5w_session_examples.specs.UnnamedFlush.{found, open_to_write, opening_piece, opened_file, second_chunk, new_place, fourth_row, IsUnnamedFlush}

-- ---- The file as it was found

no_index : IsIndex unnamed_file 240 (described_by 2 3 undefined) [] []
unfolding headers.first_of numbers_in mix_line mixed finish_line finished added rounds sum_of prefix_at msgs_in header_at messages_at prefix_bytes data_in_header rows_in_header index_in_header rows_changed header_view apply first_pieces pieces value_at links_at find_link shape_tests shape_fields shape_at int_type_tests int_type_fields int_type_at fill_tests fill_fields fill_at fill_value_bytes layout_fields layout_at num le halvings width_of
no_index = index_of_parts unnamed_file 240 (described_by 2 3 undefined) _ [] refl (λ u a. absurd a) refl

is_file : Represents unnamed_file data_name found
unfolding headers.first_of numbers_in mix_line mixed finish_line finished added rounds sum_of prefix_at msgs_in header_at messages_at prefix_bytes data_in_header rows_in_header index_in_header rows_changed header_view apply first_pieces pieces value_at links_at find_link shape_tests shape_fields shape_at int_type_tests int_type_fields int_type_at fill_tests fill_fields fill_at fill_value_bytes layout_fields layout_at num le halvings width_of
is_file = record {
  super = refl;
  root = record { own = found.root; others = []; is = refl; checked = refl; ends = λ u a. absurd a };
  header = refl;
  index = no_index;
  apart = disjoint_by (all_used found) refl refl;
  table = refl;
  count = refl;
  cells = each_cell (λ (k : ℕ). cell unnamed_file (reading_of found) (k / 1) (k % 1)) 3 found.values refl;
}

opens : Ends unnamed_file found opening_piece open_to_write
unfolding headers.first_of numbers_in mix_line mixed finish_line finished added rounds sum_of prefix_at msgs_in header_at messages_at prefix_bytes data_in_header rows_in_header index_in_header rows_changed header_view apply first_pieces pieces value_at links_at find_link shape_tests shape_fields shape_at int_type_tests int_type_fields int_type_at fill_tests fill_fields fill_at fill_value_bytes layout_fields layout_at num le halvings width_of
opens = record { is = refl; place = refl; len = refl; reads = refl; root = refl; swmr = refl; rises = lit≤ tt; there = lit≤ tt }

-- the layout stands in chunk 0
layout_there : Result HeaderFields ReadError → Option Bool
layout_there (Ok h) = option_map (λ (y : FoundMessage). y.in_chunk_0) (first_of layout_kind h.messages)
layout_there (Err e) = None

layout_first : layout_there (eval unnamed_file (dataset_messages 106 (chunk_0 unnamed_file 106))) ≡ Some true
unfolding headers.first_of numbers_in mix_line mixed finish_line finished added rounds sum_of prefix_at msgs_in header_at messages_at prefix_bytes data_in_header rows_in_header index_in_header rows_changed header_view apply first_pieces pieces value_at links_at find_link shape_tests shape_fields shape_at int_type_tests int_type_fields int_type_at fill_tests fill_fields fill_at fill_value_bytes layout_fields layout_at num le halvings width_of layout_there
layout_first = refl

layout_in : LayoutInChunk0 unnamed_file 106
unfolding layout_there
layout_in h y read first = it y.in_chunk_0 (sym (ap (option_map (λ (z : FoundMessage). z.in_chunk_0)) first) ∙ sym (ap layout_there read) ∙ layout_first)
  where
    it : (b : Bool) → ◌≡◌ {A = Option Bool} (Some b) (Some true) → b ≡ true
    it b e = cc

pub known : KnownHeld opened_file data_name open_to_write no_chunk (places_to 240) open_to_write.behind
known =
    let begun =
    begin_knows unnamed_file data_name found no_chunk (places_to 240) is_file (unnamed_nowhere unnamed_file data_name found is_file refl).map (record { end = refl; none_free = refl; none_retired = refl }) (λ e. layout_in) in
    let ended = end_known unnamed_file data_name found open_to_write no_chunk (places_to 240) opening_piece begun.knows opens (lit≤ tt) in
    record { knows = ended.knows; is = ended.is ∙ begun.is }

-- ---- The fourth row

cut : IsCut (described_by 2 3 undefined)
cut = record { rows = lit≤ tt; cols = lit≤ tt; some = lit≤ tt; few = lit≤ tt; small = lit≤ tt; fill = refl }

-- its chunk has the fill where the third row is
are_writes : new_writes (described_by 2 3 undefined) (cells_of (described_by 2 3 undefined) fourth_row.more) 3 4 new_place ≡ fourth_row.writes
unfolding writes_from writes_of pieces first_pieces padded_rows row_blocks copies run_bytes cell_bytes_of le num
are_writes = refl

cells_length : length (cells_of (described_by 2 3 undefined) fourth_row.more) ≡ 4
unfolding run_bytes cell_bytes_of le
cells_length = refl

-- one chunk alone meets none
pub one_apart : (d : Described) (p : ChunkPlace) → ChunksApart d (p ∷ [])
one_apart d p zero zero x y other first second = absurd (other refl)
one_apart d p zero (suc k) x y other first second = absurd cc
one_apart d p (suc j) k x y other first second = absurd cc

written : RowsWritten (described_by 2 3 undefined) (cells_of (described_by 2 3 undefined) fourth_row.more) 3 4 new_place fourth_row.writes
written =
    subst (λ (ws : List Write). RowsWritten (described_by 2 3 undefined) (cells_of (described_by 2 3 undefined) fourth_row.more) 3 4 new_place ws) are_writes
    (rows_written (described_by 2 3 undefined) (cells_of (described_by 2 3 undefined) fourth_row.more) 3 4 new_place cut (lit≤ tt) cells_length refl)

pub row_stands : RowsStand opened_file (described_by 2 3 undefined) (cells_of (described_by 2 3 undefined) fourth_row.more) 3 4 new_place fourth_row.writes
row_stands =
    rows_stand opened_file (described_by 2 3 undefined) (cells_of (described_by 2 3 undefined) fourth_row.more) 3 4 new_place fourth_row.writes written (one_apart (described_by 2 3 undefined) (record { address = 240; stored = false }))

each_placed : (k : ℕ) (p : ChunkPlace) → slice_get new_place k ≡ Some p → IsPlaced (described_by 2 3 undefined) no_chunk second_chunk 3 k p
each_placed zero p found = subst (λ (q : ChunkPlace). IsPlaced (described_by 2 3 undefined) no_chunk second_chunk 3 zero q) (some_place (record { address = 240; stored = false }) p found) (record {
  named = refl;
  defined = λ e. absurd (omega (arith, e));
  kept = λ d. absurd (d refl);
  stored = λ e. absurd cc;
  whole = λ e d. absurd (d refl);
})
  where
    some_place : (p q : ChunkPlace) → ◌≡◌ {A = Option ChunkPlace} (Some p) (Some q) → p ≡ q
    some_place p q e = cc
each_placed (suc k) p found = absurd cc

pub each_fits : (k : ℕ) (v : ℤ) → slice_get fourth_row.more k ≡ Some v → FitsType (described_by 2 3 undefined) v
unfolding cell_bytes_of le
each_fits zero v found = subst (λ (x : ℤ). FitsType (described_by 2 3 undefined) x) (some_value _ v found) (7 ∷ 0 ∷ 0 ∷ 0 ∷ [], refl)
  where
    some_value : (v w : ℤ) → ◌≡◌ {A = Option ℤ} (Some v) (Some w) → v ≡ w
    some_value v w e = cc
each_fits (suc k) v found = absurd cc

elsewhere : (i : ℕ) → (i < 1) ⊎ (2 ≤ i) → get_or (undefined ∷ 240 ∷ undefined ∷ undefined ∷ []) i undefined ≡ undefined
elsewhere zero h = refl
elsewhere (suc zero) (inl h) = absurd (omega (arith, h))
elsewhere (suc zero) (inr h) = absurd (omega (arith, h))
elsewhere (suc (suc i)) h = later i
  where
    later : (i : ℕ) → get_or (undefined ∷ undefined ∷ []) i undefined ≡ undefined
    later zero = refl
    later (suc zero) = refl
    later (suc (suc i)) = refl

placed : ArePlaced opened_file open_to_write no_chunk fourth_row new_place
placed = record {
  written = row_stands;
  all = refl;
  placed = each_placed;
  others = λ key asked outside. elsewhere key.i (elim outside [ inl low ↦ inl low | inr high ↦ inr high ]);
  chunks = refl;
  typed = refl;
  filled = refl;
  fit = each_fits;
}

-- places one behind another at the end
pub taken_from : (from to : ℕ) (us : List Used) → Disjoint us → ((u : Used) → Among u us → (from ≤ u.place) × (u.place + u.len ≤ to)) → from ≤ to → (u : Used) → Among u us → u.place + u.len ≡ to → Taken (places_to from) us (places_to to)
taken_from from to us apart inside rises last among is = record {
  apart = apart;
  off_live = λ u x a l. let within = l.within in let i = inside u a in omega (arith, within, i.0);
  live = λ u a. record { within = (inside u a).1; off_free = All-nil (Apart (extent_of u)); off_retired = All-nil (Apart (extent_of u)) };
  stays_live = λ x live. let within = live.within in record { within = omega (arith, within, rises); off_free = live.off_free; off_retired = live.off_retired };
  rises = rises;
  end = inr (last, among, is);
}

chunk_taken : Taken (places_to 240) fourth_row.chunks (places_to 248)
chunk_taken = taken_from 240 248 fourth_row.chunks (disjoint_by fourth_row.chunks refl refl) inside (lit≤ tt) (chunk_at 240 8) (inl refl) refl
  where
    inside : (u : Used) → Among u fourth_row.chunks → (240 ≤ u.place) × (u.place + u.len ≤ 248)
    inside u (inl e) = subst (λ (y : Used). (240 ≤ y.place) × (y.place + y.len ≤ 248)) e (lit≤ tt, lit≤ tt)
    inside u (inr a) = absurd a

abbrev all_new : List Used
all_new = chunk_at 240 8 ∷ block_at 248 298 ∷ block_at 546 72 ∷ []

all_taken : Taken (places_to 240) all_new (places_to 618)
all_taken = taken_from 240 618 all_new (disjoint_by all_new refl refl) inside (lit≤ tt) (block_at 546 72) (inr (inr (inl refl))) refl
  where
    inside : (u : Used) → Among u all_new → (240 ≤ u.place) × (u.place + u.len ≤ 618)
    inside u (inl e) = subst (λ (y : Used). (240 ≤ y.place) × (y.place + y.len ≤ 618)) e (lit≤ tt, lit≤ tt)
    inside u (inr (inl e)) = subst (λ (y : Used). (240 ≤ y.place) × (y.place + y.len ≤ 618)) e (lit≤ tt, lit≤ tt)
    inside u (inr (inr (inl e))) = subst (λ (y : Used). (240 ≤ y.place) × (y.place + y.len ≤ 618)) e (lit≤ tt, lit≤ tt)
    inside u (inr (inr (inr a))) = absurd a

rows_part : RowsPart opened_file open_to_write known.knows.held no_chunk fourth_row
rows_part = rows_flush opened_file data_name open_to_write no_chunk (places_to 240) (places_to 248) fourth_row new_place known.knows chunk_taken (lit≤ tt) refl refl placed

-- ---- The array

new_slots : (eaib_fields (range named_file 248 298)).slots ≡ undefined ∷ 240 ∷ undefined ∷ undefined ∷ []
unfolding headers.first_of numbers_in mix_line mixed finish_line finished added rounds sum_of prefix_at msgs_in header_at messages_at prefix_bytes data_in_header rows_in_header index_in_header rows_changed header_view apply first_pieces pieces value_at links_at find_link shape_tests shape_fields shape_at int_type_tests int_type_fields int_type_at fill_tests fill_fields fill_at fill_value_bytes layout_fields layout_at num le halvings width_of
new_slots = refl

no_first : (eaib_fields (range named_file 248 298)).first ≡ replicate 6 undefined
unfolding headers.first_of numbers_in mix_line mixed finish_line finished added rounds sum_of prefix_at msgs_in header_at messages_at prefix_bytes data_in_header rows_in_header index_in_header rows_changed header_view apply first_pieces pieces value_at links_at find_link shape_tests shape_fields shape_at int_type_tests int_type_fields int_type_at fill_tests fill_fields fill_at fill_value_bytes layout_fields layout_at num le halvings width_of
no_first = refl

no_second : (eaib_fields (range named_file 248 298)).second ≡ replicate 25 undefined
unfolding headers.first_of numbers_in mix_line mixed finish_line finished added rounds sum_of prefix_at msgs_in header_at messages_at prefix_bytes data_in_header rows_in_header index_in_header rows_changed header_view apply first_pieces pieces value_at links_at find_link shape_tests shape_fields shape_at int_type_tests int_type_fields int_type_at fill_tests fill_fields fill_at fill_value_bytes layout_fields layout_at num le halvings width_of
no_second = refl

named_chunk : eval (copied opened_file fourth_row) (behind_visit 618 8 (in_array (eaib_fields (range named_file 248 298)))) ≡ Ok (chunk_at 240 8 ∷ [])
unfolding headers.first_of numbers_in mix_line mixed finish_line finished added rounds sum_of prefix_at msgs_in header_at messages_at prefix_bytes data_in_header rows_in_header index_in_header rows_changed header_view apply first_pieces pieces value_at links_at find_link shape_tests shape_fields shape_at int_type_tests int_type_fields int_type_at fill_tests fill_fields fill_at fill_value_bytes layout_fields layout_at num le halvings width_of
named_chunk = refl

says : SaysInPlace (copied opened_file fourth_row) (committed open_to_write.dataset 4 (Some 546)) (in_array (eaib_fields (range named_file 248 298))) fourth_row.fixed
unfolding headers.first_of numbers_in mix_line mixed finish_line finished added rounds sum_of prefix_at msgs_in header_at messages_at prefix_bytes data_in_header rows_in_header index_in_header rows_changed header_view apply first_pieces pieces value_at links_at find_link shape_tests shape_fields shape_at int_type_tests int_type_fields int_type_at fill_tests fill_fields fill_at fill_value_bytes layout_fields layout_at num le halvings width_of
says = record { says = refl; looks = refl }

new_array : IndexFlushed opened_file open_to_write no_chunk fourth_row
new_array = record {
  blocks = in_array (eaib_fields (range named_file 248 298));
  behind = named_chunk;
  answers = λ key n.
      slot_here (copied opened_file fourth_row) (eaib_fields (range named_file 248 298)) key.i no_first no_second (ap length new_slots)
      ∙ ap Ok (ap (λ (xs : List ℕ). get_or xs key.i undefined) new_slots);
  each_says = tt;
  said = λ e. says;
  added = fourth_row.fixed;
  begins = refl;
  added_fresh = all_among_by fourth_row.fixed (fresh_of fourth_row) refl;
  known = all_among_by (fourth_row.fixed ++ fourth_row.behind) (fresh_of fourth_row ++ []) refl;
  counts = λ p. omega arith;
  kept = λ key asked d. absurd (d refl);
}

-- ---- The flush

new_end : AreEnded open_to_write.super 618 fourth_row.supers
unfolding headers.first_of numbers_in mix_line mixed finish_line finished added rounds sum_of prefix_at msgs_in header_at messages_at prefix_bytes data_in_header rows_in_header index_in_header rows_changed header_view apply first_pieces pieces value_at links_at find_link shape_tests shape_fields shape_at int_type_tests int_type_fields int_type_at fill_tests fill_fields fill_at fill_value_bytes layout_fields layout_at num le halvings width_of
new_end = (record { place = refl; len = refl; reads = refl }, refl)

is_flush : IsFlush opened_file open_to_write no_chunk (places_to 240) fourth_row (places_to 618)
is_flush = record {
  rises = lit≤ tt;
  small = lit≤ tt;
  few = refl;
  count = refl;
  named = (refl, lit≤ tt);
  written = rows_part.flushed;
  index = new_array;
  between = places_to 618;
  taken = all_taken;
  end = refl;
  super = new_end;
  left = [];
  let_go = record { stays_live = λ x l off. l; end = refl };
  left_before = λ u a. absurd a;
  left_after = λ u a. absurd a;
}

are_pieces : pieces_of opened_file open_to_write fourth_row
    ≡ piece_of named_file 240 8 ∷ piece_of named_file 248 298 ∷ piece_of named_file 546 72 ∷ piece_of named_file 0 48 ∷ piece_of named_file 106 134 ∷ []
unfolding headers.with_rows_bytes headers.first_of numbers_in mix_line mixed finish_line finished added rounds sum_of prefix_at msgs_in header_at messages_at prefix_bytes data_in_header rows_in_header index_in_header rows_changed header_view apply first_pieces pieces value_at links_at find_link shape_tests shape_fields shape_at int_type_tests int_type_fields int_type_at fill_tests fill_fields fill_at fill_value_bytes layout_fields layout_at num le halvings width_of
are_pieces = refl

are_bytes : image opened_file (pieces_of opened_file open_to_write fourth_row) ≡ named_file
unfolding headers.with_rows_bytes headers.first_of numbers_in mix_line mixed finish_line finished added rounds sum_of prefix_at msgs_in header_at messages_at prefix_bytes data_in_header rows_in_header index_in_header rows_changed header_view apply first_pieces pieces value_at links_at find_link shape_tests shape_fields shape_at int_type_tests int_type_fields int_type_at fill_tests fill_fields fill_at fill_value_bytes layout_fields layout_at num le halvings width_of
are_bytes = refl

is_valid : Valid unnamed_file data_name (summary_as 3 0 3 240)
unfolding headers.first_of numbers_in mix_line mixed finish_line finished added rounds sum_of prefix_at msgs_in header_at messages_at prefix_bytes data_in_header rows_in_header index_in_header rows_changed header_view apply first_pieces pieces value_at links_at find_link shape_tests shape_fields shape_at int_type_tests int_type_fields int_type_at fill_tests fill_fields fill_at fill_value_bytes layout_fields layout_at num le halvings width_of
is_valid = refl

is_valid_then : Valid named_file data_name (summary_as 4 1 5 618)
unfolding headers.first_of numbers_in mix_line mixed finish_line finished added rounds sum_of prefix_at msgs_in header_at messages_at prefix_bytes data_in_header rows_in_header index_in_header rows_changed header_view apply first_pieces pieces value_at links_at find_link shape_tests shape_fields shape_at int_type_tests int_type_fields int_type_at fill_tests fill_fields fill_at fill_value_bytes layout_fields layout_at num le halvings width_of
is_valid_then = refl

pub unnamed_flush : IsUnnamedFlush
unnamed_flush = record {
  valid = is_valid;
  file = is_file;
  opens = opens;
  known = known.knows;
  flush = is_flush;
  leads = refl;
  pieces = are_pieces;
  bytes = are_bytes;
  valid_then = is_valid_then;
}
