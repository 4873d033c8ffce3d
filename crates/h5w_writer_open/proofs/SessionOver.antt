-- What holds of every session holds of one over a file that is there, whatever its image is.
use Rattle.std.proofs.Common.{◌≡◌, ◌≢◌, ℕ, ◌+◌, ◌-◌, ◌*◌, ◌/◌, ◌^◌, ◌<◌, ◌≤◌, Bool, cond, List, ◌∷◌, ◌++◌, take, Option, Some, None, Result, Ok, Err, refl, sym, ap, ◌∙◌, ◌⊎◌, subst, inl, inr, arith, true, false, not, ◌&&◌, []}
use Rattle.std.specs.Prelude.{nat_lt, option_map, ◌==◌, MatchOption}
use Rattle.std.specs.Option.{option_or}
use Rattle.std.proofs.lemmas.List.Elements.{All-nil}
use Rattle.std.proofs.lemmas.Bool.{both_ways, cases_lt, ne_eqb, ltb-false, le-ltb, eqb-true, eqb-false, eq-eqb}
use Rattle.h5w_model.specs.Arrays.{eahd_len}
use Rattle.h5w_model.specs.Logs.{div_up}
use Rattle.h5w_model.specs.Numbers.{undefined}
use Rattle.h5w_model.specs.Datasets.{Described, FoundMessage, described, refused_as}
use Rattle.h5w_model.specs.Tables.{chunks_across, format_limits, limit_of, needed}
use Rattle.h5w_model.specs.Findings.{chunk_bytes, the_superblock}
use Rattle.h5w_model.specs.declared.cell.IndexKind.TheVariants.{Array, Tree}
use Rattle.h5w_model.specs.declared.cell.Key.{Key}
use Rattle.h5w_laws.proofs.ResultLemmas.{fails, refused_ok, then_ok}
use Rattle.h5w_cache.specs.Stores.{Store}
use Rattle.h5w_array_laws.specs.Parts.{header, holder, index_block, slot_offset}
use Rattle.h5w_array_laws.specs.ArrayStores.{IsCreated, address_in, block_at_part, map_of, place_at_part}
use Rattle.h5w_bt_index.specs.Index.{Index, address_of, records}
use Rattle.h5w_tree_index_laws.specs.TreeFlushes.{header_range}
use Rattle.h5w_index.specs.Views.{IndexView, IsSound, address_in as index_address, an_array, a_tree, fixed_of, kind_of}
use Rattle.h5w_index.specs.Blocks.{has_no_block}
use Rattle.h5w_index.specs.Placing.{AreInside, Fits}
use Rattle.h5w_step_laws.specs.Ranges.{AllEndBy, block_at}
use Rattle.h5w_step_laws.proofs.RangeLemmas.{ends_cons, ends_nil}
use Rattle.h5w_chunks.specs.Grids.{chunk_len}
use Rattle.h5w_chunks.specs.Shares.{first_line, touched}
use Rattle.h5w_ea_index.specs.Ranges.{block_ranges, each_below, range_of_part, ranges_of_super_block}
use Rattle.h5w_opening.specs.Openings.{DatasetHeaderFields, IsSaid, Opened, in_chunk_0}
use Rattle.h5w_opening.specs.declared.error.OpenError.{OpenError}
use Rattle.h5w_opening.specs.declared.error.OpenError.TheVariants.{Read, Layout, ChunkBytes, NoColumns}
use Rattle.h5w_model.specs.declared.refusal.ReadError.TheVariants as read_errors
use Rattle.h5w_writer_open.specs.declared.index.NoIndex.{NoIndex}
use Rattle.h5w_writer_open.specs.declared.index.NoIndex.TheVariants.{Unnamed, Empty, WrongTotals, Unordered}
use Rattle.h5w_writer_open.specs.OpenAnswers.{IsBare, IsBlankOf, IsKeptIndexOf, IsStartOf, opened_session}
use Rattle.h5w_writer_open.specs.OpenRanges.{IsNear, blocks_in, chunk_0_range, chunks_in, cut_at, first_open_line, first_past, header_alone, header_len, open_blocks, open_chunks, ranges_refused, refused_index, refused_open, is_starting}
use Rattle.h5w_opening.specs.Openings.{most_chunk_bytes, refused_dataset}
use Rattle.h5w_writer_open.specs.OpenSteps.{HasItsBlock, IfNamedIndex, IsCut, IsNamedArray, IsNamedIndex, IsNamedTree, IsReady, IsReadyIndex, IsReadyStart, NamesArray, versioned}
use Rattle.h5w_writer.specs.Sessions.{IsNamed, IsSession, with_rows}
use Rattle.h5w_writer.proofs.HeaderAlone.{never}
use Rattle.h5w_writer_open.proofs.OpenRangeLemmas.{AllBy, behind_ends, by_left, by_range, by_right, chunk_by, map_none, none_past, or_none}
use Rattle.h5w_writer_open.proofs.OpenLineLemmas.{open_few, open_line_first}
use Rattle.h5w_writer_open.proofs.SaidLemmas.{said}
use Rattle.h5w_writer.proofs.StateLemmas.{up_some}
use Rattle.h5w_array_laws.proofs.CreatedLemmas.{created_starts}
use Rattle.h5w_model.specs.declared.cell.IndexKind.{IndexKind}
use Rattle.h5w_flush_laws.specs.Spaces.{extent_of}
use Rattle.h5w_space.specs.Space.{Apart, extent}

-- ---- What was said

pub record IsKnown (h : DatasetHeaderFields) : Type 0 where
  pub messages : List FoundMessage
  pub says : described messages ≡ Ok h.dataset
  pub few : needed h.dataset ≤ limit_of format_limits h.dataset.layout.index

same_dataset : (len : ℕ) (d : Described) (own : Bool) (h : DatasetHeaderFields) → ◌≡◌ {A = Result DatasetHeaderFields OpenError} (Ok (record { len = len; dataset = d; in_chunk_0 = own })) (Ok h) → d ≡ h.dataset
same_dataset len d own h e = let g : record { len = len; dataset = d; in_chunk_0 = own } ≡ h = cc in ap (λ (x : DatasetHeaderFields). x.dataset) g

pub known_says : (h : DatasetHeaderFields) → IsSaid h → IsKnown h
known_says h (ms, e) =
    let asked : Described → Result DatasetHeaderFields OpenError = λ d. cond (nat_lt (limit_of format_limits d.layout.index) (needed d)) (Err (Read (read_errors.TooManyChunks (needed d) (limit_of format_limits d.layout.index))))
    (Ok (record { len = h.len; dataset = d; in_chunk_0 = in_chunk_0 ms })) in
    let t = then_ok (refused_as (λ u. Read (read_errors.Unsupported u)) (described ms)) asked h e in
    let d : Described = t.0 in
    let u = fails (nat_lt (limit_of format_limits d.layout.index) (needed d)) (Ok (record { len = h.len; dataset = d; in_chunk_0 = in_chunk_0 ms })) (Read (read_errors.TooManyChunks (needed d) (limit_of format_limits d.layout.index))) h t.2 in
    let same : d ≡ h.dataset = same_dataset h.len d (in_chunk_0 ms) h u.1 in
    record {
      messages = ms;
      says = refused_ok (λ u. Read (read_errors.Unsupported u)) (described ms) d t.1 ∙ ap (λ x. Ok x) same;
      few = subst (λ (x : Described). needed x ≤ limit_of format_limits x.layout.index) same (ltb-false (limit_of format_limits d.layout.index) (needed d) u.0);
    }

pub cut : (h : DatasetHeaderFields) → IsSaid h → IsCut h.dataset
cut h is = let k = known_says h is in said k.messages h.dataset k.says

-- ---- Numbers

-- the line of the last committed row's band is one of an array
pub open_below : (h : DatasetHeaderFields) → IsSaid h → h.dataset.layout.index ≡ Array → first_open_line h.dataset < 131060
open_below h is kind = open_few h.dataset (cut h is).chunked.rows (known_says h is).few kind

no_earlier : (first next line : ℕ) → first ≤ next → next ≤ line → first ≤ line
no_earlier first next line low from = omega (arith, low, from)

-- a chunk has the bytes of its rows
chunk_len_is : (d : Described) → chunk_len d ≡ chunk_bytes d
chunk_len_is d = grind arith

-- ---- What is not refused

pub record IsUnrefused (o : Opened) (a : Result IndexView NoIndex) : Type 0 where
  pub ranges : AllBy o.root.end (chunk_0_range o ∷ open_blocks o.header.dataset a)
  pub chunks : AllBy o.root.end (open_chunks o.header.dataset a)
  pub dataset : refused_dataset o ≡ None
  pub index : refused_index o.header.dataset a ≡ None

pub unrefused_parts : (o : Opened) (a : Result IndexView NoIndex) → refused_open o a ≡ None → IsUnrefused o a
unrefused_parts o a h =
    let blocks = chunk_0_range o ∷ open_blocks o.header.dataset a in
    let chunks = open_chunks o.header.dataset a in
    let one = or_none (ranges_refused o a) (option_or (refused_dataset o) (refused_index o.header.dataset a)) h in
    let two = or_none (refused_dataset o) (refused_index o.header.dataset a) one.1 in
    let far = or_none (option_map (cut_at 0) (first_past (2 ^ 64 - 1) (take 3 blocks ++ chunks))) (option_map (cut_at o.root.end) (first_past o.root.end (blocks ++ chunks))) one.0 in
    let all = none_past o.root.end (blocks ++ chunks) (map_none (cut_at o.root.end) (first_past o.root.end (blocks ++ chunks)) far.1) in
    record { ranges = by_left o.root.end blocks chunks all; chunks = by_right o.root.end blocks chunks all; dataset = two.0; index = two.1 }

pub next_told : (told after : Option OpenError) (r : Result (Unit {0}) OpenError) (e : OpenError) → MatchOption told (r ≡ Ok tt) (λ f. r ≡ Err f) → r ≡ Err e → option_or told after ≡ Some e
next_told None after r e said is = absurd (let clash : Ok tt ≡ Err e = sym said ∙ is in cc)
next_told (Some f) after r e said is = let same : ◌≡◌ {A = Result (Unit {0}) OpenError} (Err f) (Err e) = sym said ∙ is in cc

-- nothing was told, and what is told after it is all
pub none_told : (told after : Option OpenError) (r : Result (Unit {0}) OpenError) → MatchOption told (r ≡ Ok tt) (λ f. r ≡ Err f) → r ≡ Ok tt → option_or told after ≡ after
none_told None after r said is = refl
none_told (Some f) after r said is = absurd (let clash : Ok tt ≡ Err f = sym is ∙ said in cc)

-- what refuses the dataset, behind ranges that nothing refuses, comes first
pub refused_next : (o : Opened) (a : Result IndexView NoIndex) (r : Result (Unit {0}) OpenError) (e : OpenError) → ranges_refused o a ≡ None
    → MatchOption (refused_dataset o) (r ≡ Ok tt) (λ f. r ≡ Err f) → r ≡ Err e → refused_open o a ≡ Some e
refused_next o a r e ranges said is =
    ap (λ (x : Option OpenError). option_or x (option_or (refused_dataset o) (refused_index o.header.dataset a))) ranges ∙ next_told (refused_dataset o) (refused_index o.header.dataset a) r e said is

-- where nothing was read of an index that is not refused, or no more than an array's header, a blank one is kept
ready_start : (d : Described) (why : NoIndex) (v : IndexView) → IfNamedIndex d (Err why) → IsStartOf d why v → refused_index d (Err why) ≡ None → IsReadyStart d why v
ready_start d Unnamed v named kept h = (named, kept)
ready_start d Empty v named kept h = (named, kept)
ready_start d WrongTotals v named kept h = absurd cc
ready_start d Unordered v named kept h = absurd cc

-- the header of an array is among the ranges then
header_by : (d : Described) (end : ℕ) → NamesArray d → AllBy end (header_alone d.layout.index d.layout.address) → d.layout.address + 72 ≤ end
header_by d end n all = go (d.layout.address == undefined) (ne_eqb d.layout.address undefined n.named) (subst (λ (k : IndexKind). AllBy end (header_alone k d.layout.address)) n.kind all)
  where
    go : (b : Bool) → b ≡ false → AllBy end (cond b (extent 0 48 ∷ []) (extent d.layout.address 72 ∷ [])) → d.layout.address + 72 ≤ end
    go true e h = cc
    go false e h = h.0

pub near_of : (o : Opened) (a : Result IndexView NoIndex) → IfNamedIndex o.header.dataset a → ranges_refused o a ≡ None → IsNear o.header.dataset a
near_of o (Ok v) named h = tt
near_of o (Err Unnamed) named h = tt
near_of o (Err WrongTotals) named h = tt
near_of o (Err Unordered) named h = tt
near_of o (Err Empty) named h =
    let rest = header_alone o.header.dataset.layout.index o.header.dataset.layout.address in
    let front = take 3 (chunk_0_range o ∷ rest) in
    let far = or_none (option_map (cut_at 0) (first_past (2 ^ 64 - 1) (front ++ []))) (option_map (cut_at o.root.end) (first_past o.root.end ((chunk_0_range o ∷ rest) ++ []))) h in
    let all = none_past (2 ^ 64 - 1) (front ++ []) (map_none (cut_at 0) (first_past (2 ^ 64 - 1) (front ++ [])) far.0) in
    let own : AllBy (2 ^ 64 - 1) rest = rest_by o.header.dataset.layout.index o.header.dataset.layout.address (by_left (2 ^ 64 - 1) front [] all) in
    omega (arith, header_by o.header.dataset (2 ^ 64 - 1) named own)
  where
    rest_by : (k : IndexKind) (at : ℕ) → AllBy (2 ^ 64 - 1) (take 3 (chunk_0_range o ∷ header_alone k at)) → AllBy (2 ^ 64 - 1) (header_alone k at)
    rest_by k at all = by (at == undefined) all
      where
        by : (b : Bool) → AllBy (2 ^ 64 - 1) (take 3 (chunk_0_range o ∷ cond b (extent 0 48 ∷ []) (extent at (header_len k) ∷ []))) → AllBy (2 ^ 64 - 1) (cond b (extent 0 48 ∷ []) (extent at (header_len k) ∷ []))
        by true h = h.1
        by false h = h.1

pub starts_so : (d : Described) → is_starting d ≡ true → d.layout.address ≡ undefined
starts_so d h = eqb-true d.layout.address undefined h

-- the layout of a dataset that is not refused stands in chunk 0 where it names no index, and there are columns
record IsTaken (o : Opened) : Type 0 where
  in_front : o.header.dataset.layout.address ≡ undefined → o.header.in_chunk_0 ≡ true
  columns : 0 < o.header.dataset.shape.cols

taken : (o : Opened) → refused_dataset o ≡ None → IsTaken o
taken o = by (at == undefined) o.header.in_chunk_0 (nat_lt most_chunk_bytes bytes) (o.header.dataset.shape.cols == 0) refl refl refl
  where
    at : ℕ
    at = o.header.dataset.layout.address

    bytes : ℕ
    bytes = chunk_bytes o.header.dataset

    some : (o.header.dataset.shape.cols == 0) ≡ false → 0 < o.header.dataset.shape.cols
    some e = let ne = eqb-false o.header.dataset.shape.cols 0 e in omega arith

    by : (unnamed front large none : Bool) → (at == undefined) ≡ unnamed → o.header.in_chunk_0 ≡ front → (o.header.dataset.shape.cols == 0) ≡ none
        → cond (unnamed && not front) (Some Layout) (cond large (Some (ChunkBytes bytes most_chunk_bytes)) (cond none (Some NoColumns) None)) ≡ None → IsTaken o
    by true false large none u f n e = cc
    by true true true none u f n e = cc
    by true true false true u f n e = cc
    by true true false false u f n e = record { in_front = λ unnamed. f; columns = some n }
    by false front true none u f n e = cc
    by false front false true u f n e = cc
    by false front false false u f n e = record { in_front = λ unnamed. absurd (both_ways (at == undefined) u (eq-eqb at undefined unnamed)); columns = some n }

pub in_chunk : (o : Opened) → o.header.dataset.layout.address ≡ undefined → refused_dataset o ≡ None → o.header.in_chunk_0 ≡ true
in_chunk o none h = (taken o h).in_front none

pub some_columns : (o : Opened) → refused_dataset o ≡ None → 0 < o.header.dataset.shape.cols
some_columns o h = (taken o h).columns

-- ---- What is kept of the index

pub ready_index : (o : Opened) (a : Result IndexView NoIndex) (v : IndexView) → IfNamedIndex o.header.dataset a → IsKeptIndexOf o.header.dataset a v → refused_open o a ≡ None → IsReadyIndex o.header.dataset a v
ready_index o (Ok u) v named kept none = (named, kept)
ready_index o (Err why) v named kept none = ready_start o.header.dataset why v named kept (unrefused_parts o (Err why) none).index

-- what is true of the index of a session over a file that ends there
record IsFit (d : Described) (end : ℕ) (v : IndexView) : Type 0 where
  is_kind : d.layout.index ≡ kind_of v
  sound : IsSound v
  fits : Fits d v
  long : 48 ≤ end
  inside : AreInside d end v
  tops : IsNamed d → has_no_block v ≡ false → AllEndBy end (fixed_of v)
  head : IsNamed d → has_no_block v ≡ true → d.layout.address + eahd_len ≤ end
  blank : (d.layout.address ≡ undefined) ⊎ (has_no_block v ≡ true) → (key : Key) → index_address v key ≡ undefined

module _ (d : Described) (c : IsCut d) (few : needed d ≤ limit_of format_limits d.layout.index) (columns : 0 < d.shape.cols) (end : ℕ) where
  across : 0 < chunks_across d
  across = up_some d.shape.cols d.layout.chunk_cols c.chunked.cols (omega arith)

  low : first_open_line d ≤ first_line d (d.shape.rows / d.layout.chunk_rows)
  low = open_line_first d c.chunked.rows

  -- an array's blocks in place are among the ranges
  array_fits : (v : Store) → IsNamedArray d v → has_no_block (an_array v) ≡ false → AllBy end (block_ranges (first_open_line d) v) → AllBy end (chunks_in d (an_array v)) → IsFit d end (an_array v)
  array_fits v n made blocks chunks =
      let front = by_left end (range_of_part v header ++ range_of_part v index_block) (each_below (ranges_of_super_block (first_open_line d) v) 13) blocks in
      let head = by_range end (place_at_part v header) 72 (by_left end (range_of_part v header) (range_of_part v index_block) front) (n.array.in_place header tt refl).1 in
      let block = by_range end (place_at_part v index_block) 298 (by_right end (range_of_part v header) (range_of_part v index_block) front) (n.array.in_place index_block tt refl).1 in
      record {
        is_kind = n.kind;
        sound = n.array;
        fits = record { kind = n.kind; some = across };
        long = omega (arith, block);
        inside = λ key from named.
            let i = key.i in
            let below = open_few d c.chunked.rows few n.kind in
            let near : i < 131060 = named_below v i named in
            let h = chunk_by end (chunk_bytes d) v (first_open_line d) (131060 - first_open_line d) chunks i (no_earlier (first_open_line d) (first_line d (d.shape.rows / d.layout.chunk_rows)) i low from) (omega (arith, below, near)) named in
            subst (λ n. map_of v i + n ≤ end) (sym (chunk_len_is d)) h;
        tops = λ named made. ends_cons end (block_at (place_at_part v header) 72) (block_at (place_at_part v index_block) 298 ∷ []) head (ends_cons end (block_at (place_at_part v index_block) 298) [] block (ends_nil end));
        head = λ named lacking. subst (λ n. n + eahd_len ≤ end) n.at head;
        blank = λ u key. elim u [
          | inl none ↦ absurd (n.named none)
          | inr lacks ↦ absurd (both_ways (has_no_block (an_array v)) made lacks)
        ];
      }
    where
      named_below : (v : Store) (k : ℕ) → map_of v k ≢ undefined → k < 131060
      named_below v k ne = elim (cases_lt k 131060) [
        | inl lt ↦ lt
        | inr le ↦ absurd (ne (ap (λ c. cond c (address_in (block_at_part v (holder k)) (slot_offset k)) undefined) (le-ltb k 131060 le)))
      ]

  -- a tree's header is
  tree_fits : (place : ℕ) (v : Index) → IsNamedTree d place v → AllBy end (blocks_in d (a_tree place v)) → AllBy end (chunks_in d (a_tree place v)) → IsFit d end (a_tree place v)
  tree_fits place v n blocks chunks = record {
    is_kind = n.kind;
    sound = record { index = n.kept; defined = λ none. n.named (sym n.at ∙ none) };
    fits = record { kind = n.kind; some = across };
    long = blocks.0;
    inside = λ key from named.
        let h = behind_ends end (chunk_bytes d) (first_open_line d) (records v) key chunks (no_earlier (first_open_line d) (first_line d (d.shape.rows / d.layout.chunk_rows)) key.i low from) named in
        subst (λ n. address_of v key + n ≤ end) (sym (chunk_len_is d)) h;
    tops = λ named made. ends_cons end (header_range place) [] blocks.1.0 (ends_nil end);
    head = λ named lacking. absurd cc;
    blank = λ u key. elim u [
      | inl none ↦ absurd (n.named none)
      | inr lacks ↦ absurd (cc)
    ];
  }

  -- a blank one has no chunks, and stands nowhere yet
  blank_fits : (k : IndexKind) (v : IndexView) → d.layout.index ≡ k → d.layout.address ≡ undefined → 48 ≤ end → IsBlankOf k v → IsFit d end v
  blank_fits Array (an_array v) kind none long blank =
      let starts = created_starts 0 0 v blank (omega arith) (omega arith) in
      record {
        is_kind = kind;
        sound = starts.array;
        fits = record { kind = kind; some = across };
        long = long;
        inside = λ key from named. absurd (named (starts.map key.i));
        tops = λ named made. absurd (named none);
        head = λ named lacking. absurd (named none);
        blank = λ u key. starts.map key.i;
      }
  blank_fits Tree (a_tree place v) kind none long blank =
      let no_records = subst (λ (w : Index). IsFit d end (a_tree 0 w)) (sym blank.1) (record {
        is_kind = kind;
        sound = record { index = record { shallow = omega arith; sound = omega arith; rises = tt; marked = tt }; defined = λ zero_is. absurd (omega (arith, zero_is)) };
        fits = record { kind = kind; some = across };
        long = long;
        inside = λ key from named. absurd (named refl);
        tops = λ named made. absurd (named none);
        head = λ named lacking. absurd (named none);
        blank = λ u key. refl;
      }) in
      subst (λ (p : ℕ). IsFit d end (a_tree p v)) (sym blank.0) no_records
  blank_fits Array (a_tree place v) kind none long blank = absurd blank
  blank_fits Tree (an_array v) kind none long blank = absurd blank

  -- nor has one of which the header is there
  bare_fits : end < 2 ^ 64 → (v : IndexView) → NamesArray d → IsBare d.layout.address v → AllBy end (header_alone d.layout.index d.layout.address) → IsFit d end v
  bare_fits small (an_array v) n made blocks =
      let created : IsCreated d.layout.address 0 v = made in
      let head = header_by d end n blocks in
      let starts = created_starts d.layout.address 0 v created (omega (arith, head, small)) (omega arith) in
      record {
        is_kind = n.kind;
        sound = starts.array;
        fits = record { kind = n.kind; some = across };
        long = omega (arith, head);
        inside = λ key from named. absurd (named (starts.map key.i));
        tops = λ named made. never (has_no_block (an_array v)) (ap (λ p. p == 0) created.index_at) made;
        head = λ named lacking. head;
        blank = λ u key. starts.map key.i;
      }
  bare_fits small (a_tree place v) n made blocks = absurd made

  named_fits : (v : IndexView) → IsNamedIndex d v → has_no_block v ≡ false → AllBy end (blocks_in d v) → AllBy end (chunks_in d v) → IsFit d end v
  named_fits (an_array v) n made blocks chunks = array_fits v n made blocks chunks
  named_fits (a_tree place v) n made blocks chunks = tree_fits place v n blocks chunks

  start_fits : end < 2 ^ 64 → (why : NoIndex) (v : IndexView) → IsReadyStart d why v → AllBy end (header_alone d.layout.index d.layout.address) → IsFit d end v
  start_fits small why v r blocks = go why r
    where
      -- the superblock is among the ranges then
      long_start : (k : IndexKind) (at : ℕ) → at ≡ undefined → AllBy end (header_alone k at) → 48 ≤ end
      long_start k at none h = go (at == undefined) (eq-eqb at undefined none) h
        where
          go : (b : Bool) → b ≡ true → AllBy end (cond b (extent 0 48 ∷ []) (extent at (header_len k) ∷ [])) → 48 ≤ end
          go true e h = h.0
          go false e h = cc

      none : (d.layout.address ≡ undefined) × IsBlankOf d.layout.index v → IsFit d end v
      none x = blank_fits d.layout.index v refl x.0 (long_start d.layout.index d.layout.address x.0 blocks) x.1

      go : (why : NoIndex) → IsReadyStart d why v → IsFit d end v
      go Empty x = bare_fits small v x.0 x.1 blocks
      go Unnamed x = none x
      go WrongTotals x = none x
      go Unordered x = none x

  ready_fits : end < 2 ^ 64 → (a : Result IndexView NoIndex) (v : IndexView) → IsReadyIndex d a v → HasItsBlock a → AllBy end (open_blocks d a) → AllBy end (open_chunks d a) → IsFit d end v
  ready_fits small (Ok u) v r made blocks chunks = subst (IsFit d end) (sym r.1) (named_fits u r.0 made blocks chunks)
  ready_fits small (Err why) v r made blocks chunks = start_fits small why v r blocks

-- ---- The session

-- no rows go into no chunk
none_touched : (d : Described) (n : ℕ) → touched d n (n + 0) ≡ 0
none_touched d n = ap (λ (t : Bool). cond t ((div_up (n + 0) d.layout.chunk_rows - n / d.layout.chunk_rows) * chunks_across d) 0) (le-ltb n (n + 0) (omega arith))

module _ (o : Opened) (b : List ℕ) (v : IndexView) (name : List ℕ) (limit budget : ℕ) (r : IsReady o b v) (high : limit ≤ 2 ^ 40) (bounds : (1024 ≤ budget) × (budget ≤ 2 ^ 30)) (small : o.root.end < 2 ^ 64) where
  abbrev d : Described
  d = o.header.dataset

  parts : IsUnrefused o r.index
  parts = unrefused_parts o r.index r.unrefused

  few : needed d ≤ limit_of format_limits d.layout.index
  few = (known_says o.header r.found.said).few

  columns : 0 < d.shape.cols
  columns = some_columns o parts.dataset

  fit : IsFit d o.root.end v
  fit = ready_fits d (cut o.header r.found.said) few columns o.root.end small r.index v r.ready r.made parts.ranges.1 parts.chunks

  pub session_is : IsSession (opened_session (versioned o) b v name limit budget)
  session_is =
      let same : with_rows (d.shape.rows + 0) d ≡ d = ap (λ n. with_rows n d) (plus_none d.shape.rows) in
      record {
        some_columns = omega (arith, columns);
        cells = omega arith;
        few = subst (λ (x : Described). needed x ≤ limit_of format_limits d.layout.index) (sym same) few;
        version = refl;
        begun = fit.long;
        kind = fit.is_kind;
        sound = fit.sound;
        fits = fit.fits;
        header = r.header_kept.0;
        addressed = λ none. r.header_kept.1 (eq-eqb d.layout.address undefined none);
        header_ends = let t = parts.ranges.0 in let f = r.few in omega arith;
        small = small;
        limit = high;
        inside = fit.inside;
        tops = λ whole. fit.tops whole.named whole.made;
        head = fit.head;
        early = omega arith;
        chunks = sym (none_touched d d.shape.rows);
        placed = λ k p e. cc;
        ends = λ k p e. cc;
        flushing = λ e. cc;
        busy = λ e. cc;
        blank = λ u. fit.blank u;
        live = λ u. record { within = fit.long; off_free = All-nil (Apart (extent_of the_superblock)); off_retired = All-nil (Apart (extent_of the_superblock)) };
        budget_low = bounds.0;
        budget_high = bounds.1;
      }
    where
      plus_none : (n : ℕ) → n + 0 ≡ n
      plus_none n = omega arith
