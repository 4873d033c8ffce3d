-- Once all pieces of a plan are written, the file is valid and reads as its source.
use Rattle.std.proofs.Common.{◌≡◌, ◌≢◌, ◌⊎◌, ℕ, ◌+◌, ◌-◌, ◌*◌, ◌/◌, ◌%◌, ◌<◌, ◌≤◌, ◌^◌, List, [], ◌∷◌, ◌++◌, get_or, length, length-append, refl, sym, ◌∙◌, ap, subst, inl, inr, arith, append_assoc, suc, sum_by}
use Rattle.std.specs.Prelude.{flat_map, map, slice_get, ℤ}
use Rattle.std.specs.List.{All, AllByRecursion}
use Rattle.std.proofs.lemmas.List.{map-append}
use Rattle.h5w_model.specs.Numbers.{range, undefined}
use Rattle.h5w_model.specs.Images.{At, Holds, image}
use Rattle.std.specs.Prelude.{Ok}
use Rattle.h5w_model.specs.Superblock.{super_bytes}
use Rattle.h5w_model.specs.Datasets.{Described, FoundMessage, linked}
use Rattle.h5w_model.specs.Tables.{Limits, Reading, Reads, Shows, cell, format_limits}
use Rattle.h5w_model.specs.Findings.{AllSummary, AllValid, Part, Summary, Used, Valid, chunk_bytes, the_superblock}
use Rattle.h5w_model.specs.Relations.{AllDiffer, AllPaired, IsPart}
use Rattle.h5w_model.specs.Tiles.{Tiled}
use Rattle.h5w_model.specs.declared.root.Super.{Super}
use Rattle.h5w_model.proofs.ImageLemmas.{Holds-front, Holds-rest, length-range}
use Rattle.h5w_model.proofs.SuperLemmas.{length-super_bytes}
use Rattle.h5w_laws.specs.Several.{IsShare}
use Rattle.h5w_laws.specs.Tiles.{used_of}
use Rattle.h5w_laws.proofs.AnswerLemmas.{same_ok}
use Rattle.h5w_laws.proofs.SeveralLemmas.{each_valid, finds_all}
use Rattle.h5w_step_laws.specs.Ranges.{AllEndBy, AllSome, Among, Disjoint, block_at}
use Rattle.h5w_step_laws.proofs.RangeLemmas.{among_left, among_right}
use Rattle.h5w_step_laws.specs.Moments.{Moment, Represents, reading_of}
use Rattle.h5w_step_laws.proofs.FoundLemmas.{moment_shows}
use Rattle.h5w_step_laws.proofs.PartLemmas.{disjoint_part}
use Rattle.h5w_flush_laws.specs.Parts.{block_ranges, block_writes}
use Rattle.h5w_step_laws.specs.Spelled.{spelled_header}
use Rattle.h5w_array_laws.specs.Among.{AreAmong}
use Rattle.h5w_array_laws.specs.ArrayPlans.{fresh}
use Rattle.h5w_array_laws.specs.ArrayStores.{chunks_in}
use Rattle.h5w_array_laws.proofs.AmongLemmas.{part_as, part_itself, part_joined, part_onward}
use Rattle.h5w_tree_index_laws.proofs.TreePlanLemmas.{blocks_hold}
use Rattle.h5w_several_creation_laws.specs.Links.{linking_header_len}
use Rattle.h5w_several_creation_laws.specs.SeveralFiles.{AllNamed}
use Rattle.h5w_several_creation_laws.proofs.LinkLemmas as links
use Rattle.h5w_packing_laws.specs.Growing.{RangesFrom, own_blocks}
use Rattle.h5w_packing_laws.specs.Packing.{ArePacked, IsPackedSet, PackedSet, behind_ranges, front_ranges, header_block, packed_ranges, packed_super, root_bytes, root_range, set_links, set_names}
use Rattle.h5w_packing_laws.specs.PackingLaws.{BlocksWritten, IsPackedFile, IsPackedOne, SetHolds, file_used, packed_moment, set_used}
use Rattle.h5w_packing_laws.specs.Sources.{IsSource}
use Rattle.h5w_packing_laws.proofs.FileLemmas.{StandsBetween, all_between, behind_rises, link_names, packed_blocks, packed_file, wider}
use Rattle.h5w_packing_laws.proofs.RangeLemmas.{part_turned, ranges_apart, ranges_end}
use Rattle.h5w_packing_laws.proofs.SourceLemmas.{valid_source}
use Rattle.h5w_packing.specs.Jobs.{PackingView, all_jobs, writes_of}
use Rattle.h5w_packing.specs.Plans.{IsPlanned, IsPlannedSet, PlannedSet, SameDataset, Wanted, chunks_end, fronts_end, head_tiles, packed_table, planned_writes, set_chunks, set_front_tiles, set_tiles, sets_of, sources_of, wanted_names}
use Rattle.h5w_packing.specs.Whole.{AllShow, AllWanted, CopiedChunks, IsPackedBy, IsPackedSetBy, Packed, PackedWhole, all_ranges, chunk_kind, set_ranges}
use Rattle.h5w_packing.proofs.BlockLemmas.{Stands, Trio, all_blocks, all_inside, all_written, behind_back, behind_part, each_stands, front_back, front_part, planned_of, plans_of}
use Rattle.h5w_packing.proofs.CellLemmas.{bytes_same, same_cell, values_are, values_long, values_of}
use Rattle.h5w_packing.proofs.JobLemmas.{all_writes, image_short}
use Rattle.h5w_packing.proofs.TableLemmas.{StandsIn, chunk_blocks, chunk_stands, stays_absent, table_long, table_within}
use Rattle.h5w_packing.proofs.TileLemmas.{behind_used, front_used, tiles_from}
use Rattle.h5w_packing.proofs.EndLemmas.{LastOf, block_pieces_end, blocks_end, last_of}
use Rattle.h5w_packing.proofs.PlainLemmas.{plain, plain_from, plain_some}
use Rattle.h5w_packing.proofs.SoFarLemmas.{each_packed, names_are, set_end, some_bytes}

-- ---- The source

-- a dataset of the source, as the source shows it by its name
pub record HasSource (img : List ℕ) (t : Trio) : Type 0 where
  pub shows : Shows format_limits img t.name t.reading
  pub source : IsSource img t.reading

abbrev ValidBy : List ℕ → AllSummary → List ℕ → ℕ → Type 0
ValidBy img s name rows = (t : Summary) × Valid img name t × IsShare s rows t

-- names, readings and planned datasets, one after another
record AreTrios (img : List ℕ) (names : List (List ℕ)) (rs : List Reading) (xs : List PlannedSet) : Type 0 where
  trios : List Trio
  named : map (λ (t : Trio). t.name) trios ≡ names
  read : map (λ (t : Trio). t.reading) trios ≡ rs
  planned : plans_of trios ≡ xs
  each : AllByRecursion (HasSource img) trios

trios_of : (img : List ℕ) (s : AllSummary) (names : List (List ℕ)) (rows : List ℕ) (rs : List Reading) (xs : List PlannedSet) → AllPaired (ValidBy img s) names rows → AllShow img names rs → AllWanted names rs (sources_of xs) → AreTrios img names rs xs
trios_of img s [] rows [] [] v h w = record { trios = []; named = refl; read = refl; planned = refl; each = tt }
trios_of img s [] rows [] (x ∷ xs) v h w = absurd (omega (arith, ap length w))
trios_of img s [] rows (r ∷ rs) xs v h w = absurd h
trios_of img s (n ∷ ns) rows [] xs v h w = absurd h
trios_of img s (n ∷ ns) [] (r ∷ rs) xs v h w = absurd v
trios_of img s (n ∷ ns) (k ∷ rows) (r ∷ rs) [] v h w = absurd w
trios_of img s (n ∷ ns) (k ∷ rows) (r ∷ rs) (x ∷ xs) v h w =
    let rest = trios_of img s ns rows rs xs v.1 h.1 w.1 in
    let one : Trio = record { name = n; reading = r; set = x.set } in
    let same : planned_of one ≡ x = λ i. record { source = sym w.0 i; set = x.set } in
    record {
      trios = one ∷ rest.trios;
      named = ap (λ (l : List (List ℕ)). n ∷ l) rest.named;
      read = ap (λ (l : List Reading). r ∷ l) rest.read;
      planned = λ i. same i ∷ rest.planned i;
      each = (record { shows = h.0; source = valid_source img n (v.0).0 r (v.0).1 h.0 }, rest.each);
    }

all_sources : (img : List ℕ) (ts : List Trio) → AllByRecursion (HasSource img) ts → AllByRecursion (λ (t : Trio). IsSource img t.reading) ts
all_sources img [] h = tt
all_sources img (t ∷ ts) h = ((h.0).source, all_sources img ts h.1)

-- where no two links lead to one header no two names are the same
other_name : (limits : Limits) (img : List ℕ) (s : Super) (ms : List FoundMessage) (name : List ℕ) (place : ℕ) (names : List (List ℕ)) (ps : List Part) → linked name ms ≡ Ok place → AllPaired (IsPart limits img s ms) names ps
    → AllByRecursion (λ (b : ℕ). place ≢ b) (map (λ (p : Part). p.place) ps) → AllByRecursion (λ (other : List ℕ). name ≢ other) names
other_name limits img s ms name place [] [] link h d = tt
other_name limits img s ms name place [] (p ∷ ps) link h d = absurd h
other_name limits img s ms name place (n ∷ ns) [] link h d = absurd h
other_name limits img s ms name place (n ∷ ns) (p ∷ ps) link h d =
    ((λ e. d.0 (same_ok _ place p.place link (ap (λ (m : List ℕ). linked m ms) e ∙ (h.0).link))), other_name limits img s ms name place ns ps link h.1 d.1)

all_named : (limits : Limits) (img : List ℕ) (s : Super) (ms : List FoundMessage) (names : List (List ℕ)) (ps : List Part) → AllPaired (IsPart limits img s ms) names ps → AllDiffer (map (λ (p : Part). p.place) ps) → AllNamed names
all_named limits img s ms [] [] h d = tt
all_named limits img s ms [] (p ∷ ps) h d = absurd h
all_named limits img s ms (n ∷ ns) [] h d = absurd h
all_named limits img s ms (n ∷ ns) (p ∷ ps) h d = (other_name limits img s ms n p.place ns ps (h.0).link h.1 d.0, all_named limits img s ms ns ps h.1 d.1)

-- ---- One list of blocks, in the order of writing

module _ (img : List ℕ) (limit : ℕ) (p : PackingView) (to : List ℕ) (low : length img < 2 ^ 64) (ts : List Trio) (sources : AllByRecursion (HasSource img) ts) (each : AllByRecursion (IsPlannedSet limit) (plans_of ts)) (top end : ℕ)
    (are : ArePacked (sets_of (plans_of ts)) top end) (jobs : p.left ≡ all_jobs (flat_map set_chunks (plans_of ts)) (planned_writes (plans_of ts) end))
    (ranges : p.ranges ≡ head_tiles (linking_header_len (set_names (sets_of (plans_of ts)))) ++ (flat_map set_front_tiles (plans_of ts) ++ flat_map set_tiles (plans_of ts))) (ends : p.end ≡ end) (within : end ≤ limit) (small : limit ≤ 2 ^ 40)
    (differ : AllNamed (set_names (sets_of (plans_of ts)))) (is : to ≡ image [] (writes_of img p.left)) where
  abbrev xs : List PlannedSet
  xs = plans_of ts

  abbrev packed : List PackedSet
  packed = sets_of xs

  own : AllByRecursion (λ (t : Trio). IsSource img t.reading) ts
  own = all_sources img ts sources

  each_set : AllByRecursion IsPackedSet packed
  each_set = each_packed limit xs each

  blocks : BlocksWritten packed end
  blocks = packed_blocks packed top end each_set are

  abbrev written_blocks : List (ℕ × List ℕ)
  written_blocks = all_blocks img xs end

  written : writes_of img p.left ≡ block_writes written_blocks
  written =
      ap (writes_of img) jobs ∙ all_writes img (flat_map set_chunks xs) (planned_writes xs end) (all_inside limit img small ts each own) low ∙ all_written limit img xs end each blocks.tops

  -- ---- They do not meet

  abbrev fronts : List Used
  fronts = flat_map front_ranges packed

  abbrev behinds : List Used
  behinds = flat_map behind_ranges packed

  abbrev root : Used
  root = root_range packed

  abbrev all_plain : List Used
  all_plain = the_superblock ∷ root ∷ (plain fronts ++ plain behinds)

  plain_is : plain (packed_ranges packed) ≡ all_plain
  plain_is = ap (λ (us : List Used). the_superblock ∷ root ∷ us) (map-append (λ (u : Used). block_at u.place u.len) fronts behinds)

  from_plain : RangesFrom 0 all_plain end
  from_plain = subst (λ (us : List Used). RangesFrom 0 us end) plain_is (plain_from 0 end (packed_ranges packed) blocks.from)

  some_plain : AllSome all_plain
  some_plain = subst (λ (us : List Used). AllSome us) plain_is (plain_some (packed_ranges packed) blocks.some)

  abbrev a : List Used
  a = block_ranges (chunk_blocks img (flat_map set_chunks xs))

  abbrev b : List Used
  b = block_ranges (flat_map (λ (x : PlannedSet). x.set.copies) xs)

  abbrev c : List Used
  c = block_ranges (flat_map (λ (x : PlannedSet). own_blocks x.set.tops) xs)

  abbrev d : List Used
  d = block_ranges (map (λ (x : PlannedSet). header_block x.set) xs)

  root_long : length (root_bytes packed) ≡ linking_header_len (set_names packed)
  root_long = links.root_long (set_links packed) ∙ ap linking_header_len (link_names packed)

  super_long : length (super_bytes (packed_super end)) ≡ 48
  super_long = length-super_bytes (packed_super end)

  abbrev two : List Used
  two = root ∷ the_superblock ∷ []

  all_are : block_ranges written_blocks ≡ a ++ (b ++ (c ++ (d ++ two)))
  all_are =
      let f : ℕ × List ℕ → Used = λ x. block_at x.0 (length x.1) in
      let last : List (ℕ × List ℕ) = (48, root_bytes packed) ∷ (0, super_bytes (packed_super end)) ∷ [] in
      let heads : List (ℕ × List ℕ) = map (λ (x : PlannedSet). header_block x.set) xs in
      let tops : List (ℕ × List ℕ) = flat_map (λ (x : PlannedSet). own_blocks x.set.tops) xs in
      let copies : List (ℕ × List ℕ) = flat_map (λ (x : PlannedSet). x.set.copies) xs in
      let ends : map f last ≡ two = λ i. block_at 48 (root_long i) ∷ block_at 0 (super_long i) ∷ [] in
      map-append f (chunk_blocks img (flat_map set_chunks xs)) (copies ++ (tops ++ (heads ++ last)))
      ∙ (λ i. a ++ (map-append f copies (tops ++ (heads ++ last)) ∙ (λ j. b ++ (map-append f tops (heads ++ last) ∙ (λ k. c ++ (map-append f heads last ∙ ap (λ (us : List Used). d ++ us) ends) k)) j)) i)

  grouped : a ++ (b ++ (c ++ (d ++ two))) ≡ (a ++ b) ++ ((c ++ d) ++ two)
  grouped = sym (append_assoc a b (c ++ (d ++ two))) ∙ ap (λ (us : List Used). (a ++ b) ++ us) (sym (append_assoc c d two))

  all_part : AreAmong (block_ranges written_blocks) all_plain
  all_part =
      let behind : AreAmong (a ++ b) (plain behinds) = behind_part limit img small ts each own in
      let front : AreAmong (c ++ d) (plain fronts) = front_part limit img small ts blocks.tops in
      let heads : List Used = the_superblock ∷ root ∷ [] in
      let ends : AreAmong ((c ++ d) ++ two) (heads ++ plain fronts) =
      part_onward ((c ++ d) ++ two) (two ++ (c ++ d)) (heads ++ plain fronts) (part_turned (c ++ d) two) (part_joined two (c ++ d) heads (plain fronts) (part_turned (root ∷ []) (the_superblock ∷ [])) front) in
      let whole : AreAmong ((a ++ b) ++ ((c ++ d) ++ two)) all_plain =
      part_onward ((a ++ b) ++ ((c ++ d) ++ two)) (((c ++ d) ++ two) ++ (a ++ b)) all_plain (part_turned (a ++ b) ((c ++ d) ++ two)) (part_joined ((c ++ d) ++ two) (a ++ b) (heads ++ plain fronts) (plain behinds) ends behind) in
      subst (λ (us : List Used). AreAmong us all_plain) (sym (all_are ∙ grouped)) whole

  apart : Disjoint (block_ranges written_blocks)
  apart = disjoint_part all_plain (block_ranges written_blocks) (ranges_apart 0 end all_plain some_plain from_plain) all_part.among all_part.counts

  -- ---- So all of them stand

  to_is : to ≡ image [] (block_writes written_blocks)
  to_is = is ∙ ap (image []) written

  holds : Holds to written_blocks
  holds = subst (λ (x : List ℕ). Holds x written_blocks) (sym to_is) (blocks_hold [] written_blocks apart)

  abbrev last_blocks : List (ℕ × List ℕ)
  last_blocks = (48, root_bytes packed) ∷ (0, super_bytes (packed_super end)) ∷ []

  abbrev head_blocks : List (ℕ × List ℕ)
  head_blocks = map (λ (x : PlannedSet). header_block x.set) xs

  abbrev top_blocks : List (ℕ × List ℕ)
  top_blocks = flat_map (λ (x : PlannedSet). own_blocks x.set.tops) xs

  abbrev copy_blocks : List (ℕ × List ℕ)
  copy_blocks = flat_map (λ (x : PlannedSet). x.set.copies) xs

  rest_1 : Holds to (copy_blocks ++ (top_blocks ++ (head_blocks ++ last_blocks)))
  rest_1 = Holds-rest to (chunk_blocks img (flat_map set_chunks xs)) (copy_blocks ++ (top_blocks ++ (head_blocks ++ last_blocks))) holds

  rest_2 : Holds to (top_blocks ++ (head_blocks ++ last_blocks))
  rest_2 = Holds-rest to copy_blocks (top_blocks ++ (head_blocks ++ last_blocks)) rest_1

  rest_3 : Holds to (head_blocks ++ last_blocks)
  rest_3 = Holds-rest to top_blocks (head_blocks ++ last_blocks) rest_2

  last_hold : Holds to last_blocks
  last_hold = Holds-rest to head_blocks last_blocks rest_3

  stands : AllByRecursion (Stands img to) ts
  stands =
      each_stands img to ts (Holds-front to (chunk_blocks img (flat_map set_chunks xs)) (copy_blocks ++ (top_blocks ++ (head_blocks ++ last_blocks))) holds) (Holds-front to copy_blocks (top_blocks ++ (head_blocks ++ last_blocks)) rest_1)
      (Holds-front to top_blocks (head_blocks ++ last_blocks) rest_2) (Holds-front to head_blocks last_blocks rest_3)

  sets_hold : (us : List Trio) → AllByRecursion (Stands img to) us → AllByRecursion (SetHolds to) (sets_of (plans_of us))
  sets_hold [] h = tt
  sets_hold (t ∷ us) h = ((h.0).set, sets_hold us h.1)

  -- ---- The end

  short : length to ≤ end
  short =
      let ends : AllEndBy end (block_ranges written_blocks) = λ u x. ranges_end 0 end all_plain from_plain u (all_part.among u x) in
      subst (λ (x : List ℕ). length x ≤ end) (sym to_is) (image_short end (block_writes written_blocks) [] (omega arith) (block_pieces_end end written_blocks ends))

  -- a range that is written ends within the image
  reaches : (u : Used) → Among u all_plain → Among u ((a ++ b) ++ ((c ++ d) ++ two)) → u.place + u.len ≤ length to
  reaches u x y = blocks_end to written_blocks u (subst (λ (us : List Used). Among u us) (sym (all_are ∙ grouped)) y) (some_plain u x) holds

  empty : plain behinds ≡ [] → behinds ≡ []
  empty none = no_list behinds (omega (arith, plain_count behinds, ap length none))
    where
      plain_count : (us : List Used) → length (plain us) ≡ length us
      plain_count [] = refl
      plain_count (u ∷ us) = ap suc (plain_count us)

      no_list : (us : List Used) → length us ≤ 0 → us ≡ []
      no_list [] h = refl
      no_list (u ∷ us) h = absurd (omega (arith, h))

  long : length to ≡ end
  long = go (last_of 0 end (the_superblock ∷ root ∷ plain fronts) (plain behinds) from_plain (omega arith))
    where
      front_in : (u : Used) → plain behinds ≡ [] → Among u (the_superblock ∷ root ∷ plain fronts) → Among u ((a ++ b) ++ ((c ++ d) ++ two))
      front_in u none (inl e) = among_right u (a ++ b) ((c ++ d) ++ two) (among_right u (c ++ d) two (inr (inl e)))
      front_in u none (inr (inl e)) = among_right u (a ++ b) ((c ++ d) ++ two) (among_right u (c ++ d) two (inl e))
      front_in u none (inr (inr x)) = among_right u (a ++ b) ((c ++ d) ++ two) (among_left u (c ++ d) two (front_back limit img small ts blocks.tops (empty none) u x))

      go : LastOf end (the_superblock ∷ root ∷ plain fronts) (plain behinds) → length to ≡ end
      go l = two_ways l.which
        where
          two_ways : Among l.used (plain behinds) ⊎ ((plain behinds ≡ []) × Among l.used (the_superblock ∷ root ∷ plain fronts)) → length to ≡ end
          two_ways (inl x) =
              omega (arith, short, l.ends, reaches l.used (among_right l.used (the_superblock ∷ root ∷ plain fronts) (plain behinds) x) (among_left l.used (a ++ b) ((c ++ d) ++ two) (behind_back limit img small ts each own l.used x)))
          two_ways (inr x) =
              omega (arith, short, l.ends, reaches l.used (among_left l.used (the_superblock ∷ root ∷ plain fronts) (plain behinds) x.1) (front_in l.used x.0 x.1))

  -- ---- The file

  file : IsPackedFile to packed end
  file = packed_file packed top end to each_set are differ (omega (arith, within, small)) long (sets_hold ts stands) last_hold.0 last_hold.1.0

  abbrev moment_of : Trio → Moment
  moment_of t = packed_moment packed t.set end (values_of img t.reading)

  module _ (t : Trio) (h : IsPlannedSet limit (planned_of t)) (source : HasSource img t) (stand : Stands img to t) (one : IsPackedOne to packed end t.set) (last_within : t.set.last.end ≤ end) where
    abbrev r : Reading
    r = t.reading

    abbrev e : Described
    e = t.set.dataset

    abbrev bytes : ℕ
    bytes = chunk_bytes r.dataset

    abbrev first : ℕ
    first = t.set.first.end

    abbrev table : List ℕ
    table = packed_table bytes first r.table

    chunks_low : chunks_end bytes first r.table ≤ 2 ^ 40
    chunks_low = omega (arith, set_end limit (planned_of t) h, last_within, within, small)

    absent : (n : ℕ) → get_or r.table n undefined ≡ undefined → get_or table n undefined ≡ undefined
    absent n x = stays_absent bytes first r.table n x

    there : (n : ℕ) → get_or r.table n undefined ≢ undefined → get_or table n undefined ≢ undefined
    there n x same = absurd (omega (arith, same, table_within bytes first r.table n x, chunks_low))

    chunk_there : (n : ℕ) → get_or r.table n undefined ≢ undefined → At to (get_or table n undefined) (range img (get_or r.table n undefined) bytes)
    chunk_there n x = chunk_stands bytes img to first r.table n stand.chunks x

    cells_same : (row column : ℕ) → cell to (record { place = t.set.place; dataset = e; table = table }) row column ≡ cell img r row column
    cells_same = same_cell img to r table source.source absent there chunk_there t.set.place e h.same

    columns : e.shape.cols ≡ r.dataset.shape.cols
    columns = ap (λ s. s.cols) h.same.shape

    abbrev Cells : List ℕ → List ℤ → Type 0
    Cells tab vs = (k : ℕ) → k < length vs → cell to (record { place = t.set.place; dataset = e; table = tab }) (k / e.shape.cols) (k % e.shape.cols) ≡ slice_get vs k

    cells_by : (vs : List ℤ) → ((k : ℕ) → k < length vs → cell img r (k / r.dataset.shape.cols) (k % r.dataset.shape.cols) ≡ slice_get vs k) → Cells t.set.table vs
    cells_by vs x =
        subst (λ (tab : List ℕ). Cells tab vs) (sym h.table)
        (λ k inside. cells_same (k / e.shape.cols) (k % e.shape.cols) ∙ ap (λ m. cell img r (k / m) (k % m)) columns ∙ x k inside)

    counted : (vs : List ℤ) → length vs ≡ r.dataset.shape.rows * r.dataset.shape.cols → length vs ≡ e.shape.rows * e.shape.cols
    counted vs x = x ∙ ap (λ s. s.rows * s.cols) (sym h.same.shape)

    abbrev represents_all : Represents to t.set.name (moment_of t)
    represents_all = one.represents (values_of img r) (counted (values_of img r) (values_long img r)) (cells_by (values_of img r) (values_are img r source.source))

    represents : Represents to t.name (moment_of t)
    represents = subst (λ (n : List ℕ). Represents to n (moment_of t)) h.named represents_all

    reads : (rows cols : ℕ) (vs : List ℤ) → Reads img t.name rows cols vs → Reads to t.name rows cols vs
    reads rows cols vs x =
        let same : x.shown ≡ r = same_ok _ x.shown r x.shows source.shows in
        let shape = ap (λ (y : Reading). y.dataset.shape) same in
        let n : length vs ≡ r.dataset.shape.rows * r.dataset.shape.cols = x.count ∙ ap (λ s. s.rows * s.cols) shape in
        let cells : (k : ℕ) → k < length vs → cell img r (k / r.dataset.shape.cols) (k % r.dataset.shape.cols) ≡ slice_get vs k =
        subst (λ (y : Reading). (k : ℕ) → k < length vs → cell img y (k / y.dataset.shape.cols) (k % y.dataset.shape.cols) ≡ slice_get vs k) same x.values_are in
        record {
          shown = reading_of (moment_of t);
          shows = moment_shows to t.name (moment_of t) represents;
          rows_are = ap (λ s. s.rows) h.same.shape ∙ sym (ap (λ s. s.rows) shape) ∙ x.rows_are;
          columns_are = ap (λ s. s.cols) h.same.shape ∙ sym (ap (λ s. s.cols) shape) ∙ x.columns_are;
          count = counted vs n;
          values_are = cells_by vs cells;
        }

    copied : CopiedChunks img to bytes r.table table
    copied = record {
      count = table_long bytes first r.table;
      absent = absent;
      there = λ n x.
          let s = source.source.chunks n x in
          let size : length (range img (get_or r.table n undefined) bytes) ≡ bytes = length-range img (get_or r.table n undefined) bytes ∙ omega (arith, s) in
          (there n x, ap (range to (get_or table n undefined)) (sym size) ∙ chunk_there n x);
    }

    set_by : IsPackedSetBy img to t.name r (moment_of t)
    set_by = record {
      represents = represents;
      values = reads;
      dataset = h.same;
      chunks = subst (λ (tab : List ℕ). CopiedChunks img to bytes r.table tab) (sym h.table) copied;
      super = ap packed_super (sym long);
    }

  abbrev packed_by : Trio → Packed
  packed_by t = record { name = t.name; reading = t.reading; moment = moment_of t }

  all_by : (us : List Trio) → AllByRecursion (IsPlannedSet limit) (plans_of us) → AllByRecursion (HasSource img) us → AllByRecursion (Stands img to) us → AllByRecursion (IsPackedOne to packed end) (sets_of (plans_of us))
      → AllByRecursion (StandsBetween 0 0 end) (sets_of (plans_of us)) → AllByRecursion (λ (x : Packed). IsPackedSetBy img to x.name x.reading x.moment) (map packed_by us)
  all_by [] h s k f w = tt
  all_by (t ∷ us) h s k f w = (set_by t h.0 s.0 k.0 f.0 (w.0).last, all_by us h.1 s.1 k.1 f.1 w.1)

  between : AllByRecursion (StandsBetween 0 0 end) packed
  between =
      wider (48 + linking_header_len (set_names packed)) top 0 0 end packed (omega arith) (omega arith)
      (all_between (48 + linking_header_len (set_names packed)) top top end packed each_set are.fronts are.behinds (behind_rises top end packed each_set are.behinds))

  rooted_by : (us : List Trio) → AllByRecursion (λ (x : Packed). x.moment.root ≡ root ∷ []) (map packed_by us)
  rooted_by [] = tt
  rooted_by (t ∷ us) = (refl, rooted_by us)

  -- ---- The ranges

  fronts_used : (us : List Trio) → map (used_of chunk_kind) (flat_map set_front_tiles (plans_of us)) ≡ flat_map front_ranges (sets_of (plans_of us))
  fronts_used [] = refl
  fronts_used (t ∷ us) =
      map-append (used_of chunk_kind) (set_front_tiles (planned_of t)) (flat_map set_front_tiles (plans_of us))
      ∙ (λ i. front_used (length (spelled_header t.set.dataset)) t.set.dataset t.set.place t.set.block i ++ fronts_used us i)

  behinds_used : (us : List Trio) → AllByRecursion (IsPlannedSet limit) (plans_of us) → map (used_of chunk_kind) (flat_map set_tiles (plans_of us)) ≡ flat_map behind_ranges (sets_of (plans_of us))
  behinds_used [] h = refl
  behinds_used (t ∷ us) h =
      let bytes : ℕ = chunk_bytes t.reading.dataset in
      let one : map (used_of chunk_kind) (set_tiles (planned_of t)) ≡ behind_ranges t.set =
      behind_used t.set.dataset.layout.index bytes t.set.first.end t.reading.table t.set.moves (omega (arith, set_end limit (planned_of t) h.0, (h.0).within, small)) (some_bytes limit (planned_of t) h.0)
      ∙ (λ i. chunks_in (sym (bytes_same t.reading.dataset t.set.dataset (h.0).same) i) (sym (h.0).table i) ++ fresh t.set.moves) in
      map-append (used_of chunk_kind) (set_tiles (planned_of t)) (flat_map set_tiles (plans_of us)) ∙ (λ i. one i ++ behinds_used us h.1 i)

  used_are : map (used_of chunk_kind) p.ranges ≡ packed_ranges packed
  used_are =
      ap (map (used_of chunk_kind)) ranges
      ∙ ap (λ (us : List Used). the_superblock ∷ root ∷ us) (map-append (used_of chunk_kind) (flat_map set_front_tiles xs) (flat_map set_tiles xs) ∙ (λ i. fronts_used ts i ++ behinds_used ts each i))

  sets_same : (us : List Trio) → flat_map set_used (sets_of (plans_of us)) ≡ flat_map set_ranges (map packed_by us)
  sets_same [] = refl
  sets_same (t ∷ us) = ap (λ (l : List Used). set_used t.set ++ l) (sets_same us)

  names_same : (us : List Trio) → AllByRecursion (IsPlannedSet limit) (plans_of us) → set_names (sets_of (plans_of us)) ≡ map (λ (x : Packed). x.name) (map packed_by us)
  names_same [] h = refl
  names_same (t ∷ us) h = λ i. (h.0).named i ∷ names_same us h.1 i

  pub whole_by : IsPackedBy img (map (λ (x : Packed). x.name) (map packed_by ts)) (map (λ (x : Packed). x.reading) (map packed_by ts)) p to
  whole_by = record {
    sets = map packed_by ts;
    named = refl;
    shown = refl;
    each = all_by ts each sources stands file.each between;
    root = root ∷ [];
    rooted = rooted_by ts;
    end = long ∙ sym ends;
    tiled = subst (λ n. Tiled p.ranges n) (sym long) (tiles_from 0 end p.ranges (subst (λ (us : List Used). RangesFrom 0 us end) (sym used_are) blocks.from));
    exactly = λ f. ap (sum_by f) used_are ∙ file.used f ∙ ap (λ (us : List Used). sum_by f (the_superblock ∷ root ∷ us)) (sets_same ts);
    summary = file.summary;
    valid = subst (λ (ns : List (List ℕ)). AllValid to ns file.summary) (names_same ts each) file.valid;
    whole = file.whole;
  }

-- ---- By the source's names

names_by : (ts : List Trio) (f : Trio → Moment) → map (λ (x : Packed). x.name) (map (λ (t : Trio). let y : Packed = record { name = t.name; reading = t.reading; moment = f t } in y) ts) ≡ map (λ (t : Trio). t.name) ts
names_by [] f = refl
names_by (t ∷ ts) f = ap (λ (l : List (List ℕ)). t.name ∷ l) (names_by ts f)

readings_by : (ts : List Trio) (f : Trio → Moment) → map (λ (x : Packed). x.reading) (map (λ (t : Trio). let y : Packed = record { name = t.name; reading = t.reading; moment = f t } in y) ts) ≡ map (λ (t : Trio). t.reading) ts
readings_by [] f = refl
readings_by (t ∷ ts) f = ap (λ (l : List Reading). t.reading ∷ l) (readings_by ts f)

wanted_are : (names : List (List ℕ)) (rs : List Reading) (ws : List Wanted) → AllWanted names rs ws → wanted_names ws ≡ names
wanted_are [] [] ws w = ap wanted_names w
wanted_are [] (r ∷ rs) ws w = absurd w
wanted_are (n ∷ ns) [] ws w = absurd w
wanted_are (n ∷ ns) (r ∷ rs) [] w = absurd w
wanted_are (n ∷ ns) (r ∷ rs) (v ∷ ws) w = λ i. (ap (λ (y : Wanted). y.name) w.0) i ∷ wanted_are ns rs ws w.1 i

-- all that a plan says of its datasets
abbrev PlansAll : (limit : ℕ) → List Wanted → ℕ → PackingView → List PlannedSet → Type 0
PlansAll limit ws end p xs =
    (AllByRecursion (IsPlannedSet limit) xs × ArePacked (sets_of xs) (fronts_end ws) end)
    × ((p.left ≡ all_jobs (flat_map set_chunks xs) (planned_writes xs end)) × (p.ranges ≡ head_tiles (linking_header_len (set_names (sets_of xs))) ++ (flat_map set_front_tiles xs ++ flat_map set_tiles xs)))

-- all that is copied stands in the source
pub plan_inside : (img : List ℕ) (names : List (List ℕ)) (s : AllSummary) (rs : List Reading) (ws : List Wanted) (limit : ℕ) (p : PackingView) → AllValid img names s → AllShow img names rs → AllWanted names rs ws → (x : IsPlanned ws limit p)
    → All (StandsIn img) (flat_map set_chunks x.sets)
plan_inside img names s rs ws limit p valid shows wanted x =
    let trios = trios_of img s names s.rows rs x.sets (each_valid img names s valid) shows (subst (λ (l : List Wanted). AllWanted names rs l) (sym x.are) wanted) in
    let each = subst (λ (l : List PlannedSet). AllByRecursion (IsPlannedSet limit) l) (sym trios.planned) x.each in
    subst (λ (l : List PlannedSet). All (StandsIn img) (flat_map set_chunks l)) trios.planned (all_inside limit img x.small trios.trios each (all_sources img trios.trios trios.each))

pub packed_whole : PackedWhole
packed_whole img names s rs ws limit p to low valid shows wanted x is =
    let trios = trios_of img s names s.rows rs x.sets (each_valid img names s valid) shows (subst (λ (l : List Wanted). AllWanted names rs l) (sym x.are) wanted) in
    let ts : List Trio = trios.trios in
    let named : set_names (sets_of x.sets) ≡ wanted_names ws = names_are limit x.sets x.each ∙ ap wanted_names x.are in
    let ranges : p.ranges ≡ head_tiles (linking_header_len (set_names (sets_of x.sets))) ++ (flat_map set_front_tiles x.sets ++ flat_map set_tiles x.sets) =
    x.ranges ∙ ap (λ (ns : List (List ℕ)). head_tiles (linking_header_len ns) ++ (flat_map set_front_tiles x.sets ++ flat_map set_tiles x.sets)) (sym named) in
    let plans : PlansAll limit ws x.end p (plans_of ts) = subst (λ (l : List PlannedSet). PlansAll limit ws x.end p l) (sym trios.planned) ((x.each, x.packed), (x.jobs, ranges)) in
    let has = (finds_all format_limits img names s).0 valid in
    let differ : AllNamed (set_names (sets_of (plans_of ts))) =
    subst (λ (l : List PlannedSet). AllNamed (set_names (sets_of l))) (sym trios.planned)
    (subst AllNamed (sym (named ∙ wanted_are names rs ws wanted)) (all_named format_limits img has.superblock has.root.messages names has.parts has.linked_to has.differ)) in
    let all = whole_by img limit p to low ts trios.each plans.0.0 (fronts_end ws) x.end plans.0.1 plans.1.0 plans.1.1 x.ends x.within x.small differ is in
    let f : Trio → Moment = λ t. packed_moment (sets_of (plans_of ts)) t.set x.end (values_of img t.reading) in
    subst (λ (ns : List (List ℕ)). IsPackedBy img ns rs p to) (names_by ts f ∙ trios.named)
    (subst (λ (l : List Reading). IsPackedBy img (map (λ (y : Packed). y.name) (map (λ (t : Trio). let z : Packed = record { name = t.name; reading = t.reading; moment = f t } in z) ts)) l p to) (readings_by ts f ∙ trios.read) all)
