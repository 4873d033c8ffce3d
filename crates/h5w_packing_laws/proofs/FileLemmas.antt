-- A file that is written anew, of all its datasets: its ranges, and what an image is on which all its blocks stand.
use Rattle.std.proofs.Common.{◌≡◌, ◌≢◌, ℕ, suc, ◌+◌, ◌-◌, ◌*◌, ◌<◌, ◌≤◌, ◌^◌, List, [], ◌∷◌, ◌++◌, length, Result, Ok, refl, sym, ◌∙◌, ap, subst, inl, inr, arith, sum_by, append-nil}
use Rattle.std.specs.Prelude.{flat_map, map, ℤ}
use Rattle.std.specs.List.{AllByRecursion}
use Rattle.std.proofs.lemmas.Bool.{le-ltb}
use Rattle.std.proofs.lemmas.List.Sums.{sum_by-append, sum_by-cons}
use Rattle.h5w_model.specs.Numbers.{range}
use Rattle.h5w_model.specs.Images.{At, Holds}
use Rattle.h5w_model.specs.Programs.{and_then, eval, ret}
use Rattle.h5w_model.specs.Superblock.{super_bytes}
use Rattle.h5w_model.specs.Datasets.{Described, FoundMessage}
use Rattle.h5w_model.specs.Tables.{format_limits}
use Rattle.h5w_model.specs.Findings.{AllSummary, Finding, Part, Used, all_summary, checked_dataset, checked_part, checked_super, chunk_bytes, index_visit, ranges_of_all, the_superblock}
use Rattle.h5w_model.specs.Relations.{AllDiffer, AllPaired, HasAll, IsPart}
use Rattle.h5w_model.specs.declared.root.Super.{Super}
use Rattle.h5w_model.proofs.SuperLemmas.{length-super_bytes, super_at-super_bytes}
use Rattle.h5w_laws.proofs.FitLemmas.{free_fit}
use Rattle.h5w_laws.proofs.LinkLemmas.{IsLinked}
use Rattle.h5w_laws.proofs.ResultLemmas.{and_then_from}
use Rattle.h5w_laws.proofs.SeveralLemmas.{finds_all}
use Rattle.h5w_step_laws.specs.Ranges.{AllAmong, AllEndBy, AllSome, Disjoint, block_at}
use Rattle.h5w_step_laws.proofs.HeaderLaws.{root_from}
use Rattle.h5w_step_laws.proofs.HeaderVisits.{ranges_from}
use Rattle.h5w_step_laws.proofs.OverlapLemmas.{overlap_laws}
use Rattle.h5w_step_laws.proofs.RangeLemmas.{ends_cons, ends_nil, some_joined}
use Rattle.h5w_step_laws.specs.Spelled.{spelled_header}
use Rattle.h5w_step_laws.proofs.SpelledLemmas.{spelled_stands}
use Rattle.h5w_step_laws.specs.Moments.{all_used}
use Rattle.h5w_step_laws.proofs.PartLemmas.{disjoint_part}
use Rattle.h5w_array_laws.specs.Among.{AreAmong}
use Rattle.h5w_array_laws.specs.ArrayPlans.{fresh}
use Rattle.h5w_array_laws.specs.ArrayStores.{chunks_in}
use Rattle.h5w_array_laws.proofs.AmongLemmas.{each-among, part_itself, part_joined, part_onward, part_right}
use Rattle.h5w_tree_index_laws.specs.TreeImages.{AreSame}
use Rattle.h5w_index.specs.Views.{behind_of, fixed_of}
use Rattle.h5w_creation_laws.proofs.RootLemmas.{look_at}
use Rattle.h5w_several_creation_laws.specs.SeveralFiles.{AllNamed}
use Rattle.h5w_several_creation_laws.specs.Links.{AreLinks, IsLink, linking, linking_header_len, names_in, places_in}
use Rattle.h5w_several_creation_laws.proofs.LinkLemmas.{each_linked, header_found, prefix_total, root_found, root_prefix}
use Rattle.h5w_packing_laws.specs.Growing.{RangesFrom, own_blocks}
use Rattle.h5w_packing_laws.specs.Packing.{ArePacked, BehindsFrom, FrontsFrom, IsPackedSet, PackedSet, behind_ranges, front_ranges, packed_ranges, packed_super, root_bytes, root_range, set_links, set_names, tops_of}
use Rattle.h5w_packing_laws.specs.PackingLaws.{BlocksWritten, IndexMade, IndexThere, IsPackedFile, IsPackedOne, PackedBlocks, PackedFile, SetHolds, TightPlan, TopsWritten, file_used, packed_moment, set_used}
use Rattle.h5w_packing_laws.proofs.PackedLemmas as sets
use Rattle.h5w_packing_laws.proofs.RangeLemmas.{part_left, ranges_apart, ranges_end, ranges_joined, ranges_rise, ranges_sum}

-- ---- One dataset

module _ (x : PackedSet) (is : IsPackedSet x) where
  pub front_from : RangesFrom x.place (front_ranges x) x.top
  front_from = sets.header_from x.dataset x.place x.block x.top x.table x.first x.moves x.copies x.fixed x.index x.last is.laid is.above is.packing

  pub front_some : AllSome (front_ranges x)
  front_some = sets.header_some x.dataset x.place x.block x.top x.table x.first x.moves x.copies x.fixed x.index x.last is.laid is.above is.packing

  pub behind_from : RangesFrom x.first.end (behind_ranges x) x.last.end
  behind_from = sets.behind_from x.dataset x.place x.block x.top x.table x.first x.moves x.copies x.fixed x.index x.last is.laid is.above is.packing

  pub behind_some : AllSome (behind_ranges x)
  behind_some = sets.behind_some x.dataset x.place x.block x.top x.table x.first x.moves x.copies x.fixed x.index x.last is.laid is.above is.packing

  pub tops_written : TopsWritten x
  tops_written =
      let are = sets.tops_are x.dataset x.place x.block x.top x.table x.first x.moves x.copies x.fixed x.index x.last is.laid is.above is.packing x.tops is.which in
      record { part = are.0.0; pieces = are.0.1; whole = are.1 }

  made : IndexMade x.dataset x.block x.table x.moves x.index
  made = sets.packed_made x.dataset x.place x.block x.top x.table x.first x.moves x.copies x.fixed x.index x.last is.laid is.above is.packing

  pub set_bytes : 0 < chunk_bytes x.dataset
  set_bytes = sets.some_bytes x.dataset x.place x.block x.top x.table x.first x.moves x.copies x.fixed x.index x.last is.laid is.above is.packing

  pub set_tight : TightPlan is.packing.s x.moves x.copies x.last
  set_tight = sets.packed_tiles x.dataset x.block x.table x.first x.moves x.copies x.fixed x.index x.last is.packing

  -- its chunks end where its other blocks begin
  pub chunks_within : is.packing.s.end ≤ x.last.end
  chunks_within = ranges_rise is.packing.s.end x.last.end (fresh x.moves) set_tight.ranges

  -- the ranges that a check finds of it are among its own
  pub used_part : AreAmong (set_used x) (front_ranges x ++ behind_ranges x)
  used_part =
      let behind : List Used = behind_of (chunk_bytes x.dataset) x.index in
      let front : List Used = front_ranges x in
      subst (λ (us : List Used). AreAmong (block_at x.place (length (spelled_header x.dataset)) ∷ (us ++ behind)) (front ++ behind_ranges x)) (sym made.fixed) (part_joined front behind front (behind_ranges x) (part_itself front) made.behind)

  module _ (to : List ℕ) (end : ℕ) (within : x.last.end ≤ end) (holds : SetHolds to x) where
    pub there : IndexThere to end x.dataset x.index
    there = sets.packed_index x.dataset x.place x.block x.top x.table x.first x.moves x.copies x.fixed x.tops x.index x.last to end is.laid is.above is.packing is.which holds.copies holds.tops within

    pub used_sums : (f : Used → ℕ) → sum_by f (set_used x) ≡ sum_by f (front_ranges x) + sum_by f (behind_ranges x)
    used_sums f =
        let behind : List Used = behind_of (chunk_bytes x.dataset) x.index in
        let front : List Used = front_ranges x in
        let same : AreSame behind (behind_ranges x) =
        sets.same_behind x.dataset x.place x.block x.top x.table x.first x.moves x.copies x.fixed x.index x.last is.laid is.above is.packing to x.tops is.which holds.copies holds.tops end within in
        let all : sum_by f (set_used x) ≡ sum_by f (front ++ behind) = ap (λ (us : List Used). sum_by f (block_at x.place (length (spelled_header x.dataset)) ∷ (us ++ behind))) made.fixed in
        omega (arith, all, sum_by-append f front behind, same f)

-- ---- All of them

fronts_from : (at top : ℕ) (xs : List PackedSet) → AllByRecursion IsPackedSet xs → FrontsFrom at xs top → RangesFrom at (flat_map front_ranges xs) top
fronts_from at top [] each h = h
fronts_from at top (x ∷ xs) each h =
    ranges_joined at x.top top (front_ranges x) (flat_map front_ranges xs) (subst (λ n. RangesFrom n (front_ranges x) x.top) h.0 (front_from x each.0)) (fronts_from x.top top xs each.1 h.1)

behinds_from : (at end : ℕ) (xs : List PackedSet) → AllByRecursion IsPackedSet xs → BehindsFrom at xs end → RangesFrom at (flat_map behind_ranges xs) end
behinds_from at end [] each h = h
behinds_from at end (x ∷ xs) each h =
    ranges_joined at x.last.end end (behind_ranges x) (flat_map behind_ranges xs) (subst (λ n. RangesFrom n (behind_ranges x) x.last.end) h.0 (behind_from x each.0)) (behinds_from x.last.end end xs each.1 h.1)

fronts_some : (xs : List PackedSet) → AllByRecursion IsPackedSet xs → AllSome (flat_map front_ranges xs)
fronts_some [] each u a = absurd a
fronts_some (x ∷ xs) each u a = some_joined (front_ranges x) (flat_map front_ranges xs) (front_some x each.0) (fronts_some xs each.1) u a

behinds_some : (xs : List PackedSet) → AllByRecursion IsPackedSet xs → AllSome (flat_map behind_ranges xs)
behinds_some [] each u a = absurd a
behinds_some (x ∷ xs) each u a = some_joined (behind_ranges x) (flat_map behind_ranges xs) (behind_some x each.0) (behinds_some xs each.1) u a

each_written : (xs : List PackedSet) → AllByRecursion IsPackedSet xs → AllByRecursion TopsWritten xs
each_written [] each = tt
each_written (x ∷ xs) each = (tops_written x each.0, each_written xs each.1)

each_part : (xs : List PackedSet) → AllByRecursion IsPackedSet xs → AllByRecursion (λ (x : PackedSet). AreAmong (set_used x) (front_ranges x ++ behind_ranges x)) xs
each_part [] each = tt
each_part (x ∷ xs) each = (used_part x each.0, each_part xs each.1)

-- a dataset's places stand behind those before it, and end by the end
pub behind_rises : (at end : ℕ) (xs : List PackedSet) → AllByRecursion IsPackedSet xs → BehindsFrom at xs end → at ≤ end
behind_rises at end xs each h = ranges_rise at end (flat_map behind_ranges xs) (behinds_from at end xs each h)

-- where a dataset stands in a file
pub record StandsBetween (front at end : ℕ) (x : PackedSet) : Type 0 where
  pub low : front ≤ x.place
  pub top : x.top ≤ end
  pub first : at ≤ x.first.end
  pub last : x.last.end ≤ end

pub wider : (front at front' at' end : ℕ) (xs : List PackedSet) → front' ≤ front → at' ≤ at → AllByRecursion (StandsBetween front at end) xs → AllByRecursion (StandsBetween front' at' end) xs
wider front at front' at' end [] a b h = tt
wider front at front' at' end (x ∷ xs) a b h =
    let one = h.0 in
    (record { low = omega (arith, a, one.low); top = one.top; first = omega (arith, b, one.first); last = one.last }, wider front at front' at' end xs a b h.1)

pub all_between : (front at top end : ℕ) (xs : List PackedSet) → AllByRecursion IsPackedSet xs → FrontsFrom front xs top → BehindsFrom at xs end → top ≤ end → AllByRecursion (StandsBetween front at end) xs
all_between front at top end [] each f b within = tt
all_between front at top end (x ∷ xs) each f b within =
    let high = ranges_rise x.top top (flat_map front_ranges xs) (fronts_from x.top top xs each.1 f.1) in
    let own = ranges_rise x.place x.top (front_ranges x) (front_from x each.0) in
    let last = behind_rises x.last.end end xs each.1 b.1 in
    let first = ranges_rise x.first.end x.last.end (behind_ranges x) (behind_from x each.0) in (
      record { low = omega (arith, f.0); top = omega (arith, high, within); first = omega (arith, b.0); last = last },
      wider x.top x.last.end front at end xs (omega (arith, own, f.0)) (omega (arith, first, b.0)) (all_between x.top x.last.end top end xs each.1 f.1 b.1 within),
    )

above_all : (low at top : ℕ) (xs : List PackedSet) → AllByRecursion IsPackedSet xs → FrontsFrom at xs top → low < at → AllByRecursion (λ (b : ℕ). low ≢ b) (map (λ (p : Part). p.place) (map (λ (x : PackedSet). let p : Part = record { place = x.place; dataset = x.dataset; ranges = set_used x } in p) xs))
above_all low at top [] each h less = tt
above_all low at top (x ∷ xs) each h less =
    let rise = ranges_rise x.place x.top (front_ranges x) (front_from x each.0) in
    ((λ e. absurd (omega (arith, e, h.0, less))), above_all low x.top top xs each.1 h.1 (omega (arith, rise, h.0, less)))

abbrev part_of : PackedSet → Part
part_of x = record { place = x.place; dataset = x.dataset; ranges = set_used x }

all_differ : (at top : ℕ) (xs : List PackedSet) → AllByRecursion IsPackedSet xs → FrontsFrom at xs top → AllDiffer (map (λ (p : Part). p.place) (map part_of xs))
all_differ at top [] each h = tt
all_differ at top (x ∷ xs) each h =
    let first = front_from x each.0 in
    let rise = ranges_rise (x.place + length (spelled_header x.dataset)) x.top (tops_of x.dataset.layout.index x.dataset.layout.address x.block) first.1 in
    let some : 0 < length (spelled_header x.dataset) = front_some x each.0 (block_at x.place (length (spelled_header x.dataset))) (inl refl) in
    (above_all x.place x.top top xs each.1 h.1 (omega (arith, rise, some)), all_differ x.top top xs each.1 h.1)

flat_parts : (xs : List PackedSet) → flat_map (λ (p : Part). p.ranges) (map part_of xs) ≡ flat_map set_used xs
flat_parts [] = refl
flat_parts (x ∷ xs) = ap (λ (us : List Used). set_used x ++ us) (flat_parts xs)

-- where the blocks stand what a check finds of each weighs what its ranges do
all_sums : (to : List ℕ) (at end : ℕ) (xs : List PackedSet) → AllByRecursion IsPackedSet xs → BehindsFrom at xs end → AllByRecursion (SetHolds to) xs → (f : Used → ℕ)
    → sum_by f (flat_map set_used xs) ≡ sum_by f (flat_map front_ranges xs) + sum_by f (flat_map behind_ranges xs)
all_sums to at end [] each h holds f = refl
all_sums to at end (x ∷ xs) each h holds f =
    omega (
      arith,
      used_sums x each.0 to end (behind_rises x.last.end end xs each.1 h.1) holds.0 f,
      all_sums to x.last.end end xs each.1 h.1 holds.1 f,
      sum_by-append f (set_used x) (flat_map set_used xs),
      sum_by-append f (front_ranges x) (flat_map front_ranges xs),
      sum_by-append f (behind_ranges x) (flat_map behind_ranges xs),
    )

-- ---- The links

links_in : (xs : List PackedSet) → AllByRecursion IsPackedSet xs → AllByRecursion (λ (x : PackedSet). length x.name ≤ 255) xs → AllByRecursion IsLink (set_links xs)
links_in [] each named = tt
links_in (x ∷ xs) each named =
    let rise = ranges_rise x.place x.top (front_ranges x) (front_from x each.0) in
    (record { named = named.0; low = omega (arith, rise, (each.0).laid.small) }, links_in xs each.1 named.1)

links_count : (xs : List PackedSet) → length (set_links xs) ≡ length xs
links_count [] = refl
links_count (x ∷ xs) = ap suc (links_count xs)

pub link_names : (xs : List PackedSet) → names_in (set_links xs) ≡ set_names xs
link_names [] = refl
link_names (x ∷ xs) = ap (λ (ns : List (List ℕ)). x.name ∷ ns) (link_names xs)

pub are_linkable : (xs : List PackedSet) → AllByRecursion IsPackedSet xs → length xs ≤ 8 → AllByRecursion (λ (x : PackedSet). length x.name ≤ 255) xs → AreLinks (set_links xs)
are_linkable xs each few named = record { few = omega (arith, links_count xs, few); each = links_in xs each named }

each_link : (ms : List FoundMessage) (xs : List PackedSet) → AllPaired (IsLinked ms) (names_in (set_links xs)) (places_in (set_links xs)) → AllByRecursion (λ (x : PackedSet). IsLinked ms x.name x.place) xs
each_link ms [] h = tt
each_link ms (x ∷ xs) h = (h.0, each_link ms xs h.1)

-- ---- The file

module _ (xs : List PackedSet) (top end : ℕ) (each : AllByRecursion IsPackedSet xs) (are : ArePacked xs top end) where
  abbrev fronts : List Used
  fronts = flat_map front_ranges xs

  abbrev behinds : List Used
  behinds = flat_map behind_ranges xs

  all_from : RangesFrom 0 (packed_ranges xs) end
  all_from =
      (refl, (refl, ranges_joined (48 + linking_header_len (set_names xs)) top end fronts behinds (fronts_from (48 + linking_header_len (set_names xs)) top xs each are.fronts) (behinds_from top end xs each are.behinds)))

  all_some : AllSome (packed_ranges xs)
  all_some u (inl e) = subst (λ (y : Used). 0 < y.len) e (omega arith)
  all_some u (inr (inl e)) = subst (λ (y : Used). 0 < y.len) e (omega arith)
  all_some u (inr (inr a)) = some_joined fronts behinds (fronts_some xs each) (behinds_some xs each) u a

  pub blocks_are : BlocksWritten xs end
  blocks_are = record { from = all_from; some = all_some; tops = each_written xs each }

  file_part : AreAmong (file_used xs) (packed_ranges xs)
  file_part =
      let front : List Used = the_superblock ∷ root_range xs ∷ [] in
      part_joined front (flat_map set_used xs) front (fronts ++ behinds) (part_itself front) (each-among set_used front_ranges behind_ranges xs (each_part xs each))

  file_apart : Disjoint (file_used xs)
  file_apart = disjoint_part (packed_ranges xs) (file_used xs) (ranges_apart 0 end (packed_ranges xs) all_some all_from) file_part.among file_part.counts

  top_within : top ≤ end
  top_within = behind_rises top end xs each are.behinds

  root_within : 48 + linking_header_len (set_names xs) ≤ end
  root_within = omega (arith, top_within, ranges_rise (48 + linking_header_len (set_names xs)) top fronts (fronts_from (48 + linking_header_len (set_names xs)) top xs each are.fronts))

  module _ (to : List ℕ) (differ : AllNamed (set_names xs)) (small : end < 2 ^ 64) (long : length to ≡ end) (holds : AllByRecursion (SetHolds to) xs) (root : At to 48 (root_bytes xs)) (super : At to 0 (super_bytes (packed_super end))) where
    abbrev s : Super
    s = packed_super end

    abbrev links : List (List ℕ × ℕ)
    links = set_links xs

    super_there : checked_super (length to) (range to 0 48) ≡ Ok s
    super_there =
        ap (checked_super (length to)) (look_at to 0 48 (super_bytes s) super (length-super_bytes s))
        ∙ rw (super_at-super_bytes s (inr refl) small (omega arith), le-ltb (length to) end (omega (arith, long))) refl

    are_links : AreLinks links
    are_links = are_linkable xs each are.few are.named

    abbrev messages : List FoundMessage
    messages = (root_found links).messages

    total : (root_prefix links).total ≡ linking_header_len (set_names xs)
    total = prefix_total links ∙ ap linking_header_len (link_names xs)

    root_ends : AllEndBy end (block_at 48 (root_prefix links).total ∷ [])
    root_ends = ends_cons end (block_at 48 (root_prefix links).total) [] (omega (arith, total, root_within)) (ends_nil end)

    linked : AllByRecursion (λ (x : PackedSet). IsLinked messages x.name x.place) xs
    linked = each_link messages xs (each_linked links are_links (subst AllNamed (sym (link_names xs)) differ))

    sums : (f : Used → ℕ) → sum_by f (packed_ranges xs) ≡ sum_by f (file_used xs)
    sums f =
        omega (
          arith,
          all_sums to top end xs each are.behinds holds f,
          sum_by-append f fronts behinds,
          sum_by-cons f the_superblock (root_range xs ∷ (fronts ++ behinds)),
          sum_by-cons f (root_range xs) (fronts ++ behinds),
          sum_by-cons f the_superblock (root_range xs ∷ flat_map set_used xs),
          sum_by-cons f (root_range xs) (flat_map set_used xs),
        )

    -- a dataset among those of the file
    module _ (x : PackedSet) (is : IsPackedSet x) (above : x.top ≤ end) (within : x.last.end ≤ end) (stands : SetHolds to x) (link : IsLinked messages x.name x.place) (part : AreAmong (set_used x) (flat_map set_used xs)) where
      abbrev header : Used
      header = block_at x.place (length (spelled_header x.dataset))

      index : IndexThere to end x.dataset x.index
      index = there x is to end within stands

      header_there : eval to (checked_dataset format_limits s x.place) ≡ Ok (x.dataset, header ∷ [])
      header_there =
          let rise = ranges_rise (x.place + length (spelled_header x.dataset)) x.top (tops_of x.dataset.layout.index x.dataset.layout.address x.block) (front_from x is).1 in
          (spelled_stands to format_limits s x.place x.dataset is.laid.spellable stands.header (omega (arith, rise, above))
          (sets.few_needed x.dataset x.place x.block x.top x.table x.first x.moves x.copies x.fixed x.index x.last is.laid is.above is.packing to x.tops is.which stands.copies stands.tops end within)).header

      apart : Disjoint (the_superblock ∷ root_range xs ∷ set_used x)
      apart =
          let front : List Used = the_superblock ∷ root_range xs ∷ [] in
          let own : AreAmong (the_superblock ∷ root_range xs ∷ set_used x) (file_used xs) = part_joined front (set_used x) front (flat_map set_used xs) (part_itself front) part in
          disjoint_part (file_used xs) (the_superblock ∷ root_range xs ∷ set_used x) file_apart own.among own.counts

      pub one_stands : IsPackedOne to xs end x
      one_stands = record {
        represents = λ values count cells. record {
          super = super_there;
          root = record {
            own = root_range xs ∷ [];
            others = [];
            is = refl;
            checked = root_from to x.name s x.place (root_found links) (header_found to links are_links root) link root_ends ∙ ap (λ (n : ℕ). Ok (x.place, block_at 48 n ∷ [])) total;
            ends = λ u a. absurd a;
          };
          header = header_there;
          index = index.is.index;
          apart = apart;
          table = sets.table_found x.dataset x.place x.block x.top x.table x.first x.moves x.copies x.fixed x.index x.last is.laid is.above is.packing to x.tops is.which stands.copies stands.tops end within;
          count = count;
          cells = cells;
        };
      }

      pub one_visited : IsPart format_limits to s messages x.name (part_of x)
      one_visited =
          let build : Described × List Used → List Used → Part = λ d us. record { place = x.place; dataset = d.0; ranges = d.1 ++ us } in
          let found : Part → Result Part Finding = λ p. Ok p in
          let head : Described × List Used = (x.dataset, header ∷ []) in
          record {
            link = link;
            visited =
                and_then_from to (checked_dataset format_limits s x.place) (λ d. and_then (index_visit s.end d.0) (λ us. ret (found (build d us)))) head (part_of x) header_there
                (and_then_from to (index_visit s.end head.0) (λ us. ret (found (build head us))) (fixed_of x.index ++ behind_of (chunk_bytes x.dataset) x.index) (part_of x) index.is.index.checked refl);
          }

    abbrev Both : PackedSet → Type 0
    Both x = IsPackedOne to xs end x × IsPart format_limits to s messages x.name (part_of x)

    all_stand : (ys : List PackedSet) (at front : ℕ) → AllByRecursion IsPackedSet ys → FrontsFrom front ys top → BehindsFrom at ys end → AllByRecursion (SetHolds to) ys → AllByRecursion (λ (x : PackedSet). IsLinked messages x.name x.place) ys
        → AreAmong (flat_map set_used ys) (flat_map set_used xs) → AllByRecursion Both ys
    all_stand [] at front each f b stand link part = tt
    all_stand (x ∷ ys) at front each f b stand link part =
        let within = behind_rises x.last.end end ys each.1 b.1 in
        let high = ranges_rise x.top top (flat_map front_ranges ys) (fronts_from x.top top ys each.1 f.1) in
        let above : x.top ≤ end = omega (arith, high, top_within) in
        let own = part_onward (set_used x) (set_used x ++ flat_map set_used ys) (flat_map set_used xs) (part_left (set_used x) (flat_map set_used ys)) part in
        let rest = part_onward (flat_map set_used ys) (set_used x ++ flat_map set_used ys) (flat_map set_used xs) (part_right (set_used x) (flat_map set_used ys)) part in (
          (one_stands x each.0 above within stand.0 link.0 own, one_visited x each.0 above within stand.0 link.0 own),
          all_stand ys x.last.end x.top each.1 f.1 b.1 stand.1 link.1 rest,
        )

    both : AllByRecursion Both xs
    both = all_stand xs top (48 + linking_header_len (set_names xs)) each are.fronts are.behinds holds linked (part_itself (flat_map set_used xs))

    firsts : (ys : List PackedSet) → AllByRecursion Both ys → AllByRecursion (IsPackedOne to xs end) ys
    firsts [] h = tt
    firsts (x ∷ ys) h = (h.0.0, firsts ys h.1)

    seconds : (ys : List PackedSet) → AllByRecursion Both ys → AllPaired (IsPart format_limits to s messages) (set_names ys) (map part_of ys)
    seconds [] h = tt
    seconds (x ∷ ys) h = (h.0.1, seconds ys h.1)

    abbrev parts : List Part
    parts = map part_of xs

    abbrev all_of : List Used
    all_of = ranges_of_all (root_range xs ∷ []) parts

    all_are : file_used xs ≡ all_of
    all_are = ap (λ (us : List Used). the_superblock ∷ root_range xs ∷ us) (sym (flat_parts xs))

    abbrev told : AllSummary
    told = all_summary s parts all_of

    has_all : HasAll format_limits to (set_names xs) told
    has_all = record {
      superblock = s;
      found = super_there;
      root = root_found links;
      read = header_found to links are_links root;
      root_ranges = root_range xs ∷ [];
      within = ranges_from end (root_found links).ranges root_ends ∙ ap (λ (n : ℕ). Ok (block_at 48 n ∷ [])) total;
      parts = parts;
      linked_to = seconds xs both;
      differ = all_differ (48 + linking_header_len (set_names xs)) top xs each are.fronts;
      fit = free_fit all_of (overlap_laws.none all_of (subst Disjoint all_are file_apart));
      has = refl;
    }

    abbrev lens : Used → ℕ
    lens u = u.len

    pub is_file : IsPackedFile to xs end
    is_file = record {
      each = firsts xs both;
      used = sums;
      summary = told;
      valid = (finds_all format_limits to (set_names xs) told).1 has_all;
      whole =
          let all : sum_by lens all_of ≡ sum_by lens (file_used xs) = ap (sum_by lens) (sym all_are) in
          omega (arith, all, sums lens, ranges_sum 0 end (packed_ranges xs) all_from);
    }

pub packed_blocks : PackedBlocks
packed_blocks xs top end each are = blocks_are xs top end each are

pub packed_file : PackedFile
packed_file xs top end to each are differ small long holds root super = is_file xs top end each are to differ small long holds root super
