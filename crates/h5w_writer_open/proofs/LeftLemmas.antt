-- Why a valid file is not opened.
use Rattle.std.proofs.Common.{◌≡◌, ◌≢◌, ◌⊎◌, ℕ, zero, suc, ◌+◌, ◌-◌, ◌/◌, ◌%◌, ◌^◌, ◌<◌, ◌≤◌, Bool, true, false, cond, not, ◌||◌, List, [], ◌∷◌, ◌++◌, length, take, ℤ, Option, Some, None, Result, Ok, Err, refl, sym, ap, ◌∙◌, subst, inl, inr, arith}
use Rattle.std.specs.Prelude.{IsSome, if◌then◌else◌, nat_lt, option_map, ◌==◌}
use Rattle.std.specs.List.{All}
use Rattle.std.specs.Option.{option_or}
use Rattle.std.proofs.lemmas.Bool.{cases_Bool, cond_both, eqb-true, le-ltb, ltb-false, eq-eqb}
use Rattle.h5w_model.specs.Numbers.{range, undefined}
use Rattle.h5w_model.specs.Programs.{eval}
use Rattle.h5w_model.specs.Headers.{header_view}
use Rattle.h5w_model.specs.Datasets.{Described, HeaderFields, dataset_messages, described, linked, refused_as, root_header, super_refusal}
use Rattle.h5w_model.specs.Superblock.{super_at}
use Rattle.h5w_model.specs.Findings.{Summary, Used, Valid, chunk_bytes}
use Rattle.h5w_model.specs.Tables.{Reads, format_limits, limit_of, needed}
use Rattle.h5w_model.specs.declared.cell.Key.{Key}
use Rattle.h5w_model.specs.declared.root.Super.{Super}
use Rattle.h5w_model.specs.declared.refusal.BlockFault.{BlockFault}
use Rattle.h5w_model.specs.declared.refusal.HeaderError.TheVariants.{Unknown}
use Rattle.h5w_model.specs.declared.refusal.ReadError.TheVariants.{Header}
use Rattle.h5w_model.specs.declared.refusal.ReadError.TheVariants as read_errors
use Rattle.h5w_headers.specs.Walks.{root_header_for, dataset_header_for}
use Rattle.h5w_headers.proofs.RanLemmas.{step_ok, step_err}
use Rattle.h5w_step_laws.specs.Moments.{Moment, Represents}
use Rattle.h5w_step_laws.proofs.MomentLemmas.{super_parts}
use Rattle.h5w_step_laws.proofs.FoundLemmas.{opens}
use Rattle.h5w_step_laws.proofs.HeaderLaws.{DatasetParts, RootParts, dataset_parts, root_parts}
use Rattle.h5w_model.specs.Tables.{InPlace, address_behind, in_place}
use Rattle.h5w_model.specs.Arrays.{super_block_of}
use Rattle.h5w_model.specs.Findings.{index_visit, tree_visit}
use Rattle.h5w_model.specs.declared.cell.IndexKind.TheVariants.{Tree}
use Rattle.h5w_laws.proofs.ResultLemmas.{HasAnswer}
use Rattle.h5w_step_laws.specs.Indexes.{IsIndex}
use Rattle.h5w_step_laws.specs.Ranges.{AllEndBy, Among, block_at, chunk_at}
use Rattle.h5w_step_laws.proofs.HeaderVisits.{used_of}
use Rattle.h5w_step_laws.proofs.RangeLemmas.{among_right, ends_right}
use Rattle.h5w_step_laws.proofs.ImageLemmas.{header_read}
use Rattle.h5w_space.specs.declared.Extent.{Extent}
use Rattle.h5w_cache.specs.Stores.{Store}
use Rattle.h5w_cache.specs.StoreLaws.{Standing}
use Rattle.h5w_cache.specs.Plans.{bytes_in, bytes_of}
use Rattle.h5w_array_laws.specs.Parts.{Part, data_of, secondary_of, index_block, header, IsPart, length_of, number_of}
use Rattle.h5w_array_laws.specs.ArrayStores.{IsBlock, block_at_part, blocks_in_place, map_of, place_at_part}
use Rattle.h5w_array_laws.proofs.KeptLemmas.{is_some_of, of_some}
use Rattle.h5w_index.specs.Views.{IndexView, an_array, a_tree}
use Rattle.h5w_index.specs.Flushes.{Rests}
use Rattle.h5w_bt_index.specs.Index.{Index as TreeIndex, IsIndex as TreeIs, IsShaped, address_of, records}
use Rattle.h5w_bt_open.specs.Kept.{HasWrongTotals, IsUnordered}
use Rattle.h5w_bt_open.specs.Needed.{ranges_from}
use Rattle.h5w_bt_open.specs.Opened.{IsStanding}
use Rattle.h5w_tree_index_laws.specs.TreeImages.{AreSame, behind_of}
use Rattle.h5w_tree_open_laws.proofs.KeptLemmas.{opened_is_kept}
use Rattle.h5w_tree_open_laws.proofs.NeededEndLemmas.{needed_ends}
use Rattle.h5w_ea_index.specs.Opened.{past}
use Rattle.h5w_ea_index.specs.Ranges.{block_ranges, each_below, range_from, range_of_part, ranges_of_data, ranges_of_super_block}
use Rattle.h5w_ea_index.proofs.StandingLemmas.{opened_finds}
use Rattle.h5w_opening.specs.Openings.{Opened, chunk_0_len, closed_super, dataset_found, in_chunk_0, is_open, known, looked_for, place_found, refused_dataset, super_found}
use Rattle.h5w_opening.specs.declared.error.OpenError.{OpenError}
use Rattle.h5w_opening.specs.declared.error.OpenError.TheVariants.{Read, Version, Flags, Cut}
use Rattle.h5w_writer_open.specs.declared.index.NoIndex.{NoIndex}
use Rattle.h5w_writer_open.specs.declared.index.NoIndex.TheVariants.{Unnamed, Empty, WrongTotals, Unordered}
use Rattle.h5w_writer_open.specs.OpenAnswers.{IsArrayOf, IsBadBlock, IsIndexOf, IsNotOpened, IsOtherOf, IsTreeOf, array, damaged, refused, tree, unfound, writing_flags}
use Rattle.h5w_writer_open.specs.OpenLaws.{IsLeft, OpenLaws, dataset, older, open_already, unknown}
use Rattle.h5w_writer_open.specs.OpenRanges.{blocks_in, chunk_0_range, chunks_behind, chunks_from, cut_at, first_key, first_open_line, first_past, header_alone, header_len, open_blocks, open_chunks, ranges_refused, refused_index}
use Rattle.h5w_writer.specs.Sessions.{cleared}
use Rattle.h5w_writer_open.proofs.OpenRangeLemmas.{AllBy, both_none, by_both, by_later, by_take, chunks_by, past_none, range_by}
use Rattle.h5w_writer_open.proofs.OverFile.{HasParts, begins, checked, cut_here, dataset_same, end_same, has_parts, header_same, nodes_end, place_same, same_answer, visited}
use Rattle.h5w_writer_open.proofs.OpenLineLemmas.{open_few}
use Rattle.h5w_writer_open.proofs.UndamagedLemmas.{undamaged, visit_of}
use Rattle.h5w_writer_open.proofs.UndamagedTreeLemmas.{all_by, answered, chunks_end, head_ends}
use Rattle.h5w_opening.proofs.OpeningLemmas.{behind_place, behind_super, opened_by, opening_gives}
use Rattle.h5w_opening.proofs.WritingLemmas.{Alike, dataset_alike, root_alike}
use Rattle.h5w_opening.proofs.WritingLemmas as alike
use Rattle.h5w_step_laws.proofs.PlanLaws.{end_long}
use Rattle.h5w_space.specs.Space.{extent}

-- ---- What is found of a file at a moment

-- its superblock is of version 2; or it is open already; or a header has a message that asks to be known; or all is found
pub data Finding (img : List ℕ) (size : ℕ) (name : List ℕ) (m : Moment) : Type 0 where
  is_older : eval img (looked_for size name) ≡ Err (Version 2) → Finding img size name m
  is_writing : is_open m.super.flags ≡ true → eval img (looked_for size name) ≡ Err (Flags m.super.flags) → Finding img size name m
  is_unknown : (at kind : ℕ) → eval img (looked_for size name) ≡ Err (Read (Header at (Unknown kind))) → Finding img size name m
  is_found : (o : Opened) → eval img (looked_for size name) ≡ Ok o → Finding img size name m

abbrev answer : Opened → Result Opened OpenError
answer o = Ok o

abbrev refusal : OpenError → Result Opened OpenError
refusal e = Err e

module _ (img name : List ℕ) (m : Moment) (file : Represents img name m) where
  abbrev size : ℕ
  size = length img

  abbrev s : Super
  s = m.super

  rooted : RootParts img name s m.place file.root.own
  rooted = root_parts img name s m.place file.root.own file.root.checked

  sized : DatasetParts img format_limits s m.place m.dataset m.header
  sized = dataset_parts img format_limits s m.place m.dataset m.header file.header

  abbrev len : ℕ
  len = chunk_0_len sized.header.ranges

  said_known : known len sized.header.messages ≡ Ok (record { len = len; dataset = m.dataset; in_chunk_0 = in_chunk_0 sized.header.messages })
  said_known =
      step_ok (refused_as (λ e. Read (read_errors.Unsupported e)) (described sized.header.messages)) m.dataset _ (ap (refused_as (λ e. Read (read_errors.Unsupported e))) sized.says)
      ∙ ap (λ c. cond c (Err (Read (read_errors.TooManyChunks (needed m.dataset) (limit_of format_limits m.dataset.layout.index))))
      (Ok (record { len = len; dataset = m.dataset; in_chunk_0 = in_chunk_0 sized.header.messages }))) sized.within

  on_header : eval img (looked_for size name) ≡ behind_place s img m.place → Alike (eval img (dataset_messages m.place (header_view (range img m.place 512)))) (eval img (dataset_header_for true m.place)) → Finding img size name m
  on_header so (alike.same e) =
      let read : eval img (dataset_header_for true m.place) ≡ Ok sized.header = e ∙ sized.read in
      is_found _
      (so
      ∙ step_ok (dataset_found m.place img) _ (opened_by s m.place)
      (step_ok (refused_as Read (eval img (dataset_header_for true m.place))) sized.header (λ (h : HeaderFields). known (chunk_0_len h.ranges) h.messages) (ap (refused_as Read) read) ∙ said_known))
  on_header so (alike.unknown at kind e) =
      is_unknown at kind
      (so
      ∙ step_err (dataset_found m.place img) (Read (Header at (Unknown kind))) (opened_by s m.place)
      (step_err (refused_as Read (eval img (dataset_header_for true m.place))) (Read (Header at (Unknown kind))) (λ (h : HeaderFields). known (chunk_0_len h.ranges) h.messages) (ap (refused_as Read) e)))

  on_root : eval img (looked_for size name) ≡ behind_super name img s → Alike (eval img (root_header s.root)) (eval img (root_header_for true s.root)) → Finding img size name m
  on_root so (alike.same e) =
      let read : eval img (root_header_for true s.root) ≡ Ok rooted.header = e ∙ rooted.read in
      on_header
      (so
      ∙ step_ok (place_found name s.root img) m.place (behind_place s img)
      (step_ok (refused_as Read (eval img (root_header_for true s.root))) rooted.header (λ (h : HeaderFields). refused_as Read (linked name h.messages)) (ap (refused_as Read) read) ∙ ap (refused_as Read) rooted.link))
      (dataset_alike img m.place)
  on_root so (alike.unknown at kind e) =
      is_unknown at kind
      (so
      ∙ step_err (place_found name s.root img) (Read (Header at (Unknown kind))) (behind_place s img)
      (step_err (refused_as Read (eval img (root_header_for true s.root))) (Read (Header at (Unknown kind))) (λ (h : HeaderFields). refused_as Read (linked name h.messages)) (ap (refused_as Read) e)))

  supered : super_found size img ≡ closed_super size s
  supered =
      step_ok (refused_as Read (refused_as super_refusal (super_at (range img 0 48)))) s (closed_super size)
      (ap (λ r. refused_as Read (refused_as super_refusal r)) (super_parts size (range img 0 48) s file.super).read)

  -- what is answered of a superblock with these flags that is of version 3
  abbrev by_flags : Bool → Result Super OpenError
  by_flags c = cond c (Err (Flags s.flags)) (cond (nat_lt size s.end) (Err (Cut s.end size)) (Ok s))

  abbrev by_version : Bool → Result Super OpenError
  by_version c = cond c (Err (Version 2)) (by_flags (is_open s.flags))

  on_flags : (s.version == 2) ≡ false → (is_open s.flags ≡ true) ⊎ (is_open s.flags ≡ false) → Finding img size name m
  on_flags new (inl t) =
      is_writing t
      (opening_gives img name size ∙ step_err (super_found size img) (Flags s.flags) (behind_super name img) (supered ∙ ap by_version new ∙ ap by_flags t))
  on_flags new (inr t) =
      let inside = (super_parts size (range img 0 48) s file.super).inside in
      on_root
      (opening_gives img name size
      ∙ step_ok (super_found size img) s (behind_super name img)
      (supered ∙ ap by_version new ∙ ap by_flags t ∙ ap (λ c. cond c (Err (Cut s.end size)) (Ok s)) (le-ltb size s.end inside)))
      (root_alike img s.root)

  on_version : ((s.version == 2) ≡ true) ⊎ ((s.version == 2) ≡ false) → Finding img size name m
  on_version (inl old) = is_older (opening_gives img name size ∙ step_err (super_found size img) (Version 2) (behind_super name img) (supered ∙ ap by_version old))
  on_version (inr new) = on_flags new (cases_Bool (is_open s.flags))

  pub finding : Finding img size name m
  finding = on_version (cases_Bool (s.version == 2))

-- ---- The ranges of a valid file

by_each : (end : ℕ) (f : ℕ → List Extent) (n : ℕ) → ((i : ℕ) → i < n → AllBy end (f i)) → AllBy end (each_below f n)
unfolding each_below
by_each end f zero h = tt
by_each end f (suc n) h = by_both end (each_below f n) (f n) (by_each end f n (λ i lt. h i (omega arith))) (h n (omega arith))

not_both : (c : Bool) → c ≡ true → c ≡ false → ⊥
not_both c is is_not = let clash : true ≡ false = sym is ∙ is_not in cc

some_or_none : {A : Type 0} (x : Option A) → IsSome x ⊎ (x ≡ None)
some_or_none (Some a) = inl refl
some_or_none None = inr refl

module _ (img name : List ℕ) (o : Opened) (m : Moment) (found : HasParts img name o) (file : Represents img name m) (short : length img < 2 ^ 64) where
  abbrev end : ℕ
  end = o.root.end

  same_end : m.super.end ≡ end
  same_end = end_same img name o m found file

  end_small : end < 2 ^ 64
  end_small = let inside = (super_parts (length img) (range img 0 48) m.super file.super).inside in omega (arith, inside, same_end)

  seen : HasAnswer (eval img (index_visit end o.header.dataset))
  seen = visited img name o m found file

  -- chunk 0
  front : o.place + o.header.len ≤ end
  front =
      let c = checked img name o m found file in
      let r = header_read img m.place c.header c.read in
      let us : m.header ≡ block_at m.place r.prefix.total ∷ used_of r.blocks = c.ranges ∙ ap used_of r.ranges in
      let long : m.place + r.prefix.total ≤ m.super.end = c.ends (block_at m.place r.prefix.total) (subst (λ (ws : List Used). Among (block_at m.place r.prefix.total) ws) (sym us) (inl refl)) in
      let len : o.header.len ≡ r.prefix.total =
      found.len
      ∙ ap (λ (h : HeaderFields). chunk_0_len h.ranges) (sym (header_same img name o m found file))
      ∙ ap chunk_0_len r.ranges in
      omega (arith, long, len, same_end, place_same img name o m found file)

  -- the header of an index to which no rows are appended, or the superblock
  super_ends : 48 ≤ end
  super_ends = subst (λ n. 48 ≤ n) same_end (end_long img name m file)

  alone : AllBy end (header_alone o.header.dataset.layout.index o.header.dataset.layout.address)
  alone =
      let at = o.header.dataset.layout.address in
      let k = o.header.dataset.layout.index in
      cond_both (at == undefined) (extent 0 48 ∷ []) (extent at (header_len k) ∷ []) (AllBy end) (λ none. (super_ends, tt))
      (λ named. (head_ends img end o.header.dataset k seen refl (λ e. not_both (at == undefined) (eq-eqb at undefined e) named), tt))

  -- the array
  module _ (v : Store) (x : IsArrayOf img o.header.dataset v) where
    low : first_open_line o.header.dataset < 131060
    low =
        let c = checked img name o m found file in
        let few : needed m.dataset ≤ limit_of format_limits m.dataset.layout.index = ltb-false (limit_of format_limits m.dataset.layout.index) (needed m.dataset) c.within in
        let here = subst (λ (d : Described). needed d ≤ limit_of format_limits d.layout.index) (dataset_same img name o m found file) few in
        open_few o.header.dataset (cut_here img name o m found file).chunked.rows here x.kind

    rests : Rests img m (λ key. map_of v key.i) (record { end = end; limit = 1024; free = []; retired = []; spare = 0 }) (an_array v)
    rests = (begins img name o m found file (an_array v) x low 1024 1024).rests

    standing : Standing v (record { end = end; limit = 1024; free = []; retired = []; spare = 0 })
    standing = rests.stays

    placed : (k : Part) → IsPart k → place_at_part v k ≢ undefined → place_at_part v k + length_of k ≤ end
    placed k p ne = elim (some_or_none (block_at_part v k)) [
      | inl some ↦
          let b = is_some_of (block_at_part v k) some in
          let long : length (bytes_in v.blocks (number_of k)) ≡ length_of k = ap (λ q. length (bytes_of q)) b.1 ∙ (of_some (IsBlock k) (block_at_part v k) b.0 b.1 (x.array.each k p)).len in
          let live = (standing.live (number_of k) (record { kept = some; placed = ne })).within in
          omega (arith, long, live)
      | inr none ↦ absurd (ne (x.array.unplaced k p none))
    ]

    parted : (k : Part) → IsPart k → AllBy end (range_of_part v k)
    parted k p = range_by end (place_at_part v k) (length_of k) (placed k p)

    abbrev first : ℕ
    first = first_open_line o.header.dataset

    late : (k : Part) → IsPart k → AllBy end (range_from first v k)
    late k p = cond_both (nat_lt first (past k)) (range_of_part v k) [] (AllBy end) (λ t. parted k p) (λ t. tt)

    second : (s : ℕ) → s < 13 → (c : Bool) → nat_lt s 4 ≡ c → AllBy end (cond c [] (range_from first v (secondary_of s)))
    second s lt true e = tt
    second s lt false e = late (secondary_of s) (ltb-false s 4 e, omega arith)

    blocks_by : AllBy end (block_ranges first v)
    blocks_by =
        by_both end (range_of_part v header ++ range_of_part v index_block) (each_below (ranges_of_super_block first v) 13)
        (by_both end (range_of_part v header) (range_of_part v index_block) (parted header tt) (parted index_block tt))
        (by_each end (ranges_of_super_block first v) 13 (λ s lt.
        by_both end (if nat_lt s 4 then [] else range_from first v (secondary_of s)) (ranges_of_data first v s) (second s lt (nat_lt s 4) refl)
        (by_each end (λ b. range_from first v (data_of s b)) (super_block_of s).blocks (λ b inside. late (data_of s b) (omega arith, inside)))))

    chunk_ends : (i : ℕ) → first_open_line o.header.dataset ≤ i → i < first_open_line o.header.dataset + (131060 - first_open_line o.header.dataset) → map_of v i ≢ undefined → map_of v i + chunk_bytes o.header.dataset ≤ end
    chunk_ends i from below named =
        let same_d = dataset_same img name o m found file in
        let key : Key = record { i = i; j = 0 } in
        let finds = opened_finds img (first_open_line o.header.dataset) o.header.dataset v x.kind (sym x.at) low x.array x.clean x.opened in
        let a = file.index.answered key (λ kind. let t = low in omega arith) in
        let read : eval img (in_place o.header.dataset) ≡ Ok file.index.blocks = subst (λ (d : Described). eval img (in_place d) ≡ Ok file.index.blocks) same_d file.index.read in
        let blocks : file.index.blocks ≡ blocks_in_place v = same_answer (eval img (in_place o.header.dataset)) file.index.blocks (blocks_in_place v) read finds.says in
        let here : eval img (address_behind (blocks_in_place v) key) ≡ Ok a.address = subst (λ (b : InPlace). eval img (address_behind b key) ≡ Ok a.address) blocks a.is in
        let address : a.address ≡ map_of v i = same_answer (eval img (address_behind (blocks_in_place v) key)) a.address (map_of v i) here (finds.found key from (let t = low in omega arith)) in
        let among = a.chunk (λ e. named (sym address ∙ e)) in
        let ends = file.index.ends (chunk_at a.address (chunk_bytes m.dataset)) (among_right (chunk_at a.address (chunk_bytes m.dataset)) m.fixed m.behind among) in
        omega (arith, ends, address, same_end, ap chunk_bytes same_d)

    chunks_are_by : AllBy end (chunks_from v (chunk_bytes o.header.dataset) (first_open_line o.header.dataset) (131060 - first_open_line o.header.dataset))
    chunks_are_by = chunks_by end (chunk_bytes o.header.dataset) v (first_open_line o.header.dataset) (131060 - first_open_line o.header.dataset) chunk_ends

  -- the tree
  module _ (place : ℕ) (v : TreeIndex) (x : IsTreeOf img o.header.dataset place v) where
    abbrev bytes : ℕ
    bytes = chunk_bytes o.header.dataset

    tree_blocks : AllBy end (blocks_in o.header.dataset (a_tree place v))
    tree_blocks =
        let first : Key = first_key o.header.dataset in
        let head = head_ends img end o.header.dataset Tree seen x.kind x.named in
        (super_ends, (omega (arith, head, x.at), all_by end (ranges_from first v) (needed_ends end first v x.tree.kept (nodes_end img name o m found file place v x))))

    tree_chunks : AllBy end (chunks_behind bytes (first_open_line o.header.dataset) (records v))
    tree_chunks =
        let rests : Rests img m (λ key. address_of v key) (record { end = end; limit = 1024; free = []; retired = []; spare = 0 }) (a_tree place v) = (begins img name o m found file (a_tree place v) x tt 1024 1024).rests in
        let same : AreSame (behind_of bytes v) m.behind = subst (λ n. AreSame (behind_of n v) m.behind) (ap chunk_bytes (dataset_same img name o m found file)) rests.behind in
        chunks_end end bytes (first_open_line o.header.dataset) v m.behind x.tree.kept same
        (ends_right end m.fixed m.behind (subst (λ n. AllEndBy n (m.fixed ++ m.behind)) same_end file.index.ends))

  all_within : (a : Result IndexView NoIndex) → IsIndexOf img o.header.dataset a → AllBy end (chunk_0_range o ∷ open_blocks o.header.dataset a) × AllBy end (open_chunks o.header.dataset a)
  all_within (Err why) x = ((front, alone), tt)
  all_within (Ok (an_array v)) x = ((front, blocks_by v x), chunks_are_by v x)
  all_within (Ok (a_tree place v)) x = ((front, tree_blocks place v x), tree_chunks place v x)

  pub no_range : (a : Result IndexView NoIndex) → IsIndexOf img o.header.dataset a → ranges_refused o a ≡ None
  no_range a x =
      let h = all_within a x in
      let blocks = chunk_0_range o ∷ open_blocks o.header.dataset a in
      let chunks = open_chunks o.header.dataset a in
      let near : AllBy (2 ^ 64 - 1) (take 3 blocks ++ chunks) = by_later end (2 ^ 64 - 1) (take 3 blocks ++ chunks) (let t = end_small in omega arith) (by_both end (take 3 blocks) chunks (by_take end 3 blocks h.0) h.1) in
      both_none (option_map (cut_at 0) (first_past (2 ^ 64 - 1) (take 3 blocks ++ chunks))) (option_map (cut_at end) (first_past end (blocks ++ chunks)))
      (ap (option_map (cut_at 0)) (past_none (2 ^ 64 - 1) (take 3 blocks ++ chunks) near))
      (ap (option_map (cut_at end)) (past_none end (blocks ++ chunks) (by_both end blocks chunks h.0 h.1)))

  -- no block of the index is refused
  pub no_bad : (at : ℕ) (f : BlockFault) → IsBadBlock img o.header.dataset at f → ⊥
  no_bad at f (array kind named bad) = undamaged img end (first_open_line o.header.dataset) at o.header.dataset f seen kind named bad
  no_bad at f (tree kind named bad) =
      let index : IsIndex img m.super.end o.header.dataset m.fixed m.behind = subst (λ (d : Described). IsIndex img m.super.end d m.fixed m.behind) (dataset_same img name o m found file) file.index in
      answered img m.super.end at o.header.dataset m.fixed m.behind f index kind named bad

  -- each tree is kept
  tree_kept : (v : TreeIndex) → o.header.dataset.layout.index ≡ Tree → o.header.dataset.layout.address ≢ undefined → IsStanding img o.header.dataset.layout.address (first_key o.header.dataset) v → IsShaped v → TreeIs v
  tree_kept v kind named standing shaped =
      let there = visit_of img end o.header.dataset Tree seen kind named in
      (opened_is_kept img o.header.dataset.layout.address end (chunk_bytes o.header.dataset) (first_key o.header.dataset) v there.0 standing short shaped there.1).kept

  pub never_wrong : IsOtherOf img o.header.dataset HasWrongTotals → ⊥
  never_wrong x = let w = x.other in w.wrong (tree_kept w.tree x.kind x.named w.standing w.shaped).sound

  pub never_unordered : IsOtherOf img o.header.dataset IsUnordered → ⊥
  never_unordered x = let u = x.other in u.unordered (tree_kept u.tree x.kind x.named u.standing u.shaped).rises

-- ---- Why it is not opened

left_by : (img name : List ℕ) (o : Opened) (e : OpenError) (a : Result IndexView NoIndex) (r : Option OpenError) → eval img (looked_for (length img) name) ≡ Ok o → IsIndexOf img o.header.dataset a → refused_dataset o ≡ r
    → option_or r (refused_index o.header.dataset a) ≡ Some e → (IsOtherOf img o.header.dataset HasWrongTotals → ⊥) → (IsOtherOf img o.header.dataset IsUnordered → ⊥) → IsLeft img (length img) name e
left_by img name o e a (Some f) is x given h wrong unordered = dataset o e is (given ∙ h)
left_by img name o e (Ok v) None is x given h wrong unordered = absurd cc
left_by img name o e (Err Unnamed) None is x given h wrong unordered = absurd cc
left_by img name o e (Err Empty) None is x given h wrong unordered = absurd cc
left_by img name o e (Err WrongTotals) None is x given h wrong unordered = absurd (wrong x)
left_by img name o e (Err Unordered) None is x given h wrong unordered = absurd (unordered x)

same_refusal : (e f : OpenError) → refusal e ≡ refusal f → e ≡ f
same_refusal e f h = cc

pub left : (img name : List ℕ) (rows columns : ℕ) (values : List ℤ) (sm : Summary) (e : OpenError) → length img < 2 ^ 64 → Valid img name sm → Reads img name rows columns values → IsNotOpened img (length img) name e
    → IsLeft img (length img) name e
left img name rows columns values sm e short valid reads why =
    let f = opens img name rows columns values sm valid reads in
    go f.0 f.1 e why
  where
    unfound_by : (m : Moment) → Represents img name m → (g : OpenError) → eval img (looked_for (length img) name) ≡ Err g → Finding img (length img) name m → IsLeft img (length img) name g
    unfound_by m file g is (is_older h) = subst (IsLeft img (length img) name) (same_refusal (Version 2) g (sym h ∙ is)) older
    unfound_by m file g is (is_writing t h) = subst (IsLeft img (length img) name) (same_refusal (Flags m.super.flags) g (sym h ∙ is)) (open_already m.super.flags t)
    unfound_by m file g is (is_unknown at kind h) = subst (IsLeft img (length img) name) (same_refusal (Read (Header at (Unknown kind))) g (sym h ∙ is)) (unknown at kind h)
    unfound_by m file g is (is_found o h) = let clash : answer o ≡ refusal g = sym h ∙ is in absurd cc

    go : (m : Moment) → Represents img name m → (r : OpenError) → IsNotOpened img (length img) name r → IsLeft img (length img) name r
    go m file r (unfound g is) = unfound_by m file g is (finding img name m file)
    go m file r (damaged o at f is bad) = absurd (no_bad img name o m (has_parts img name (length img) o is) file short at f bad)
    go m file r (refused o a g is x h) =
        left_by img name o g a (refused_dataset o) is x refl (ap (λ r. option_or r (option_or (refused_dataset o) (refused_index o.header.dataset a))) (sym (no_range img name o m (has_parts img name (length img) o is) file short a x)) ∙ h)
        (never_wrong img name o m (has_parts img name (length img) o is) file short) (never_unordered img name o m (has_parts img name (length img) o is) file short)

closed_flags : (flags : ℕ) → is_open flags ≡ false → cleared (writing_flags flags) ≡ flags
closed_flags flags h =
    let p = shut (flags % 2 == 0) (flags / 4 % 2 == 0) h in
    let low : flags % 2 ≡ 0 = eqb-true (flags % 2) 0 p.0 in
    let high : flags / 4 % 2 ≡ 0 = eqb-true (flags / 4 % 2) 0 p.1 in
    omega arith
  where
    shut : (a b : Bool) → (not a || not b) ≡ false → (a ≡ true) × (b ≡ true)
    shut true true e = (refl, refl)
    shut true false e = absurd cc
    shut false b e = absurd cc

pub open_laws : OpenLaws
open_laws = record { valid = left; closes = closed_flags }
