-- A session over a valid file has what the file has.
use Rattle.std.proofs.Common.{◌≡◌, ◌⊎◌, ℕ, ◌+◌, ◌/◌, ◌%◌, ◌^◌, ◌<◌, ◌≤◌, true, false, List, [], ◌++◌, length, replicate, ℤ, Option, Some, None, Result, Ok, refl, sym, ap, ◌∙◌, subst, inl, inr, arith, Bool}
use Rattle.std.specs.Prelude.{IfSome, ◌==◌}
use Rattle.std.specs.List.{All}
use Rattle.std.specs.Option.{unwrap_or}
use Rattle.std.proofs.lemmas.Bool.{eq-eqb, or_right}
use Rattle.std.proofs.lemmas.List.{length-replicate}
use Rattle.h5w_model.specs.Numbers.{range, undefined}
use Rattle.h5w_model.specs.Programs.{eval}
use Rattle.h5w_model.specs.Superblock.{super_at, super_bytes}
use Rattle.h5w_model.specs.Headers.{header_view}
use Rattle.h5w_model.specs.Datasets.{Described, HeaderFields, dataset_messages, described, is_swmr, linked, root_header, FoundMessage, first_of, layout_kind}
use Rattle.h5w_model.specs.Messages.{is_int_size}
use Rattle.h5w_model.specs.Findings.{Summary, Valid, chunk_bytes, index_visit, tree_visit}
use Rattle.h5w_model.specs.Tables.{Reads, format_limits}
use Rattle.h5w_model.specs.declared.cell.Key.{Key}
use Rattle.h5w_model.specs.declared.cell.IndexKind.{IndexKind}
use Rattle.h5w_model.specs.declared.cell.IndexKind.TheVariants.{Array, Tree}
use Rattle.h5w_model.specs.declared.root.Super.{Super}
use Rattle.h5w_model.proofs.IntegerLemmas.{int_sizes}
use Rattle.h5w_laws.proofs.ResultLemmas.{HasAnswer}
use Rattle.h5w_step_laws.proofs.HeaderLaws.{DatasetParts, RootParts, dataset_parts, root_parts}
use Rattle.h5w_step_laws.specs.Moments.{Moment, Represents}
use Rattle.h5w_step_laws.proofs.MomentLemmas.{super_parts}
use Rattle.h5w_step_laws.proofs.FoundLemmas.{opens}
use Rattle.h5w_space.specs.declared.Extent.{Extent}
use Rattle.h5w_array_laws.specs.ArrayStores.{IsCreated}
use Rattle.h5w_array_laws.proofs.CreatedLemmas.{created_starts}
use Rattle.h5w_flush_laws.specs.Flushes.{IsBegun}
use Rattle.h5w_flush_laws.specs.Knowledge.{KnownHeld}
use Rattle.h5w_flush_laws.proofs.KnownLaws.{begin_knows}
use Rattle.h5w_bt_index.specs.Marks.{clean_of}
use Rattle.h5w_bt_index.specs.Index.{Index, no_tree}
use Rattle.h5w_bt_open.specs.Kept.{ranges_of}
use Rattle.h5w_tree_open_laws.proofs.OpenedStandLemmas.{opened_stands as tree_stands}
use Rattle.h5w_tree_open_laws.proofs.OpenedEndLemmas.{opened_ends}
use Rattle.h5w_index.specs.Views.{IndexView, an_array, a_tree, IsClean, IsSound, IsSoundTree, StandsOn, address_in, header_place, kind_of}
use Rattle.h5w_index.specs.Blocks.{has_no_block}
use Rattle.h5w_index.specs.Flushes.{Begins}
use Rattle.h5w_index.proofs.BeginLemmas.{index_begins}
use Rattle.h5w_ea_index.proofs.StandingLemmas.{opened_stands as array_stands}
use Rattle.h5w_headers.specs.Walks.{root_header_for, dataset_header_for}
use Rattle.h5w_step_laws.specs.Files.{chunk_0, LayoutInChunk0}
use Rattle.h5w_opening.specs.Openings.{Opened, looked_for, in_chunk_0, chunk_0_len}
use Rattle.h5w_opening.proofs.FoundParts.{parts}
use Rattle.h5w_opening.proofs.WritingLemmas.{alike_ok, dataset_alike, root_alike}
use Rattle.h5w_first_flush_laws.specs.FirstFlushes.{no_chunk}
use Rattle.h5w_first_flush_laws.proofs.FirstFlushLemmas.{unnamed_nowhere}
use Rattle.h5w_first_flush_laws.proofs.StartLemmas.{created_blank}
use Rattle.h5w_first_flush_laws.specs.HeaderAlone.{IsHeaderAlone}
use Rattle.h5w_first_flush_laws.proofs.AloneLemmas.{alone_begins}
use Rattle.h5w_writer.specs.Indexes.{IsBlank, IsKeptIndex, Lacks, an_index, a_block}
use Rattle.h5w_writer_open.specs.OpenAnswers.{IsArrayOf, IsBare, IsBlankOf, IsEmptyOf, IsIndexOf, IsTreeOf, opened_session, session_over, writing_flags}
use Rattle.h5w_writer_open.specs.OpenRanges.{first_key, first_open_line}
use Rattle.h5w_writer_open.specs.OpenSteps.{IsCut}
use Rattle.h5w_writer.specs.Openings.{IsOver, flagged_root, opened_log}
use Rattle.h5w_writer.specs.Past.{IsCounted}
use Rattle.h5w_writer.specs.Sessions.{Session}
use Rattle.h5w_writer.specs.Stands.{Stands}
use Rattle.h5w_writer.proofs.OpenedLemmas.{over_laws}
use Rattle.h5w_writer_open.proofs.SaidLemmas.{is_true, said}
use Rattle.h5w_writer.proofs.StartKinds.{blank_none}
use Rattle.h5w_writer.proofs.StateLemmas.{up_some}
use Rattle.h5w_writer_open.proofs.UndamagedLemmas.{visit_of}

pub same_answer : {A E : Type 0} (r : Result A E) (a b : A) → r ≡ Ok a → r ≡ Ok b → a ≡ b
same_answer {A = A} {E = E} r a b h g = let e : ◌≡◌ {A = Result A E} (Ok a) (Ok b) = sym h ∙ g in cc

-- ---- Sizes

small_size : (n : ℕ) → (n ≡ 1) ⊎ ((n ≡ 2) ⊎ ((n ≡ 4) ⊎ (n ≡ 8))) → (0 < n) × (n ≤ 8)
small_size n (inl e) = (omega arith, omega arith)
small_size n (inr (inl e)) = (omega arith, omega arith)
small_size n (inr (inr (inl e))) = (omega arith, omega arith)
small_size n (inr (inr (inr e))) = (omega arith, omega arith)

fill_long : (n : ℕ) (o : Option (List ℕ)) → IfSome o (λ (b : List ℕ). length b ≡ n) → length (unwrap_or o (replicate n 0)) ≡ n
fill_long n (Some b) h = h
fill_long n None h = length-replicate n 0

pub counted : (d : Described) → IsCut d → 0 < d.shape.cols → IsCounted d
counted d c some =
    let size = small_size d.int_type.size (int_sizes d.int_type.size (is_true (is_int_size d.int_type.size) c.typed)) in
    record {
      rows = c.chunked.rows;
      cols = c.chunked.cols;
      some = size.0;
      few = size.1;
      small = c.chunked.small;
      fill = fill_long d.int_type.size d.fill.value c.filled;
      columns = some;
      across = up_some d.shape.cols d.layout.chunk_cols c.chunked.cols some;
    }

-- ---- The index that a session begins with

-- the first line of an array is one that an array can have
abbrev pub IsFirst : Described → IndexView → Type 0
IsFirst d (an_array v) = first_open_line d < 131060
IsFirst d (a_tree place v) = Unit {0}

-- it is sound, and no part of it changed
record IsUnchanged (d : Described) (v : IndexView) : Type 0 where
  kind : d.layout.index ≡ kind_of v
  at_place : d.layout.address ≡ header_place v
  sound : IsSound v
  clean : IsClean v

unchanged : (img : List ℕ) (d : Described) (v : IndexView) → IsIndexOf img d (Ok v) → IsUnchanged d v
unchanged img d (an_array v) x =
    let a : IsArrayOf img d v = x in
    record { kind = a.kind; at_place = sym a.at; sound = a.array; clean = a.clean }
unchanged img d (a_tree place v) x =
    let t : IsTreeOf img d place v = x in
    record { kind = t.kind; at_place = sym t.at; sound = record { index = t.tree.kept; defined = λ e. t.named (sym t.at ∙ e) }; clean = t.clean }

-- a blank one, where the layout names none
record IsUnmade (k : IndexKind) (v : IndexView) : Type 0 where
  kind : k ≡ kind_of v
  sound : IsSound v
  blank : IsBlank v
  clean : IsClean v

unmade : (k : IndexKind) (v : IndexView) → IsBlankOf k v → IsUnmade k v
unmade Array (an_array v) made =
    let c : IsCreated 0 0 v = made in
    record { kind = refl; sound = (created_starts 0 0 v c (omega arith) (omega arith)).array; blank = created_blank 0 0 v c (omega arith) (omega arith); clean = c.changed }
unmade Tree (a_tree place v) (first, none) =
    let sound : IsSoundTree 0 no_tree = record { index = record { shallow = omega arith; sound = omega arith; rises = tt; marked = tt }; defined = λ e. absurd (omega (arith, e)) } in
    record { kind = refl; sound = subst (λ (w : IndexView). IsSound w) (λ i. a_tree (sym first i) (sym none i)) sound; blank = none; clean = subst (λ (w : Index). clean_of w.depth w.root ≡ true) (sym none) refl }
unmade Array (a_tree place v) made = absurd made
unmade Tree (an_array v) made = absurd made

-- one of which the header is there
bare : (at : ℕ) (v : IndexView) → IsBare at v → at < undefined → IsUnmade Array v
bare at (an_array v) made low =
    let c : IsCreated at 0 v = made in
    record { kind = refl; sound = (created_starts at 0 v c low (omega arith)).array; blank = created_blank at 0 v c low (omega arith); clean = c.changed }
bare at (a_tree place v) made low = absurd made

lacking : (at : ℕ) (v : IndexView) → IsBare at v → has_no_block v ≡ true
lacking at (an_array v) made =
    let c : IsCreated at 0 v = made in
    ap (λ p. p == 0) c.index_at
lacking at (a_tree place v) made = absurd made

-- ---- The file at a moment is what was found

-- what was found of it, whoever writes the file
pub record HasParts (img name : List ℕ) (o : Opened) : Type 0 where
  pub super : super_at (range img 0 48) ≡ Ok o.root
  pub root : HeaderFields
  pub root_read : eval img (root_header_for true o.root.root) ≡ Ok root
  pub link : linked name root.messages ≡ Ok o.place
  pub header : HeaderFields
  pub header_read : eval img (dataset_header_for true o.place) ≡ Ok header
  pub says : described header.messages ≡ Ok o.header.dataset
  pub len : o.header.len ≡ chunk_0_len header.ranges
  pub in_chunk : o.header.in_chunk_0 ≡ in_chunk_0 header.messages

pub has_parts : (img name : List ℕ) (size : ℕ) (o : Opened) → eval img (looked_for size name) ≡ Ok o → HasParts img name o
has_parts img name size o is =
    let p = parts img size name o is in
    record { super = p.super; root = p.root; root_read = p.root_read; link = p.link; header = p.header; header_read = p.header_read; says = p.says; len = p.len; in_chunk = p.in_chunk }

module _ (img name : List ℕ) (o : Opened) (m : Moment) (found : HasParts img name o) (file : Represents img name m) where
  rooted : RootParts img name m.super m.place file.root.own
  rooted = root_parts img name m.super m.place file.root.own file.root.checked

  pub checked : DatasetParts img format_limits m.super m.place m.dataset m.header
  checked = dataset_parts img format_limits m.super m.place m.dataset m.header file.header

  pub super_same : m.super ≡ o.root
  super_same = same_answer (super_at (range img 0 48)) m.super o.root (super_parts (length img) (range img 0 48) m.super file.super).read found.super

  root_same : rooted.header ≡ found.root
  root_same =
      let read = alike_ok (eval img (root_header o.root.root)) (eval img (root_header_for true o.root.root)) found.root (root_alike img o.root.root) found.root_read in
      same_answer (eval img (root_header o.root.root)) rooted.header found.root (subst (λ (s : Super). eval img (root_header s.root) ≡ Ok rooted.header) super_same rooted.read) read

  pub place_same : m.place ≡ o.place
  place_same = same_answer (linked name found.root.messages) m.place o.place (subst (λ (h : HeaderFields). linked name h.messages ≡ Ok m.place) root_same rooted.link) found.link

  pub header_same : checked.header ≡ found.header
  header_same =
      let read = alike_ok (eval img (dataset_messages o.place (header_view (range img o.place 512)))) (eval img (dataset_header_for true o.place)) found.header (dataset_alike img o.place) found.header_read in
      same_answer (eval img (dataset_messages o.place (header_view (range img o.place 512)))) checked.header found.header
      (subst (λ p. eval img (dataset_messages p (header_view (range img p 512))) ≡ Ok checked.header) place_same checked.read) read

  pub dataset_same : m.dataset ≡ o.header.dataset
  dataset_same =
      same_answer (described found.header.messages) m.dataset o.header.dataset (subst (λ (h : HeaderFields). described h.messages ≡ Ok m.dataset) header_same checked.says) found.says

  pub cut_here : IsCut o.header.dataset
  cut_here = said found.header.messages o.header.dataset found.says

  pub end_same : m.super.end ≡ o.root.end
  end_same = ap (λ (t : Super). t.end) super_same

  begun_places : (limit : ℕ) → IsBegun m (record { end = o.root.end; limit = limit; free = []; retired = []; spare = 0 })
  begun_places limit = record { end = sym end_same; none_free = refl; none_retired = refl }

  -- ---- The session over it

  -- what is known of the file, and of the index that is kept, is all that is asked
  over : (v : IndexView) (limit budget : ℕ) → KnownHeld img name m (λ key. address_in v key) (session_over o (chunk_0 img o.place) v name limit budget).places m.behind
      → IsKeptIndex img m (λ key. address_in v key) (session_over o (chunk_0 img o.place) v name limit budget).places v → IsClean v → 0 < o.header.dataset.shape.cols → 1024 ≤ limit → limit ≤ 2 ^ 40
      → IsOver (session_over o (chunk_0 img o.place) v name limit budget) img m
  over v limit budget known index clean some enough most = record {
    knows = known.knows;
    held = known.is;
    keeps = record { root = super_same; place = place_same; dataset = dataset_same; header = refl };
    index = index;
    clean = clean;
    end = sym end_same;
    limit_low = enough;
    limit_high = most;
    counted = counted o.header.dataset cut_here some;
    committed = refl;
    waiting = refl;
    waits = refl;
    early = refl;
    chunks = refl;
    flushing = refl;
    idle = refl;
    running = refl;
  }

  pub visited : HasAnswer (eval img (index_visit o.root.end o.header.dataset))
  visited =
      subst (λ (d : Described). HasAnswer (eval img (index_visit o.root.end d))) dataset_same
      (subst (λ n. HasAnswer (eval img (index_visit n m.dataset))) end_same (m.fixed ++ m.behind, file.index.checked))

  -- the nodes of a tree end by the end-of-file address
  pub nodes_end : (place : ℕ) (v : Index) → IsTreeOf img o.header.dataset place v → All (λ (r : Extent). r.at + r.size ≤ o.root.end) (ranges_of v)
  nodes_end place v x =
      let bytes = chunk_bytes o.header.dataset in
      let there = visit_of img o.root.end o.header.dataset Tree visited x.kind x.named in
      opened_ends img place o.root.end bytes (first_key o.header.dataset) v there.0 x.tree.standing x.tree.kept (ap (λ n. eval img (tree_visit o.root.end bytes n)) x.at ∙ there.1)

  module _ (v : IndexView) (x : IsIndexOf img o.header.dataset (Ok v)) (below : IsFirst o.header.dataset v) (limit budget : ℕ) where
    abbrev s : Session
    s = session_over o (chunk_0 img o.place) v name limit budget

    same : IsUnchanged m.dataset v
    same = subst (λ (d : Described). IsUnchanged d v) (sym dataset_same) (unchanged img o.header.dataset v x)

    stands : (u : IndexView) → IsIndexOf img o.header.dataset (Ok u) → IsUnchanged m.dataset u → IsFirst o.header.dataset u → StandsOn u img
    stands (an_array u) y is low =
        let a : IsArrayOf img o.header.dataset u = y in
        array_stands img m.super.end (first_open_line o.header.dataset) m.dataset m.fixed m.behind u file.index is.kind is.at_place low a.array a.clean a.opened
    stands (a_tree place u) y is any =
        let t : IsTreeOf img o.header.dataset place u = y in
        let inside = (super_parts (length img) (range img 0 48) m.super file.super).inside in
        let small : o.root.end < 2 ^ 64 = omega (arith, inside, ap (λ (s : Super). s.end) super_same, t.tree.short) in
        tree_stands img place o.root.end (first_key o.header.dataset) u t.tree (nodes_end place u t) small

    pub begins : Begins img name m s.places v
    begins = index_begins img name m s.places v same.sound same.clean (stands v x same below) file same.kind same.at_place (begun_places limit)

    pub is_over : 0 < o.header.dataset.shape.cols → 1024 ≤ limit → limit ≤ 2 ^ 40 → IsOver s img m
    is_over some enough most = over v limit budget (record { knows = begins.knows; is = begins.held }) (inl begins.rests) same.clean some enough most

  -- ---- The session over a file whose index is not there yet

  layout_here : o.header.in_chunk_0 ≡ true → LayoutInChunk0 img m.place
  layout_here inside h y read first =
      let chosen : Option FoundMessage → Bool = λ x. elim x [ Some f ↦ f.in_chunk_0 | None ↦ false ] in
      let same : h ≡ checked.header = same_answer (eval img (dataset_messages m.place (chunk_0 img m.place))) h checked.header read checked.read in
      let here : in_chunk_0 checked.header.messages ≡ true = ap (λ (g : HeaderFields). in_chunk_0 g.messages) header_same ∙ sym found.in_chunk ∙ inside in
      let at : first_of layout_kind checked.header.messages ≡ Some y = ap (λ (g : HeaderFields). first_of layout_kind g.messages) (sym same) ∙ first in
      sym (ap chosen at) ∙ here

  -- a blank index is kept, and no chunk of the file has an address
  blank_over : (v : IndexView) (limit budget : ℕ) → IsUnmade m.dataset.layout.index v → Lacks img m.dataset v → KnownHeld img name m no_chunk (session_over o (chunk_0 img o.place) v name limit budget).places m.behind → 0 < o.header.dataset.shape.cols → 1024 ≤ limit
      → limit ≤ 2 ^ 40 → IsOver (session_over o (chunk_0 img o.place) v name limit budget) img m
  blank_over v limit budget blank lacks knows some enough most =
      let known = subst (λ (f : Key → ℕ). KnownHeld img name m f (session_over o (chunk_0 img o.place) v name limit budget).places m.behind) (λ i key. sym (blank_none v blank.blank key) i) knows in
      over v limit budget known (inr (record { kind = blank.kind; lacks = lacks; sound = blank.sound; blank = blank.blank; map = λ key. refl })) blank.clean some enough most

  module _ (v : IndexView) (absent : o.header.dataset.layout.address ≡ undefined) (made : IsBlankOf o.header.dataset.layout.index v) (inside : o.header.in_chunk_0 ≡ true) (limit budget : ℕ) where
    abbrev begun : Session
    begun = session_over o (chunk_0 img o.place) v name limit budget

    blank : IsUnmade m.dataset.layout.index v
    blank = subst (λ (d : Described). IsUnmade d.layout.index v) (sym dataset_same) (unmade o.header.dataset.layout.index v made)

    unnamed : m.dataset.layout.address ≡ undefined
    unnamed = ap (λ (d : Described). d.layout.address) dataset_same ∙ absent

    known : KnownHeld img name m no_chunk begun.places m.behind
    known = begin_knows img name m no_chunk begun.places file (unnamed_nowhere img name m file unnamed).map (begun_places limit) (λ e. layout_here inside)

    pub is_begun : 0 < o.header.dataset.shape.cols → 1024 ≤ limit → limit ≤ 2 ^ 40 → IsOver begun img m
    is_begun = blank_over v limit budget blank (an_index unnamed) known

  -- ---- The session over a file whose array is a header alone

  module _ (v : IndexView) (x : IsEmptyOf img o.header.dataset) (made : IsBare o.header.dataset.layout.address v) (low : o.header.dataset.layout.address < undefined) (limit budget : ℕ) where
    alone : IsHeaderAlone img m.dataset
    alone = subst (IsHeaderAlone img) (sym dataset_same) (record { kind = x.kind; named = x.named; fields = x.empty.fields; read = x.empty.read; none = x.empty.none })

    bare_blank : IsUnmade m.dataset.layout.index v
    bare_blank = subst (λ (k : IndexKind). IsUnmade k v) (sym alone.kind) (bare o.header.dataset.layout.address v made low)

    pub is_bare : 0 < o.header.dataset.shape.cols → 1024 ≤ limit → limit ≤ 2 ^ 40 → IsOver (session_over o (chunk_0 img o.place) v name limit budget) img m
    is_bare =
        let begun = alone_begins img name m (session_over o (chunk_0 img o.place) v name limit budget).places file alone (begun_places limit) in
        blank_over v limit budget bare_blank (a_block alone (lacking o.header.dataset.layout.address v made)) (record { knows = begun.0.knows; is = begun.1 })

-- ---- The flags

pub both_set : (flags : ℕ) → (writing_flags flags % 2 ≡ 1) × (writing_flags flags / 4 % 2 ≡ 1)
both_set flags = (omega arith, omega arith)

pub swmr : (s : Super) → is_swmr (record s { flags = writing_flags s.flags }) ≡ true
swmr s =
    let b = both_set s.flags in
    or_right (s.version == 2) ((writing_flags s.flags % 2) == (writing_flags s.flags / 4 % 2)) (eq-eqb (writing_flags s.flags % 2) (writing_flags s.flags / 4 % 2) (b.0 ∙ sym b.1))

-- ---- The session that was opened

module _ (img name : List ℕ) (size : ℕ) (o : Opened) (v : IndexView) (limit budget rows columns : ℕ) (values : List ℤ) (sm : Summary) (is : eval img (looked_for size name) ≡ Ok o) (some : 0 < o.header.dataset.shape.cols)
    (reads_back : super_at (super_bytes (flagged_root (writing_flags o.root.flags) (session_over o (chunk_0 img o.place) v name limit budget))) ≡ Ok (flagged_root (writing_flags o.root.flags) (session_over o (chunk_0 img o.place) v name limit budget)))
    (valid : Valid img name sm) (reads : Reads img name rows columns values) where
  -- where the session is over each file that the image is
  over_any : ((m : Moment) → Represents img name m → IsOver (session_over o (chunk_0 img o.place) v name limit budget) img m) → Stands (opened_session o (chunk_0 img o.place) v name limit budget) (opened_log img columns values)
  over_any is_so =
      let first = opens img name rows columns values sm valid reads in
      let columns_are : o.header.dataset.shape.cols ≡ columns = ap (λ (d : Described). d.shape.cols) (sym (dataset_same img name o first.0 (has_parts img name size o is) first.1)) ∙ first.4 in
      let t = over_laws.over img name rows columns values sm valid reads (omega (arith, some, columns_are)) in
      let s : Session = session_over o (chunk_0 img o.place) v name limit budget in
      let stands = t.2 s refl (is_so t.0 t.1) in
      over_laws.rewritten s (opened_log img columns values) (writing_flags o.root.flags) false reads_back (swmr o.root) refl refl stands

  pub opened_over : IsIndexOf img o.header.dataset (Ok v) → IsFirst o.header.dataset v → 1024 ≤ limit → limit ≤ 2 ^ 40 → Stands (opened_session o (chunk_0 img o.place) v name limit budget) (opened_log img columns values)
  opened_over x below low high = over_any (λ m file. is_over img name o m (has_parts img name size o is) file v x below limit budget some low high)

  pub started_over : o.header.dataset.layout.address ≡ undefined → IsBlankOf o.header.dataset.layout.index v → o.header.in_chunk_0 ≡ true → 1024 ≤ limit → limit ≤ 2 ^ 40
      → Stands (opened_session o (chunk_0 img o.place) v name limit budget) (opened_log img columns values)
  started_over absent made inside low high = over_any (λ m file. is_begun img name o m (has_parts img name size o is) file v absent made inside limit budget some low high)

  pub bare_over : IsEmptyOf img o.header.dataset → IsBare o.header.dataset.layout.address v → o.header.dataset.layout.address < undefined → 1024 ≤ limit → limit ≤ 2 ^ 40 → Stands (opened_session o (chunk_0 img o.place) v name limit budget) (opened_log img columns values)
  bare_over x made near low high = over_any (λ m file. is_bare img name o m (has_parts img name size o is) file v x made near limit budget some low high)
