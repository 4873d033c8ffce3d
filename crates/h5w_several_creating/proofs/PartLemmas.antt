-- One dataset of a file that is created, once the pieces of the creation are shown.
use Rattle.std.proofs.Common.{◌≡◌, ℕ, ◌*◌, ◌^◌, ◌<◌, ◌≤◌, false, List, [], ◌∷◌, length, Ok, refl, sym, ◌∙◌, ap, subst, inl, arith}
use Rattle.std.specs.Prelude.{None, Some, Option, replicate, unwrap_or, IfSome, nat_lt}
use Rattle.std.proofs.lemmas.Bool.{le-ltb}
use Rattle.std.proofs.lemmas.List.{length-replicate}
use Rattle.h5w_model.specs.Datasets.{Described}
use Rattle.h5w_model.specs.Findings.{Used}
use Rattle.h5w_model.specs.Images.{Holds}
use Rattle.h5w_model.specs.Logs.{Log}
use Rattle.h5w_model.specs.Numbers.{range}
use Rattle.h5w_model.specs.Prefixed.{PrefixedEach}
use Rattle.h5w_model.specs.Superblock.{super_at}
use Rattle.h5w_model.specs.Tables.{chunks_across, format_limits, limit_of, needed}
use Rattle.h5w_model.specs.Trees.{bthd_at, bthd_bytes, bthd_len}
use Rattle.h5w_model.specs.declared.cell.IndexKind.{IndexKind}
use Rattle.h5w_model.specs.declared.cell.IndexKind.TheVariants.{Array, Tree}
use Rattle.h5w_model.specs.declared.cell.Key.{Key}
use Rattle.h5w_model.specs.declared.root.Super.{Super}
use Rattle.h5w_model.proofs.ImageLemmas.{Holds-front, Holds-rest}
use Rattle.h5w_model.proofs.IntegerLemmas.{int_size_bounds}
use Rattle.h5w_space.specs.Space.{Space}
use Rattle.h5w_chunks.specs.Grids.{fill_cell}
use Rattle.h5w_step_laws.specs.Files.{chunk_0}
use Rattle.h5w_step_laws.specs.Spelled.{spelled_header}
use Rattle.h5w_step_laws.proofs.SpelledLemmas.{spelled_stands}
use Rattle.h5w_step_laws.specs.Logs.{Goes}
use Rattle.h5w_step_laws.specs.Moments.{Moment, Represents, all_used}
use Rattle.h5w_step_laws.specs.Steps.{OffAll}
use Rattle.h5w_step_laws.proofs.FoundLemmas.{moment_found}
use Rattle.h5w_step_laws.proofs.GoesLemmas.{begin_goes, reads_now}
use Rattle.h5w_step_laws.proofs.MomentLemmas.{super_parts}
use Rattle.h5w_array_laws.proofs.CreatedLemmas.{created_stands}
use Rattle.h5w_flush_laws.specs.Flushes.{IsBegun}
use Rattle.h5w_flush_laws.specs.Knowledge.{KnownHeld}
use Rattle.h5w_flush_laws.specs.Spaces.{AllLive}
use Rattle.h5w_bt_index.specs.Index.{no_tree}
use Rattle.h5w_tree_index_laws.proofs.TreeRestLemmas.{tree_begins}
use Rattle.h5w_index.specs.Flushes.{Begins}
use Rattle.h5w_index.specs.Views.{IndexView, IsClean, IsSound, a_tree, address_in, an_array}
use Rattle.h5w_index.proofs.BeginLemmas.{index_begins}
use Rattle.h5w_creation_laws.specs.CreatedFiles.{CreatedFile, IsCreatable, empty_tree}
use Rattle.h5w_creation_laws.proofs.CreatedLaws.{no_bands}
use Rattle.h5w_creation_laws.proofs.IndexLemmas.{tree_at}
use Rattle.h5w_creation_laws.proofs.RootLemmas.{look_at}
use Rattle.h5w_creation_laws.proofs.SizeLemmas.{tree_long}
use Rattle.h5w_creation.specs.Made.{IsNewIndex}
use Rattle.h5w_several_creation_laws.specs.SeveralFiles.{block_behind, described_at, end_behind, end_of, header_at, index_at, index_behind, moment_at, root_ranges, set_at, super_of}
use Rattle.h5w_several_creation_laws.proofs.SetLemmas.{long_at, spellable_at}
use Rattle.h5w_several_laws.specs.Turns.{Entry}
use Rattle.h5w_several_laws.proofs.BesideLemmas.{settled_apart}
use Rattle.h5w_writer.specs.Creations.{places_to}
use Rattle.h5w_writer.specs.Openings.{IsOver, opened_log}
use Rattle.h5w_writer.specs.PartLaws.{RunsAs, rooted}
use Rattle.h5w_writer.specs.Past.{IsCounted}
use Rattle.h5w_writer.specs.Sessions.{Session}
use Rattle.h5w_writer.proofs.OpenedLemmas.{over_as}
use Rattle.h5w_writer.proofs.PartLemmas.{part_laws}
use Rattle.h5w_writer.proofs.StateLemmas.{up_some}
use Rattle.h5w_several_open.specs.Datasets.{IsEntry}
use Rattle.h5w_several_open.proofs.BeginLemmas.{known_of, live_own, off_own, own_is, runs_as}
use Rattle.h5w_several_creating.specs.Created.{created_part}

-- ---- What is counted with

cell_long : (d : Described) (value : Option (List ℕ)) → d.fill.value ≡ value → IfSome value (λ (b : List ℕ). length b ≡ d.int_type.size) → length (fill_cell d) ≡ d.int_type.size
cell_long d None is sized = ap (λ (x : Option (List ℕ)). length (unwrap_or x (replicate d.int_type.size 0))) is ∙ length-replicate d.int_type.size 0
cell_long d (Some b) is sized = ap (λ (x : Option (List ℕ)). length (unwrap_or x (replicate d.int_type.size 0))) is ∙ sized

counted_at : (place : ℕ) (f : CreatedFile) → IsCreatable f → IsCounted (described_at place f)
counted_at place f is =
    let sizes = int_size_bounds f.int_type.size is.int_type in
    record {
      rows = omega (arith, is.some_rows);
      cols = omega (arith, is.some_cols);
      some = omega (arith, sizes.0);
      few = omega (arith, sizes.1);
      small = omega (arith, is.small);
      fill = cell_long (described_at place f) f.fill.value refl is.fill;
      columns = omega (arith, is.some_columns);
      across = up_some f.columns f.chunk_cols (omega (arith, is.some_cols)) (omega (arith, is.some_columns));
    }

pub no_chunk : (place : ℕ) (f : CreatedFile) → IsCreatable f → needed (described_at place f) ≡ 0
no_chunk place f is = ap (λ (n : ℕ). n * chunks_across (described_at place f)) (no_bands f.chunk_rows is.some_rows) ∙ omega arith

none_needed : (place : ℕ) (f : CreatedFile) → IsCreatable f → nat_lt (limit_of format_limits f.index) (needed (described_at place f)) ≡ false
none_needed place f is =
    let none = no_chunk place f is in
    le-ltb (limit_of format_limits f.index) (needed (described_at place f)) (omega (arith, none))

-- ---- The dataset

module _ (fs : List CreatedFile) (limit budget : ℕ) (img : List ℕ) (many : 1 ≤ length fs) (low : 1024 * length fs ≤ limit) (high : limit ≤ 2 ^ 40) where
  abbrev root : Super
  root = super_of 5 fs

  abbrev t : Space
  t = places_to (end_of fs) limit

  module _ (place : ℕ) (f : CreatedFile) (v : IndexView) (is : IsCreatable f) (small : end_behind place f < 2 ^ 62) (within : end_behind place f ≤ end_of fs) (holds : Holds img (set_at place f))
      (here : Represents img f.name (moment_at (super_of 5 fs) (root_ranges fs) place f)) (sound : IsSound v) (index : IsNewIndex f.index (index_behind place f) (block_behind place f) v) where
    abbrev m : Moment
    m = moment_at (super_of 5 fs) (root_ranges fs) place f

    abbrev s : Session
    s = created_part root t budget place f v

    abbrev log : Log
    log = opened_log img f.columns []

    abbrev address : Key → ℕ
    address = λ key. address_in v key

    index_holds : Holds img (index_at f.index place f)
    index_holds = Holds-front img (index_at f.index place f) (header_at place f ∷ []) holds

    begun : IsBegun m t
    begun = record { end = refl; none_free = refl; none_retired = refl }

    begins : (k : IndexKind) → f.index ≡ k → IsNewIndex k (index_behind place f) (block_behind place f) v → Begins img f.name m t v
    begins Array e new =
        let made = new.2 in
        let pair = subst (λ (j : IndexKind). Holds img (index_at j place f)) e index_holds in
        let stands = created_stands (index_behind place f) (block_behind place f) new.0 img made (omega (arith, small)) (omega (arith, small)) pair.1.0 pair.0 in
        subst (λ (x : IndexView). Begins img f.name m t x) (sym new.1)
        (index_begins img f.name m t (an_array new.0) (subst IsSound new.1 sound) made.changed stands here e (sym made.header_at) begun)
    begins Tree e new =
        let own = subst (λ (j : IndexKind). Holds img (index_at j place f)) e index_holds in
        let stands = tree_begins img (index_behind place f)
        (ap (λ (b : List ℕ). bthd_at b (index_behind place f)) (look_at img (index_behind place f) bthd_len (bthd_bytes empty_tree) own.0 tree_long) ∙ tree_at (index_behind place f)) in
        subst (λ (x : IndexView). Begins img f.name m t x) (sym new) (index_begins img f.name m t (a_tree (index_behind place f) no_tree) (subst IsSound new sound) refl stands here e refl begun)

    clean : (k : IndexKind) → IsNewIndex k (index_behind place f) (block_behind place f) v → IsClean v
    clean Array new = subst IsClean (sym new.1) new.2.changed
    clean Tree new = subst IsClean (sym new) refl

    file : Begins img f.name m t v
    file = begins f.index refl index

    header_kept : chunk_0 img place ≡ spelled_header (described_at place f)
    header_kept =
        let own = Holds-rest img (index_at f.index place f) (header_at place f ∷ []) holds in
        let long = long_at place f is small in
        (spelled_stands img format_limits root place (described_at place f) (spellable_at place f is small) own.0 (omega (arith, long, within)) (none_needed place f is)).chunk

    over : IsOver s img m
    over = record {
      knows = file.knows;
      held = file.held;
      keeps = record { root = refl; place = refl; dataset = refl; header = header_kept };
      index = inl file.rests;
      clean = clean f.index index;
      end = refl;
      limit_low = omega (arith, many, low);
      limit_high = high;
      counted = counted_at place f is;
      committed = refl;
      waiting = refl;
      waits = refl;
      early = refl;
      chunks = refl;
      flushing = refl;
      idle = refl;
      running = refl;
    }

    some : 0 < f.columns
    some = omega (arith, is.some_columns)

    each : PrefixedEach f.name log
    each = λ begun. reads_now f.name log m here refl some refl

    goes : Goes f.name log m []
    goes = begin_goes f.name log m refl here refl some refl each

    running : RunsAs s [] log m address [] t
    running =
        let found = moment_found img f.name m here in
        over_as s img 0 f.columns [] found.summary m found.valid found.reads some refl goes over

    -- it is told of no other
    abbrev own : List Used
    own = here.root.own

    abbrev n : Moment
    n = rooted own m

    pub untold : RunsAs s [] log n address [] t
    untold =
        let r = running.running in
        let told = part_laws.others s log r own
        (subst (λ (x : Moment). Represents img f.name (rooted own x)) (sym running.after) (settled_apart.untold img f.name m here))
        (subst (λ (us : List Used). OffAll us own) (sym running.held_is) (off_own img f.name m here))
        (live_own img f.name m r.rest here (subst (λ (x : Moment). AllLive r.rest (all_used x)) running.after r.knows.live)) in
        runs_as s log (rooted own r.after) n r.address address r.held [] r.rest t told (ap (rooted own) running.after) running.address_is running.held_is running.rest_is

    abbrev pub part_entry : Entry
    part_entry = record { name = f.name; moment = n; address = address; held = [] }

    pub is_entry : IsEntry img t f.name part_entry
    is_entry =
        let known : KnownHeld img f.name n address t [] = known_of s log n address [] t untold in
        record {
          name_is = refl;
          knows = known.knows;
          untold = own_is img f.name root place own known.knows.file.root.own here.root.checked known.knows.file.root.checked;
          held_is = known.is;
          behind = refl;
          cols = some;
        }

    pub read_here : super_at (range img 0 48) ≡ Ok root
    read_here = (super_parts (length img) (range img 0 48) root here.super).read
