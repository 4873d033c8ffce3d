-- A first flush that was planned: the session after it stands over the log with that plan, as one whose index is there.
use Rattle.std.proofs.Common.{◌≡◌, ◌≢◌, ℕ, zero, suc, ◌+◌, ◌*◌, ◌/◌, ◌-◌, ◌<◌, Bool, List, [], ◌∷◌, ◌++◌, length, ℤ, Some, None, refl, sym, ap, ◌∙◌, subst, arith, length-append, append-nil, inl}
use Rattle.std.specs.Prelude.{if◌then◌else◌, unwrap_or}
use Rattle.std.specs.List.{slice_get}
use Rattle.std.proofs.lemmas.Bool.{le-ltb}
use Rattle.std.proofs.Math.Nat.{div-zero}
use Rattle.h5w_model.specs.Images.{image}
use Rattle.h5w_model.specs.Headers.{with_rows_bytes}
use Rattle.h5w_model.specs.Lawful.{first_outside}
use Rattle.h5w_model.specs.Numbers.{undefined}
use Rattle.h5w_model.specs.Messages.{IsIntType}
use Rattle.h5w_model.specs.Tables.{format_limits, limit_of, needed}
use Rattle.h5w_model.specs.Logs.{Log, plans, flushed_in, flushed_rows, appended_in, and_now, div_up}
use Rattle.h5w_model.specs.Datasets.{Described}
use Rattle.h5w_model.specs.Findings.{Used}
use Rattle.h5w_model.specs.declared.cell.Key.{Key}
use Rattle.h5w_model.specs.declared.piece.Write.{Write}
use Rattle.h5w_model.specs.declared.root.Super.{Super}
use Rattle.h5w_step_laws.specs.Needed.{AreFew}
use Rattle.h5w_chunks.specs.Grids.{cells_of, fill_cell}
use Rattle.h5w_chunks.specs.Shares.{touched}
use Rattle.h5w_chunks.specs.Rows.{ChunksApart}
use Rattle.h5w_chunks.specs.Early.{RowsStand}
use Rattle.h5w_chunks.specs.declared.grid.ChunkPlace.{ChunkPlace}
use Rattle.h5w_chunks.proofs.Geometry.{up_lt}
use Rattle.h5w_step_laws.specs.Files.{chunk_0, commit_at, with_index}
use Rattle.h5w_step_laws.specs.Moments.{Moment}
use Rattle.h5w_step_laws.specs.Logs.{image_now}
use Rattle.h5w_step_laws.specs.Sessions.{Runs}
use Rattle.h5w_step_laws.proofs.SessionLaws.{lt-leb-false}
use Rattle.h5w_flush_laws.specs.Knowledge.{KnownHeld}
use Rattle.h5w_flush_laws.specs.Parts.{AreEnded}
use Rattle.h5w_flush_laws.specs.Rows.{IsOutside, IsPlaced, new_chunks}
use Rattle.h5w_flush_laws.specs.Spaces.{Taken}
use Rattle.h5w_first_flush_laws.specs.FirstFlushes.{no_chunk}
use Rattle.h5w_index.specs.Views.{address_in, header_place}
use Rattle.h5w_index.specs.Flushes.{PlanTold}
use Rattle.h5w_index.specs.Naming.{AreNamed, AreTaken, AreTakenBehind}
use Rattle.h5w_index.proofs.MarkLemmas.{mark_laws}
use Rattle.h5w_writer.specs.Sessions.{Session, rows_of, with_rows}
use Rattle.h5w_writer.specs.PartLaws.{RunsAs}
use Rattle.h5w_writer.specs.Past.{Past}
use Rattle.h5w_writer.specs.Stands.{Running}
use Rattle.h5w_pieces.specs.Joined.{AreJoined, IsNaming}
use Rattle.h5w_flush_laws.specs.Chunks.{chunks_for}
use Rattle.h5w_writer.specs.Starts.{IsMadeAt, IsStartFlushed, StartRunning, naming_piece, started_of}
use Rattle.h5w_first_flush_laws.specs.HeaderAlone.{IsHeaderAlone}
use Rattle.h5w_writer.specs.Indexes.{Lacks, an_index, a_block}
use Rattle.h5w_writer.proofs.CreatingLemmas.{no_cells}
use Rattle.h5w_writer.proofs.HeaderAlone.{named_at}
use Rattle.h5w_writer.proofs.EarlyLemmas.{nothing_early}
use Rattle.h5w_writer.proofs.StartingLemmas.{lengths_first}
use Rattle.h5w_writer.proofs.StartPlaces.{first_apart, made_tops, taken_between}
use Rattle.h5w_writer.proofs.FlushLemmas.{each_fits, others_then, placed_then, told_of}
use Rattle.h5w_writer.proofs.StartParts.{HasFirstParts, first_parts}
use Rattle.h5w_writer.proofs.StartKinds.{AreFirstCalls, AreFirstPending, blank_none, first_named, first_pending, made_none}

all_rows : (a b cols : ℕ) → (a + b) * cols ≡ a * cols + b * cols
all_rows a b cols = omega arith

-- ---- Some chunk has its place

-- where chunks stand there are columns
some_columns : (columns c : ℕ) → 0 < div_up columns c → 0 < columns
some_columns columns zero some = absurd (let none = div-zero (columns + zero - 1) in omega (arith, some, none))
some_columns columns (suc c) some = let e = up_lt 0 columns (suc c) (omega arith) some in omega (arith, e)

some_placed : (places : List ChunkPlace) (k : ℕ) (p : ChunkPlace) → slice_get places k ≡ Some p → 0 < length places
some_placed [] k p here = absurd cc
some_placed (q ∷ qs) k p here = omega arith

-- The values that wait are those of rows that were written early and the others; where no two of the chunks meet the cells of all of them stand once
-- the rows are written.
module _ (old new : Session) (log : Log) (x : IsStartFlushed old new) (r : StartRunning old log)
    (stand : ChunksApart old.dataset x.planned.chunks → RowsStand (image_now log) old.dataset (cells_of old.dataset (r.early ++ r.more)) old.dataset.shape.rows (rows_of old) x.planned.chunks x.planned.rows) where
  abbrev all_values : List ℤ
  all_values = r.early ++ r.more

  pub none_then : r.address ≡ no_chunk
  none_then = λ i key. (r.index.map key ∙ blank_none old.index r.index.blank key) i

  none_made : ◌≡◌ {A = Key → ℕ} (λ key. address_in x.made key) no_chunk
  none_made = λ i key. made_none old.dataset.layout.address old.places x.at x.made x.first x.start.made key i

  known : KnownHeld (image_now log) old.name r.after no_chunk r.rest r.held
  known = subst (λ (f : Key → ℕ). KnownHeld (image_now log) old.name r.after f r.rest r.held) none_then (record { knows = r.knows; is = r.holds })

  known_runs : Runs old.name log [] r.after known.knows.held
  known_runs = subst (λ (us : List Used). Runs old.name log [] r.after us) (sym known.is) r.runs

  abbrev told : PlanTold x.planned.named x.planned.between x.planned.moves x.planned.copies x.planned.fixed new.index new.places
  told = told_of old x.made x.first new.index new.places x.planned

  data_set : old.dataset ≡ r.after.dataset
  data_set = sym r.keeps.dataset

  rises : r.after.dataset.shape.rows < rows_of old
  rises = subst (λ (d : Described). d.shape.rows < rows_of old) data_set (let some = x.planned.some in omega arith)

  all_touched : length x.planned.chunks ≡ touched r.after.dataset r.after.dataset.shape.rows (rows_of old)
  all_touched = subst (λ (d : Described). length x.planned.chunks ≡ touched d d.shape.rows (rows_of old)) data_set x.planned.all

  few_after : AreFew (with_rows (rows_of old) r.after.dataset)
  few_after =
      subst (λ (d : Described). AreFew (with_rows (rows_of old) d)) data_set
      (le-ltb (limit_of format_limits old.dataset.layout.index) (needed (with_rows (rows_of old) old.dataset)) x.planned.few)

  -- all places that were taken since the file came to rest
  taken : (tops : List Used) → Taken old.places tops x.first → Taken r.rest (tops ++ chunks_for r.after no_chunk x.planned.chunks) x.planned.between
  taken tops top =
      let early : AreTaken old.dataset no_chunk r.rest old.chunks old.places = subst (λ (f : Key → ℕ). AreTaken old.dataset f r.rest old.chunks old.places) none_then r.written.taken in
      let others : AreTakenBehind old.dataset no_chunk old.chunks x.first x.planned.chunks x.planned.between =
      subst (λ (f : Key → ℕ). AreTakenBehind old.dataset f old.chunks x.first x.planned.chunks x.planned.between) none_made x.planned.taken in
      subst (λ (d : Described). Taken r.rest (tops ++ new_chunks d no_chunk d.shape.rows 0 x.planned.chunks) x.planned.between) data_set
      (taken_between old.dataset no_chunk r.rest old.places x.first x.planned.between old.chunks x.planned.chunks tops early others top)

  apart : ChunksApart r.after.dataset x.planned.chunks
  apart =
      let tops = made_tops old.dataset.layout.address old.places x.at x.made x.first x.start.made in
      first_apart (image_now log) old.name r.after r.rest x.planned.between (rows_of old) x.planned.chunks tops.0 known.knows (taken tops.0 tops.1) rises few_after all_touched

  rows_stand : RowsStand (image_now log) old.dataset (cells_of old.dataset all_values) old.dataset.shape.rows (rows_of old) x.planned.chunks x.planned.rows
  rows_stand = stand (subst (λ (d : Described). ChunksApart d x.planned.chunks) r.keeps.dataset apart)

  some_chunk : 0 < length x.planned.chunks
  some_chunk =
      let d = old.dataset in
      let columns = some_columns d.shape.cols d.layout.chunk_cols x.planned.fits.some in
      let p = rows_stand.placed d.shape.rows 0 (omega arith) (let some = x.planned.some in omega arith) columns in
      some_placed x.planned.chunks _ p.0 p.1.stands

  rows_there : RowsStand (image_now log) r.after.dataset (cells_of r.after.dataset all_values) r.after.dataset.shape.rows (rows_of old) x.planned.chunks x.planned.rows
  rows_there = subst (λ (d : Described). RowsStand (image_now log) d (cells_of d all_values) d.shape.rows (rows_of old) x.planned.chunks x.planned.rows) data_set rows_stand

  count_after : length (r.after.values ++ all_values) ≡ rows_of old * r.after.dataset.shape.cols
  count_after =
      let cols = old.dataset.shape.cols in
      let rows = old.dataset.shape.rows in
      let file : length r.after.values ≡ rows * cols = r.knows.file.count ∙ ap (λ (d : Described). d.shape.rows * d.shape.cols) r.keeps.dataset in
      let others : old.early + (old.waits - old.early) ≡ old.waits = let some = r.some in omega (arith, some) in
      let waits : old.early * cols + (old.waits - old.early) * cols ≡ old.waits * cols = sym (all_rows old.early (old.waits - old.early) cols) ∙ ap (λ (n : ℕ). n * cols) others in
      subst (λ (d : Described). length (r.after.values ++ all_values) ≡ rows_of old * d.shape.cols) data_set
      (length-append r.after.values all_values ∙ omega (arith, file, length-append r.early r.more, r.written.count, r.count, waits, all_rows rows old.waits cols))

  -- the index stays where it was made
  at_place : header_place new.index ≡ x.at
  at_place = told.place ∙ x.planned.names.partly.like.place ∙ x.start.at_place

  same_header : commit_at (image_now log) r.after.place (rows_of old) x.naming ≡ naming_piece old x.naming
  same_header =
      ap (λ (p : ℕ). commit_at (image_now log) p (rows_of old) x.naming) r.keeps.place
      ∙ ap (λ (b : List ℕ). record { at = old.place; piece = with_rows_bytes b (rows_of old) x.naming }) r.keeps.header

  -- where the layout names an index, it is the header of an array alone
  alone_there : Lacks (image_now log) r.after.dataset old.index → r.after.dataset.layout.address ≢ undefined → IsHeaderAlone (image_now log) r.after.dataset
  alone_there (an_index none) named = absurd (named none)
  alone_there (a_block alone lacking) named = alone

  calls : AreFirstCalls (image_now log) r.after r.rest old.places x.first x.planned.between x.at x.naming x.made x.planned.named x.planned.moves new.index new.places (rows_of old) all_values x.planned.rows x.planned.chunks
      x.planned.added x.planned.copies x.planned.fixed x.planned.supers new.pending
  calls = record {
    kind = ap (λ (d : Described). d.layout.index) r.keeps.dataset ∙ x.kind;
    alone = alone_there r.index.lacks;
    made = subst (λ (d : Described). IsMadeAt d.layout.address old.places x.at x.made x.first) data_set x.start.made;
    names = subst (λ (n : ℕ). IsNaming r.after.dataset.layout.address n x.naming) (sym at_place) (subst (λ (d : Described). IsNaming d.layout.address x.at x.naming) data_set x.names);
    rises = rises;
    small = x.planned.small;
    few = few_after;
    count = count_after;
    some = some_chunk;
    named = subst (λ (d : Described). AreNamed d (rows_of old) x.made x.planned.chunks x.planned.added x.planned.named) data_set x.planned.names;
    taken = taken;
    stand = rows_there;
    all = all_touched;
    placed = λ k p here. subst (λ (d : Described). IsPlaced d (λ key. address_in x.made key) (λ key. address_in new.index key) d.shape.rows k p) data_set (placed_then old x.made x.first new.index new.places x.planned k p here);
    others = λ key outside.
        let before : IsOutside old.dataset old.dataset.shape.rows (rows_of old) key = subst (λ (d : Described). IsOutside d d.shape.rows (rows_of old) key) r.keeps.dataset outside in
        others_then old x.made x.first new.index new.places x.planned key before;
    typed = subst (λ (d : Described). IsIntType d.int_type) data_set x.planned.typed;
    filled = subst (λ (d : Described). length (fill_cell d) ≡ d.int_type.size) data_set x.planned.filled;
    fit = each_fits r.after.dataset 0 all_values (subst (λ (d : Described). first_outside d.int_type 0 all_values ≡ None) data_set r.fit);
    plan = x.planned.plan;
    ended = subst (λ (s : Super). AreEnded s new.places.end x.planned.supers) (sym r.keeps.root) x.planned.ended;
    pieces = subst (λ (w : Write). AreJoined x.naming x.planned.rows x.planned.copies x.planned.fixed x.planned.supers w new.pending) (sym same_header) x.pending;
  }

  pending_are : AreFirstPending old.name log r.after x.naming new.index new.places (rows_of old) all_values new.pending
  pending_are =
      first_pending old.name log r.after r.rest old.places x.first x.planned.between new.places x.at x.naming x.made x.planned.named new.index x.planned.moves (rows_of old) all_values x.planned.rows x.planned.chunks
      x.planned.added x.planned.copies x.planned.fixed x.planned.supers new.pending known.knows known_runs r.appended calls

  -- so in the words of h5w_flush_laws
  pub started_parts : HasFirstParts (image_now log) r.after r.rest x.naming new.index new.places (rows_of old) all_values new.pending
  started_parts =
      first_parts old.name log r.after r.rest old.places x.first x.planned.between new.places x.at x.naming x.made x.planned.named new.index x.planned.moves (rows_of old) all_values x.planned.rows x.planned.chunks
      x.planned.added x.planned.copies x.planned.fixed x.planned.supers new.pending known.knows calls

  -- ---- The session after it

  abbrev pub after_start : Moment
  after_start = first_named r.after x.naming new.index (rows_of old) all_values new.places.end

  some_pieces : 0 < length new.pending
  some_pieces =
      let long = lengths_first x.naming x.planned.rows x.planned.copies x.planned.fixed x.planned.supers (naming_piece old x.naming) new.pending x.pending in
      omega (arith, long)

  committed_then : flushed_rows (and_now (plans (length new.pending)) log) ≡ old.committed
  committed_then =
      let chosen : Bool → ℕ = λ b. length (if b then log.values ++ appended_in log.events else flushed_in 0 log.values log.events) / log.columns in
      ap chosen (lt-leb-false (length new.pending) 0 some_pieces) ∙ r.committed

  address_then : unwrap_or x.naming r.after.dataset.layout.address ≡ x.at
  address_then = subst (λ (d : Described). unwrap_or x.naming d.layout.address ≡ x.at) data_set (named_at old.dataset.layout.address old.places x.at x.made x.first x.naming x.start.made x.names)

  -- the chunks of all rows are few then
  few_then : AreFew (with_rows (rows_of old + 0) (with_index x.at (with_rows (rows_of old) old.dataset)))
  few_then =
      subst (λ (n : ℕ). AreFew (with_rows n (with_index x.at (with_rows (rows_of old) old.dataset)))) (let e : rows_of old ≡ rows_of old + 0 = omega arith in e)
      (le-ltb (limit_of format_limits old.dataset.layout.index) (needed (with_rows (rows_of old) old.dataset)) x.planned.few)

  pub start_running : Past (started_of old x.at x.naming new.places new.pending new.index) new.pending (and_now (plans (length new.pending)) log) after_start
      → Running (started_of old x.at x.naming new.places new.pending new.index) new.pending (and_now (plans (length new.pending)) log)
  start_running past = record {
    after = after_start;
    address = λ key. address_in new.index key;
    held = after_start.behind;
    runs = pending_are.runs;
    rest = new.places;
    knows = pending_are.begins.knows;
    holds = pending_are.begins.held;
    keeps = record {
      root = ap (λ (s : Super). record s { end = new.places.end }) r.keeps.root;
      place = r.keeps.place;
      dataset = ap (λ (n : ℕ). with_index n (with_rows (rows_of old) r.after.dataset)) address_then ∙ ap (λ (d : Described). with_index x.at (with_rows (rows_of old) d)) r.keeps.dataset;
      header =
          ap (λ (p : ℕ). chunk_0 (image (image_now log) new.pending) p) (sym r.keeps.place)
          ∙ pending_are.header
          ∙ ap (λ (w : Write). w.piece) same_header;
    };
    index = inl pending_are.begins.rests;
    marks = mark_laws.clean (with_index x.at (with_rows (rows_of old) old.dataset)) (rows_of old) (rows_of old + 0) new.index told.clean;
    early = [];
    written = nothing_early (with_index x.at (with_rows (rows_of old) old.dataset)) new.places (image (image_now log) new.pending) (λ key. address_in new.index key) few_then;
    some = omega arith;
    flushing = λ e. refl;
    more = [];
    waiting = no_cells (with_rows (rows_of old) old.dataset);
    fit = refl;
    count = omega arith;
    appended = append-nil (r.after.values ++ all_values) ∙ r.appended;
    committed = committed_then;
    planned = λ kept waits. absurd cc;
    columns = r.columns;
    past = past;
  }

  pub start_as : Past (started_of old x.at x.naming new.places new.pending new.index) new.pending (and_now (plans (length new.pending)) log) after_start
      → RunsAs (started_of old x.at x.naming new.places new.pending new.index) new.pending (and_now (plans (length new.pending)) log) after_start (λ key. address_in new.index key) after_start.behind new.places
  unfolding start_running
  start_as past = record { running = start_running past; after = refl; address_is = refl; held_is = refl; rest_is = refl }
