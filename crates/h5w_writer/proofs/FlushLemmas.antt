-- A flush that was planned: the session after it stands over the log with that plan.
use Rattle.std.proofs.Common.{◌≡◌, ℕ, zero, suc, ◌+◌, ◌-◌, ◌*◌, ◌<◌, ◌≤◌, Bool, true, false, List, [], ◌∷◌, ◌++◌, ◌/◌, length, ℤ, Some, None, refl, sym, ap, ◌∙◌, subst, arith, length-append, append_assoc, append-nil, inl}
use Rattle.std.specs.Prelude.{if◌then◌else◌}
use Rattle.std.specs.List.{slice_get}
use Rattle.std.proofs.lemmas.Bool.{le-ltb}
use Rattle.h5w_model.specs.Images.{image}
use Rattle.h5w_model.specs.Headers.{with_rows_bytes}
use Rattle.h5w_model.specs.Lawful.{first_outside}
use Rattle.h5w_model.specs.Messages.{IsIntType}
use Rattle.h5w_model.specs.Tables.{format_limits, limit_of, needed}
use Rattle.h5w_model.specs.Logs.{Log, load, plans, flushed_in, flushed_rows, appended_in, and_now}
use Rattle.h5w_model.specs.Datasets.{Described}
use Rattle.h5w_model.specs.Findings.{Used, chunk_bytes}
use Rattle.h5w_model.specs.declared.cell.Key.{Key}
use Rattle.h5w_model.specs.declared.piece.Write.{Write}
use Rattle.h5w_model.specs.declared.root.Super.{Super}
use Rattle.h5w_step_laws.specs.Needed.{AreFew}
use Rattle.h5w_chunks.specs.Grids.{FitsType, IsCut, cells_of, fill_cell}
use Rattle.h5w_chunks.specs.Shares.{touched}
use Rattle.h5w_chunks.specs.Rows.{ChunksApart}
use Rattle.h5w_chunks.specs.Early.{RowsStand}
use Rattle.h5w_chunks.specs.declared.grid.ChunkPlace.{ChunkPlace}
use Rattle.h5w_step_laws.specs.Files.{chunk_0, commit_at}
use Rattle.h5w_space.specs.Space.{Space}
use Rattle.h5w_step_laws.specs.Moments.{Moment}
use Rattle.h5w_step_laws.specs.Logs.{image_now}
use Rattle.h5w_step_laws.specs.Sessions.{Runs}
use Rattle.h5w_step_laws.proofs.SessionLaws.{lt-leb-false}
use Rattle.h5w_flush_laws.specs.Spaces.{Taken}
use Rattle.h5w_flush_laws.specs.Knowledge.{HeldMissed, Holding, KnownHeld, Knows}
use Rattle.h5w_flush_laws.specs.Parts.{Parts, AreEnded, block_writes, flushed_to, pieces_of, IsFlush}
use Rattle.h5w_flush_laws.specs.Rows.{ArePlaced, IsOutside, IsPlaced, new_chunks}
use Rattle.h5w_flush_laws.specs.Flushes.{IsKnownThen, Rests as FileRests}
use Rattle.h5w_flush_laws.proofs.ChunkPlaceLemmas.{places_apart}
use Rattle.h5w_flush_laws.proofs.FlushLaws.{knows_then}
use Rattle.h5w_flush_laws.proofs.RowsLaws.{rows_flush}
use Rattle.h5w_flush_laws.proofs.SessionLaws.{session_laws}
use Rattle.h5w_array_flush_laws.proofs.ArrayLaws.{new_are}
use Rattle.h5w_index.specs.Views.{IndexView, address_in}
use Rattle.h5w_index.specs.Steps.{IsPlan}
use Rattle.h5w_index.specs.Flushes.{IsIndexPart, PlanTold, Rests, RestsClean, index_parts}
use Rattle.h5w_index.specs.Marks.{IsRaised}
use Rattle.h5w_index.specs.Naming.{AreTaken}
use Rattle.h5w_index.specs.Placing.{IsPlacing}
use Rattle.h5w_index.proofs.BehindLemmas.{behind_laws}
use Rattle.h5w_index.proofs.FlushLemmas.{index_is_flush, index_rests_then, plan_tells}
use Rattle.h5w_index.proofs.MarkLemmas.{mark_laws}
use Rattle.h5w_index.proofs.NamingLemmas.{naming_laws}
use Rattle.h5w_index.proofs.PartLemmas.{index_part}
use Rattle.h5w_writer.specs.Sessions.{Session, cutting_of, rows_of, with_rows, IsNamed}
use Rattle.h5w_writer.specs.Flushes.{ArePlanned, IsFlushed, flushed_of, header_piece}
use Rattle.h5w_writer.specs.PartLaws.{IsPartFlushed}
use Rattle.h5w_writer.specs.PartOf.{IsPartOf}
use Rattle.h5w_writer.specs.Past.{IsCounted, Past}
use Rattle.h5w_writer.specs.Stands.{Running}
use Rattle.h5w_types.proofs.RunLemmas.{first_has_cell}
use Rattle.h5w_flush_laws.specs.Chunks.{chunks_for}
use Rattle.h5w_writer.proofs.IndexLemmas.{kept_whole}
use Rattle.h5w_writer.proofs.CreatingLemmas.{no_cells}
use Rattle.h5w_writer.proofs.EarlyLemmas.{nothing_early}
use Rattle.h5w_writer.proofs.PlannedRows.{planned_stand}

-- ---- Values

pub each_fits : (d : Described) (i : ℕ) (vs : List ℤ) → first_outside d.int_type i vs ≡ None → (k : ℕ) (v : ℤ) → slice_get vs k ≡ Some v → FitsType d v
each_fits d i [] none k v at = cc
each_fits d i (w ∷ vs) none zero v at =
    let first = first_has_cell d.int_type i w vs none in
    let same : w ≡ v = one w v at in
    subst (λ (x : ℤ). FitsType d x) same (first.bytes, first.is)
  where
    one : (x y : ℤ) → Some x ≡ Some y → x ≡ y
    one x y e = cc
each_fits d i (w ∷ vs) none (suc k) v at = each_fits d (i + 1) vs (first_has_cell d.int_type i w vs none).rest k v at

-- ---- Rows

-- chunks whose sizes can be counted with are cut as a dataset's
pub cut_of : (d : Described) → IsCounted d → IsCut d
cut_of d c = record { rows = c.rows; cols = c.cols; some = c.some; few = c.few; small = c.small; fill = c.fill }

-- the values of some rows and of those behind them
joined_rows : (some all cols : ℕ) → some ≤ all → some * cols + (all - some) * cols ≡ all * cols
joined_rows some all cols few =
    let split : some * cols + (all - some) * cols ≡ (some + (all - some)) * cols = omega arith in
    split ∙ ap (λ (n : ℕ). n * cols) (let e : some + (all - some) ≡ all = omega (arith, few) in e)

-- ---- What the calls show, of the file that the session knows

-- what a plan leaves
pub told_of : (s : Session) (v : IndexView) (before : Space) (w : IndexView) (t : Space) (x : ArePlanned s v before w t) → PlanTold x.named x.between x.moves x.copies x.fixed w t
told_of s v before w t x = plan_tells x.named x.between x.moves x.copies x.fixed w t x.names.partly.like.sound x.plan

-- each chunk has its place once all is planned: the plan leaves the map
pub placed_then : (s : Session) (v : IndexView) (before : Space) (w : IndexView) (t : Space) (x : ArePlanned s v before w t) (k : ℕ) (p : ChunkPlace) → slice_get x.chunks k ≡ Some p
    → IsPlaced s.dataset (λ key. address_in v key) (λ key. address_in w key) s.dataset.shape.rows k p
placed_then s v before w t x k p at =
    let told = told_of s v before w t x in
    let same : ◌≡◌ {A = Key → ℕ} (λ key. address_in x.named key) (λ key. address_in w key) = λ i key. sym (told.map key) i in
    subst (λ (f : Key → ℕ). IsPlaced s.dataset (λ key. address_in v key) f s.dataset.shape.rows k p) same (x.names.placed k p at)

pub others_then : (s : Session) (v : IndexView) (before : Space) (w : IndexView) (t : Space) (x : ArePlanned s v before w t) (key : Key) → IsOutside s.dataset s.dataset.shape.rows (rows_of s) key → address_in w key ≡ address_in v key
others_then s v before w t x key outside =
    let all = naming_laws.all s.dataset (rows_of s) v x.named x.chunks x.added x.fits x.all (let some = x.some in omega arith) x.names in
    (told_of s v before w t x).map key ∙ all.others key outside

-- the parts of a flush
abbrev pub parts : (m : Moment) (old new : Session) → IsFlushed old new → List ℤ → Parts
parts m old new x more =
    index_parts (chunk_bytes m.dataset) new.index (rows_of old) more x.planned.rows (chunks_for m (λ key. address_in old.index key) x.planned.chunks)
    (told_of old old.index old.places new.index new.places x.planned).copied.placed x.planned.supers new.places.end x.planned.fixed

-- The values that wait are those of rows that were written early and of those behind them. The file is known at the places that it had when it came
-- to rest; since then those of the early rows' chunks were taken.
module _ (old new : Session) (log : Log) (x : IsFlushed old new) (r : Running old [] log) where
  abbrev map_before : Key → ℕ
  map_before key = address_in old.index key

  abbrev all_values : List ℤ
  all_values = r.early ++ r.more

  abbrev told : PlanTold x.planned.named x.planned.between x.planned.moves x.planned.copies x.planned.fixed new.index new.places
  told = told_of old old.index old.places new.index new.places x.planned

  -- the file's index is the session's
  pub index_now : Rests (image_now log) r.after r.address r.rest old.index
  index_now = kept_whole (image_now log) r.after r.address r.rest old.index (subst IsNamed (sym r.keeps.dataset) x.there.named) x.there.made r.index

  same_map : r.address ≡ map_before
  same_map = λ i key. index_now.map key i

  known : KnownHeld (image_now log) old.name r.after map_before r.rest r.held
  known = subst (λ (f : Key → ℕ). KnownHeld (image_now log) old.name r.after f r.rest r.held) same_map (record { knows = r.knows; is = r.holds })

  rests_now : Rests (image_now log) r.after map_before r.rest old.index
  rests_now = subst (λ (f : Key → ℕ). Rests (image_now log) r.after f r.rest old.index) same_map index_now

  data_set : old.dataset ≡ r.after.dataset
  data_set = sym r.keeps.dataset

  -- all new chunks have their places, those of rows that were written early too
  all_taken : AreTaken old.dataset map_before r.rest x.planned.chunks x.planned.between
  all_taken =
      behind_laws.behind_joins old.dataset map_before r.rest old.places x.planned.between old.chunks x.planned.chunks
      (subst (λ (f : Key → ℕ). AreTaken old.dataset f r.rest old.chunks old.places) same_map r.written.taken) x.planned.taken

  placing : IsPlacing old.dataset (rows_of old) old.index r.rest x.planned.chunks x.planned.added x.planned.named x.planned.between
  placing = naming_laws.placing old.dataset (rows_of old) old.index x.planned.named r.rest x.planned.between x.planned.chunks x.planned.added x.planned.names all_taken

  taken : Taken r.rest (chunks_for r.after map_before x.planned.chunks) x.planned.between
  taken = subst (λ (d : Described). Taken r.rest (new_chunks d map_before d.shape.rows 0 x.planned.chunks) x.planned.between) data_set all_taken.taken

  few_after : AreFew (with_rows (rows_of old) r.after.dataset)
  few_after =
      subst (λ (d : Described). AreFew (with_rows (rows_of old) d)) data_set
      (le-ltb (limit_of format_limits old.dataset.layout.index) (needed (with_rows (rows_of old) old.dataset)) x.planned.few)

  rises : r.after.dataset.shape.rows < rows_of old
  rises = subst (λ (d : Described). d.shape.rows < rows_of old) data_set (let some = x.planned.some in omega arith)

  all_touched : length x.planned.chunks ≡ touched r.after.dataset r.after.dataset.shape.rows (rows_of old)
  all_touched = subst (λ (d : Described). length x.planned.chunks ≡ touched d d.shape.rows (rows_of old)) data_set x.planned.all

  each_placed : (k : ℕ) (p : ChunkPlace) → slice_get x.planned.chunks k ≡ Some p → IsPlaced r.after.dataset map_before (λ key. address_in new.index key) r.after.dataset.shape.rows k p
  each_placed k p at = subst (λ (d : Described). IsPlaced d map_before (λ key. address_in new.index key) d.shape.rows k p) data_set (placed_then old old.index old.places new.index new.places x.planned k p at)

  apart : ChunksApart r.after.dataset x.planned.chunks
  apart = places_apart (image_now log) old.name r.after map_before r.rest x.planned.between (rows_of old) x.planned.chunks known.knows taken rises few_after all_touched (λ k p at. (each_placed k p at).kept)

  rows_there : RowsStand (image_now log) r.after.dataset (cells_of r.after.dataset all_values) r.after.dataset.shape.rows (rows_of old) x.planned.chunks x.planned.rows
  rows_there =
      subst (λ (d : Described). RowsStand (image_now log) d (cells_of d all_values) d.shape.rows (rows_of old) x.planned.chunks x.planned.rows) data_set
      (planned_stand (image_now log) old old.index old.places new.index new.places x.planned r.address r.rest r.early r.more r.written r.some r.waiting r.fit r.count (cut_of old.dataset r.past.counted)
      (subst (λ (d : Described). ChunksApart d x.planned.chunks) (sym data_set) apart))

  placed : ArePlaced (image_now log) r.after map_before (parts r.after old new x all_values) x.planned.chunks
  placed = record {
    written = rows_there;
    all = all_touched;
    placed = each_placed;
    others = λ key asked outside.
        let before : IsOutside old.dataset old.dataset.shape.rows (rows_of old) key = subst (λ (d : Described). IsOutside d d.shape.rows (rows_of old) key) r.keeps.dataset outside in
        others_then old old.index old.places new.index new.places x.planned key before;
    chunks = refl;
    typed = subst (λ (d : Described). IsIntType d.int_type) data_set x.planned.typed;
    filled = subst (λ (d : Described). length (fill_cell d) ≡ d.int_type.size) data_set x.planned.filled;
    fit = each_fits r.after.dataset 0 all_values (subst (λ (d : Described). first_outside d.int_type 0 all_values ≡ None) data_set r.fit);
  }

  part : IsIndexPart (image_now log) r.after x.planned.named x.planned.between x.planned.moves new.index new.places (chunks_for r.after map_before x.planned.chunks) told.copied.placed x.planned.fixed
  part =
      index_part (image_now log) r.after map_before r.rest x.planned.between new.places (rows_of old) old.index x.planned.named new.index x.planned.chunks x.planned.added x.planned.moves told.copied.placed x.planned.fixed
      rests_now
      (subst (λ (d : Described). IsPlacing d (rows_of old) old.index r.rest x.planned.chunks x.planned.added x.planned.named x.planned.between) data_set placing)
      (subst (λ (ws : List Write). IsPlan x.planned.named x.planned.between x.planned.moves ws x.planned.fixed new.index new.places) told.copied.writes x.planned.plan)
      told.copied.are

  count_after : length (r.after.values ++ all_values) ≡ rows_of old * r.after.dataset.shape.cols
  count_after =
      let cols = old.dataset.shape.cols in
      let rows = old.dataset.shape.rows in
      let file : length r.after.values ≡ rows * cols = r.knows.file.count ∙ ap (λ (d : Described). d.shape.rows * d.shape.cols) r.keeps.dataset in
      let early : old.early * cols + (old.waits - old.early) * cols ≡ old.waits * cols = joined_rows old.early old.waits cols r.some in
      let split : (rows + old.waits) * cols ≡ rows * cols + old.waits * cols = omega arith in
      subst (λ (d : Described). length (r.after.values ++ all_values) ≡ rows_of old * d.shape.cols) data_set
      (length-append r.after.values all_values ∙ omega (arith, file, length-append r.early r.more, r.written.count, r.count, early, split))

  is_flush : IsFlush (image_now log) r.after map_before r.rest (parts r.after old new x all_values) new.places
  is_flush =
      index_is_flush (image_now log) old.name r.after map_before r.rest x.planned.between new.places x.planned.named new.index x.planned.moves (rows_of old) all_values x.planned.rows x.planned.chunks told.copied.placed
      x.planned.supers x.planned.fixed known.knows taken rises x.planned.small few_after count_after placed (subst (λ (s : Super). AreEnded s new.places.end x.planned.supers) (sym r.keeps.root) x.planned.ended) part

  missed : HeldMissed known.knows.held x.planned.rows
  missed =
      (rows_flush (image_now log) old.name r.after map_before r.rest x.planned.between (parts r.after old new x all_values) x.planned.chunks known.knows taken rises few_after count_after placed).off_held

  -- ---- Its pieces, and the file after them

  same_header : commit_at (image_now log) r.after.place (rows_of old) None ≡ header_piece old
  same_header =
      let at : r.after.place ≡ old.place = r.keeps.place in
      ap (λ (p : ℕ). commit_at (image_now log) p (rows_of old) None) at
      ∙ ap (λ (b : List ℕ). record { at = old.place; piece = with_rows_bytes b (rows_of old) None }) r.keeps.header

  all_pieces : pieces_of (image_now log) r.after (parts r.after old new x all_values) ≡ new.pending
  all_pieces =
      let rows = x.planned.rows in
      let copies = x.planned.copies in
      let supers = x.planned.supers in
      let fixed = x.planned.fixed in
      ap (λ (w : Write). (rows ++ (block_writes told.copied.placed ++ (supers ++ fixed))) ++ w ∷ []) same_header
      ∙ ap (λ (ws : List Write). (rows ++ (ws ++ (supers ++ fixed))) ++ header_piece old ∷ []) (sym told.copied.writes)
      ∙ append_assoc rows (copies ++ (supers ++ fixed)) (header_piece old ∷ [])
      ∙ ap (λ (ws : List Write). rows ++ ws) (append_assoc copies (supers ++ fixed) (header_piece old ∷ []))
      ∙ ap (λ (ws : List Write). rows ++ (copies ++ ws)) (append_assoc supers fixed (header_piece old ∷ []))
      ∙ sym x.pending

  then : IsKnownThen (image_now log) old.name r.after new.places (parts r.after old new x all_values)
  then = knows_then (image_now log) old.name r.after map_before r.rest new.places (parts r.after old new x all_values) known.knows is_flush missed

  header_then : chunk_0 (image (image_now log) (pieces_of (image_now log) r.after (parts r.after old new x all_values))) old.place ≡ (header_piece old).piece
  header_then =
      let img = image (image_now log) (pieces_of (image_now log) r.after (parts r.after old new x all_values)) in
      ap (λ (p : ℕ). chunk_0 img p) (sym r.keeps.place)
      ∙ then.header
      ∙ ap (λ (w : Write). w.piece) same_header

  rests_then : RestsClean (image (image_now log) (pieces_of (image_now log) r.after (parts r.after old new x all_values))) (flushed_to r.after (parts r.after old new x all_values)) (λ key. address_in new.index key) new.places new.index
  rests_then =
      index_rests_then (image_now log) old.name r.after map_before r.rest x.planned.between new.places x.planned.named new.index x.planned.moves (rows_of old) all_values x.planned.rows
      (chunks_for r.after map_before x.planned.chunks) told.copied.placed x.planned.supers x.planned.fixed new.places.end known.knows taken (new_are r.after.dataset map_before r.after.dataset.shape.rows 0 x.planned.chunks) is_flush missed part

  -- ---- The session after it

  abbrev pub after_flush : Moment
  after_flush = flushed_to r.after (parts r.after old new x all_values)

  runs_then : Runs old.name (and_now (plans (length new.pending)) log) new.pending after_flush after_flush.behind
  runs_then =
      let rests : FileRests old.name log r.after map_before r.rest = record { knows = known.knows; runs = subst (λ (us : List Used). Runs old.name log [] r.after us) (sym known.is) r.runs } in
      subst (λ (ws : List Write). Runs old.name (and_now (plans (length ws)) log) ws after_flush after_flush.behind) all_pieces
      (session_laws.plans_flush old.name log r.after map_before r.rest new.places (parts r.after old new x all_values) rests is_flush missed r.appended)

  known_then : KnownHeld (image (image_now log) new.pending) old.name after_flush (λ key. address_in new.index key) new.places after_flush.behind
  known_then =
      subst (λ (ws : List Write). KnownHeld (image (image_now log) ws) old.name after_flush (λ key. address_in new.index key) new.places after_flush.behind) all_pieces (record { knows = then.knows; is = then.held })

  some_pieces : 0 < length new.pending
  some_pieces =
      let last = x.planned.fixed ++ header_piece old ∷ [] in
      omega (
        arith,
        ap length x.pending,
        length-append x.planned.rows (x.planned.copies ++ (x.planned.supers ++ last)),
        length-append x.planned.copies (x.planned.supers ++ last),
        length-append x.planned.supers last,
        length-append x.planned.fixed (header_piece old ∷ []),
      )

  committed_then : flushed_rows (and_now (plans (length new.pending)) log) ≡ old.committed
  committed_then =
      let chosen : Bool → ℕ = λ b. length (if b then log.values ++ appended_in log.events else flushed_in 0 log.values log.events) / log.columns in
      ap chosen (lt-leb-false (length new.pending) 0 some_pieces) ∙ r.committed

  -- the chunks of all rows are few
  few_then : AreFew (with_rows (rows_of old + 0) (with_rows (rows_of old) old.dataset))
  few_then =
      subst (λ (n : ℕ). AreFew (with_rows n (with_rows (rows_of old) old.dataset))) (let e : rows_of old ≡ rows_of old + 0 = omega arith in e)
      (le-ltb (limit_of format_limits old.dataset.layout.index) (needed (with_rows (rows_of old) old.dataset)) x.planned.few)

  pub flush_running : Past (flushed_of old new.places new.pending new.index) new.pending (and_now (plans (length new.pending)) log) after_flush
      → Running (flushed_of old new.places new.pending new.index) new.pending (and_now (plans (length new.pending)) log)
  flush_running past = record {
    after = after_flush;
    address = λ key. address_in new.index key;
    held = after_flush.behind;
    runs = runs_then;
    knows = known_then.knows;
    holds = known_then.is;
    keeps = record {
      root = ap (λ (s : Super). record s { end = new.places.end }) r.keeps.root;
      place = r.keeps.place;
      dataset = ap (with_rows (rows_of old)) r.keeps.dataset;
      header = subst (λ (ws : List Write). chunk_0 (image (image_now log) ws) old.place ≡ (header_piece old).piece) all_pieces header_then;
    };
    index = inl (subst (λ (ws : List Write). Rests (image (image_now log) ws) after_flush (λ key. address_in new.index key) new.places new.index) all_pieces rests_then.rests);
    marks = mark_laws.clean (with_rows (rows_of old) old.dataset) (rows_of old) (rows_of old + 0) new.index told.clean;
    rest = new.places;
    early = [];
    written = nothing_early (with_rows (rows_of old) old.dataset) new.places (image (image_now log) new.pending) (λ key. address_in new.index key) few_then;
    some = omega arith;
    flushing = λ e. refl;
    more = [];
    waiting = no_cells (with_rows (rows_of old) old.dataset);
    fit = refl;
    count = omega arith;
    appended = append-nil (r.after.values ++ all_values) ∙ r.appended;
    committed = committed_then;
    planned = λ kept none. absurd (let clash : true ≡ false = none in cc);
    columns = r.columns;
    past = past;
  }

  -- in the words of h5w_flush_laws
  pub shows_part : Past (flushed_of old new.places new.pending new.index) new.pending (and_now (plans (length new.pending)) log) after_flush → IsPartOf old (flushed_of old new.places new.pending new.index) log r
  unfolding flush_running
  shows_part past = record {
    parts = parts r.after old new x all_values;
    flush = subst (λ (f : Key → ℕ). IsFlush (image_now log) r.after f r.rest (parts r.after old new x all_values) new.places) (sym same_map) is_flush;
    missed = subst (λ (us : List Used). HeldMissed us x.planned.rows) known.is missed;
    pieces = all_pieces;
    running = flush_running past;
    after = refl;
    held = refl;
    rest = refl;
  }

  -- the writes of the rows meet nothing of whatever may be held
  shows_missed : (held : List Used) → Holding r.after r.rest held → HeldMissed held x.planned.rows
  shows_missed held holding =
      let k = known.knows in
      let more : Knows (image_now log) old.name r.after map_before r.rest = record { file = k.file; index = k.index; live = k.live; ended = k.ended; covered = k.covered; held = held; holding = holding; layout = k.layout } in
      (rows_flush (image_now log) old.name r.after map_before r.rest x.planned.between (parts r.after old new x all_values) x.planned.chunks more taken rises few_after count_after placed).off_held

  -- so of a session that is one of several
  pub part_flushed : Past (flushed_of old new.places new.pending new.index) new.pending (and_now (plans (length new.pending)) log) after_flush → length new.pending ≤ load (cutting_of old) log → IsRaised old.places new.places (load (cutting_of old) log)
      → IsPartFlushed old (flushed_of old new.places new.pending new.index) log r
  unfolding flush_running
  part_flushed past few raised = record {
    parts = parts r.after old new x all_values;
    flush = subst (λ (f : Key → ℕ). IsFlush (image_now log) r.after f r.rest (parts r.after old new x all_values) new.places) (sym same_map) is_flush;
    missed = shows_missed;
    pieces = all_pieces;
    runs = record { running = flush_running past; after = refl; address_is = refl; held_is = refl; rest_is = refl };
    few = few;
    raised = raised;
  }
