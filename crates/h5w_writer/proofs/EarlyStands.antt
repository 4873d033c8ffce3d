-- Rows that are written early: the session stands over the log with these values, with the pieces pending, which bring no row.
use Rattle.std.proofs.Common.{◌≡◌, ◌≢◌, ℕ, zero, suc, ◌+◌, ◌-◌, ◌*◌, ◌<◌, ◌≤◌, Bool, true, false, nat_lt, if◌then◌else◌, List, [], ◌∷◌, ◌++◌, length, take, drop, ℤ, Some, None, refl, sym, ap, ◌∙◌, subst, inl, inr, arith, length-append, append_assoc}
use Rattle.std.proofs.lemmas.List.{length-take, length-drop, take-append-le, take_all, take-append-drop}
use Rattle.std.specs.List.{slice_get}
use Rattle.h5w_model.specs.Images.{apply, image}
use Rattle.h5w_model.specs.Lawful.{first_outside}
use Rattle.h5w_model.specs.Logs.{Log, appended, and_now, appends, load, plans}
use Rattle.h5w_model.specs.Messages.{IsIntType}
use Rattle.h5w_model.specs.Datasets.{Described}
use Rattle.h5w_model.specs.Findings.{Used}
use Rattle.h5w_model.specs.Tables.{chunks_across, format_limits, limit_of, needed}
use Rattle.h5w_model.specs.declared.cell.Key.{Key}
use Rattle.h5w_model.specs.declared.piece.Write.{Write}
use Rattle.std.proofs.lemmas.Bool.{cond-true, lt-ltb}
use Rattle.h5w_types.proofs.RunLemmas.{length-run_bytes}
use Rattle.h5w_step_laws.specs.Needed.{AreFew}
use Rattle.h5w_step_laws.specs.Ranges.{Among, MissesBlocks}
use Rattle.h5w_step_laws.proofs.RangeLemmas.{among_left, among_right}
use Rattle.h5w_space.specs.Space.{Space}
use Rattle.h5w_chunks.specs.Grids.{FitsType, cells_of, fill_cell}
use Rattle.h5w_chunks.specs.Shares.{new_writes, touched}
use Rattle.h5w_chunks.specs.Rows.{ChunksApart, RowsWritten}
use Rattle.h5w_chunks.specs.Early.{RowsStand}
use Rattle.h5w_chunks.specs.declared.grid.ChunkPlace.{ChunkPlace}
use Rattle.h5w_step_laws.specs.Files.{chunk_0}
use Rattle.h5w_step_laws.specs.Moments.{Moment, reading_of}
use Rattle.h5w_step_laws.specs.Logs.{image_now}
use Rattle.h5w_step_laws.specs.Sessions.{Runs}
use Rattle.h5w_step_laws.specs.Plans.{Flush}
use Rattle.h5w_step_laws.proofs.PlanLaws.{plan_flush}
use Rattle.h5w_flush_laws.specs.EarlyRows.{AreEarly, IsEarlyPlace}
use Rattle.h5w_flush_laws.specs.Flushes.{IsUnseen}
use Rattle.h5w_flush_laws.specs.Knowledge.{HeldMissed, Knows}
use Rattle.h5w_flush_laws.specs.Parts.{AllUnseen}
use Rattle.h5w_flush_laws.specs.Rows.{new_chunks}
use Rattle.h5w_flush_laws.specs.Spaces.{Taken}
use Rattle.h5w_flush_laws.proofs.ChunkPlaceLemmas.{places_apart}
use Rattle.h5w_flush_laws.proofs.EarlyLemmas.{unseen_stage}
use Rattle.h5w_flush_laws.proofs.EarlyRowsLemmas.{early_rows}
use Rattle.h5w_flush_laws.proofs.KnownLaws.{unseen_known}
use Rattle.h5w_index.specs.Naming.{AreTaken, AreTakenBehind}
use Rattle.h5w_index.specs.Views.{IndexView, address_in}
use Rattle.h5w_index.proofs.BehindLemmas.{behind_laws}
use Rattle.h5w_pieces.specs.NextPlaces.{next_places, writes_behind}
use Rattle.h5w_writer.specs.Early.{HasEarly, WritesEarly}
use Rattle.h5w_writer.specs.Indexes.{IsKeptIndex}
use Rattle.h5w_writer.specs.Past.{Past}
use Rattle.h5w_writer.specs.Sessions.{Session, chunk_limit, next_row, row_bytes, rows_of, with_rows}
use Rattle.h5w_writer.specs.Stands.{Running, Stands}
use Rattle.h5w_pieces.proofs.EarlyRows.{all_stand}
use Rattle.h5w_writer.proofs.ValueLemmas.{cells_of-append, first_fit, others_fit}
use Rattle.h5w_writer.proofs.FlushLemmas.{each_fits}
use Rattle.h5w_writer.proofs.IndexLemmas.{missed_kept}
use Rattle.h5w_writer.proofs.LoadLemmas.{counted}
use Rattle.h5w_writer.proofs.StandLemmas.{either, none_anywhere, not_both, resting, same_either}

-- ---- Writes that no reader reaches

-- they leave what is kept of the index
pub unseen_index : (img name : List ℕ) (m : Moment) (address : Key → ℕ) (s : Space) (v : IndexView) (ws : List Write) → (k : Knows img name m address s) → AllUnseen m ws → HeldMissed k.held ws → IsKeptIndex img m address s v
    → IsKeptIndex (image img ws) m address s v
unseen_index img name m address s v [] k unseen missed index = index
unseen_index img name m address s v (w ∷ ws) k unseen missed index =
    let one = unseen_known img name m address s (w ∷ []) k (unseen.0, tt) (λ u among block. ((missed u among block).0, tt)) in
    let off : MissesBlocks w (m.fixed ++ m.behind) = λ u among block. unseen.0.off_blocks u (inr (among_right u m.root (m.header ++ (m.fixed ++ m.behind)) (among_right u m.header (m.fixed ++ m.behind) among))) block in
    unseen_index (apply w img) name m address s v ws one.known unseen.1 (λ u among block. (missed u (subst (λ (us : List Used). Among u us) one.holds among) block).1) (missed_kept img name m address s v w k off index)

-- the map that is known is the index's
pub kept_map : (img : List ℕ) (m : Moment) (address : Key → ℕ) (s : Space) (v : IndexView) → IsKeptIndex img m address s v → ◌≡◌ {A = Key → ℕ} address (λ key. address_in v key)
kept_map img m address s v (inl i) = λ j key. i.map key j
kept_map img m address s v (inr none) = λ j key. none.map key j

-- ---- The first of some values

-- the cells of the first values are the first of the cells
first_cells : (d : Described) (n : ℕ) (vs : List ℤ) → first_outside d.int_type 0 vs ≡ None → n ≤ length vs → (take (n * d.int_type.size) (cells_of d vs) ≡ cells_of d (take n vs)) × (drop (n * d.int_type.size) (cells_of d vs) ≡ cells_of d (drop n vs))
first_cells d n vs fit few =
    let a = take n vs in
    let b = drop n vs in
    let whole : a ++ b ≡ vs = take-append-drop n vs in
    let cells : cells_of d vs ≡ cells_of d a ++ cells_of d b = ap (cells_of d) (sym whole) ∙ cells_of-append d a b in
    let own : first_outside d.int_type 0 a ≡ None = first_fit d.int_type 0 a b (ap (first_outside d.int_type 0) whole ∙ fit) in
    let count : length (cells_of d a) ≡ n * d.int_type.size = length-run_bytes d.int_type 0 a own ∙ ap (λ k. k * d.int_type.size) (length-take n vs ∙ omega (arith, few)) in (
      ap (take (n * d.int_type.size)) cells ∙ front (n * d.int_type.size) (cells_of d a) (cells_of d b) count,
      ap (drop (n * d.int_type.size)) cells ∙ behind (n * d.int_type.size) (cells_of d a) (cells_of d b) count,
    )
  where
    front : (k : ℕ) (xs ys : List ℕ) → length xs ≡ k → take k (xs ++ ys) ≡ xs
    front k xs ys is = take-append-le k xs ys (omega (arith, is)) ∙ take_all k xs (omega (arith, is))

    behind : (k : ℕ) (xs ys : List ℕ) → length xs ≡ k → drop k (xs ++ ys) ≡ ys
    behind zero [] ys is = refl
    behind (suc k) [] ys is = absurd (omega (arith, is))
    behind zero (x ∷ xs) ys is = absurd (omega (arith, is))
    behind (suc k) (x ∷ xs) ys is = behind k xs ys (omega (arith, is))

-- ---- Rows are written early

module _ (s t : Session) (log : Log) (x : WritesEarly s t) (r : Running s [] log) (typed : IsIntType s.dataset.int_type) (small : AreFew (with_rows x.to s.dataset)) where
  abbrev img : List ℕ
  img = image_now log

  abbrev d : Described
  d = s.dataset

  abbrev m : Moment
  m = r.after

  abbrev n : ℕ
  n = (x.to - next_row s) * d.shape.cols

  abbrev now : List ℤ
  now = take n r.more

  abbrev later : List ℤ
  later = drop n r.more

  data_set : d ≡ m.dataset
  data_set = sym r.keeps.dataset

  map_same : ◌≡◌ {A = Key → ℕ} r.address (λ key. address_in s.index key)
  map_same = kept_map img m r.address r.rest s.index r.index

  map_back : ◌≡◌ {A = Key → ℕ} (λ key. address_in s.index key) r.address
  map_back = sym map_same

  rises : d.shape.rows < x.to
  rises = let some = x.some in omega (arith, some)

  -- how many values that are
  times : (a b c : ℕ) → a ≤ b → a * c ≤ b * c
  times a b c less = let rest : b ≡ a + (b - a) = omega (arith, less) in let split : (a + (b - a)) * c ≡ a * c + (b - a) * c = omega arith in omega (arith, ap (λ k. k * c) rest, split)

  enough : n ≤ length r.more
  enough =
      let bound = x.bound in
      let some = x.some in
      let most : (x.to - next_row s) * d.shape.cols ≤ (s.waits - s.early) * d.shape.cols = times (x.to - next_row s) (s.waits - s.early) d.shape.cols (omega (arith, bound, some)) in
      omega (arith, most, r.count)

  fit_more : first_outside d.int_type 0 r.more ≡ None
  fit_more = let o = others_fit d.int_type 0 r.early r.more r.fit in none_anywhere d.int_type o.0 0 r.more o.1

  cells : (take (n * d.int_type.size) (cells_of d r.more) ≡ cells_of d now) × (drop (n * d.int_type.size) (cells_of d r.more) ≡ cells_of d later)
  cells = first_cells d n r.more fit_more enough

  bytes : (x.to - next_row s) * row_bytes d ≡ n * d.int_type.size
  bytes = omega arith

  cells_now : take ((x.to - next_row s) * row_bytes d) s.waiting ≡ cells_of d now
  cells_now = ap (λ k. take k s.waiting) bytes ∙ ap (take (n * d.int_type.size)) r.waiting ∙ cells.0

  cells_later : drop ((x.to - next_row s) * row_bytes d) s.waiting ≡ cells_of d later
  cells_later = ap (λ k. drop k s.waiting) bytes ∙ ap (drop (n * d.int_type.size)) r.waiting ∙ cells.1

  values : now ++ later ≡ r.more
  values = take-append-drop n r.more

  all_values : (r.early ++ now) ++ later ≡ r.early ++ r.more
  all_values = append_assoc r.early now later ∙ ap (λ vs. r.early ++ vs) values

  count_now : length (r.early ++ now) ≡ (x.to - d.shape.rows) * d.shape.cols
  count_now =
      let some = x.some in
      let sum : x.to - d.shape.rows ≡ s.early + (x.to - next_row s) = omega (arith, some) in
      let split : (s.early + (x.to - next_row s)) * d.shape.cols ≡ s.early * d.shape.cols + n = omega arith in
      length-append r.early now ∙ omega (arith, r.written.count, length-take n r.more, enough, split, ap (λ k. k * d.shape.cols) sum)

  count_later : length later ≡ (s.waits - (x.to - d.shape.rows)) * d.shape.cols
  count_later =
      let some = x.some in
      let bound = x.bound in
      let sum : s.waits - s.early ≡ (x.to - next_row s) + (s.waits - (x.to - d.shape.rows)) = omega (arith, some, bound) in
      let split : ((x.to - next_row s) + (s.waits - (x.to - d.shape.rows))) * d.shape.cols ≡ n + (s.waits - (x.to - d.shape.rows)) * d.shape.cols = omega arith in
      length-drop n r.more ∙ omega (arith, r.count, enough, split, ap (λ k. k * d.shape.cols) sum)

  -- ---- Their places

  taken : AreTaken d r.address r.rest t.chunks t.places
  taken = behind_laws.behind_joins d r.address r.rest s.places t.places s.chunks t.chunks r.written.taken (subst (λ (f : Key → ℕ). AreTakenBehind d f s.chunks s.places t.chunks t.places) map_back x.taken)

  placed : (k : ℕ) (p : ChunkPlace) → slice_get t.chunks k ≡ Some p → IsEarlyPlace d r.address d.shape.rows k p
  placed k p at = subst (λ (f : Key → ℕ). IsEarlyPlace d f d.shape.rows k p) map_back (x.placed k p at)

  taken_there : Taken r.rest (new_chunks m.dataset r.address m.dataset.shape.rows 0 t.chunks) t.places
  taken_there = subst (λ (y : Described). Taken r.rest (new_chunks y r.address y.shape.rows 0 t.chunks) t.places) data_set taken.taken

  rises_there : m.dataset.shape.rows < x.to
  rises_there = subst (λ (y : Described). y.shape.rows < x.to) data_set rises

  small_there : AreFew (with_rows x.to m.dataset)
  small_there = subst (λ (y : Described). AreFew (with_rows x.to y)) data_set small

  all_there : length t.chunks ≡ touched m.dataset m.dataset.shape.rows x.to
  all_there = subst (λ (y : Described). length t.chunks ≡ touched y y.shape.rows x.to) data_set x.all

  apart : ChunksApart d t.chunks
  apart =
      subst (λ (y : Described). ChunksApart y t.chunks) (sym data_set)
      (places_apart img s.name m r.address r.rest t.places x.to t.chunks r.knows taken_there rises_there small_there all_there
      (λ k p at. (subst (λ (y : Described). IsEarlyPlace y r.address y.shape.rows k p) data_set (placed k p at)).kept))

  -- ---- Their cells

  stand : RowsStand img d (cells_of d r.early ++ cells_of d now) d.shape.rows x.to t.chunks t.pending
  stand =
      let some = x.some in
      let own : first_outside d.int_type 0 r.early ≡ None = first_fit d.int_type 0 r.early r.more r.fit in
      let old : length (cells_of d r.early) ≡ (next_row s - d.shape.rows) * d.shape.cols * d.int_type.size =
      length-run_bytes d.int_type 0 r.early own ∙ ap (λ k. k * d.int_type.size) (r.written.count ∙ ap (λ k. k * d.shape.cols) (let e : s.early ≡ next_row s - d.shape.rows = omega arith in e)) in
      let fit_now : first_outside d.int_type 0 now ≡ None = first_fit d.int_type 0 now later (ap (first_outside d.int_type 0) values ∙ fit_more) in
      let new : length (cells_of d now) ≡ (x.to - next_row s) * d.shape.cols * d.int_type.size = length-run_bytes d.int_type 0 now fit_now ∙ ap (λ k. k * d.int_type.size) (length-take n r.more ∙ omega (arith, enough)) in
      let places = next_places d d.shape.rows (next_row s) t.chunks in
      let exact : t.pending ≡ writes_behind d (cells_of d now) d.shape.rows (next_row s) x.to t.chunks =
      x.exact ∙ ap (λ (c : List ℕ). new_writes d c (next_row s) x.to places) cells_now ∙ sym (cond-true (nat_lt (next_row s) x.to) (new_writes d (cells_of d now) (next_row s) x.to places) [] (lt-ltb (next_row s) x.to x.some)) in
      all_stand img d (cells_of d r.early) (cells_of d now) d.shape.rows (next_row s) x.to s.chunks x.taken.later t.chunks t.pending (counted s r.past.counted).cut (omega arith) (omega (arith, some)) rises old new r.written.all x.all x.taken.all
      r.written.stand exact (λ more. subst (λ (c : List ℕ). RowsWritten d c (next_row s) x.to places t.pending) cells_now x.written) apart

  stand_all : RowsStand img d (cells_of d (r.early ++ now)) d.shape.rows x.to t.chunks t.pending
  stand_all = subst (λ (c : List ℕ). RowsStand img d c d.shape.rows x.to t.chunks t.pending) (sym (cells_of-append d r.early now)) stand

  -- ---- No reader reaches them

  are_early : AreEarly img m r.address x.to (r.early ++ now) t.pending t.chunks
  are_early =
      let fit : first_outside d.int_type 0 (r.early ++ now) ≡ None = first_fit d.int_type 0 (r.early ++ now) later (ap (first_outside d.int_type 0) all_values ∙ r.fit) in
      record {
        written = subst (λ (y : Described). RowsStand img y (cells_of y (r.early ++ now)) y.shape.rows x.to t.chunks t.pending) data_set stand_all;
        all = all_there;
        placed = λ k p at. subst (λ (y : Described). IsEarlyPlace y r.address y.shape.rows k p) data_set (placed k p at);
        typed = subst (λ (y : Described). IsIntType y.int_type) data_set typed;
        filled = subst (λ (y : Described). length (fill_cell y) ≡ y.int_type.size) data_set r.past.counted.fill;
        fit = subst (λ (y : Described). (k : ℕ) (v : ℤ) → slice_get (r.early ++ now) k ≡ Some v → FitsType y v) data_set (each_fits d 0 (r.early ++ now) fit);
      }

  unseen : IsUnseen img s.name m r.knows.held r.address r.rest t.pending
  unseen =
      let count : length (m.values ++ (r.early ++ now)) ≡ x.to * m.dataset.shape.cols =
      let file : length m.values ≡ d.shape.rows * d.shape.cols = r.knows.file.count ∙ ap (λ (y : Described). y.shape.rows * y.shape.cols) r.keeps.dataset in
      let sum : x.to ≡ d.shape.rows + (x.to - d.shape.rows) = omega (arith, rises) in
      let split : (d.shape.rows + (x.to - d.shape.rows)) * d.shape.cols ≡ d.shape.rows * d.shape.cols + (x.to - d.shape.rows) * d.shape.cols = omega arith in
      length-append m.values (r.early ++ now) ∙ omega (arith, file, count_now, split, ap (λ k. k * d.shape.cols) sum) ∙ ap (λ (y : Described). x.to * y.shape.cols) data_set in
      early_rows img s.name m r.address r.rest t.places x.to (r.early ++ now) t.pending t.chunks r.knows taken_there rises_there small_there count are_early

  header_there : chunk_0 (image img t.pending) s.place ≡ s.header
  header_there =
      let stage = unseen_stage img s.name m r.knows.held t.pending r.knows.file unseen.unseen unseen.off_held in
      let at : m.place ≡ s.place = r.keeps.place in
      ap (λ (p : ℕ). chunk_0 (image img t.pending) p) (sym at) ∙ stage.header.chunk ∙ ap (λ (p : ℕ). chunk_0 img p) at ∙ r.keeps.header

  index_there : IsKeptIndex (image img t.pending) m r.address r.rest s.index
  index_there = unseen_index img s.name m r.address r.rest s.index t.pending r.knows unseen.unseen unseen.off_held r.index

  runs_there : Runs s.name log t.pending m r.held
  runs_there = record {
    before = m;
    held = r.held;
    goes = resting s.name log m r.held r.runs;
    flush = subst (λ (h : List Used). Flush img m h t.pending m h) r.holds (plan_flush img m m r.knows.held r.knows.held t.pending unseen.plan);
    flushed = λ k. r.runs.flushed k ∙ either (nat_lt k 0) r.runs.before.values m.values (ap (λ (y : Moment). y.values) (sym r.runs.flush.0)) ∙ same_either (nat_lt k (length t.pending)) m.values;
  }

  early_there : HasEarly d (x.to - d.shape.rows) t.chunks t.places (image img t.pending) r.address r.rest (r.early ++ now)
  early_there =
      let sum : x.to ≡ d.shape.rows + (x.to - d.shape.rows) = omega (arith, rises) in
      record {
        all = x.all ∙ ap (touched d d.shape.rows) sum;
        taken = taken;
        placed = placed;
        stand = subst (λ (k : ℕ). RowsStand (image img t.pending) d (cells_of d (r.early ++ now)) d.shape.rows k t.chunks []) sum (record {
          placed = stand_all.placed;
          stands = stand_all.stands;
          filled = stand_all.filled;
          missed = λ row column p is other stored. tt;
          within = tt;
        });
        count = count_now;
        few = subst (λ (k : ℕ). AreFew (with_rows k d)) sum small;
        none = λ none. absurd (omega (arith, none, rises));
      }

  -- the session with them, as the relation says it
  abbrev new : Session
  new = record s {
    early = x.to - d.shape.rows;
    waiting = drop ((x.to - next_row s) * row_bytes d) s.waiting;
    chunks = t.chunks;
    places = t.places;
    pending = t.pending;
  }

  pub early_running : s.stopped ≡ false → s.flushing ≡ false → Past t t.pending log m → Running t t.pending log
  early_running running unplanned past = subst (λ (y : Session). Past y t.pending log m → Running y t.pending log) (sym x.session) own past
    where
      own : Past new t.pending log m → Running new t.pending log
      own past = record {
        after = m;
        address = r.address;
        held = r.held;
        runs = runs_there;
        rest = r.rest;
        knows = unseen.known;
        holds = unseen.holds ∙ r.holds;
        keeps = record { root = r.keeps.root; place = r.keeps.place; dataset = r.keeps.dataset; header = header_there };
        index = index_there;
        marks = r.marks;
        early = r.early ++ now;
        written = early_there;
        some = let bound = x.bound in omega (arith, bound);
        flushing = λ e. absurd (not_both s.flushing unplanned e);
        more = later;
        waiting = cells_later;
        fit = ap (first_outside d.int_type 0) all_values ∙ r.fit;
        count = count_later;
        appended = ap (λ (vs : List ℤ). m.values ++ vs) all_values ∙ r.appended;
        committed = r.committed;
        planned = λ some e. r.planned (λ stopped. absurd (not_both s.stopped running stopped)) e;
        columns = r.columns;
        past = past;
      }
