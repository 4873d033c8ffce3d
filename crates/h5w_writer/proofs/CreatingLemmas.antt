-- A session that creates its file: it stands for the log without events, and each of its pieces brings it nearer to a file.
use Rattle.std.proofs.Common.{◌≡◌, ◌≢◌, ℕ, ◌+◌, ◌-◌, ◌*◌, ◌/◌, ◌<◌, ◌≤◌, ◌==◌, Bool, true, false, List, [], ◌∷◌, ◌++◌, length, ℤ, refl, sym, ap, ◌∙◌, subst, inl, inr, arith, length-append, append_assoc}
use Rattle.std.proofs.lemmas.Bool.{le-ltb, ne_eqb}
use Rattle.std.proofs.lemmas.Nat.{div-mul-add}
use Rattle.h5w_model.specs.Numbers.{undefined}
use Rattle.h5w_model.specs.Images.{image}
use Rattle.h5w_model.specs.Logs.{Log, Happening, appends, plans, shows, hist, shown, appended, appended_in, flushed, flushed_in, flushed_rows, rows_in, and_now}
use Rattle.h5w_model.specs.Datasets.{Described}
use Rattle.h5w_model.specs.Prefixed.{EachReads, PrefixedEach, Still}
use Rattle.h5w_model.specs.declared.piece.Write.{Write}
use Rattle.h5w_laws.proofs.LogLemmas.{length_hist}
use Rattle.h5w_types.specs.Runs.{run_bytes}
use Rattle.h5w_chunks.specs.Grids.{cells_of}
use Rattle.h5w_step_laws.specs.Moments.{Represents}
use Rattle.h5w_step_laws.specs.Logs.{image_now}
use Rattle.h5w_step_laws.proofs.GoesLemmas.{begin_goes, reads_now}
use Rattle.h5w_step_laws.proofs.SessionLaws.{goes_runs}
use Rattle.h5w_model.specs.Tables.{chunks_across, format_limits, keys_across, limit_of, needed}
use Rattle.h5w_model.specs.Logs.{div_up}
use Rattle.h5w_model.specs.declared.cell.IndexKind.{IndexKind}
use Rattle.h5w_model.specs.declared.cell.IndexKind.TheVariants.{Array, Tree}
use Rattle.h5w_model.proofs.ImageLemmas.{Holds-rest}
use Rattle.h5w_step_laws.specs.Files.{chunk_0}
use Rattle.h5w_step_laws.specs.Spelled.{spelled_header}
use Rattle.h5w_step_laws.proofs.SpelledLemmas.{spelled_stands}
use Rattle.h5w_array_laws.proofs.CreatedLemmas.{created_starts}
use Rattle.h5w_index.specs.Views.{IndexView, IsClean, address_in}
use Rattle.h5w_index.specs.Flushes.{Begins}
use Rattle.h5w_index.specs.Blocks.{has_no_block}
use Rattle.h5w_index.specs.Placing.{IsOwn}
use Rattle.h5w_writer.specs.Past.{IsMadeHere}
use Rattle.h5w_index.proofs.DepthLemmas.{depth_laws}
use Rattle.h5w_index.proofs.MarkLemmas.{mark_laws}
use Rattle.h5w_creation_laws.specs.CreatedFiles.{CreatedFile, IsCreatable, block_place, created_blocks, created_log, created_moment, created_writes, described_of, end_of, header_block, header_place, index_blocks, index_place, root_block, super_block, super_of}
use Rattle.h5w_creation_laws.specs.CreationLaws.{WritesEndBy}
use Rattle.h5w_creation_laws.proofs.CreatedLaws.{created_new, created_sizes}
use Rattle.h5w_creation.specs.Made.{IsNewIndex}
use Rattle.h5w_creation.proofs.MadeLemmas.{created_rests}
use Rattle.h5w_writer.specs.Sessions.{IsRoomy, Session, AfterPiece, AllEndBy, Settles, most_lines, rows_of}
use Rattle.h5w_writer.specs.Creations.{IsIndexOf, IsLimit, created, log_of, places_to}
use Rattle.h5w_writer.specs.Stands.{Creating, Running, Stands}
use Rattle.h5w_writer.proofs.PastLemmas.{one_each, past_begins, past_same, some_blocks}
use Rattle.h5w_step_laws.specs.Needed.{AreFew}
use Rattle.h5w_writer.proofs.EarlyLemmas.{nothing_early}
use Rattle.h5w_writer.proofs.StandLemmas.{goes_rows, last_running, last_unplanned, left_pending, more_running, settled, with_pending, some_is}
use Rattle.h5w_writer.proofs.StateLemmas.{up_few}

-- ---- Before the first position

-- before a log's first position nothing is asked of what readers find
none_read : (name : List ℕ) (log : Log) (es : List Happening) → shown es < log.first → EachReads name log es
none_read name log [] few = λ begun. absurd (omega arith)
none_read name log (appends vs ∷ es) few = ((λ begun. absurd (omega arith)), none_read name log es few)
none_read name log (plans k ∷ es) few = ((λ begun. absurd (omega arith)), none_read name log es few)
none_read name log (shows w ∷ es) few = ((λ begun. absurd (omega arith)), none_read name log es (omega arith))

none_still : (name : List ℕ) (log : Log) → shown log.events ≤ log.first → Still name log
none_still name log few k low high = absurd (omega (arith, length_hist log.events))

pub some_length : (ws : List Write) → ws ≢ [] → 0 < length ws
some_length [] some = absurd (some refl)
some_length (w ∷ ws) some = omega arith

-- of a file's pieces so many were shown
pub shown_so_far : (f : CreatedFile) (es : List Happening) (left : List Write) → hist es ++ left ≡ created_writes f → shown es + length left ≡ length (created_blocks f)
shown_so_far f es left pieces =
    let count : length (hist es ++ left) ≡ length (created_blocks f) = ap length pieces ∙ one_each f in
    omega (arith, length_hist es, length-append (hist es) left)

-- ---- A session begins

some_writes : (f : CreatedFile) → created_writes f ≢ []
some_writes f none =
    let count : length (created_writes f) ≡ 0 = ap length none in
    absurd (omega (arith, count, one_each f, some_blocks f))

pub creation_begins : (f : CreatedFile) (most budget : ℕ) (v : IndexView) → IsCreatable f → IsLimit most → IsIndexOf f v → Stands (created f most budget v) (created_log f)
creation_begins f most budget v is limit index = record {
  left = created_writes f;
  dropped = inl refl;
  phase = inl (
    f,
    record {
      is = is;
      limit = limit;
      index = index;
      some = some_writes f;
      pieces = refl;
      session = refl;
      log_is = refl;
      appended = refl;
      flushed = λ k. refl;
    },
  );
  prefixed = λ begun. absurd (omega (arith, begun, some_blocks f));
  still = none_still f.name (created_log f) (omega arith);
}

-- ---- A piece of a new file

creating_more : (f : CreatedFile) (s : Session) (w x : Write) (xs : List Write) (log : Log) → Creating f s (w ∷ x ∷ xs) log → Creating f (with_pending s (x ∷ xs)) (x ∷ xs) (and_now (shows w) log)
creating_more f s w x xs log c = record {
  is = c.is;
  limit = c.limit;
  index = c.index;
  some = λ e. some_is x xs e;
  pieces = append_assoc (hist log.events) (w ∷ []) (x ∷ xs) ∙ c.pieces;
  session = ap (λ (y : Session). with_pending y (x ∷ xs)) c.session;
  log_is = ap (and_now (shows w)) c.log_is;
  appended = c.appended;
  flushed = λ k. c.flushed (k + 1);
}

-- a session that creates its file, with these pieces pending
abbrev pub creating : CreatedFile → (most budget : ℕ) → IndexView → List Write → Bool → Bool → Session
creating f most budget v ws stop keep = record (created f most budget v) { pending = ws; stopped = stop; keeps = keep }

pub no_cells : (d : Described) → [] ≡ cells_of d []
unfolding run_bytes
no_cells d = refl

-- no chunk is needed
pub no_chunks : (f : CreatedFile) → IsCreatable f → needed (described_of f) ≡ 0
no_chunks f is =
    let bands : div_up 0 f.chunk_rows ≡ 0 = omega (arith, up_few 0 f.chunk_rows (omega (arith, is.some_rows))) in
    ap (λ (n : ℕ). n * chunks_across (described_of f)) bands ∙ omega arith

-- chunk 0 of the dataset header stands as it was written
header_kept : (f : CreatedFile) → IsCreatable f → chunk_0 (image [] (created_writes f)) (header_place f) ≡ spelled_header (described_of f)
header_kept f is =
    let img = image [] (created_writes f) in
    let z = created_sizes f is in
    let front = Holds-rest img (index_blocks f.index f) (header_block f ∷ root_block f ∷ super_block f ∷ []) (created_new f is).blocks in
    (spelled_stands img format_limits (super_of f) (header_place f) (described_of f) z.spellable front.0 (omega (arith, z.header))
    (le-ltb (limit_of format_limits f.index) (needed (described_of f)) (omega (arith, no_chunks f is)))).chunk

-- an index without chunks is clean, and one as it is made here
new_clean : (k : IndexKind) (at block : ℕ) (v : IndexView) → IsNewIndex k at block v → IsClean v
new_clean Array at block v new = subst IsClean (sym new.1) new.2.changed
new_clean Tree at block v new = subst IsClean (sym new) refl

new_own : (k : IndexKind) (at block : ℕ) (v : IndexView) → at < undefined → block < undefined → IsNewIndex k at block v → IsOwn v
new_own Array at block v low high new =
    let starts = created_starts at block new.0 new.2 (omega arith) (omega arith) in
    subst IsOwn (sym new.1) (record { headed = starts.headed; numbered = starts.numbered })
new_own Tree at block v low high new = subst IsOwn (sym new) tt

pub own_of : (f : CreatedFile) (v : IndexView) → IsCreatable f → IsIndexOf f v → IsOwn v
own_of f v is index =
    let small = (created_sizes f is).end in
    new_own f.index (index_place f) (block_place f) v (omega (arith, small)) (omega (arith, small)) index.new

-- its index block stands somewhere
pub new_made : (k : IndexKind) (at block : ℕ) (v : IndexView) → 0 < block → IsNewIndex k at block v → has_no_block v ≡ false
new_made Array at block v some new =
    subst (λ (u : IndexView). has_no_block u ≡ false) (sym new.1) (ap (λ p. p == 0) new.2.index_at ∙ ne_eqb block 0 (λ none. absurd (omega (arith, some, none))))
new_made Tree at block v some new = subst (λ (u : IndexView). has_no_block u ≡ false) (sym new) refl

pub made_here : (f : CreatedFile) (v : IndexView) → IsCreatable f → IsIndexOf f v → IsMadeHere v
made_here f v is index = (own_of f v is index, new_made f.index (index_place f) (block_place f) v (omega arith) index.new)

-- it has room for each chunk
pub new_roomy : (k : IndexKind) (at block : ℕ) (v : IndexView) (d : Described) → IsNewIndex k at block v → IsRoomy d v
new_roomy Array at block v d new = subst (IsRoomy d) (sym new.1) tt
new_roomy Tree at block v d new = subst (IsRoomy d) (sym new) (depth_laws.none (most_lines d) (keys_across d) at)

pub roomy_of : (f : CreatedFile) (v : IndexView) → IsIndexOf f v → IsRoomy (described_of f) v
roomy_of f v index = new_roomy f.index (index_place f) (block_place f) v (described_of f) index.new

-- writes as they are told there end by the same place
pub writes_end : (end : ℕ) (ws : List Write) → WritesEndBy end ws → AllEndBy end ws
writes_end end [] all = tt
writes_end end (w ∷ ws) all = (all.0, writes_end end ws all.1)

-- so few are
pub new_few : (f : CreatedFile) → IsCreatable f → AreFew (described_of f)
new_few f is = le-ltb (limit_of format_limits f.index) (needed (described_of f)) (omega (arith, no_chunks f is))

-- the last of them makes the file
file_made : (f : CreatedFile) (most budget : ℕ) (v : IndexView) (ws : List Write) (stop keep : Bool) (w : Write) (es : List Happening) → IsCreatable f → IsLimit most → IsIndexOf f v
    → hist es ++ w ∷ [] ≡ created_writes f → appended_in es ≡ [] → ((k : ℕ) → flushed_in k [] es ≡ []) → Running (with_pending (creating f most budget v ws stop keep) []) [] (log_of f (shows w ∷ es))
file_made f most budget v ws stop keep w es is limit index pieces none_appended none_flushed =
    let next = log_of f (shows w ∷ es) in
    let m = created_moment f in
    let t = places_to (end_of f) most in
    let img : image [] (created_writes f) ≡ image_now next = sym (ap (image []) pieces) in
    let made = created_new f is in
    let here = subst (λ (x : List ℕ). Represents x f.name m) img made.represents in
    let none : [] ≡ flushed next = sym (none_flushed 1) in
    let before = shown_so_far f es (w ∷ []) pieces in
    let some : 0 < f.columns = omega (arith, is.some_columns) in
    let prefixed : PrefixedEach f.name next = ((λ begun. reads_now f.name next m here none some refl), none_read f.name next es (omega (arith, before))) in
    let goes = begin_goes f.name next m (omega (arith, before)) here none some refl prefixed in
    let begins = subst (λ (x : List ℕ). Begins x f.name m t v) img (created_rests f t v is index.sound index.new (record { end = refl; none_free = refl; none_retired = refl })) in
    record {
      after = m;
      address = λ key. address_in v key;
      held = [];
      runs = goes_runs f.name next m [] goes (λ k. none_flushed (k + 1));
      rest = t;
      knows = begins.knows;
      holds = begins.held;
      keeps = record { root = refl; place = refl; dataset = refl; header = subst (λ (x : List ℕ). chunk_0 x (header_place f) ≡ spelled_header (described_of f)) img (header_kept f is) };
      index = inl begins.rests;
      marks = mark_laws.clean (described_of f) 0 0 v (new_clean f.index (index_place f) (block_place f) v index.new);
      early = [];
      written = nothing_early (described_of f) t (image_now next) (λ key. address_in v key) (new_few f is);
      some = omega arith;
      flushing = λ e. refl;
      more = [];
      waiting = no_cells (described_of f);
      fit = refl;
      count = omega arith;
      appended = sym none_appended;
      committed = goes_rows f.name next m [] goes;
      planned = λ some e. refl;
      columns = refl;
      past = past_begins f (with_pending (creating f most budget v ws stop keep) []) next m is refl pieces refl refl refl limit refl
          (writes_end (end_of f) (created_writes f) (created_sizes f is).within) here (no_chunks f is) (made_here f v is index) (roomy_of f v index);
    }

creating_last : (f : CreatedFile) (s : Session) (w : Write) (log : Log) → Creating f s (w ∷ []) log → Running (with_pending s []) [] (and_now (shows w) log)
creating_last f s w log c =
    let made = file_made f s.places.limit s.budget s.index s.pending s.stopped s.keeps w log.events c.is c.limit c.index c.pieces c.appended c.flushed in
    subst (λ (l : Log). Running (with_pending s []) [] (and_now (shows w) l)) (sym c.log_is)
    (subst (λ (x : Session). Running (with_pending x []) [] (log_of f (shows w ∷ log.events))) (sym c.session) made)

-- ---- A piece of any session

after_last : (s : Session) (log : Log) → Running s [] log → s.pending ≡ [] → Stands s log
after_last s log r idle =
    let goes = r.runs.goes in
    record { left = []; dropped = inl (sym idle); phase = inr r; prefixed = goes.prefixed; still = goes.still }

pub piece_stands : (s : Session) (w : Write) (ws : List Write) (t : Session) (log : Log) → s.pending ≡ w ∷ ws → AfterPiece s ws t → Stands s log → Stands t (and_now (shows w) log)
piece_stands s w [] t log pending after st =
    elim st.phase [
      | inl c ↦
          let own = subst (λ (vs : List Write). Creating c.0 s vs log) left c.1 in
          unplanned (ap (λ (x : Session). x.flushing) own.session) (creating_last c.0 s w log own)
      | inr r ↦ by_flush (subst (λ (vs : List Write). Running s vs log) left r) s.flushing refl
    ]
  where
    left : st.left ≡ w ∷ []
    left = left_pending s st.left w [] pending st.dropped

    next : Log
    next = and_now (shows w) log

    unplanned : s.flushing ≡ false → Running (with_pending s []) [] next → Stands t next
    unplanned none r =
        let same : t ≡ with_pending s [] = subst (λ (b : Bool). Settles b s t) none after in
        subst (λ (x : Session). Stands x next) (sym same) (after_last (with_pending s []) next r refl)

    by_flush : Running s (w ∷ []) log → (b : Bool) → s.flushing ≡ b → Stands t next
    by_flush r true e =
        let settles : Settles true s t = subst (λ (b : Bool). Settles b s t) e after in
        subst (λ (x : Session). Stands x next) (sym settles.1) (after_last (settled s t.places) next (last_running s w log r t.places e settles.0) refl)
    by_flush r false e = unplanned e (last_unplanned s w log r (r.planned (λ stopped none. some_is w [] (sym pending ∙ none)) e))
piece_stands s w (x ∷ xs) t log pending after st =
    let next = and_now (shows w) log in
    let left = left_pending s st.left w (x ∷ xs) pending st.dropped in
    subst (λ (y : Session). Stands y next) (sym after) (elim st.phase [
      | inl c ↦
          let own = subst (λ (vs : List Write). Creating c.0 s vs log) left c.1 in
          let more = creating_more c.0 s w x xs log own in
          let count = shown_so_far c.0 next.events (x ∷ xs) more.pieces in
          let first : log.first ≡ length (created_blocks c.0) = ap (λ (l : Log). l.first) c.1.log_is in
          record {
            left = x ∷ xs;
            dropped = inl refl;
            phase = inl (c.0, more);
            prefixed = none_read s.name next next.events (omega (arith, first));
            still = none_still s.name next (omega (arith, first));
          }
      | inr r ↦
          let own = subst (λ (vs : List Write). Running s vs log) left r in
          let more = more_running s w x xs log pending own in
          let goes = more.runs.goes in
          record { left = x ∷ xs; dropped = inl refl; phase = inr more; prefixed = goes.prefixed; still = goes.still }
    ])

-- ---- What a session tells

pub keep_stands : (s : Session) (log : Log) → Stands s log → Stands (record s { keeps = true }) log
keep_stands s log st = record {
  left = st.left;
  dropped = st.dropped;
  phase = elim st.phase [
    | inl c ↦ inl (
      c.0,
      record {
        is = c.1.is;
        limit = c.1.limit;
        index = c.1.index;
        some = c.1.some;
        pieces = c.1.pieces;
        session = ap (λ (x : Session). record x { keeps = true }) c.1.session;
        log_is = c.1.log_is;
        appended = c.1.appended;
        flushed = c.1.flushed;
      },
    )
    | inr r ↦ inr (record {
      after = r.after;
      address = r.address;
      held = r.held;
      runs = r.runs;
      rest = r.rest;
      knows = r.knows;
      holds = r.holds;
      keeps = record { root = r.keeps.root; place = r.keeps.place; dataset = r.keeps.dataset; header = r.keeps.header };
      index = r.index;
      marks = r.marks;
      early = r.early;
      written = r.written;
      some = r.some;
      flushing = r.flushing;
      more = r.more;
      waiting = r.waiting;
      fit = r.fit;
      count = r.count;
      appended = r.appended;
      committed = r.committed;
      planned = r.planned;
      columns = r.columns;
      past = past_same s (record s { keeps = true }) st.left log r.after (record { name = refl; place = refl; dataset = refl; address = λ named. refl; limit = refl; own = λ o. o; reach = λ first img h. h; roomy = λ o. o }) refl r.past;
    })
  ];
  prefixed = st.prefixed;
  still = st.still;
}

-- how many rows some values are
rows_of_values : (values : List ℤ) (rows cols columns : ℕ) → length values ≡ rows * cols → cols ≡ columns → 1 ≤ cols → length values / columns ≡ rows
rows_of_values values rows cols columns count same some =
    let product : length values ≡ rows * columns = count ∙ ap (λ (n : ℕ). rows * n) same in
    ap (λ (n : ℕ). n / columns) (product ∙ omega arith) ∙ div-mul-add rows columns 0 (omega (arith, same))

none_counted : (values : List ℤ) (columns : ℕ) → values ≡ [] → 1 ≤ columns → length values / columns ≡ 0
none_counted values columns none some =
    let zero : 0 ≡ 0 * columns + 0 = omega arith in
    ap (λ (vs : List ℤ). length vs / columns) none ∙ ap (λ (n : ℕ). n / columns) zero ∙ div-mul-add 0 columns 0 (omega arith)

-- a new log has columns
some_columns : (f : CreatedFile) (log : Log) → IsCreatable f → log ≡ log_of f log.events → 1 ≤ log.columns
some_columns f log is log_is = let columns : log.columns ≡ f.columns = ap (λ (l : Log). l.columns) log_is in omega (arith, columns, is.some_columns)

pub rows_told : (s : Session) (log : Log) → 1 ≤ s.dataset.shape.cols → Stands s log → rows_in log (appended log) ≡ rows_of s
rows_told s log some st =
    elim st.phase [
      | inl c ↦
          let base : log.values ≡ [] = ap (λ (l : Log). l.values) c.1.log_is in
          let none : appended log ≡ [] = ap (λ (vs : List ℤ). vs ++ appended_in log.events) base ∙ c.1.appended in
          none_counted (appended log) log.columns none (some_columns c.0 log c.1.is c.1.log_is) ∙ sym (ap rows_of c.1.session)
      | inr r ↦
          let cols = s.dataset.shape.cols in
          let rows = s.dataset.shape.rows in
          let count : length r.after.values ≡ rows * cols = r.knows.file.count ∙ ap (λ (d : Described). d.shape.rows * d.shape.cols) r.keeps.dataset in
          let early = r.some in
          let waits : s.early + (s.waits - s.early) ≡ s.waits = omega (arith, early) in
          let split : (rows + s.waits) * cols ≡ rows * cols + (s.early * cols + (s.waits - s.early) * cols) =
          ap (λ (n : ℕ). (rows + n) * cols) (sym waits) ∙ (let e : (rows + (s.early + (s.waits - s.early))) * cols ≡ rows * cols + (s.early * cols + (s.waits - s.early) * cols) = omega arith in e) in
          let all : length (appended log) ≡ (rows + s.waits) * cols =
          ap length (sym r.appended) ∙ length-append r.after.values (r.early ++ r.more) ∙ omega (arith, length-append r.early r.more, count, r.written.count, r.count, split) in
          rows_of_values (appended log) (rows + s.waits) cols log.columns all r.columns some
    ]

pub committed_told : (s : Session) (log : Log) → Stands s log → flushed_rows log ≡ s.committed
committed_told s log st =
    elim st.phase [
      | inl c ↦
          let base : log.values ≡ [] = ap (λ (l : Log). l.values) c.1.log_is in
          let none : flushed log ≡ [] = ap (λ (vs : List ℤ). flushed_in 0 vs log.events) base ∙ c.1.flushed 0 in
          none_counted (flushed log) log.columns none (some_columns c.0 log c.1.is c.1.log_is) ∙ sym (ap (λ (x : Session). x.committed) c.1.session)
      | inr r ↦ r.committed
    ]

pub columns_told : (s : Session) (log : Log) → Stands s log → s.dataset.shape.cols ≡ log.columns
columns_told s log st =
    elim st.phase [
      | inl c ↦ ap (λ (x : Session). x.dataset.shape.cols) c.1.session ∙ sym (ap (λ (l : Log). l.columns) c.1.log_is)
      | inr r ↦ r.columns
    ]
