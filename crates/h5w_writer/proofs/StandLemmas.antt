-- What each call makes of a session that stands over a log.
use Rattle.std.proofs.Common.{◌≡◌, ◌⊎◌, ℕ, ◌+◌, ◌-◌, ◌*◌, ◌/◌, ◌%◌, ◌<◌, ◌≤◌, Bool, true, false, nat_lt, List, [], ◌∷◌, ◌++◌, length, ℤ, Option, None, Ok, refl, sym, ap, ◌∙◌, subst, inl, inr, arith, length-append, append_assoc}
use Rattle.std.proofs.lemmas.Nat.{div-mul-add, mul-le}
use Rattle.std.proofs.lemmas.Bool.{eq-eqb, lt-ltb, or_right}
use Rattle.std.specs.Prelude.{◌==◌, if◌then◌else◌}
use Rattle.h5w_model.specs.Images.{apply, image}
use Rattle.h5w_model.specs.Lawful.{first_outside}
use Rattle.h5w_model.specs.Messages.{IntTypeFields}
use Rattle.h5w_model.specs.Logs.{Log, appends, shows, appended_in, flushed, flushed_rows, and_now}
use Rattle.h5w_model.specs.Superblock.{super_at, super_bytes}
use Rattle.h5w_model.specs.Datasets.{Described, is_swmr}
use Rattle.h5w_model.specs.Findings.{Used, chunk_bytes}
use Rattle.h5w_model.specs.declared.cell.Key.{Key}
use Rattle.h5w_model.specs.declared.piece.Write.{Write}
use Rattle.h5w_model.specs.declared.root.Super.{Super}
use Rattle.h5w_model.proofs.SuperLemmas.{length-super_bytes}
use Rattle.h5w_chunks.specs.Grids.{cells_of}
use Rattle.h5w_step_laws.specs.Files.{chunk_0}
use Rattle.h5w_space.specs.Space.{IsLive, Space}
use Rattle.h5w_space.specs.declared.Extent.{Extent}
use Rattle.h5w_step_laws.specs.Ranges.{Among}
use Rattle.h5w_step_laws.proofs.RangeLemmas.{among_left, among_right}
use Rattle.h5w_step_laws.specs.Moments.{Moment}
use Rattle.h5w_step_laws.specs.Steps.{Ends, ends}
use Rattle.h5w_step_laws.specs.Logs.{Goes, image_now}
use Rattle.h5w_step_laws.specs.Sessions.{Runs}
use Rattle.h5w_step_laws.proofs.GoesLemmas.{image_pushed}
use Rattle.h5w_step_laws.proofs.SessionLaws.{append_runs, piece_runs}
use Rattle.h5w_step_laws.proofs.StepRepresents.{ends_missed}
use Rattle.h5w_flush_laws.specs.Knowledge.{KnownHeld}
use Rattle.h5w_flush_laws.specs.Spaces.{extent_of}
use Rattle.h5w_flush_laws.proofs.EarlyLemmas.{header_kept}
use Rattle.h5w_flush_laws.proofs.KnownLaws.{end_known}
use Rattle.h5w_flush_laws.proofs.SpaceLemmas.{committed_live}
use Rattle.h5w_flush_laws.proofs.FlushLaws.{freed_known}
use Rattle.h5w_writer.specs.Sessions.{Session, AreRows, Freed, cleared, closed_of, closed_root, stopped_of, with_values}
use Rattle.h5w_writer.specs.Early.{HasEarly}
use Rattle.h5w_writer.specs.Indexes.{IsKeptIndex}
use Rattle.h5w_writer.specs.Past.{IsCounted}
use Rattle.h5w_writer.specs.Openings.{flagged, flagged_root}
use Rattle.h5w_writer.specs.PartLaws.{RunsAs, super_piece}
use Rattle.h5w_writer.specs.Stands.{Running, Stands}
use Rattle.h5w_writer.specs.Told.{moved_to}
use Rattle.h5w_types.proofs.RunLemmas.{by_cell, first_has_cell, first_outside-cons}
use Rattle.h5w_index.proofs.MarkLemmas.{mark_laws}
use Rattle.h5w_writer.proofs.EarlyLemmas.{early_freed, early_missed}
use Rattle.h5w_writer.proofs.IndexLemmas.{forgotten_live, freed_kept, missed_kept, super_kept}
use Rattle.h5w_writer.proofs.PastLemmas.{past_more, past_same, past_shown, past_values}
use Rattle.h5w_writer.proofs.ValueLemmas.{cells_of-append}
use Rattle.h5w_writer.proofs.StateLemmas.{Accepted, rows_are}

-- ---- What is left

pub not_both : (b : Bool) → b ≡ false → b ≡ true → ⊥
not_both b first second = let clash : false ≡ true = sym first ∙ second in cc

pub some_is : (w : Write) (ws : List Write) → w ∷ ws ≡ [] → ⊥
some_is w ws e = cc

-- of a session that was not stopped nothing was dropped
pub left_running : (s : Session) (left : List Write) → s.stopped ≡ false → (left ≡ s.pending) ⊎ ((s.stopped ≡ true) × (s.pending ≡ [])) → left ≡ s.pending
left_running s left running (inl same) = same
left_running s left running (inr gone) = absurd (not_both s.stopped running gone.0)

-- nor where some are pending
pub left_pending : (s : Session) (left : List Write) (w : Write) (ws : List Write) → s.pending ≡ w ∷ ws → (left ≡ s.pending) ⊎ ((s.stopped ≡ true) × (s.pending ≡ [])) → left ≡ w ∷ ws
left_pending s left w ws pending (inl same) = same ∙ pending
left_pending s left w ws pending (inr gone) = absurd (some_is w ws (sym pending ∙ gone.1))

-- ---- Values

-- the index of the first does not matter where there is none
pub none_anywhere : (t : IntTypeFields) (i j : ℕ) (vs : List ℤ) → first_outside t i vs ≡ None → first_outside t j vs ≡ None
none_anywhere t i j [] none = refl
none_anywhere t i j (v ∷ vs) none =
    let first = first_has_cell t i v vs none in
    first_outside-cons t j v vs ∙ ap (λ (o : Option (List ℕ)). by_cell t j v vs o) first.is ∙ none_anywhere t (i + 1) (j + 1) vs first.rest

pub none_outside : (t : IntTypeFields) (i : ℕ) (vs ws : List ℤ) → first_outside t i vs ≡ None → first_outside t 0 ws ≡ None → first_outside t i (vs ++ ws) ≡ None
none_outside t i [] ws first second = none_anywhere t 0 i ws second
none_outside t i (v ∷ vs) ws first second =
    let cell = first_has_cell t i v vs first in
    first_outside-cons t i v (vs ++ ws) ∙ ap (λ (o : Option (List ℕ)). by_cell t i v (vs ++ ws) o) cell.is ∙ none_outside t (i + 1) vs ws cell.rest second

-- ---- Rows are appended

-- with more rows so many more wait behind the early ones
pub waits_more : (waits more early cols : ℕ) → early ≤ waits → (waits + more - early) * cols ≡ (waits - early) * cols + more * cols
waits_more waits more early cols some =
    let sum : waits + more - early ≡ (waits - early) + more = omega (arith, some) in
    ap (λ (n : ℕ). n * cols) sum ∙ (let e : ((waits - early) + more) * cols ≡ (waits - early) * cols + more * cols = omega arith in e)

unfoldable pub values_running : (s : Session) (values : List ℤ) (log : Log) → 1 ≤ s.dataset.shape.cols → AreRows s values → first_outside s.dataset.int_type 0 values ≡ None → Running s [] log → Running (with_values s values) [] (and_now (appends values) log)
values_running s values log some rows fit r =
    let more = length values / s.dataset.shape.cols in
    let count = rows_are s values some rows in
    let early = r.some in
    let split : (s.waits + more - s.early) * s.dataset.shape.cols ≡ (s.waits - s.early) * s.dataset.shape.cols + more * s.dataset.shape.cols = waits_more s.waits more s.early s.dataset.shape.cols r.some in
    record {
      after = r.after;
      address = r.address;
      held = r.held;
      runs = append_runs s.name log values r.after r.after r.held r.held [] r.runs (refl, refl);
      rest = r.rest;
      knows = r.knows;
      holds = r.holds;
      keeps = record { root = r.keeps.root; place = r.keeps.place; dataset = r.keeps.dataset; header = r.keeps.header };
      index = r.index;
      marks = mark_laws.more s.dataset s.dataset.shape.rows (s.dataset.shape.rows + s.waits) (s.dataset.shape.rows + (s.waits + length values / s.dataset.shape.cols)) s.index (omega arith) r.marks;
      early = r.early;
      written = r.written;
      some = omega (arith, early);
      flushing = r.flushing;
      more = r.more ++ values;
      waiting = ap (λ (b : List ℕ). b ++ cells_of s.dataset values) r.waiting ∙ sym (cells_of-append s.dataset r.more values);
      fit = ap (λ (vs : List ℤ). first_outside s.dataset.int_type 0 vs) (sym (append_assoc r.early r.more values)) ∙ none_outside s.dataset.int_type 0 (r.early ++ r.more) values r.fit fit;
      count = length-append r.more values ∙ omega (arith, r.count, count, split);
      appended = ap (λ (vs : List ℤ). r.after.values ++ vs) (sym (append_assoc r.early r.more values)) ∙ sym (append_assoc r.after.values (r.early ++ r.more) values) ∙ ap (λ (vs : List ℤ). vs ++ values) r.appended ∙ append_assoc log.values (appended_in log.events) values;
      committed = r.committed;
      planned = r.planned;
      columns = r.columns;
      past = past_values s (with_values s values) values log r.after (record { name = refl; place = refl; dataset = refl; address = λ named. refl; limit = refl; own = λ o. o; reach = λ first img h. h; roomy = λ o. o }) refl r.past;
    }

pub values_stand : (s : Session) (values : List ℤ) (log : Log) → 1 ≤ s.dataset.shape.cols → AreRows s values → s.pending ≡ [] → Accepted s values → Stands s log → Stands (with_values s values) (and_now (appends values) log)
values_stand s values log some rows idle by st =
    let none : st.left ≡ [] = left_running s st.left by.running st.dropped ∙ idle in
    elim st.phase [
      | inl c ↦ absurd (c.1.some none)
      | inr r ↦
          let next = values_running s values log some rows by.fit (subst (λ (ws : List Write). Running s ws log) none r) in
          let goes = next.runs.goes in
          record { left = []; dropped = inl (sym idle); phase = inr next; prefixed = goes.prefixed; still = goes.still }
    ]

-- ---- A stop

stop_running : (s : Session) (left : List Write) (log : Log) → Running s left log → Running (stopped_of s) left log
stop_running s left log r = record {
  after = r.after;
  address = r.address;
  held = r.held;
  runs = r.runs;
  rest = r.rest;
  knows = r.knows;
  holds = r.holds;
  keeps = record { root = r.keeps.root; place = r.keeps.place; dataset = r.keeps.dataset; header = r.keeps.header };
  index = r.index;
  marks = r.marks;
  early = r.early;
  written = r.written;
  some = r.some;
  flushing = λ e. cc;
  more = r.more;
  waiting = r.waiting;
  fit = r.fit;
  count = r.count;
  appended = r.appended;
  committed = r.committed;
  planned = λ some. absurd (some refl refl);
  columns = r.columns;
  past = past_same s (stopped_of s) left log r.after (record { name = refl; place = refl; dataset = refl; address = λ named. refl; limit = refl; own = λ o. o; reach = λ first img h. h; roomy = λ o. o }) refl r.past;
}

pub stop_as : (s : Session) (left : List Write) (log : Log) (r : Running s left log) → RunsAs (stopped_of s) left log r.after r.address r.held r.rest
unfolding stop_running
stop_as s left log r = record { running = stop_running s left log r; after = refl; address_is = refl; held_is = refl; rest_is = refl }

pub stop_stands : (s : Session) (log : Log) → Stands s log → Stands (stopped_of s) log
stop_stands s log st =
    record {
      left = st.left;
      dropped = inr (refl, refl);
      phase = elim st.phase [
        | inl c ↦ inl (
          c.0,
          record {
            is = c.1.is;
            limit = c.1.limit;
            index = c.1.index;
            some = c.1.some;
            pieces = c.1.pieces;
            session = ap stopped_of c.1.session;
            log_is = c.1.log_is;
            appended = c.1.appended;
            flushed = c.1.flushed;
          },
        )
        | inr r ↦ inr (stop_running s st.left log r)
      ];
      prefixed = st.prefixed;
      still = st.still;
    }

-- ---- A piece that became visible

image_shown : (log : Log) (w : Write) (ws : List Write) → image (image_now log) (w ∷ ws) ≡ image (image_now (and_now (shows w) log)) ws
image_shown log w ws = ap (λ (x : List ℕ). image x ws) (sym (image_pushed log w))

-- a run without pending pieces is at its moment
pub resting : (name : List ℕ) (log : Log) (n : Moment) (after : List Used) → Runs name log [] n after → Goes name log n after
resting name log n after r = subst (λ (h : List Used). Goes name log n h) (sym r.flush.1) (subst (λ (m : Moment). Goes name log m r.held) (sym r.flush.0) r.goes)

-- its rows are those that are flushed
pub goes_rows : (name : List ℕ) (log : Log) (m : Moment) (held : List Used) → Goes name log m held → flushed_rows log ≡ m.dataset.shape.rows
goes_rows name log m held g =
    let rows = m.dataset.shape.rows in
    let len : length (flushed log) ≡ rows * log.columns = ap length (sym g.values) ∙ g.now.count ∙ ap (λ (n : ℕ). rows * n) g.columns in
    ap (λ (n : ℕ). n / log.columns) (len ∙ omega arith) ∙ div-mul-add rows log.columns 0 g.some_columns

-- what is known stays known where what was retired becomes free, or is forgotten
pub freed_or_kept : (keeps : Bool) (img name : List ℕ) (m : Moment) (address : Key → ℕ) (s t : Space) (held : List Used) → Freed keeps s t → KnownHeld img name m address s held → KnownHeld img name m address t held
freed_or_kept true img name m address s t held freed known =
    let k = known.knows in
    let h = k.holding in
    subst (λ (x : Space). KnownHeld img name m address x held) (sym freed)
    (record {
      knows = record {
        file = k.file;
        index = k.index;
        live = λ u among. forgotten_live s (extent_of u) (k.live u among);
        ended = k.ended;
        covered = k.covered;
        held = k.held;
        holding = record { reaches = h.reaches; off_front = h.off_front; clear = h.clear; some = h.some; live = λ u among. forgotten_live s (extent_of u) (h.live u among) };
        layout = k.layout;
      };
      is = known.is;
    })
freed_or_kept false img name m address s t held freed known =
    let free = freed_known img name m address s t freed known.knows in
    record { knows = free.knows; is = free.is ∙ known.is }

-- what was live is live
pub freed_live : (keeps : Bool) (s t : Space) → Freed keeps s t → (r : Extent) → IsLive s r → IsLive t r
freed_live true s t freed r live = subst (λ (x : Space). IsLive x r) (sym freed) (forgotten_live s r live)
freed_live false s t freed r live = committed_live s t freed r live

-- the end and the limit stay there
pub freed_keeps : (keeps : Bool) (s t : Space) → Freed keeps s t → (t.end ≡ s.end) × (t.limit ≡ s.limit)
freed_keeps true s t freed = (ap (λ (x : Space). x.end) freed, ap (λ (x : Space). x.limit) freed)
freed_keeps false s t freed = (freed.end, freed.limit)

-- the session once its last piece became visible, of a flush or not
abbrev pub settled : Session → Space → Session
settled s t = record s { places = t; committed = s.dataset.shape.rows; pending = []; flushing = false }

abbrev pub with_pending : Session → List Write → Session
with_pending s ws = record s { pending = ws }

module _ (s : Session) (w : Write) (log : Log) (r : Running s (w ∷ []) log) where
  abbrev next : Log
  next = and_now (shows w) log

  last_image : image (image_now log) (w ∷ []) ≡ image_now next
  last_image = image_shown log w []

  last_runs : Runs s.name next [] r.after r.held
  last_runs = piece_runs s.name log w [] r.after r.held r.runs

  last_committed : flushed_rows next ≡ s.dataset.shape.rows
  last_committed = goes_rows s.name next r.after r.held (resting s.name next r.after r.held last_runs) ∙ ap (λ (d : Described). d.shape.rows) r.keeps.dataset

  last_known : KnownHeld (image_now next) s.name r.after r.address r.rest r.held
  last_known = subst (λ (x : List ℕ). KnownHeld x s.name r.after r.address r.rest r.held) last_image (record { knows = r.knows; is = r.holds })

  last_early : HasEarly s.dataset s.early s.chunks s.places (image_now next) r.address r.rest r.early
  last_early = subst (λ (x : List ℕ). HasEarly s.dataset s.early s.chunks s.places x r.address r.rest r.early) last_image r.written

  last_index : IsKeptIndex (image_now next) r.after r.address r.rest s.index
  last_index = subst (λ (x : List ℕ). IsKeptIndex x r.after r.address r.rest s.index) last_image r.index

  -- of a flush: what was retired is free, or forgotten
  pub last_running : (t : Space) → s.flushing ≡ true → Freed s.keeps s.places t → Running (settled s t) [] next
  last_running t flushes freed =
      let none = r.flushing flushes in
      let rest : r.rest ≡ s.places = r.written.none none in
      let now = subst (λ (x : Space). KnownHeld (image_now next) s.name r.after r.address x r.held) rest last_known in
      let known = freed_or_kept s.keeps (image_now next) s.name r.after r.address s.places t r.held freed now in
      record {
        after = r.after;
        address = r.address;
        held = r.held;
        runs = last_runs;
        rest = t;
        knows = known.knows;
        holds = known.is;
        keeps = record { root = r.keeps.root; place = r.keeps.place; dataset = r.keeps.dataset; header = subst (λ (x : List ℕ). chunk_0 x s.place ≡ s.header) last_image r.keeps.header };
        index = freed_kept s.keeps (image_now next) r.after r.address s.places t s.index freed (subst (λ (x : Space). IsKeptIndex (image_now next) r.after r.address x s.index) rest last_index);
        marks = r.marks;
        early = r.early;
        written = early_freed s.dataset s.early s.chunks s.places t (image_now next) r.address r.rest r.early none last_early;
        some = r.some;
        flushing = λ e. none;
        more = r.more;
        waiting = r.waiting;
        fit = r.fit;
        count = r.count;
        appended = r.appended;
        committed = last_committed;
        planned = λ some e. refl;
        columns = r.columns;
        past = past_shown s (settled s t) w [] log r.after r.held (record { name = refl; place = refl; dataset = refl; address = λ named. refl; limit = (freed_keeps s.keeps s.places t freed).1; own = λ o. o; reach = λ first img h. h; roomy = λ o. o }) (freed_keeps s.keeps s.places t freed).0 r.runs r.past;
      }

  -- of no flush: the rows are those of before
  pub last_unplanned : s.committed ≡ s.dataset.shape.rows → Running (with_pending s []) [] next
  last_unplanned rows = record {
    after = r.after;
    address = r.address;
    held = r.held;
    runs = last_runs;
    rest = r.rest;
    knows = last_known.knows;
    holds = last_known.is;
    keeps = record { root = r.keeps.root; place = r.keeps.place; dataset = r.keeps.dataset; header = subst (λ (x : List ℕ). chunk_0 x s.place ≡ s.header) last_image r.keeps.header };
    index = last_index;
    marks = r.marks;
    early = r.early;
    written = last_early;
    some = r.some;
    flushing = r.flushing;
    more = r.more;
    waiting = r.waiting;
    fit = r.fit;
    count = r.count;
    appended = r.appended;
    committed = last_committed ∙ sym rows;
    planned = λ some e. rows;
    columns = r.columns;
    past = past_shown s (with_pending s []) w [] log r.after r.held (record { name = refl; place = refl; dataset = refl; address = λ named. refl; limit = refl; own = λ o. o; reach = λ first img h. h; roomy = λ o. o }) refl r.runs r.past;
  }

  -- so with what is known in the open
  pub last_as : (t : Space) → s.flushing ≡ true → Freed s.keeps s.places t → RunsAs (settled s t) [] next r.after r.address r.held t
  unfolding last_running
  last_as t flushes freed = record { running = last_running t flushes freed; after = refl; address_is = refl; held_is = refl; rest_is = refl }

  pub unplanned_as : s.committed ≡ s.dataset.shape.rows → RunsAs (with_pending s []) [] next r.after r.address r.held r.rest
  unfolding last_unplanned
  unplanned_as rows = record { running = last_unplanned rows; after = refl; address_is = refl; held_is = refl; rest_is = refl }

picks : (b : Bool) (x y : List ℤ) → b ≡ true → (if b then x else y) ≡ x
picks b x y e = rw e refl

pub more_running : (s : Session) (w x : Write) (xs : List Write) (log : Log) → s.pending ≡ w ∷ x ∷ xs → Running s (w ∷ x ∷ xs) log → Running (with_pending s (x ∷ xs)) (x ∷ xs) (and_now (shows w) log)
more_running s w x xs log pending r =
    let next = and_now (shows w) log in
    let img : image (image_now log) (w ∷ x ∷ xs) ≡ image (image_now next) (x ∷ xs) = image_shown log w (x ∷ xs) in
    let known = subst (λ (y : List ℕ). KnownHeld y s.name r.after r.address r.rest r.held) img (record { knows = r.knows; is = r.holds }) in
    let count = length (w ∷ x ∷ xs) in
    let now : flushed log ≡ r.runs.before.values = r.runs.flushed 0 ∙ picks (nat_lt 0 count) r.runs.before.values r.after.values (lt-ltb 0 count (omega arith)) in
    let later : flushed next ≡ r.runs.before.values = r.runs.flushed 1 ∙ picks (nat_lt 1 count) r.runs.before.values r.after.values (lt-ltb 1 count (omega arith)) in
    record {
      after = r.after;
      address = r.address;
      held = r.held;
      runs = piece_runs s.name log w (x ∷ xs) r.after r.held r.runs;
      rest = r.rest;
      knows = known.knows;
      holds = known.is;
      keeps = record { root = r.keeps.root; place = r.keeps.place; dataset = r.keeps.dataset; header = subst (λ (y : List ℕ). chunk_0 y s.place ≡ s.header) img r.keeps.header };
      index = subst (λ (y : List ℕ). IsKeptIndex y r.after r.address r.rest s.index) img r.index;
      marks = r.marks;
      early = r.early;
      written = subst (λ (y : List ℕ). HasEarly s.dataset s.early s.chunks s.places y r.address r.rest r.early) img r.written;
      some = r.some;
      flushing = r.flushing;
      more = r.more;
      waiting = r.waiting;
      fit = r.fit;
      count = r.count;
      appended = r.appended;
      committed = ap (λ (vs : List ℤ). length vs / log.columns) (later ∙ sym now) ∙ r.committed;
      planned = λ some e. r.planned (λ stopped none. some_is w (x ∷ xs) (sym pending ∙ none)) e;
      columns = r.columns;
      past = past_shown s (with_pending s (x ∷ xs)) w (x ∷ xs) log r.after r.held (record { name = refl; place = refl; dataset = refl; address = λ named. refl; limit = refl; own = λ o. o; reach = λ first img h. h; roomy = λ o. o }) refl r.runs r.past;
    }

pub more_as : (s : Session) (w x : Write) (xs : List Write) (log : Log) (r : Running s (w ∷ x ∷ xs) log) → s.pending ≡ w ∷ x ∷ xs → RunsAs (with_pending s (x ∷ xs)) (x ∷ xs) (and_now (shows w) log) r.after r.address r.held r.rest
unfolding more_running
more_as s w x xs log r pending = record { running = more_running s w x xs log pending r; after = refl; address_is = refl; held_is = refl; rest_is = refl }

-- ---- A close

-- a chunk has bytes
some_bytes : (d : Described) → IsCounted d → 0 < chunk_bytes d
some_bytes d c =
    let cells : 1 * 1 ≤ d.layout.chunk_rows * d.layout.chunk_cols = mul-le 1 1 d.layout.chunk_rows d.layout.chunk_cols (omega (arith, c.rows)) (omega (arith, c.cols)) in
    let bytes : 1 * 1 ≤ d.layout.chunk_rows * d.layout.chunk_cols * d.int_type.size = mul-le 1 1 (d.layout.chunk_rows * d.layout.chunk_cols) d.int_type.size (omega (arith, cells)) (omega (arith, c.some)) in
    omega (arith, bytes)

cleared_alike : (flags : ℕ) → ((cleared flags % 2) == (cleared flags / 4 % 2)) ≡ true
cleared_alike flags =
    let low : cleared flags % 2 ≡ 0 = omega arith in
    let high : cleared flags / 4 % 2 ≡ 0 = omega arith in
    eq-eqb (cleared flags % 2) (cleared flags / 4 % 2) (low ∙ sym high)

closed_swmr : (s : Session) → is_swmr (closed_root s) ≡ true
closed_swmr s = or_right (s.root.version == 2) ((cleared s.root.flags % 2) == (cleared s.root.flags / 4 % 2)) (cleared_alike s.root.flags)

pub either : (b : Bool) (x y : List ℤ) → x ≡ y → (if b then x else y) ≡ y
either true x y e = e
either false x y e = refl

pub same_either : (b : Bool) (x : List ℤ) → x ≡ (if b then x else x)
same_either true x = refl
same_either false x = refl

flagged_running : (s : Session) (log : Log) (flags : ℕ) (stop : Bool) → s.stopped ≡ false → super_at (super_bytes (flagged_root flags s)) ≡ Ok (flagged_root flags s) → is_swmr (flagged_root flags s) ≡ true → Running s [] log
    → Running (flagged flags stop s) (flagged flags stop s).pending log
flagged_running s log flags stop running reads swmr r =
    let m = r.after in
    let root = flagged_root flags s in
    let w : Write = record { at = 0; piece = super_bytes root } in
    let n : Moment = record m { super = root } in
    let img = image_now log in
    let same : m.super ≡ s.root = r.keeps.root in
    let end : m.super.end ≡ root.end = ap (λ (x : Super). x.end) same in
    let raised : Ends img m w n = record {
      is = refl;
      place = refl;
      len = length-super_bytes root;
      reads = reads;
      root = ap (λ (x : Super). x.root) (sym same);
      swmr = swmr;
      rises = omega (arith, end);
      there = omega (arith, end, r.knows.ended, r.knows.covered);
    } in
    let off = ends_missed img m n w r.knows.file.apart raised in
    let header_off = λ (u : Used) (a : Among u m.header) (b : u.chunk ≡ false). off u (among_right u m.root (m.header ++ (m.fixed ++ m.behind)) (among_left u m.header (m.fixed ++ m.behind) a)) in
    let index_off = λ (u : Used) (a : Among u (m.fixed ++ m.behind)) (b : u.chunk ≡ false). off u (among_right u m.root (m.header ++ (m.fixed ++ m.behind)) (among_right u m.header (m.fixed ++ m.behind) a)) in
    let index = missed_kept img s.name m r.address r.rest s.index w r.knows index_off r.index in
    let kept = header_kept img s.name m w r.knows.file header_off in
    let place : m.place ≡ s.place = r.keeps.place in
    let known = end_known img s.name m n r.address r.rest w r.knows raised (omega (arith, end, r.knows.ended)) in
    record {
      after = n;
      address = r.address;
      held = r.held;
      runs = record {
        before = m;
        held = r.held;
        goes = resting s.name log m r.held r.runs;
        flush = (n, r.held, ends raised refl, (λ more. refl), (refl, refl));
        flushed = λ k. r.runs.flushed k ∙ either (nat_lt k 0) r.runs.before.values m.values (ap (λ (x : Moment). x.values) (sym r.runs.flush.0)) ∙ same_either (nat_lt k 1) m.values;
      };
      rest = r.rest;
      knows = known.knows;
      holds = known.is ∙ r.holds;
      keeps = record {
        root = refl;
        place = place;
        dataset = r.keeps.dataset;
        header = ap (λ (p : ℕ). chunk_0 (apply w img) p) (sym place) ∙ kept.chunk ∙ ap (λ (p : ℕ). chunk_0 img p) place ∙ r.keeps.header;
      };
      index = super_kept (apply w img) m root r.address r.rest s.index index;
      marks = r.marks;
      early = r.early;
      written = early_missed s.dataset s.early s.chunks s.places img s.name m r.address r.rest r.early (sym r.keeps.dataset) r.knows (some_bytes s.dataset r.past.counted) r.written w refl (length-super_bytes root);
      some = r.some;
      flushing = r.flushing;
      more = r.more;
      waiting = r.waiting;
      fit = r.fit;
      count = r.count;
      appended = r.appended;
      committed = r.committed;
      planned = λ some e. r.planned (λ stopped. absurd (not_both s.stopped running stopped)) e;
      columns = r.columns;
      past = past_more s (flagged flags stop s) (flagged flags stop s).pending log m n (record { name = refl; place = refl; dataset = refl; address = λ named. refl; limit = refl; own = λ o. o; reach = λ first img h. h; roomy = λ o. o }) refl (omega (arith, length-super_bytes root, r.past.limit_low), tt) refl r.past;
    }

pub flagged_as : (s : Session) (log : Log) (r : Running s [] log) (flags : ℕ) (stop : Bool) → s.stopped ≡ false → super_at (super_bytes (flagged_root flags s)) ≡ Ok (flagged_root flags s) → is_swmr (flagged_root flags s) ≡ true
    → RunsAs (flagged flags stop s) (super_piece (flagged_root flags s) ∷ []) log (moved_to (flagged_root flags s) r.after) r.address r.held r.rest
unfolding flagged_running
flagged_as s log r flags stop running reads swmr = record { running = flagged_running s log flags stop running reads swmr r; after = refl; address_is = refl; held_is = refl; rest_is = refl }

-- the superblock is written with other flags
pub flagged_stands : (s : Session) (log : Log) (flags : ℕ) (stop : Bool) → super_at (super_bytes (flagged_root flags s)) ≡ Ok (flagged_root flags s) → is_swmr (flagged_root flags s) ≡ true → s.stopped ≡ false → s.pending ≡ [] → Stands s log
    → Stands (flagged flags stop s) log
flagged_stands s log flags stop reads swmr running idle st =
    let none : st.left ≡ [] = left_running s st.left running st.dropped ∙ idle in
    elim st.phase [
      | inl c ↦ absurd (c.1.some none)
      | inr r ↦ record {
        left = (flagged flags stop s).pending;
        dropped = inl refl;
        phase = inr (flagged_running s log flags stop running reads swmr (subst (λ (ws : List Write). Running s ws log) none r));
        prefixed = st.prefixed;
        still = st.still;
      }
    ]

pub close_stands : (s : Session) (log : Log) → super_at (super_bytes (closed_root s)) ≡ Ok (closed_root s) → s.stopped ≡ false → s.pending ≡ [] → Stands s log → Stands (closed_of s) log
close_stands s log reads running idle st = flagged_stands s log (cleared s.root.flags) true reads (closed_swmr s) running idle st
