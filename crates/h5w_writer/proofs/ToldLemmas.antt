-- Pieces of other datasets of the file are shown to a session at rest.
use Rattle.std.proofs.Common.{◌≡◌, ℕ, zero, suc, ◌+◌, ◌≤◌, false, List, [], ◌∷◌, ◌++◌, ℤ, refl, sym, ap, ◌∙◌, subst, inl, inr, arith, append-nil, append_assoc}
use Rattle.h5w_model.specs.Images.{image}
use Rattle.h5w_model.specs.Logs.{Cutting, Log, Happening, appends, shows, and_now, appended, appended_in, flushed_rows, hist, load, rows_in, spent, spent_in}
use Rattle.h5w_model.specs.declared.piece.Write.{Write}
use Rattle.h5w_model.specs.declared.root.Super.{Super}
use Rattle.h5w_model.specs.Findings.{Used}
use Rattle.h5w_step_laws.specs.Files.{chunk_0}
use Rattle.h5w_space.specs.Space.{Space}
use Rattle.h5w_step_laws.specs.Moments.{Moment}
use Rattle.h5w_step_laws.specs.Logs.{image_now}
use Rattle.h5w_step_laws.specs.Plans.{Plan}
use Rattle.h5w_step_laws.specs.Sessions.{Runs}
use Rattle.h5w_step_laws.proofs.GoesLemmas.{image_pushed}
use Rattle.h5w_step_laws.proofs.SessionLaws.{append_runs, piece_runs}
use Rattle.h5w_flush_laws.specs.Knowledge.{KnownHeld}
use Rattle.h5w_writer.specs.Early.{HasEarly}
use Rattle.h5w_writer.specs.Indexes.{IsKeptIndex}
use Rattle.h5w_writer.specs.Loads.{first_end_of}
use Rattle.h5w_writer.specs.PartLaws.{RunsAs}
use Rattle.h5w_writer.specs.Past.{Past, most_of}
use Rattle.h5w_model.specs.declared.cell.Key.{Key}
use Rattle.h5w_index.specs.Held.{view_of}
use Rattle.h5w_index.specs.Views.{IndexView}
use Rattle.h5w_writer.specs.Halves.{IsHalf, IsReady}
use Rattle.h5w_writer.specs.declared.planned.Prepared.{Prepared}
use Rattle.h5w_writer.specs.declared.planned.Planned.{Planned}
use Rattle.h5w_writer.specs.declared.planned.Planned.TheVariants.{Alone, Grows, Starts}
use Rattle.h5w_writer.specs.Sessions.{AllEndBy, IsSession, IsWhole, Session, cutting_of}
use Rattle.h5w_writer.specs.Stands.{Running, Stands}
use Rattle.h5w_writer.specs.Told.{IsTold, ToldLaws, moved_to, pausing, showing, told_log, told_of}
use Rattle.h5w_writer.proofs.FlushStands.{idle_running}
use Rattle.h5w_writer.proofs.LoadLemmas.{flush_shows}
use Rattle.h5w_writer.proofs.PastLemmas.{ends_front, ends_joined, like_itself, past_shown, past_values, spent_in-events}
use Rattle.h5w_writer.proofs.StandLemmas.{goes_rows, resting}
use Rattle.h5w_writer.proofs.StateLemmas.{still_is}

-- ---- The log

hist-pausing : (n : ℕ) (es : List Happening) → hist (pausing n es) ≡ hist es
hist-pausing zero es = refl
hist-pausing (suc n) es = hist-pausing n es

hist-showing : (ws : List Write) (es : List Happening) → hist (showing ws es) ≡ hist es ++ ws
hist-showing [] es = sym (append-nil (hist es))
hist-showing (w ∷ ws) es = hist-showing ws (shows w ∷ es) ∙ append_assoc (hist es) (w ∷ []) ws

pieces_told : (n : ℕ) (ws : List Write) (log : Log) → hist (told_log n ws log).events ≡ hist log.events ++ ws
pieces_told n ws log = hist-showing ws (pausing n log.events) ∙ ap (λ (vs : List Write). vs ++ ws) (hist-pausing n log.events)

appended-pausing : (n : ℕ) (es : List Happening) → appended_in (pausing n es) ≡ appended_in es
appended-pausing zero es = refl
appended-pausing (suc n) es = append-nil (appended_in (pausing n es)) ∙ appended-pausing n es

appended-showing : (ws : List Write) (es : List Happening) → appended_in (showing ws es) ≡ appended_in es
appended-showing [] es = refl
appended-showing (w ∷ ws) es = appended-showing ws (shows w ∷ es)

appended_told : (n : ℕ) (ws : List Write) (log : Log) → appended (told_log n ws log) ≡ appended log
appended_told n ws log = ap (λ (vs : List ℤ). log.values ++ vs) (appended-showing ws (pausing n log.events) ∙ appended-pausing n log.events)

abbrev paused : ℕ → Log → Log
paused n log = record log { events = pausing n log.events }

image_paused : (n : ℕ) (log : Log) → image_now (paused n log) ≡ image_now log
image_paused n log = ap (image log.start) (hist-pausing n log.events)

image_showing : (ws : List Write) (log : Log) → image (image_now log) ws ≡ image_now (record log { events = showing ws log.events })
image_showing [] log = refl
image_showing (w ∷ ws) log = ap (λ (x : List ℕ). image x ws) (sym (image_pushed log w)) ∙ image_showing ws (and_now (shows w) log)

-- each append of no rows is bound to more
spent_paused : (c : Cutting) (n : ℕ) (log : Log) → spent c log + n ≤ spent c (paused n log)
spent_paused c zero log = omega arith
spent_paused c (suc n) log =
    let before = spent_paused c n log in
    let es = pausing n log.events in
    let here : spent_in c (record log { events = appends [] ∷ es }) es ≡ spent_in c (record log { events = es }) es = spent_in-events c (record log { events = es }) (appends [] ∷ es) es in
    omega (arith, before, here)

-- ---- Runs

runs_paused : (name : List ℕ) (n : ℕ) (log : Log) (m : Moment) (held : List Used) → Runs name log [] m held → Runs name (paused n log) [] m held
runs_paused name zero log m held r = r
runs_paused name (suc n) log m held r = append_runs name (paused n log) [] m m held held [] (runs_paused name n log m held r) (refl, refl)

past_paused : (s : Session) (n : ℕ) (log : Log) (m : Moment) → Past s [] log m → Past s [] (paused n log) m
past_paused s zero log m past = past
past_paused s (suc n) log m past = past_values s s [] (paused n log) m (like_itself s) refl (past_paused s n log m past)

-- the pieces wait behind one append of no rows more
past_told : (s : Session) (log : Log) (m : Moment) (ws : List Write) (root : Super) (t : Space) → t.limit ≡ s.places.limit → t.end ≤ most_of s log → AllEndBy (most_of s log) ws → t.end ≤ first_end_of log + spent (cutting_of s) (and_now (appends []) log)
    → Past s [] (and_now (appends []) log) m → Past (told_of s root t) ws (and_now (appends []) log) (moved_to root m)
past_told s log m ws root t limit fits ends grew past =
    let most : most_of (told_of s root t) log ≡ most_of s log = omega (arith, limit) in
    record {
      begun = elim past.begun [
        | inl b ↦ inl (record { file = b.file; is = b.is; log_is = b.log_is; pieces = b.pieces; name = b.name; place = b.place; dataset = b.dataset })
        | inr b ↦ inr (record { summary = b.summary; valid = b.valid; rows = b.rows; reads = b.reads; some_columns = b.some_columns; first = b.first })
      ];
      counted = past.counted;
      limit_low = omega (arith, past.limit_low, limit);
      limit_high = omega (arith, past.limit_high, limit);
      addressed = past.addressed;
      next = past.next;
      own = past.own;
      reach = past.reach;
      grew = grew;
      fits = omega (arith, fits, most);
      ends = subst (λ (n : ℕ). AllEndBy n (hist log.events ++ ws)) (sym most) (ends_joined (most_of s log) (hist log.events) ws (ends_front (most_of s log) (hist log.events) [] past.ends) ends);
      roomy = past.roomy;
    }

-- all pieces are shown
record ShownAll (s : Session) (log : Log) (ws : List Write) (m : Moment) (held : List Used) : Type 0 where
  runs : Runs s.name (record log { events = showing ws log.events }) [] m held
  past : Past s [] (record log { events = showing ws log.events }) m

shown_all : (s : Session) (log : Log) (ws : List Write) (m : Moment) (held : List Used) → Runs s.name log ws m held → Past s ws log m → ShownAll s log ws m held
shown_all s log [] m held runs past = record { runs = runs; past = past }
shown_all s log (w ∷ ws) m held runs past =
    let next = shown_all s (and_now (shows w) log) ws m held (piece_runs s.name log w ws m held runs) (past_shown s s w ws log m held (like_itself s) refl runs past) in
    record { runs = next.runs; past = next.past }

-- ---- The session

module _ (s : Session) (log : Log) (r : Running s [] log) (ws : List Write) (root : Super) (t : Space) (x : IsTold s log r ws root t) where
  abbrev last : Moment
  last = moved_to root r.after

  -- so many appends of no rows are bound to as much as the places rose
  abbrev resting_log : Log
  resting_log = paused t.end log

  abbrev begun : Log
  begun = and_now (appends []) resting_log

  abbrev next : Log
  next = told_log (suc t.end) ws log

  told_runs : Runs s.name begun ws last r.held
  told_runs =
      let plan = subst (λ (img : List ℕ). Plan img r.after r.held ws last r.held) (sym (image_paused t.end log)) x.plan in
      append_runs s.name resting_log [] r.after last r.held r.held ws (runs_paused s.name t.end log r.after r.held r.runs) plan

  told_past : Past (told_of s root t) ws begun last
  told_past =
      let before = past_paused s (suc t.end) log r.after r.past in
      let most = spent_paused (cutting_of s) (suc t.end) log in
      past_told s resting_log r.after ws root t x.limit x.fits x.ends (omega (arith, most)) before

  told_all : ShownAll (told_of s root t) begun ws last r.held
  told_all = shown_all (told_of s root t) begun ws last r.held told_runs told_past

  told_image : image (image_now log) ws ≡ image_now next
  told_image = ap (λ (img : List ℕ). image img ws) (sym (image_paused (suc t.end) log)) ∙ image_showing ws begun

  told_known : KnownHeld (image_now next) s.name last r.address x.rest r.held
  told_known = subst (λ (img : List ℕ). KnownHeld img s.name last r.address x.rest r.held) told_image (record { knows = x.knows; is = x.holds })

  told_running : Running (told_of s root t) [] next
  told_running =
      let goes = resting s.name next last r.held told_all.runs in
      let was = resting s.name log r.after r.held r.runs in
      record {
        after = last;
        address = r.address;
        held = r.held;
        runs = told_all.runs;
        rest = x.rest;
        knows = told_known.knows;
        holds = told_known.is;
        keeps = record { root = refl; place = r.keeps.place; dataset = r.keeps.dataset; header = subst (λ (img : List ℕ). chunk_0 img s.place ≡ s.header) told_image x.header };
        index = subst (λ (img : List ℕ). IsKeptIndex img last r.address x.rest s.index) told_image x.index;
        marks = r.marks;
        early = r.early;
        written = subst (λ (img : List ℕ). HasEarly s.dataset s.early s.chunks t img r.address x.rest r.early) told_image x.written;
        some = r.some;
        flushing = r.flushing;
        more = r.more;
        waiting = r.waiting;
        fit = r.fit;
        count = r.count;
        appended = r.appended ∙ sym (appended_told (suc t.end) ws log);
        committed = goes_rows s.name next last r.held goes ∙ sym (goes_rows s.name log r.after r.held was) ∙ r.committed;
        planned = r.planned;
        columns = r.columns;
        past = told_all.past;
      }

  pub told_as : RunsAs (told_of s root t) [] (told_log (suc t.end) ws log) last r.address r.held x.rest
  unfolding told_running
  told_as = record { running = told_running; after = refl; address_is = refl; held_is = refl; rest_is = refl }

  pub told_stands : s.pending ≡ [] → (n : ℕ) × Stands (told_of s root t) (told_log n ws log)
  told_stands idle =
      let goes = told_running.runs.goes in
      (suc t.end, record { left = []; dropped = inl (sym idle); phase = inr told_running; prefixed = goes.prefixed; still = goes.still })

-- ---- Between the halves of a flush

whole_told : (s : Session) (root : Super) → IsWhole s → IsWhole (told_of s root s.places)
whole_told s root there = record { named = there.named; made = there.made }

session_told : (s : Session) (root : Super) → root.version ≡ s.root.version → IsSession s → IsSession (told_of s root s.places)
session_told s root version is = still_is s root s.committed s.pending s.stopped s.keeps s.flushing version (λ e. (is.flushing e, is.busy e)) is

ready_told : (s : Session) (root : Super) (v : IndexView) (before : Space) (p : Prepared) (added : List Key) (named : IndexView) (t : Space) → IsReady s v before p added named t → IsReady (told_of s root s.places) v before p added named t
ready_told s root v before p added named t r = record {
  chunks = r.chunks;
  prepared = r.prepared;
  all = r.all;
  exact = r.exact;
  written = r.written;
  roomy = r.roomy;
  after = r.after;
  room = r.room;
  end = r.end;
}

halves_told : (old mid : Session) (p : Planned) (root : Super) → root.version ≡ old.root.version → IsHalf old mid p → IsHalf (told_of old root old.places) (told_of mid root mid.places) p
halves_told old mid (Alone ws) root version h =
    let a = h.1 in (
      ap (λ (s : Session). told_of s root s.places) h.0,
      record { there = whole_told old root a.there; waits = a.waits; early = a.early; place = a.place; placing = a.placing; all = a.all; plan = a.plan; exact = a.exact; written = a.written; room = a.room },
    )
halves_told old mid (Grows p) root version h = record {
  session = session_told old root version h.session;
  idle = h.idle;
  there = whole_told old root h.there;
  waits = h.waits;
  rows = record { waits = h.rows.waits; waiting = h.rows.waiting; early = h.rows.early; chunks = h.rows.chunks };
  before = h.before;
  ready = ready_told old root old.index old.places p.prepared p.added.items mid.index mid.places h.ready;
  grown = ap (λ (s : Session). told_of s root s.places) h.grown;
}
halves_told old mid (Starts p) root version h =
    let x = h.1 in (
      ap (λ (s : Session). told_of s root s.places) h.0,
      record {
        session = session_told old root version x.session;
        unmade = x.unmade;
        waits = x.waits;
        first = x.first;
        made = x.made;
        kind = x.kind;
        start = x.start;
        added = x.added;
        ready = ready_told old root x.made x.first p.prepared x.added (view_of p.index) p.places x.ready;
      },
    )

pub told_laws : ToldLaws
told_laws = record {
  runs = idle_running;
  stands = λ s log r ws root t idle x. told_stands s log r ws root t x idle;
  halves = halves_told;
  flush = flush_shows;
  pieces = pieces_told;
  appended = appended_told;
}
