-- What a flush makes of a session that stands over a log.
use Rattle.std.proofs.Common.{◌≡◌, ◌⊎◌, ℕ, ◌-◌, ◌*◌, Bool, true, false, List, [], ◌∷◌, ◌++◌, length, ℤ, refl, sym, ap, ◌∙◌, subst, inl, inr, arith, append-nil}
use Rattle.std.specs.Prelude.{if◌then◌else◌}
use Rattle.std.proofs.lemmas.Bool.{le-leb}
use Rattle.std.proofs.lemmas.List.{nil_from_length}
use Rattle.h5w_model.specs.Logs.{Log, load, plans, appended, appended_in, flushed_in, and_now}
use Rattle.h5w_model.specs.declared.piece.Write.{Write}
use Rattle.h5w_model.specs.Numbers.{undefined}
use Rattle.h5w_step_laws.specs.Logs.{Goes, image_now}
use Rattle.h5w_step_laws.proofs.GoesLemmas.{event_goes}
use Rattle.h5w_step_laws.proofs.SessionLaws.{goes_runs}
use Rattle.h5w_writer.specs.Sessions.{Session, cutting_of, rows_of}
use Rattle.h5w_index.specs.Views.{IndexView}
use Rattle.h5w_index.specs.Placing.{IsPartly}
use Rattle.h5w_index.proofs.PartLemmas.{rests_held}
use Rattle.h5w_index.proofs.PlacingLemmas.{placing_laws}
use Rattle.h5w_index.proofs.RaisedLemmas.{raised_more, raised_none}
use Rattle.h5w_index.specs.Blocks.{has_no_block}
use Rattle.h5w_writer.specs.Indexes.{IsKeptIndex, Lacks, an_index, a_block}
use Rattle.h5w_writer.proofs.HeaderAlone.{same_block}
use Rattle.h5w_writer.specs.Flushes.{IsFlushed, SameBut, flushed_of}
use Rattle.h5w_writer.specs.PartLaws.{RunsAs}
use Rattle.h5w_writer.specs.Past.{Past}
use Rattle.h5w_writer.specs.Stands.{Running, Stands}
use Rattle.h5w_writer.proofs.PastLemmas.{like_itself, past_planned, past_same}
use Rattle.h5w_writer.proofs.StandLemmas.{goes_rows, left_running, resting}
use Rattle.h5w_writer.proofs.FlushLemmas.{after_flush, flush_running}
use Rattle.h5w_model.specs.Datasets.{Described}
use Rattle.h5w_model.specs.declared.cell.Key.{Key}
use Rattle.h5w_step_laws.specs.Moments.{Moment}
use Rattle.h5w_space.specs.Space.{Space}

-- ---- Rows are flushed

planned_stands : (old new : Session) (log : Log) (x : IsFlushed old new) (r : Running old [] log) → Past new new.pending (and_now (plans (length new.pending)) log) (after_flush old new log x r)
    → Stands new (and_now (plans (length new.pending)) log)
planned_stands old new log x r past =
    let next = and_now (plans (length new.pending)) log in
    let s = flushed_of old new.places new.pending new.index in
    let own : Past s new.pending next (after_flush old new log x r) = subst (λ (t : Session). Past t new.pending next (after_flush old new log x r)) x.session past in
    let running : Running s new.pending next = flush_running old new log x r own in
    let goes = running.runs.goes in
    subst (λ (t : Session). Stands t next) (sym x.session) (record { left = new.pending; dropped = inl refl; phase = inr running; prefixed = goes.prefixed; still = goes.still })

-- a session that is neither stopped nor waits for pieces runs
pub idle_running : (s : Session) (log : Log) → s.stopped ≡ false → s.pending ≡ [] → Stands s log → Running s [] log
idle_running s log running idle st =
    let none : st.left ≡ [] = left_running s st.left running st.dropped ∙ idle in
    elim st.phase [
      | inl c ↦ absurd (c.1.some none)
      | inr r ↦ subst (λ (ws : List Write). Running s ws log) none r
    ]

pub flush_stands : (old new : Session) (log : Log) (x : IsFlushed old new) → old.stopped ≡ false → old.pending ≡ []
    → ((r : Running old [] log) → Past new new.pending (and_now (plans (length new.pending)) log) (after_flush old new log x r))
    → Stands old log → Stands new (and_now (plans (length new.pending)) log)
flush_stands old new log x running idle past st = let r = idle_running old log running idle st in planned_stands old new log x r (past r)

-- ---- No row waits

no_rows : (n cols : ℕ) → n ≡ 0 → n * cols ≡ 0
no_rows n cols none = ap (λ (k : ℕ). k * cols) none ∙ omega arith

nothing_running : (s : Session) (log : Log) → s.waits ≡ 0 → Running s [] log → Running s [] (and_now (plans 0) log)
nothing_running s log none r =
    let next = and_now (plans 0) log in
    let m = r.after in
    let goes = resting s.name log m r.held r.runs in
    let chosen : Bool → ℕ → List ℤ = λ b k. if b then log.values ++ appended_in log.events else flushed_in k log.values log.events in
    let early : r.early ≡ [] = nil_from_length r.early (r.written.count ∙ no_rows s.early s.dataset.shape.cols (let some = r.some in omega (arith, some, none))) in
    let more : r.more ≡ [] = nil_from_length r.more (r.count ∙ no_rows (s.waits - s.early) s.dataset.shape.cols (omega (arith, none))) in
    let others : r.early ++ r.more ≡ [] = ap (λ (vs : List ℤ). vs ++ r.more) early ∙ more in
    let all : m.values ≡ appended log = sym (append-nil m.values) ∙ ap (λ (vs : List ℤ). m.values ++ vs) (sym others) ∙ r.appended in
    let each : (k : ℕ) → flushed_in k next.values next.events ≡ m.values = λ k. ap (λ b. chosen b k) (le-leb 0 k (omega arith)) ∙ sym all in
    let later : Goes s.name next m r.held = event_goes s.name (plans 0) log m r.held refl (sym (each 0)) goes in
    record {
      after = m;
      address = r.address;
      held = r.held;
      runs = goes_runs s.name next m r.held later each;
      rest = r.rest;
      knows = r.knows;
      holds = r.holds;
      keeps = r.keeps;
      index = r.index;
      marks = r.marks;
      early = r.early;
      written = r.written;
      some = r.some;
      flushing = r.flushing;
      more = r.more;
      waiting = r.waiting;
      fit = r.fit;
      count = r.count;
      appended = r.appended;
      committed = goes_rows s.name next m r.held later ∙ sym (goes_rows s.name log m r.held goes) ∙ r.committed;
      planned = r.planned;
      columns = r.columns;
      past = past_planned s s 0 [] log m m (like_itself s) (raised_more s.places s.places 0 (load (cutting_of s) log) (omega arith) (raised_none s.places s.places refl refl)) tt r.past.next r.past;
    }

pub nothing_as : (s : Session) (log : Log) (r : Running s [] log) → s.waits ≡ 0 → RunsAs s [] (and_now (plans 0) log) r.after r.address r.held r.rest
unfolding nothing_running
nothing_as s log r none = record { running = nothing_running s log none r; after = refl; address_is = refl; held_is = refl; rest_is = refl }

-- a flush of no rows plans no pieces
pub nothing_stands : (s : Session) (log : Log) → s.stopped ≡ false → s.pending ≡ [] → s.waits ≡ 0 → Stands s log → Stands s (and_now (plans 0) log)
nothing_stands s log running idle none st =
    let next = nothing_running s log none (idle_running s log running idle st) in
    let goes = next.runs.goes in
    record { left = []; dropped = inl (sym idle); phase = inr next; prefixed = goes.prefixed; still = goes.still }

-- ---- A flush is refused

-- places that are held leave what the index is for the file; where the file has none yet, it stays
held_kept : (img : List ℕ) (m : Moment) (address : Key → ℕ) (s : Space) (d : Described) (to : ℕ) (v w : IndexView) → IsPartly d to v [] w → ((m.dataset.layout.address ≡ undefined) ⊎ (has_no_block v ≡ true) → w ≡ v)
    → IsKeptIndex img m address s v → IsKeptIndex img m address s w
held_kept img m address s d to v w held still (inl i) = inl (rests_held img m address s v w (placing_laws.kept d to v w held) i)
held_kept img m address s d to v w held still (inr none) = subst (λ (u : IndexView). IsKeptIndex img m address s u) (sym (still (lacking none.lacks))) (inr none)
  where
    lacking : Lacks img m.dataset v → (m.dataset.layout.address ≡ undefined) ⊎ (has_no_block v ≡ true)
    lacking (an_index unnamed) = inl unnamed
    lacking (a_block alone no_block) = inr no_block

refused_running : (old new : Session) (log : Log) → SameBut old new → Running old [] log → Running (record old { index = new.index }) [] log
refused_running old new log b r = record {
  after = r.after;
  address = r.address;
  held = r.held;
  runs = r.runs;
  rest = r.rest;
  knows = r.knows;
  holds = r.holds;
  keeps = record { root = r.keeps.root; place = r.keeps.place; dataset = r.keeps.dataset; header = r.keeps.header };
  index =
      held_kept (image_now log) r.after r.address r.rest old.dataset (rows_of old) old.index new.index b.held
      (λ none. b.unmade (subst (λ (d : Described). (d.layout.address ≡ undefined) ⊎ (has_no_block old.index ≡ true)) r.keeps.dataset none)) r.index;
  marks = b.held.marks r.marks;
  early = r.early;
  written = r.written;
  some = r.some;
  flushing = r.flushing;
  more = r.more;
  waiting = r.waiting;
  fit = r.fit;
  count = r.count;
  appended = r.appended;
  committed = r.committed;
  planned = r.planned;
  columns = r.columns;
  past = past_same old (record old { index = new.index }) [] log r.after (record { name = refl; place = refl; dataset = refl; address = λ named. refl; limit = refl; own = λ o. (b.held.own o.0, same_block old.index new.index (placing_laws.kept old.dataset (rows_of old) old.index new.index b.held).like.fixed ∙ o.1); reach = λ first img reached more key low there. b.held.reach key there (reached more key low (λ e. there ((placing_laws.kept old.dataset (rows_of old) old.index new.index b.held).map key ∙ e))); roomy = b.roomy }) refl r.past;
}

index_as : (old new : Session) (log : Log) (r : Running old [] log) → SameBut old new → RunsAs (record old { index = new.index }) [] log r.after r.address r.held r.rest
unfolding refused_running
index_as old new log r b = record { running = refused_running old new log b r; after = refl; address_is = refl; held_is = refl; rest_is = refl }

pub refused_as : (old new : Session) (log : Log) (r : Running old [] log) → SameBut old new → RunsAs new [] log r.after r.address r.held r.rest
refused_as old new log r b = subst (λ (t : Session). RunsAs t [] log r.after r.address r.held r.rest) (sym b.session) (index_as old new log r b)

pub refused_stands : (old new : Session) (log : Log) → SameBut old new → old.stopped ≡ false → old.pending ≡ [] → Stands old log → Stands new log
refused_stands old new log b running idle st =
    let own = refused_running old new log b (idle_running old log running idle st) in
    let goes = own.runs.goes in
    subst (λ (t : Session). Stands t log) (sym b.session) (record { left = []; dropped = inl (sym idle); phase = inr own; prefixed = goes.prefixed; still = goes.still })
