-- The pieces of a flush of one dataset keep the front of its file.
use Rattle.std.proofs.Common.{◌≡◌, ◌⊎◌, ℕ, true, false, List, [], ◌++◌, length, sym, ◌∙◌, ap, subst, inl, inr}
use Rattle.h5w_model.specs.Datasets.{Described}
use Rattle.h5w_model.specs.Findings.{Used}
use Rattle.h5w_model.specs.Logs.{Log, and_now, plans}
use Rattle.h5w_model.specs.Numbers.{undefined}
use Rattle.h5w_model.specs.declared.cell.Key.{Key}
use Rattle.h5w_model.specs.declared.piece.Write.{Write}
use Rattle.h5w_chunks.specs.Grids.{cells_of}
use Rattle.h5w_chunks.specs.Rows.{ChunksApart}
use Rattle.h5w_chunks.specs.Early.{RowsStand}
use Rattle.h5w_space.specs.Space.{Space}
use Rattle.h5w_step_laws.specs.Logs.{image_now}
use Rattle.h5w_flush_laws.specs.Parts.{IsFlush, Parts, pieces_of}
use Rattle.h5w_flush_laws.specs.Knowledge.{HeldMissed}
use Rattle.h5w_index.specs.Blocks.{has_no_block}
use Rattle.h5w_writer.specs.Flushes.{IsFlushed}
use Rattle.h5w_writer.specs.PartLaws.{IsPartFlushed}
use Rattle.h5w_writer.specs.Past.{Past}
use Rattle.h5w_writer.specs.Sessions.{Session, rows_of}
use Rattle.h5w_writer.specs.Stands.{Running, Stands}
use Rattle.h5w_writer.specs.Starts.{HasFlushed, IsStartFlushed, StartRunning}
use Rattle.h5w_writer.proofs.FlushLemmas.{after_flush, shows_part}
use Rattle.h5w_writer.proofs.FlushStands.{idle_running}
use Rattle.h5w_writer.proofs.IndexLemmas.{kept_starting}
use Rattle.h5w_writer.proofs.LoadLemmas.{counted}
use Rattle.h5w_writer.proofs.NextLemmas.{next_addressed}
use Rattle.h5w_writer.proofs.PlannedRows.{planned_stand}
use Rattle.h5w_writer.proofs.StandLemmas.{left_running, not_both}
use Rattle.h5w_writer.proofs.StartedLemmas.{none_then, started_parts}
use Rattle.h5w_several_writer_laws.proofs.TurnPartLemmas.{flushed_flag, flushed_none}
use Rattle.h5w_front_laws.specs.Fronts.{AllKeepFront, SaysWritten}
use Rattle.h5w_front_laws.specs.Laws.{KeepsWritten}
use Rattle.h5w_front_laws.proofs.FrontLemmas.{says_with_end}
use Rattle.h5w_front_laws.proofs.PartFrontLemmas.{flush_keeps}

-- ---- The superblock

-- another end at most
pub flushed_root : (s t : Session) → HasFlushed s t → SaysWritten s.root → SaysWritten t.root
flushed_root s t (inl x) says = subst (λ (y : Session). SaysWritten y.root) (sym x.session) (says_with_end s.root t.places.end says)
flushed_root s t (inr x) says = subst (λ (y : Session). SaysWritten y.root) (sym x.session) (says_with_end s.root t.places.end says)

-- ---- The pieces

module _ (s : Session) (log : Log) (r : Running s [] log) (says : SaysWritten s.root) where
  pieces_keep : (f : Parts) (t : Space) → IsFlush (image_now log) r.after r.address r.rest f t → HeldMissed r.knows.held f.writes → AllKeepFront (pieces_of (image_now log) r.after f)
  pieces_keep f t flush missed = flush_keeps (image_now log) s.name r.after r.address r.rest t f r.knows flush missed (subst SaysWritten (sym r.keeps.root) says)

  -- as a part of a flush of several is told
  pub part_keeps : (t : Session) → IsPartFlushed s t log r → AllKeepFront t.pending
  part_keeps t x = subst AllKeepFront x.pieces (pieces_keep x.parts t.places x.flush (x.missed r.knows.held r.knows.holding))

  -- into an index that is there
  whole_keeps : (t : Session) → (x : IsFlushed s t) → Past t t.pending (and_now (plans (length t.pending)) log) (after_flush s t log x r) → AllKeepFront t.pending
  whole_keeps t x past =
      let next = and_now (plans (length t.pending)) log in
      let own = subst (λ (y : Session). Past y t.pending next (after_flush s t log x r)) x.session past in
      let part = shows_part s t log x r own in
      subst AllKeepFront part.pieces (pieces_keep part.parts t.places part.flush (subst (λ (us : List Used). HeldMissed us part.parts.writes) (sym r.holds) part.missed))

  -- into one that is made with it
  module _ (t : Session) (x : IsStartFlushed s t) where
    abbrev before : StartRunning s log
    before = record {
      after = r.after;
      address = r.address;
      held = r.held;
      runs = r.runs;
      rest = r.rest;
      knows = r.knows;
      holds = r.holds;
      keeps = r.keeps;
      index = kept_starting (image_now log) s.name r.after r.address r.rest s.index r.knows (subst (λ (d : Described). (d.layout.address ≡ undefined) ⊎ (has_no_block s.index ≡ true)) (sym r.keeps.dataset) x.unmade) r.index;
      early = r.early;
      written = r.written;
      some = r.some;
      more = r.more;
      waiting = r.waiting;
      fit = r.fit;
      count = r.count;
      appended = r.appended;
      committed = r.committed;
      columns = r.columns;
    }

    stand : ChunksApart s.dataset x.planned.chunks → RowsStand (image_now log) s.dataset (cells_of s.dataset (before.early ++ before.more)) s.dataset.shape.rows (rows_of s) x.planned.chunks x.planned.rows
    stand = planned_stand (image_now log) s x.made x.first t.index t.places x.planned r.address r.rest r.early r.more r.written r.some r.waiting r.fit r.count (counted s r.past.counted).cut

    start_keeps : AllKeepFront t.pending
    start_keeps =
        let f = started_parts s t log x before stand in
        let flush = subst (λ (a : Key → ℕ). IsFlush (image_now log) r.after a r.rest f.parts t.places) (sym (none_then s t log x before stand)) f.flush in
        subst AllKeepFront f.pieces (pieces_keep f.parts t.places flush (f.missed r.knows.held r.knows.holding))

-- ---- A flush

-- the session that it left runs
flushed_running : (s t : Session) (log : Log) → HasFlushed s t → s.stopped ≡ false → Stands t log → Running t t.pending log
flushed_running s t log flushes going st = elim st.phase [
  | inl c ↦ absurd (not_both t.flushing (ap (λ (y : Session). y.flushing) c.1.session) (flushed_flag s t flushes))
  | inr r ↦ subst (λ (ws : List Write). Running t ws log) (left_running t st.left ((flushed_none s t flushes).2 ∙ going) st.dropped) r
]

-- what it keeps of the past, at the moment to which its pieces lead
flushed_past : (s t : Session) (log : Log) (x : IsFlushed s t) (r : Running s [] log) → Running t t.pending (and_now (plans (length t.pending)) log) → Past t t.pending (and_now (plans (length t.pending)) log) (after_flush s t log x r)
flushed_past s t log x r then =
    let p = then.past in
    record {
      begun = p.begun;
      counted = p.counted;
      limit_low = p.limit_low;
      limit_high = p.limit_high;
      addressed = p.addressed;
      next = λ bare. next_addressed s t log x r bare;
      own = p.own;
      reach = p.reach;
      grew = p.grew;
      fits = p.fits;
      ends = p.ends;
      roomy = p.roomy;
    }

pub one_flush_keeps : (s t : Session) (log : Log) → HasFlushed s t → s.stopped ≡ false → s.pending ≡ [] → Stands s log → Stands t (and_now (plans (length t.pending)) log) → SaysWritten s.root → KeepsWritten t
one_flush_keeps s t log flushes going idle st then says =
    let r = idle_running s log going idle st in
    let next = and_now (plans (length t.pending)) log in
    record {
      root = flushed_root s t flushes says;
      pieces = elim flushes as (λ _. AllKeepFront t.pending) [
        | inl x ↦ whole_keeps s log r says t x (flushed_past s t log x r (flushed_running s t next (inl x) going then))
        | inr x ↦ start_keeps s log r says t x
      ];
    }
