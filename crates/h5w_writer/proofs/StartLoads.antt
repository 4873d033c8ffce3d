-- By how much a first flush raises the end of the file, and the session after it stands over the log; and where there is no place for it.
use Rattle.std.proofs.Common.{◌≡◌, ◌⊎◌, ℕ, ◌+◌, ◌<◌, ◌≤◌, true, false, List, [], ◌++◌, length, refl, sym, ap, ◌∙◌, subst, inl, inr, arith}
use Rattle.h5w_model.specs.Arrays.{eahd_len, eaib_len}
use Rattle.h5w_model.specs.Trees.{bthd_len}
use Rattle.h5w_model.specs.Datasets.{Described}
use Rattle.h5w_model.specs.Findings.{Used, the_superblock}
use Rattle.h5w_model.specs.declared.cell.Key.{Key}
use Rattle.h5w_model.specs.Numbers.{undefined}
use Rattle.h5w_model.specs.Tables.{keys_across}
use Rattle.h5w_model.specs.Logs.{Log, and_now, load, plans}
use Rattle.h5w_model.specs.declared.cell.IndexKind.{IndexKind}
use Rattle.h5w_model.specs.declared.cell.IndexKind.TheVariants.{Array, Tree}
use Rattle.h5w_space.specs.Space.{Space}
use Rattle.h5w_space.specs.declared.Full.{Full}
use Rattle.h5w_chunks.specs.Early.{RowsStand}
use Rattle.h5w_chunks.specs.Grids.{cells_of}
use Rattle.h5w_chunks.specs.Rows.{ChunksApart}
use Rattle.h5w_step_laws.specs.Files.{with_index}
use Rattle.h5w_step_laws.specs.Moments.{Moment, reading_of}
use Rattle.h5w_step_laws.specs.Logs.{image_now}
use Rattle.h5w_flush_laws.specs.Parts.{IsFlush, flushed_to}
use Rattle.h5w_flush_laws.specs.Spaces.{extent_of}
use Rattle.h5w_bt_index.specs.Index.{Index}
use Rattle.h5w_index.specs.Views.{IndexView, IsClean, an_array, a_tree, address_in, kind_of}
use Rattle.h5w_index.specs.Marks.{IsMarked, IsRaised}
use Rattle.h5w_index.specs.Blocks.{has_no_block}
use Rattle.h5w_index.specs.Full.{most_of}
use Rattle.h5w_index.proofs.DepthLemmas.{depth_laws}
use Rattle.h5w_index.proofs.MarkLemmas.{mark_laws}
use Rattle.h5w_index.proofs.RaisedLemmas.{raised_more, raised_none, raised_on}
use Rattle.h5w_creation_laws.specs.CreatedFiles.{index_len}
use Rattle.h5w_creation_laws.proofs.SizeLemmas.{index_lens}
use Rattle.h5w_writer.specs.Sessions.{AllEndBy, IsRoomy, Session, cutting_of, most_lines, rows_of, with_rows}
use Rattle.h5w_writer.specs.Loads.{NoPlace}
use Rattle.h5w_writer.specs.PartLaws.{HasNoPlace, IsPartFlushed, RunsAs}
use Rattle.h5w_writer.specs.Past.{AllAddressed, IsMadeHere, Past}
use Rattle.h5w_writer.specs.Refusals.{IsFullFor, IsUnfilled, IsUnplaced, no_block, no_header}
use Rattle.h5w_writer.specs.Stands.{Running, Stands}
use Rattle.h5w_writer.specs.Starts.{HasFlushed, IsMadeAt, IsStartFlushed, StartRunning, naming_piece, started_of}
use Rattle.h5w_writer.proofs.FlushStands.{idle_running}
use Rattle.h5w_writer.proofs.FlushLemmas.{told_of}
use Rattle.h5w_writer.proofs.HeaderAlone.{made_there, made_whole, same_block}
use Rattle.h5w_writer.proofs.IndexLemmas.{kept_starting}
use Rattle.h5w_writer.proofs.LoadLemmas.{at_most, counted, flush_bound, flush_carries, load_is, part_no_place, planned_few, planned_own, planned_raised, planned_roomy, refused_bound}
use Rattle.h5w_writer.proofs.NextLemmas.{start_addressed}
use Rattle.h5w_writer.proofs.PastLemmas.{IsLike, past_planned}
use Rattle.h5w_writer.proofs.PlannedRows.{planned_stand}
use Rattle.h5w_writer.proofs.ReachedLemmas.{any_reached}
use Rattle.h5w_writer.proofs.StartedLemmas.{after_start, none_then, start_as, start_running, started_parts}
use Rattle.h5w_writer.proofs.StartingLemmas.{lengths_first}

like_started : (old new : Session) (x : IsStartFlushed old new) → new.places.limit ≡ old.places.limit → (IsMadeHere old.index → IsMadeHere new.index) → (IsRoomy old.dataset old.index → IsRoomy old.dataset new.index) → IsLike old new
like_started old new x limit own roomy =
    let same : new.dataset ≡ with_index x.at (with_rows (rows_of old) old.dataset) = ap (λ (t : Session). t.dataset) x.session in
    record {
      name = ap (λ (t : Session). t.name) x.session;
      place = ap (λ (t : Session). t.place) x.session;
      dataset = same ∙ ap (λ (d : Described). with_index d.layout.address (with_rows d.shape.rows old.dataset)) (sym same);
      address = λ named. ap (λ (d : Described). d.layout.address) same ∙ made_there old.dataset.layout.address old.places x.at x.made x.first x.start.made named;
      limit = limit;
      own = own;
      reach = λ first img before more. any_reached old new (inr x);
      roomy = λ before. subst (λ (d : Described). IsRoomy d new.index) (sym same) (roomy before);
    }

-- an index that was just made is clean
pub made_clean : (address : ℕ) (s : Space) (at : ℕ) (v : IndexView) (t : Space) → IsMadeAt address s at v t → IsClean v
made_clean address s at (an_array v) t made = made.is_made.created.changed
made_clean address s at (a_tree place v) t made = subst (λ (w : Index). IsClean (a_tree place w)) (sym made.empty) refl

-- and has room
made_roomy : (d : Described) (address : ℕ) (s : Space) (at : ℕ) (v : IndexView) (t : Space) → IsMadeAt address s at v t → IsRoomy d v
made_roomy d address s at (an_array v) t made = tt
made_roomy d address s at (a_tree place v) t made = subst (λ (w : Index). IsRoomy d (a_tree place w)) (sym made.empty) (depth_laws.none (most_lines d) (keys_across d) place)

-- the order of the last pieces does not tell
few_total : (total a b c e n m : ℕ) → total ≡ a + (b + (e + (c + 1))) → a + (b + (c + (e + 1))) ≤ n → m ≡ n → total ≤ m
few_total total a b c e n m is few same = omega (arith, is, few, same)

module _ (old new : Session) (log : Log) (x : IsStartFlushed old new) (running : old.stopped ≡ false) (idle : old.pending ≡ []) (st : Stands old log) (r : Running old [] log) where
  marks : IsMarked old.dataset old.dataset.shape.rows (rows_of old) x.made
  marks = mark_laws.clean old.dataset old.dataset.shape.rows (rows_of old) x.made (made_clean old.dataset.layout.address old.places x.at x.made x.first x.start.made)

  start_raised : IsRaised old.places new.places (load (cutting_of old) log)
  start_raised =
      let most = most_of old.dataset (rows_of old) in
      let top = load (cutting_of old) log in
      let first = index_len (kind_of x.made) in
      let low : first ≤ 370 = index_lens (kind_of x.made) in
      raised_more old.places new.places (first + most) top (at_most (first + most) (1000 + most) top (omega (arith, low)) (load_is old log running idle st))
      (raised_on old.places x.first new.places first most x.start.raised (planned_raised old x.made x.first new.index new.places x.planned marks))

  pieces_few : length new.pending ≤ load (cutting_of old) log
  pieces_few =
      let p = x.planned in
      let long = lengths_first x.naming p.rows p.copies p.fixed p.supers (naming_piece old x.naming) new.pending x.pending in
      few_total (length new.pending) (length p.rows) (length p.copies) (length p.supers) (length p.fixed) (1000 + most_of old.dataset (rows_of old)) (load (cutting_of old) log) (omega (arith, long))
      (planned_few old x.made x.first new.index new.places p marks log r) (load_is old log running idle st)

  -- what Running says of the session before it
  before : StartRunning old log
  before = record {
    after = r.after;
    address = r.address;
    held = r.held;
    runs = r.runs;
    rest = r.rest;
    knows = r.knows;
    holds = r.holds;
    keeps = r.keeps;
    index =
        kept_starting (image_now log) old.name r.after r.address r.rest old.index r.knows (subst (λ (d : Described). (d.layout.address ≡ undefined) ⊎ (has_no_block old.index ≡ true)) (sym r.keeps.dataset) x.unmade) r.index;
    early = r.early;
    written = r.written;
    some = r.some;
    more = r.more;
    waiting = r.waiting;
    fit = r.fit;
    count = r.count;
    appended = r.appended;
    committed = r.committed;
    columns = r.columns;
  }

  stand : ChunksApart old.dataset x.planned.chunks → RowsStand (image_now log) old.dataset (cells_of old.dataset (before.early ++ before.more)) old.dataset.shape.rows (rows_of old) x.planned.chunks x.planned.rows
  unfolding before
  stand =
      planned_stand (image_now log) old x.made x.first new.index new.places x.planned r.address r.rest r.early r.more r.written r.some r.waiting r.fit r.count (counted old r.past.counted).cut

  addressed_then : log.values ≡ [] → AllAddressed (reading_of (after_start old new log x before stand))
  unfolding before
  addressed_then bare = start_addressed old new log x r bare (none_then old new log x before stand) (r.early ++ r.more)

  past_started : AllEndBy new.places.end new.pending → Past new new.pending (and_now (plans (length new.pending)) log) (after_start old new log x before stand)
  past_started within =
      let blocks = (told_of old x.made x.first new.index new.places x.planned).stay ∙ x.planned.names.partly.like.fixed in
      let address = old.dataset.layout.address in
      let own : IsMadeHere new.index = (
        planned_own old x.made x.first new.index new.places x.planned x.start.own,
        same_block x.made new.index blocks ∙ made_whole address old.places x.at x.made x.first x.start.made (r.written.taken.taken.stays_live (extent_of the_superblock) (r.knows.live the_superblock (inl refl))),
      ) in
      let roomy : IsRoomy old.dataset new.index = planned_roomy old x.made x.first new.index new.places x.planned (made_roomy old.dataset old.dataset.layout.address old.places x.at x.made x.first x.start.made) in
      past_planned old new (length new.pending) new.pending log r.after (after_start old new log x before stand) (like_started old new x start_raised.limit (λ o. own) (λ o. roomy)) start_raised within addressed_then r.past

  -- the same of the session as the relation says it
  own_past : AllEndBy new.places.end new.pending → Past (started_of old x.at x.naming new.places new.pending new.index) new.pending (and_now (plans (length new.pending)) log) (after_start old new log x before stand)
  own_past within = subst (λ (t : Session). Past t new.pending (and_now (plans (length new.pending)) log) (after_start old new log x before stand)) x.session (past_started within)

  carries : AllEndBy new.places.end new.pending → Stands new (and_now (plans (length new.pending)) log)
  carries within =
      let next = and_now (plans (length new.pending)) log in
      let running : Running (started_of old x.at x.naming new.places new.pending new.index) new.pending next = start_running old new log x before stand (own_past within) in
      let goes = running.runs.goes in
      subst (λ (t : Session). Stands t next) (sym x.session) (record { left = new.pending; dropped = inl refl; phase = inr running; prefixed = goes.prefixed; still = goes.still })

  pub part_started : AllEndBy new.places.end new.pending → IsPartFlushed old new log r
  unfolding before
  part_started within =
      let next = and_now (plans (length new.pending)) log in
      let s = started_of old x.at x.naming new.places new.pending new.index in
      let m = after_start old new log x before stand in
      let f = started_parts old new log x before stand in
      let runs : RunsAs s new.pending next m (λ key. address_in new.index key) m.behind new.places = start_as old new log x before stand (own_past within) in
      let moved : RunsAs s new.pending next (flushed_to r.after f.parts) (λ key. address_in new.index key) m.behind new.places =
      subst (λ (n : Moment). RunsAs s new.pending next n (λ key. address_in new.index key) m.behind new.places) (sym f.leads) runs in
      let mapped : RunsAs s new.pending next (flushed_to r.after f.parts) f.parts.address m.behind new.places =
      subst (λ (a : Key → ℕ). RunsAs s new.pending next (flushed_to r.after f.parts) a m.behind new.places) (sym f.address) moved in
      subst (λ (t : Session). IsPartFlushed old t log r) (sym x.session) (record {
        parts = f.parts;
        flush = subst (λ (a : Key → ℕ). IsFlush (image_now log) r.after a r.rest f.parts new.places) (sym (none_then old new log x before stand)) f.flush;
        missed = f.missed;
        pieces = f.pieces;
        runs = subst (λ (us : List Used). RunsAs s new.pending next (flushed_to r.after f.parts) f.parts.address us new.places) (sym f.behind) mapped;
        few = pieces_few;
        raised = start_raised;
      })

-- ---- A flush of rows that wait

pub any_bound : (old new : Session) (log : Log) → HasFlushed old new → old.stopped ≡ false → old.pending ≡ [] → Stands old log → length new.pending ≤ load (cutting_of old) log
any_bound old new log (inl x) running idle st = flush_bound old new log x running idle st
any_bound old new log (inr x) running idle st = pieces_few old new log x running idle st (idle_running old log running idle st)

pub any_carries : (old new : Session) (log : Log) → HasFlushed old new → old.stopped ≡ false → old.pending ≡ [] → AllEndBy new.places.end new.pending → Stands old log → Stands new (and_now (plans (length new.pending)) log)
any_carries old new log (inl x) running idle within st = flush_carries old new log x running idle within st
any_carries old new log (inr x) running idle within st = carries old new log x running idle st (idle_running old log running idle st) within

-- ---- A full file

module _ (s : Session) (log : Log) (running : s.stopped ≡ false) (idle : s.pending ≡ []) (st : Stands s log) (waits : 0 < s.waits) (full : Full) where
  -- a number that every load has
  low : (n : ℕ) → n ≤ 1000 → n ≤ load (cutting_of s) log
  low n few = at_most n (1000 + most_of s.dataset (rows_of s)) (load (cutting_of s) log) (omega (arith, few)) (load_is s log running idle st)

  unplaced : (k : IndexKind) → IsUnplaced k s.dataset.layout.address s.places full → HasNoPlace s log full
  unplaced Array (no_block refused) =
      refused_bound s log s.places 0 eaib_len full (raised_none s.places s.places refl refl) (low 0 (omega arith)) refused (omega arith) (low eaib_len (omega arith))
  unplaced Array (no_header block a none took raised refused) =
      refused_bound s log a eaib_len eahd_len full raised (low eaib_len (omega arith)) refused (omega arith) (low eahd_len (omega arith))
  unplaced Tree refused =
      refused_bound s log s.places 0 bthd_len full (raised_none s.places s.places refl refl) (low 0 (omega arith)) refused (omega arith) (low bthd_len (omega arith))

  unfilled : IsUnfilled s full → HasNoPlace s log full
  unfilled x =
      let d = s.dataset in
      let few : index_len (kind_of x.made) ≤ 370 = index_lens (kind_of x.made) in
      part_no_place s log running idle st waits full x.made (mark_laws.clean d d.shape.rows (rows_of s) x.made (made_clean s.dataset.layout.address s.places x.at x.made x.first x.start.made)) x.first (index_len (kind_of x.made)) (omega (arith, few)) x.start.raised
      x.none

  pub full_bounded : IsFullFor s full → HasNoPlace s log full
  full_bounded (inl there) =
      let r = idle_running s log running idle st in
      part_no_place s log running idle st waits full s.index r.marks s.places 0 (omega arith) (raised_none s.places s.places refl refl) there.1
  full_bounded (inr starts) = elim starts.1 [ inl none ↦ unplaced s.dataset.layout.index none | inr few ↦ unfilled few ]

  pub full_no_place : IsFullFor s full → NoPlace s log full
  full_no_place x =
      let b = full_bounded x in
      let r = idle_running s log running idle st in
      record { waits = waits; some = b.some; limit = b.limit; past = b.past; size_bound = b.size_bound; at_bound = omega (arith, b.at_bound, r.past.grew) }
