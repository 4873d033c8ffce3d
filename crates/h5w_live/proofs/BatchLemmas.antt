-- A batch of the writer of a run.
use Rattle.std.proofs.Common.{◌≡◌, ℕ, ◌+◌, ◌*◌, ◌/◌, ◌<◌, ◌≤◌, Bool, true, false, cond, nat_lt, div-mul-le_self, List, [], ◌∷◌, ◌++◌, length, ℤ, Option, Some, None, Result, Ok, Err, sym, refl, ap, ◌∙◌, subst, arith, append_assoc, length-append, ◌⊎◌, inl, inr}
use Rattle.std.specs.Prelude.{IfErr}
use Rattle.std.proofs.lemmas.Bool.{cases_lt, cond_both, cond-true, lt-ltb}
use Rattle.std.proofs.lemmas.List.{length-take}
use Rattle.h5w_model.specs.Agrees.{rows_after, values_in}
use Rattle.h5w_model.specs.Tables.{format_limits, limit_of}
use Rattle.h5w_model.specs.Datasets.{Described}
use Rattle.h5w_model.specs.Lawful.{first_outside}
use Rattle.h5w_model.specs.Logs.{Happening, Log, and_now, appended, appended_in, appends, div_up, flushed, flushed_at, flushed_in, flushed_rows, hist, needed_chunks, plans}
use Rattle.h5w_model.specs.declared.piece.Write.{Write}
use Rattle.h5w_model.specs.declared.report.FlushLine.{FlushLine}
use Rattle.h5w_model.specs.declared.root.Super.{Super}
use Rattle.h5w_laws.proofs.LogLemmas.{flushed_begins, length_hist, position_laws}
use Rattle.h5w_creation_laws.specs.CreatedFiles.{CreatedFile, created_writes, described_of}
use Rattle.h5w_writer.specs.Loads.{NoPlace}
use Rattle.h5w_writer.specs.Refusals.{IsFullFor, IsSpace, append_refusal, chunks_refusal, flush_refusal}
use Rattle.h5w_writer.specs.Sessions.{AddsValues, AfterPiece, AreRows, IsNamed, Session, TakesRows, chunks_with, rows_of, with_rows}
use Rattle.h5w_writer.specs.Stands.{Stands}
use Rattle.h5w_writer.specs.declared.refusal.AppendError.{AppendError}
use Rattle.h5w_writer.specs.declared.refusal.AppendError.TheVariants as errors
use Rattle.h5w_writer.specs.declared.refusal.FlushError.{FlushError}
use Rattle.h5w_writer.specs.declared.refusal.FlushError.TheVariants as flushing
use Rattle.h5w_writer.proofs.FlushCalls.{takes_named}
use Rattle.h5w_writer.proofs.LawLemmas.{standing_laws, shown_laws}
use Rattle.h5w_writer.proofs.StandLemmas.{none_outside}
use Rattle.h5w_space.specs.declared.Full.{Full}
use Rattle.h5w_shared.specs.Seats.{ImageId, SeatView}
use Rattle.h5w_live_laws.specs.Lines.{rows_told}
use Rattle.h5w_live_laws.proofs.LineLemmas.{agree_more, tells_more, values_more}
use Rattle.h5w_live.specs.Writing.{HaltsAppend, HaltsFlush, HasAppended, HasFlushed, HasRoom, HasWritten, LacksPlace, Refuses, StaysSeated, Writes, append_halt, batch_refusal, cutting_for, flush_halt, too_many}
use Rattle.h5w_live.specs.declared.writing.Halt.{Halt}
use Rattle.h5w_live.specs.declared.writing.Halt.TheVariants as halts
use Rattle.h5w_reader_laws.specs.Showing.{showing}
use Rattle.h5w_live.proofs.RowLemmas.{batches_more, rows_in_values, some_rows}
use Rattle.h5w_live.proofs.WritingLemmas.{is_new, put_behind}
use Rattle.h5w_live.proofs.FlushedLemmas.{before_last, flushed_level, pieces_last, rows_all, rows_last}
use Rattle.h5w_reader_laws.proofs.ShowingLemmas.{appended_showing, flushed_showing, hist_showing}
use Rattle.h5w_writer_laws.specs.Leaves.{PieceLeaves}
use Rattle.h5w_writer_laws.proofs.LeavingLemmas.{piece_leaves}
use Rattle.h5w_writer_laws.proofs.PieceLemmas.{none_some}

-- what is not too many is few
few_of : (f : CreatedFile) (rows : ℕ) → too_many f rows ≡ None → needed_chunks (cutting_for f) rows ≤ limit_of format_limits f.index
few_of f rows none =
    let limit : ℕ = limit_of format_limits f.index in
    let chunks : ℕ = needed_chunks (cutting_for f) rows in
    elim (cases_lt limit chunks) [
      | inl more ↦ absurd (none_some (errors.Chunks chunks limit) (sym none ∙ cond-true (nat_lt limit chunks) (Some (errors.Chunks chunks limit)) None (lt-ltb limit chunks more)))
      | inr few ↦ few
    ]

-- ---- What refuses a batch

-- an append over the shared image answers its refusal, but for the image and memory
pub refused_as : (o : Option AppendError) (r : Result ℕ AppendError) (e : AppendError) → (errors.Failed ≡ e → ⊥) → (errors.OutOfMemory ≡ e → ⊥) → r ≡ Err e
    → IfErr r (λ x. (o ≡ Some x) ⊎ ((x ≡ errors.Failed) ⊎ (x ≡ errors.OutOfMemory))) → o ≡ Some e
refused_as o (Ok n) e failed memory is causes = absurd cc
refused_as o (Err x) e failed memory is causes = go causes where
  same : x ≡ e
  same = cc

  go : (o ≡ Some x) ⊎ ((x ≡ errors.Failed) ⊎ (x ≡ errors.OutOfMemory)) → o ≡ Some e
  go (inl h) = h ∙ ap Some same
  go (inr (inl h)) = absurd (failed (sym h ∙ same))
  go (inr (inr h)) = absurd (memory (sym h ∙ same))

length_values : (bs : List (List ℤ)) (b : List ℤ) → length (values_in (bs ++ b ∷ [])) ≡ length (values_in bs) + length b
length_values bs b = ap length (values_more bs b) ∙ length-append (values_in bs) b

module _ (f : CreatedFile) (most : ℕ) (done : List (List ℤ)) (s : Session) (v : SeatView) (lines : List FlushLine) (h : HasFlushed f most done s v lines) where
  pub columns_are : s.dataset.shape.cols ≡ f.columns
  columns_are = ap (λ (d : Described). d.shape.cols) h.writes.dataset

  pub log_columns : h.writes.log.columns ≡ f.columns
  log_columns = ap (λ (l : Log). l.columns) h.writes.new

  some_columns : 1 ≤ f.columns
  some_columns = h.writes.is.some_columns

  -- the rows of what was flushed
  pub rows_told_all : length (values_in done) / f.columns ≡ s.dataset.shape.rows
  rows_told_all = rows_in_values s.dataset.shape.rows (length (values_in done)) f.columns some_columns h.rows

  pub log_rows : length (values_in done) / h.writes.log.columns ≡ s.dataset.shape.rows
  log_rows = ap (λ (c : ℕ). length (values_in done) / c) log_columns ∙ rows_told_all

  -- rows of the session are rows of the file
  pub whole : (values : List ℤ) (rows : AreRows s values) → length values ≡ rows.0 * f.columns
  whole values rows = rows.1 ∙ ap (λ (c : ℕ). rows.0 * c) columns_are

  pub counted : (values : List ℤ) (rows : AreRows s values) → length values / s.dataset.shape.cols ≡ rows.0
  counted values rows = rows_in_values rows.0 (length values) s.dataset.shape.cols (omega (arith, columns_are, some_columns)) rows.1

  pub counted_here : (values : List ℤ) (rows : AreRows s values) → length values / f.columns ≡ rows.0
  counted_here values rows = rows_in_values rows.0 (length values) f.columns some_columns (whole values rows)

  -- those behind the flushed ones
  pub rows_with : (values : List ℤ) (rows : AreRows s values) → length (values_in done) + length values ≡ (s.dataset.shape.rows + rows.0) * f.columns
  rows_with values rows =
      let split : (s.dataset.shape.rows + rows.0) * f.columns ≡ s.dataset.shape.rows * f.columns + rows.0 * f.columns = omega arith in
      omega (arith, h.rows, whole values rows, split)

  pub all_counted : (values : List ℤ) (rows : AreRows s values) → (length (values_in done) + length values) / f.columns ≡ s.dataset.shape.rows + rows.0
  all_counted values rows = rows_in_values (s.dataset.shape.rows + rows.0) (length (values_in done) + length values) f.columns some_columns (rows_with values rows)

  -- what refuses a batch
  pub refusal_is : (x : ℤ) (xs : List ℤ) → AreRows s (x ∷ xs) → append_refusal s (x ∷ xs) ≡ batch_refusal f (length (values_in done)) (x ∷ xs)
  refusal_is x xs rows =
      let values : List ℤ = x ∷ xs in
      let more : ℕ = length values / s.dataset.shape.cols in
      let checked : Option (ℕ × ℤ) → Option AppendError = λ o. elim o as (λ _. Option AppendError) [ Some y ↦ Some (errors.OutOfRange y.0 y.1) | None ↦ chunks_refusal s more ] in
      let busy : List Write → Option AppendError = λ ws. cond (nat_lt 0 (length ws)) (Some (errors.Busy (length ws))) (checked (first_outside s.dataset.int_type 0 values)) in
      ap (λ (b : Bool). cond b (Some errors.Stopped) (busy s.pending)) h.going
      ∙ ap busy h.pending
      ∙ ap checked (ap (λ (d : Described). first_outside d.int_type 0 values) h.writes.dataset)
      ∙ same_cases (first_outside f.int_type 0 values) (chunks_refusal s more) (too_many f ((length (values_in done) + length values) / f.columns)) chunks_are
    where
      same_cases : (o : Option (ℕ × ℤ)) (a b : Option AppendError) → a ≡ b → ◌≡◌ {A = Option AppendError} (elim o as (λ _. Option AppendError) [ Some y ↦ Some (errors.OutOfRange y.0 y.1) | None ↦ a ])
          (elim o as (λ _. Option AppendError) [ Some y ↦ Some (errors.OutOfRange y.0 y.1) | None ↦ b ])
      same_cases None a b e = e
      same_cases (Some y) a b e = refl

      chunks_are : chunks_refusal s (length (x ∷ xs) / s.dataset.shape.cols) ≡ too_many f ((length (values_in done) + length (x ∷ xs)) / f.columns)
      chunks_are =
          let all : ℕ = rows_of s + length (x ∷ xs) / s.dataset.shape.cols in
          let total : all ≡ (length (values_in done) + length (x ∷ xs)) / f.columns = omega (arith, h.waits, counted (x ∷ xs) rows, all_counted (x ∷ xs) rows) in
          let chunks : chunks_with s (length (x ∷ xs) / s.dataset.shape.cols) ≡ needed_chunks (cutting_for f) all =
          ap (λ (d : Described). div_up all d.layout.chunk_rows * div_up d.shape.cols d.layout.chunk_cols) h.writes.dataset in
          ap (λ (d : Described). cond (nat_lt (limit_of format_limits d.layout.index) (chunks_with s (length (x ∷ xs) / s.dataset.shape.cols)))
          (Some (errors.Chunks (chunks_with s (length (x ∷ xs) / s.dataset.shape.cols)) (limit_of format_limits d.layout.index))) None) h.writes.dataset
          ∙ ap (λ (n : ℕ). cond (nat_lt (limit_of format_limits f.index) n) (Some (errors.Chunks n (limit_of format_limits f.index))) None) chunks
          ∙ ap (too_many f) total

  pub refusal_for : (values : List ℤ) → AreRows s values → 1 ≤ length values → append_refusal s values ≡ batch_refusal f (length (values_in done)) values
  refusal_for [] rows some = absurd (omega arith)
  refusal_for (x ∷ xs) rows some = refusal_is x xs rows

  -- behind an append nothing keeps rows from being planned
  pub flush_taken : (t : Session) (x : SeatView) (values : List ℤ) (early : List Write) → HasAppended values early s t v x → flush_refusal t ≡ None
  flush_taken t x values early a =
      ap (λ (b : Bool). flush_refusal (record t { stopped = b })) (a.stopped ∙ h.going) ∙ ap (λ (ws : List Write). flush_refusal (record t { stopped = false; pending = ws })) a.pending

  pub waits_some : (t : Session) (x : SeatView) (values : List ℤ) (early : List Write) → AreRows s values → HasAppended values early s t v x → 1 ≤ length values → 0 < t.waits
  waits_some t x values early rows a some =
      let any : 1 ≤ rows.0 = some_rows rows.0 (length values) f.columns (whole values rows) some in
      omega (arith, a.waits, counted values rows, any)

  -- all that was appended is flushed
  pub rows_flushed : length (flushed h.writes.log) ≡ length (values_in done)
  rows_flushed =
      let log = h.writes.log in
      let planned : length (flushed log) / log.columns ≡ s.dataset.shape.rows = standing_laws.planned_rows s log h.writes.stands h.going h.pending in
      let here : length (flushed log) / f.columns ≡ s.dataset.shape.rows = ap (λ (c : ℕ). length (flushed log) / c) (sym log_columns) ∙ planned in
      let low : length (flushed log) / f.columns * f.columns ≤ length (flushed log) = div-mul-le_self (length (flushed log)) f.columns in
      let all : length (flushed log) / f.columns * f.columns ≡ length (values_in done) = ap (λ (n : ℕ). n * f.columns) here ∙ sym h.rows in
      let under : length (flushed log) ≤ length (appended log) =
      (let l = length-take (length (flushed log)) (appended log) in omega (arith, l, ap length (flushed_begins 0 log.values log.events))) in
      omega (arith, low, all, under, ap length h.appended)

  module _ (x : ℤ) (xs : List ℤ) (rows : AreRows s (x ∷ xs)) (early : List Write) (s1 s2 s3 : Session) (v1 v2 v3 : SeatView) (line : FlushLine) (a : HasAppended (x ∷ xs) early s s1 v v1)
      (fits : first_outside f.int_type 0 (x ∷ xs) ≡ None) (few : too_many f ((length (values_in done) + length (x ∷ xs)) / f.columns) ≡ None) (takes : TakesRows s1 s2) (some : 1 ≤ length s2.pending)
      (stands2 : (log : Log) → Stands s1 log → Stands s2 (and_now (plans (length s2.pending)) log)) (same2 : StaysSeated v1 v2) (room : HasRoom s2 v2) (after : AfterPiece s2 [] s3) (wrote : HasWritten s2.pending v2 v3)
      (stands3 : (log : Log) → Stands s2 log → Stands s3 (record log { events = showing s2.pending log.events })) (pieces_are : line.pieces ≡ length v3.seen) (rows_are : line.rows ≡ s3.committed) where
    abbrev pub es : List Happening
    es = showing s2.pending (plans (length s2.pending) ∷ showing early (appends (x ∷ xs) ∷ h.writes.log.events))

    abbrev pub new_log : Log
    new_log = record (h.writes.log) { events = es }

    all_rows : s2.dataset.shape.rows ≡ s.dataset.shape.rows + rows.0
    all_rows =
        ap (λ (d : Described). d.shape.rows) takes.dataset
        ∙ (let e : rows_of s1 ≡ s.dataset.shape.rows + rows.0 = omega (arith, ap (λ (d : Described). d.shape.rows) a.dataset, a.waits, h.waits, counted (x ∷ xs) rows) in e)

    pub facts : PieceLeaves s2 [] s3
    facts = piece_leaves s2 s3 [] after

    ends_flush : s2.flushing ≡ true
    ends_flush = takes.flushing (waits_some s1 v1 (x ∷ xs) early rows a (omega arith))

    pub dataset_is : s3.dataset ≡ with_rows s3.dataset.shape.rows (described_of f)
    dataset_is =
        let named : IsNamed s1.dataset = subst (λ (d : Described). IsNamed d) (sym a.dataset) (shown_laws.named s h.writes.log h.writes.stands (is_new f s v h.writes)) in
        let base : s3.dataset ≡ with_rows (rows_of s1) (described_of f) =
        facts.dataset ∙ takes_named s1 s2 takes named ∙ ap (λ (d : Described). with_rows (rows_of s1) d) a.dataset ∙ ap (λ (d : Described). with_rows (rows_of s1) d) h.writes.dataset in
        base ∙ ap (λ (n : ℕ). with_rows n (described_of f)) (sym (ap (λ (d : Described). d.shape.rows) base))

    pub seen_is : v3.seen ≡ (v.seen ++ early) ++ s2.pending
    seen_is = wrote.seen ∙ ap (λ (l : List Write). l ++ s2.pending) (same2.seen ∙ a.seen)

    pub hist_is : hist es ≡ v3.seen
    hist_is =
        hist_showing s2.pending (plans (length s2.pending) ∷ showing early (appends (x ∷ xs) ∷ h.writes.log.events))
        ∙ ap (λ (l : List Write). l ++ s2.pending) (hist_showing early (appends (x ∷ xs) ∷ h.writes.log.events) ∙ ap (λ (l : List Write). l ++ early) h.writes.seat.pieces) ∙ sym seen_is

    pub seen_count : length v3.seen ≡ length v.seen + (length early + length s2.pending)
    seen_count =
        let l = length-append (v.seen ++ early) s2.pending in
        omega (arith, ap length seen_is, l, length-append v.seen early)

    abbrev pub batch_writes : Writes f s3 v3
    batch_writes = record {
      log = new_log;
      is = h.writes.is;
      stands = stands3 (record (h.writes.log) { events = plans (length s2.pending) ∷ showing early (appends (x ∷ xs) ∷ h.writes.log.events) })
          (stands2 (record (h.writes.log) { events = showing early (appends (x ∷ xs) ∷ h.writes.log.events) }) (a.stands h.writes.log h.writes.stands));
      new = ap (λ (l : Log). record l { events = es }) h.writes.new;
      seat = record { start = h.writes.seat.start ∙ ap (λ (i : ImageId). i.start) (sym (wrote.image ∙ same2.image ∙ a.image)); pieces = hist_is };
      begun = omega (arith, h.writes.begun, seen_count);
      name = facts.name ∙ takes.name ∙ a.name ∙ h.writes.name;
      dataset = dataset_is;
    }

    now_rows : s3.dataset.shape.rows ≡ s.dataset.shape.rows + rows.0
    now_rows = ap (λ (d : Described). d.shape.rows) facts.dataset ∙ all_rows

    few_rows : needed_chunks (cutting_for f) s3.dataset.shape.rows ≤ limit_of format_limits f.index
    few_rows =
        subst (λ (n : ℕ). needed_chunks (cutting_for f) n ≤ limit_of format_limits f.index) (all_counted (x ∷ xs) rows ∙ sym now_rows)
        (few_of f ((length (values_in done) + length (x ∷ xs)) / f.columns) few)

    committed_is : s3.committed ≡ s2.dataset.shape.rows
    committed_is = facts.brings ends_flush refl

    line_rows : line.rows ≡ s.dataset.shape.rows + rows.0
    line_rows = rows_are ∙ committed_is ∙ all_rows

    appended_is : appended new_log ≡ values_in (done ++ (x ∷ xs) ∷ [])
    appended_is =
        ap (λ (vs : List ℤ). h.writes.log.values ++ vs)
        (appended_showing s2.pending (plans (length s2.pending) ∷ showing early (appends (x ∷ xs) ∷ h.writes.log.events)) ∙ appended_showing early (appends (x ∷ xs) ∷ h.writes.log.events))
        ∙ sym (append_assoc h.writes.log.values (appended_in h.writes.log.events) (x ∷ xs)) ∙ ap (λ (vs : List ℤ). vs ++ x ∷ xs) h.appended ∙ sym (values_more done (x ∷ xs))

    tells_all : (p : ℕ) → p ≤ length v3.seen → flushed_at new_log p ≡ rows_after 0 p (lines ++ line ∷ [])
    tells_all =
        tells_more new_log lines line (length v3.seen) pieces_are
        (λ p less. before_last h.writes.log early s2.pending (x ∷ xs) (length (values_in done)) s.dataset.shape.rows lines log_rows rows_flushed (ap length h.appended) h.tells
        (λ q low. rows_all f.columns (length (created_writes f)) 0 0 q done lines h.agree (omega (arith, h.last, low, ap length h.writes.seat.pieces)) ∙ h.told)
        p (omega (arith, less, seen_count, ap length h.writes.seat.pieces)))
        (ap (λ (l : Log). flushed_rows l) (position_laws.now new_log (length v3.seen) (omega (arith, ap length hist_is, length_hist es)))
        ∙ sym (standing_laws.flushed_rows s3 new_log batch_writes.stands) ∙ sym rows_are)

    pub batch_flushed : HasFlushed f most (done ++ (x ∷ xs) ∷ []) s3 v3 (lines ++ line ∷ [])
    batch_flushed = record {
      writes = batch_writes;
      put = put_behind (showing (created_writes f) []) h.writes.log.events done x xs early s2.pending h.put;
      batches = batches_more f.columns done (x ∷ xs) h.batches (rows.0, whole (x ∷ xs) rows);
      rows = length_values done (x ∷ xs) ∙ rows_with (x ∷ xs) rows ∙ ap (λ (n : ℕ). n * f.columns) (sym now_rows);
      few = few_rows;
      waits = facts.waits ∙ takes.waits;
      pending = facts.pending;
      settled = facts.idle refl;
      committed = committed_is ∙ sym (ap (λ (d : Described). d.shape.rows) facts.dataset);
      going = facts.stopped ∙ takes.stopped ∙ a.stopped ∙ h.going;
      flags = ap (λ (r : Super). r.flags) (facts.root ∙ takes.root) ∙ ap (λ (r : Super). r.flags) a.root ∙ h.flags;
      limit = facts.limit ∙ takes.limit ∙ a.limit ∙ h.limit;
      room = record {
        pieces = omega (arith, room.pieces, wrote.pieces, ap length facts.pending);
        end = omega (arith, room.end, wrote.end, facts.end);
      };
      appended = appended_is;
      fit = ap (first_outside f.int_type 0) (values_more done (x ∷ xs)) ∙ none_outside f.int_type 0 (values_in done) (x ∷ xs) h.fit fits;
      agree = agree_more f.columns (length (created_writes f)) 0 done lines x xs line h.agree (omega (arith, h.last, some, pieces_are, seen_count))
          (line_rows ∙ (let e : s.dataset.shape.rows + rows.0 ≡ rows_told 0 lines + length (x ∷ xs) / f.columns = omega (arith, h.told, counted_here (x ∷ xs) rows) in e));
      tells = λ p within. tells_all p (omega (arith, within, ap length hist_is));
      last = omega (arith, pieces_last (length (created_writes f)) lines line, pieces_are);
      told = rows_last 0 lines line ∙ line_rows ∙ sym now_rows;
    }

-- ---- Refusals

pub accepted_none : (o : Option AppendError) (r : Result ℕ AppendError) (n : ℕ) → r ≡ Ok n → ((e : AppendError) → o ≡ Some e → r ≡ Err e) → o ≡ None
accepted_none None r n ok refused = refl
accepted_none (Some e) r n ok refused = let both : ◌≡◌ {A = Result ℕ AppendError} (Ok n) (Err e) = sym ok ∙ refused e refl in absurd cc

-- what refuses a flush that may be planned, over a file that the session created
pub plan_refused : (o : Option FlushError) (e : FlushError) → o ≡ None → (o ≡ Some e) ⊎ (IsSpace e ⊎ ((e ≡ flushing.Deep) ⊎ ((e ≡ flushing.Failed) ⊎ (e ≡ flushing.OutOfMemory)))) → (e ≡ flushing.Deep → ⊥)
    → IsSpace e ⊎ ((e ≡ flushing.Failed) ⊎ (e ≡ flushing.OutOfMemory))
plan_refused o e none (inl h) deep = absurd (none_some e (sym none ∙ h))
plan_refused o e none (inr (inl h)) deep = inl h
plan_refused o e none (inr (inr (inl h))) deep = absurd (deep h)
plan_refused o e none (inr (inr (inr h))) deep = inr h

-- and nothing else does
pub no_other : (e : FlushError) → IsSpace e ⊎ ((e ≡ flushing.Failed) ⊎ (e ≡ flushing.OutOfMemory)) → ((full : Full) → e ≡ flushing.Space full → ⊥) → (e ≡ flushing.Failed → ⊥) → (e ≡ flushing.OutOfMemory → ⊥) → ⊥
no_other e (inl h) space failed memory = space h.0 h.1
no_other e (inr (inl h)) space failed memory = failed h
no_other e (inr (inr h)) space failed memory = memory h

-- why values are not appended, by the session's error
pub append_halts : (s : Session) (values : List ℤ) (e : AppendError) → (append_refusal s values ≡ Some e) ⊎ ((e ≡ errors.Failed) ⊎ (e ≡ errors.OutOfMemory)) → HaltsAppend s values (append_halt e)
append_halts s values errors.Stopped causes = tt
append_halts s values (errors.Busy pending) causes = tt
append_halts s values (errors.OutOfRange index value) (inl h) = h
append_halts s values (errors.OutOfRange index value) (inr (inl h)) = absurd cc
append_halts s values (errors.OutOfRange index value) (inr (inr h)) = absurd cc
append_halts s values (errors.Chunks chunks limit) (inl h) = h
append_halts s values (errors.Chunks chunks limit) (inr (inl h)) = absurd cc
append_halts s values (errors.Chunks chunks limit) (inr (inr h)) = absurd cc
append_halts s values errors.Failed causes = tt
append_halts s values errors.OutOfMemory causes = tt

-- why a flush is not planned
pub flush_halts : (s : Session) (e : FlushError) → ((full : Full) → e ≡ flushing.Space full → IsFullFor s full) → ((full : Full) → e ≡ flushing.Space full → (log : Log) → Stands s log → NoPlace s log full) → HaltsFlush s (flush_halt e)
flush_halts s flushing.Stopped full none = tt
flush_halts s (flushing.Busy pending) full none = tt
flush_halts s (flushing.Space space) full none = (full space refl, none space refl)
flush_halts s flushing.Deep full none = tt
flush_halts s flushing.Failed full none = tt
flush_halts s flushing.OutOfMemory full none = tt

-- no batch is refused for what is pending
abbrev IsOfValues : Option AppendError → Type 0
IsOfValues None = Unit {0}
IsOfValues (Some errors.Stopped) = ⊥
IsOfValues (Some (errors.Busy pending)) = ⊥
IsOfValues (Some e) = Unit {0}

of_chunks : (f : CreatedFile) (rows : ℕ) → IsOfValues (too_many f rows)
of_chunks f rows =
    cond_both (nat_lt (limit_of format_limits f.index) (needed_chunks (cutting_for f) rows)) (Some (errors.Chunks (needed_chunks (cutting_for f) rows) (limit_of format_limits f.index))) None IsOfValues
    (λ t. tt) (λ t. tt)

of_values : (f : CreatedFile) (before : ℕ) (values : List ℤ) → IsOfValues (batch_refusal f before values)
of_values f before [] = tt
of_values f before (v ∷ vs) = go (first_outside f.int_type 0 (v ∷ vs)) where
  go : (o : Option (ℕ × ℤ)) → IsOfValues (elim o as (λ _. Option AppendError) [ Some x ↦ Some (errors.OutOfRange x.0 x.1) | None ↦ too_many f ((before + length (v ∷ vs)) / f.columns) ])
  go None = of_chunks f ((before + length (v ∷ vs)) / f.columns)
  go (Some x) = tt

pub not_stopped : (f : CreatedFile) (most : ℕ) (done : List (List ℤ)) (s : Session) (v : SeatView) (lines : List FlushLine) (values : List ℤ) → HasFlushed f most done s v lines → AreRows s values → 1 ≤ length values
    → append_refusal s values ≡ Some errors.Stopped → ⊥
not_stopped f most done s v lines values h rows some e =
    subst IsOfValues (sym (refusal_for f most done s v lines h values rows some) ∙ e) (of_values f (length (values_in done)) values)

pub not_busy : (f : CreatedFile) (most : ℕ) (done : List (List ℤ)) (s : Session) (v : SeatView) (lines : List FlushLine) (values : List ℤ) (pending : ℕ) → HasFlushed f most done s v lines → AreRows s values → 1 ≤ length values
    → append_refusal s values ≡ Some (errors.Busy pending) → ⊥
not_busy f most done s v lines values pending h rows some e =
    subst IsOfValues (sym (refusal_for f most done s v lines h values rows some) ∙ e) (of_values f (length (values_in done)) values)

-- values that are taken fit
fits_of : (o : Option (ℕ × ℤ)) (a : Option AppendError) → ◌≡◌ {A = Option AppendError} (elim o as (λ _. Option AppendError) [ Some x ↦ Some (errors.OutOfRange x.0 x.1) | None ↦ a ]) None → o ≡ None
fits_of None a e = refl
fits_of (Some x) a e = absurd (none_some (errors.OutOfRange x.0 x.1) (sym e))

-- and need no more chunks than there are
chunks_of : (o : Option (ℕ × ℤ)) (a : Option AppendError) → ◌≡◌ {A = Option AppendError} (elim o as (λ _. Option AppendError) [ Some x ↦ Some (errors.OutOfRange x.0 x.1) | None ↦ a ]) None → a ≡ None
chunks_of None a e = e
chunks_of (Some x) a e = absurd (none_some (errors.OutOfRange x.0 x.1) (sym e))

-- a batch behind others, of whatever values
pub put_flushed : (f : CreatedFile) (most : ℕ) (done : List (List ℤ)) (s : Session) (v : SeatView) (lines : List FlushLine) (values : List ℤ) (early : List Write) (s1 s2 s3 : Session) (v1 v2 v3 : SeatView) (line : FlushLine)
    → (h : HasFlushed f most done s v lines) → AreRows s values → 1 ≤ length values → HasAppended values early s s1 v v1 → append_refusal s values ≡ None
    → TakesRows s1 s2 → 1 ≤ length s2.pending → ((log : Log) → Stands s1 log → Stands s2 (and_now (plans (length s2.pending)) log)) → StaysSeated v1 v2 → HasRoom s2 v2 → AfterPiece s2 [] s3
    → HasWritten s2.pending v2 v3 → ((log : Log) → Stands s2 log → Stands s3 (record log { events = showing s2.pending log.events })) → line.pieces ≡ length v3.seen → line.rows ≡ s3.committed
    → HasFlushed f most (done ++ values ∷ []) s3 v3 (lines ++ line ∷ [])
put_flushed f most done s v lines [] early s1 s2 s3 v1 v2 v3 line h rows some a none takes more stands2 same2 room after wrote stands3 pieces told = absurd (omega arith)
put_flushed f most done s v lines (x ∷ xs) early s1 s2 s3 v1 v2 v3 line h rows some a none takes more stands2 same2 room after wrote stands3 pieces told =
    let chunks : Option AppendError = too_many f ((length (values_in done) + length (x ∷ xs)) / f.columns) in
    let taken = sym (refusal_is f most done s v lines h x xs rows) ∙ none in
    let fits = fits_of (first_outside f.int_type 0 (x ∷ xs)) chunks taken in
    let few = chunks_of (first_outside f.int_type 0 (x ∷ xs)) chunks taken in
    batch_flushed f most done s v lines h x xs rows early s1 s2 s3 v1 v2 v3 line a fits few takes more stands2 same2 room after wrote stands3 pieces told

-- ---- An append, and what was written of it early

-- the session once these values were appended: nothing of it was shown yet
pub taken_writes : (f : CreatedFile) (s t : Session) (v x : SeatView) (values : List ℤ) → Writes f s v → AddsValues s values t → ((log : Log) → Stands s log → Stands t (and_now (appends values) log)) → StaysSeated v x → Writes f t x
taken_writes f s t v x values w is stands seat =
    let d : t.dataset ≡ s.dataset = ap (λ (y : Session). y.dataset) is.session in
    record {
      log = and_now (appends values) w.log;
      stands = stands w.log w.stands;
      is = w.is;
      new = ap (λ (l : Log). record l { events = appends values ∷ w.log.events }) w.new;
      seat = record { start = w.seat.start ∙ ap (λ (i : ImageId). i.start) (sym seat.image); pieces = w.seat.pieces ∙ sym seat.seen };
      begun = omega (arith, w.begun, ap length seat.seen);
      name = ap (λ (y : Session). y.name) is.session ∙ w.name;
      dataset = d ∙ w.dataset ∙ ap (λ (e : Described). with_rows e.shape.rows (described_of f)) (sym d);
    }

-- it stays settled
pub taken_settled : (s t : Session) (values : List ℤ) → AddsValues s values t → s.flushing ≡ false → t.flushing ≡ false
taken_settled s t values is settled = ap (λ (y : Session). y.flushing) is.session ∙ settled

-- and then what was written early became visible
pub has_appended : (values : List ℤ) (s t u : Session) (v x y : SeatView) → AddsValues s values t → ((log : Log) → Stands s log → Stands t (and_now (appends values) log)) → StaysSeated v x → u ≡ record t { pending = [] }
    → HasWritten t.pending x y → ((log : Log) → Stands t log → Stands u (record log { events = showing t.pending log.events })) → HasAppended values t.pending s u v y
has_appended values s t u v x y is stands seat shown wrote early = record {
  name = ap (λ (z : Session). z.name) shown ∙ ap (λ (z : Session). z.name) is.session;
  root = ap (λ (z : Session). z.root) shown ∙ ap (λ (z : Session). z.root) is.session;
  dataset = ap (λ (z : Session). z.dataset) shown ∙ ap (λ (z : Session). z.dataset) is.session;
  waits = ap (λ (z : Session). z.waits) shown ∙ ap (λ (z : Session). z.waits) is.session;
  pending = ap (λ (z : Session). z.pending) shown;
  stopped = ap (λ (z : Session). z.stopped) shown ∙ ap (λ (z : Session). z.stopped) is.session;
  limit = ap (λ (z : Session). z.places.limit) shown ∙ is.limit;
  stands = λ log stood. early (and_now (appends values) log) (stands log stood);
  image = wrote.image ∙ seat.image;
  seen = wrote.seen ∙ ap (λ (ws : List Write). ws ++ t.pending) seat.seen;
}

-- it is the writer's still
pub added_writes : (f : CreatedFile) (s t : Session) (v x : SeatView) (values : List ℤ) (early : List Write) → Writes f s v → HasAppended values early s t v x → Writes f t x
added_writes f s t v x values early w a = record {
  log = record (w.log) { events = showing early (appends values ∷ w.log.events) };
  stands = a.stands w.log w.stands;
  is = w.is;
  new = ap (λ (l : Log). record l { events = showing early (appends values ∷ w.log.events) }) w.new;
  seat = record {
    start = w.seat.start ∙ ap (λ (i : ImageId). i.start) (sym a.image);
    pieces = hist_showing early (appends values ∷ w.log.events) ∙ ap (λ (l : List Write). l ++ early) w.seat.pieces ∙ sym a.seen;
  };
  begun = omega (arith, w.begun, ap length a.seen, length-append v.seen early);
  name = a.name ∙ w.name;
  dataset = a.dataset ∙ w.dataset ∙ ap (λ (d : Described). with_rows d.shape.rows (described_of f)) (sym a.dataset);
}

-- so is it after a flush that was refused
pub writes_still : (f : CreatedFile) (s t : Session) (v x : SeatView) → Writes f s v → StaysSeated v x → t.name ≡ s.name → t.dataset ≡ s.dataset → ((log : Log) → Stands s log → Stands t log) → Writes f t x
writes_still f s t v x w seat name dataset stands = record {
  log = w.log;
  stands = stands w.log w.stands;
  is = w.is;
  new = w.new;
  seat = record { start = w.seat.start ∙ ap (λ (i : ImageId). i.start) (sym seat.image); pieces = w.seat.pieces ∙ sym seat.seen };
  begun = omega (arith, w.begun, ap length seat.seen);
  name = name ∙ w.name;
  dataset = dataset ∙ w.dataset ∙ ap (λ (d : Described). with_rows d.shape.rows (described_of f)) (sym dataset);
}

pub planned_writes : (f : CreatedFile) (s t : Session) (v x : SeatView) → Writes f s v → StaysSeated v x → TakesRows s t → (k : ℕ) → ((log : Log) → Stands s log → Stands t (and_now (plans k) log)) → Writes f t x
planned_writes f s t v x w seat takes k stands =
    let d : t.dataset ≡ with_rows (rows_of s) (described_of f) = takes_named s t takes (shown_laws.named s w.log w.stands (is_new f s v w)) ∙ ap (with_rows (rows_of s)) w.dataset in
    record {
      log = and_now (plans k) w.log;
      stands = stands w.log w.stands;
      is = w.is;
      new = ap (λ (l : Log). record l { events = plans k ∷ w.log.events }) w.new;
      seat = record { start = w.seat.start ∙ ap (λ (i : ImageId). i.start) (sym seat.image); pieces = w.seat.pieces ∙ sym seat.seen };
      begun = omega (arith, w.begun, ap length seat.seen);
      name = takes.name ∙ w.name;
      dataset = d ∙ ap (λ (n : ℕ). with_rows n (described_of f)) (sym (ap (λ (e : Described). e.shape.rows) d));
    }

-- the file has no place for what was appended behind others
pub lacks_place : (f : CreatedFile) (most : ℕ) (done : List (List ℤ)) (s : Session) (v : SeatView) (lines : List FlushLine) (values : List ℤ) (early : List Write) (t : Session) (x : SeatView) (full : Full)
    → (h : HasFlushed f most done s v lines) → HasAppended values early s t v x → IsFullFor t full → ((log : Log) → Stands t log → NoPlace t log full) → LacksPlace f most done values full
lacks_place f most done s v lines values early t x full h a full_for none =
    let log : Log = record (h.writes.log) { events = showing early (appends values ∷ h.writes.log.events) } in
    let stood = a.stands h.writes.log h.writes.stands in
    let places : t.places.limit ≡ most = a.limit ∙ h.limit in
    let still : flushed log ≡ flushed_in (0 + length early) h.writes.log.values h.writes.log.events = flushed_showing 0 h.writes.log.values early (appends values ∷ h.writes.log.events) in
    let count : length (flushed log) ≡ length (values_in done) =
    ap length still ∙ flushed_level (0 + length early) h.writes.log.values h.writes.log.events (length (values_in done)) (rows_flushed f most done s v lines h) (ap length h.appended) in
    record {
      session = t;
      log = log;
      stands = stood;
      new = ap (λ (l : Log). record l { events = showing early (appends values ∷ h.writes.log.events) }) h.writes.new;
      before = h.writes.log.events;
      put = h.put;
      early = early;
      events = refl;
      dataset = a.dataset ∙ h.writes.dataset ∙ ap (λ (d : Described). with_rows d.shape.rows (described_of f)) (sym a.dataset);
      places = places;
      limit = (none log stood).limit ∙ places;
      appended = ap (λ (xs : List ℤ). h.writes.log.values ++ xs) (appended_showing early (appends values ∷ h.writes.log.events))
          ∙ sym (append_assoc h.writes.log.values (appended_in h.writes.log.events) values) ∙ ap (λ (xs : List ℤ). xs ++ values) h.appended;
      flushed = ap (λ (n : ℕ). n / h.writes.log.columns) count ∙ ap (λ (c : ℕ). length (values_in done) / c) (log_columns f most done s v lines h);
      full_for = full_for;
      lacks = none;
    }

-- ---- Why a batch is not put

-- its values are not appended
pub append_refuses : (f : CreatedFile) (most : ℕ) (done : List (List ℤ)) (s : Session) (v : SeatView) (lines : List FlushLine) → HasFlushed f most done s v lines → (values : List ℤ) → AreRows s values → 1 ≤ length values → (e : Halt) → HaltsAppend s values e
    → Refuses f most done values e
append_refuses f most done s v lines h values rows some (halts.OutOfRange index value) refused = sym (refusal_for f most done s v lines h values rows some) ∙ refused
append_refuses f most done s v lines h values rows some (halts.Chunks chunks limit) refused = sym (refusal_for f most done s v lines h values rows some) ∙ refused
append_refuses f most done s v lines h values rows some (halts.Space full) refused = absurd refused
append_refuses f most done s v lines h values rows some halts.Failed refused = tt
append_refuses f most done s v lines h values rows some halts.OutOfMemory refused = tt

-- their flush is not planned
pub flush_refuses : (f : CreatedFile) (most : ℕ) (done : List (List ℤ)) (s : Session) (v : SeatView) (lines : List FlushLine) → HasFlushed f most done s v lines → (values : List ℤ) → AreRows s values → 1 ≤ length values → append_refusal s values ≡ None
    → (early : List Write) (t : Session) (x : SeatView) → HasAppended values early s t v x → (e : Halt) → HaltsFlush t e → Refuses f most done values e
flush_refuses f most done s v lines h values rows some accepted early t x a (halts.OutOfRange index value) refused = absurd refused
flush_refuses f most done s v lines h values rows some accepted early t x a (halts.Chunks chunks limit) refused = absurd refused
flush_refuses f most done s v lines h values rows some accepted early t x a (halts.Space full) refused =
    (sym (refusal_for f most done s v lines h values rows some) ∙ accepted, lacks_place f most done s v lines values early t x full h a refused.0 refused.1)
flush_refuses f most done s v lines h values rows some accepted early t x a halts.Failed refused = tt
flush_refuses f most done s v lines h values rows some accepted early t x a halts.OutOfMemory refused = tt
