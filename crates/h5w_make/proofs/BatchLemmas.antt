-- A session that takes batches.
use Rattle.std.proofs.Common.{◌≡◌, ◌⊎◌, ℕ, suc, ◌+◌, ◌*◌, ◌/◌, ◌%◌, ◌^◌, ◌<◌, ◌≤◌, List, [], ◌∷◌, ◌++◌, length, ℤ, Bool, true, false, nat_lt, cond, sym, refl, ap, ◌∙◌, subst, arith, append_assoc, length-append, Option, Some, None, inl, inr}
use Rattle.std.proofs.lemmas.Bool.{cond-false, le-ltb}
use Rattle.std.proofs.lemmas.List.{append-nil}
use Rattle.h5w_model.specs.Images.{image}
use Rattle.h5w_model.specs.Datasets.{Described}
use Rattle.h5w_model.specs.Lawful.{first_outside}
use Rattle.h5w_model.specs.Logs.{Cutting, Happening, Log, and_now, appended, appends, flushed, hist, load, plans, shows, spent, spent_in}
use Rattle.h5w_model.specs.Superblock.{super_bytes}
use Rattle.h5w_model.specs.Tables.{format_limits, limit_of, needed}
use Rattle.h5w_model.specs.declared.piece.Write.{Write}
use Rattle.h5w_model.proofs.ImageLemmas.{image-append}
use Rattle.h5w_image.specs.Memory.{MemView, fresh}
use Rattle.h5w_image.specs.View.{Same, Wrote}
use Rattle.h5w_space.specs.Space.{Space}
use Rattle.h5w_space.specs.declared.Full.{Full}
use Rattle.h5w_writer.specs.Loads.{first_end_of}
use Rattle.h5w_creation_laws.specs.CreatedFiles.{IsCreatable, created_log, created_writes, described_of}
use Rattle.h5w_writer.specs.Creations.{IsCreated, log_of}
use Rattle.h5w_writer.specs.Past.{IsNew}
use Rattle.h5w_writer.specs.Room.{HasRoomFor}
use Rattle.h5w_writer.specs.Refusals.{IsSpace, append_refusal, chunks_refusal, flush_refusal}
use Rattle.h5w_writer.specs.Sessions.{AddsValues, AfterPiece, Session, TakesRows, chunk_limit, chunks_with, cleared, closed_of, closed_root, cutting_of, rows_of, with_rows, with_values, IsNamed}
use Rattle.h5w_writer.specs.Stands.{Stands}
use Rattle.h5w_writer.specs.declared.refusal.AppendError.{AppendError}
use Rattle.h5w_writer.specs.declared.refusal.AppendError.TheVariants as errors
use Rattle.h5w_writer.specs.declared.refusal.FlushError.{FlushError}
use Rattle.h5w_writer.specs.declared.refusal.FlushError.TheVariants as flushes
use Rattle.h5w_writer.proofs.PastLemmas.{new_end, spent_in-events}
use Rattle.h5w_writer.proofs.LawLemmas.{standing_laws, shown_laws}
use Rattle.h5w_steady.specs.Steady.{steady}
use Rattle.h5w_make.specs.Commands.{new_file, values_of}
use Rattle.h5w_reader_laws.specs.Showing.{showing}
use Rattle.h5w_make.specs.States.{HasPlace, IsAfter, IsAppended, IsClosed, IsTaken, ShowsAll}
use Rattle.h5w_make.proofs.EventLemmas.{appended_batches, cutting, load_bound, spent_showing}
use Rattle.h5w_writer.proofs.FlushCalls.{takes_named}
use Rattle.h5w_reader_laws.proofs.ShowingLemmas.{appended_showing, hist_showing}
use Rattle.h5w_writer.proofs.StateLemmas.{some_is}
use Rattle.h5w_writer_laws.proofs.LeavingLemmas.{piece_leaves}
use Rattle.h5w_writer_laws.proofs.PieceLemmas.{after_pending, itself, none_some, onward}

-- ---- Between two batches

-- it can be created, so that its log is a new file's
creatable : IsCreatable new_file
creatable = record {
  named = omega arith;
  name_bound = omega arith;
  int_type = refl;
  fill = tt;
  some_rows = omega arith;
  rows_bound = omega arith;
  some_cols = omega arith;
  cols_bound = omega arith;
  some_columns = omega arith;
  columns_bound = omega arith;
  small = omega arith;
  shaped = refl;
  line = λ e. refl;
  indexed = refl;
}

pub is_new : (log : Log) → log ≡ log_of new_file log.events → IsNew log
is_new log is = record { file = new_file; is = creatable; log_is = is }

-- a dataset of so many rows
abbrev of_rows : ℕ → Described
of_rows n = with_rows n (described_of new_file)

pub cut_alike : (bs : List (List ℤ)) (s : Session) (m : MemView) → IsAfter bs s m → cutting_of s ≡ cutting
cut_alike bs s m h =
    ap (λ (d : Described). record { chunk_rows = d.layout.chunk_rows; chunk_columns = d.layout.chunk_cols; columns = d.shape.cols; value_size = d.int_type.size }) h.dataset

pub all_appended : (bs : List (List ℤ)) (s : Session) (m : MemView) → (h : IsAfter bs s m) → appended h.log ≡ values_of bs
all_appended bs s m h = ap (λ (l : Log). appended (record { start = l.start; columns = l.columns; values = l.values; first = l.first; events = h.log.events })) h.is ∙ appended_batches bs h.log.events h.batches

-- as many rows are flushed as the session's dataset has, one value each
rows_flushed : (s : Session) (log : Log) → log.columns ≡ 1 → Stands s log → s.stopped ≡ false → s.pending ≡ [] → length (flushed log) ≡ s.dataset.shape.rows
rows_flushed s log one stands going idle =
    let whole : length (flushed log) / 1 ≡ length (flushed log) = omega arith in
    sym whole ∙ ap (λ (n : ℕ). length (flushed log) / n) (sym one) ∙ standing_laws.planned_rows s log stands going idle

pub all_flushed : (bs : List (List ℤ)) (s : Session) (m : MemView) → (h : IsAfter bs s m) → length (flushed h.log) ≡ length (values_of bs)
all_flushed bs s m h = rows_flushed s h.log (ap (λ (l : Log). l.columns) h.is) h.stands h.going h.pending ∙ ap (λ (d : Described). d.shape.rows) h.dataset

-- the rows of the file are those of the batches
pub all_committed : (bs : List (List ℤ)) (s : Session) (m : MemView) → IsAfter bs s m → s.committed ≡ length (values_of bs)
all_committed bs s m h = standing_laws.flushed_rows s h.log h.stands ∙ standing_laws.planned_rows s h.log h.stands h.going h.pending ∙ ap (λ (d : Described). d.shape.rows) h.dataset

-- the load of another batch
batch_load : (bs : List (List ℤ)) (s : Session) (m : MemView) (values : List ℤ) → (h : IsAfter bs s m) → IsTaken bs values → load cutting (and_now (appends values) h.log) ≤ 346000
batch_load bs s m values h taken =
    let log = and_now (appends values) h.log in
    let more : appended log ≡ appended h.log ++ values = sym (append_assoc h.log.values _ values) in
    load_bound log (omega (arith, ap length more, length-append (appended h.log) values, ap length (all_appended bs s m h), all_flushed bs s m h, taken.few))

-- ---- The append

few_chunks : (d : Described) (k r : ℕ) → d ≡ of_rows k → r ≤ 1000000 → nat_lt (limit_of format_limits d.layout.index) (needed (with_rows r d)) ≡ false
few_chunks d k r is few =
    subst (λ (x : Described). nat_lt (limit_of format_limits x.layout.index) (needed (with_rows r x)) ≡ false) (sym is)
    (le-ltb 131060 (needed (with_rows r (of_rows k))) (omega arith))

pub append_taken : (bs : List (List ℤ)) (s : Session) (m : MemView) (values : List ℤ) → IsAfter bs s m → IsTaken bs values → append_refusal s values ≡ None
append_taken bs s m values h taken =
    let more : ℕ = length values / s.dataset.shape.cols in
    let past : Bool = nat_lt (chunk_limit s) (chunks_with s more) in
    let full : Option AppendError = Some (errors.Chunks (chunks_with s more) (chunk_limit s)) in
    let checked : Option (ℕ × ℤ) → Option AppendError = λ o. elim o as (λ _. Option AppendError) [ Some x ↦ Some (errors.OutOfRange x.0 x.1) | None ↦ chunks_refusal s more ] in
    let busy : List Write → Option AppendError = λ ws. cond (nat_lt 0 (length ws)) (Some (errors.Busy (length ws))) (checked (first_outside s.dataset.int_type 0 values)) in
    let columns : s.dataset.shape.cols ≡ 1 = ap (λ (d : Described). d.shape.cols) h.dataset in
    let rows : s.dataset.shape.rows ≡ length (values_of bs) = ap (λ (d : Described). d.shape.rows) h.dataset in
    let whole : more ≡ length values = ap (λ (c : ℕ). length values / c) columns ∙ (let e : length values / 1 ≡ length values = omega arith in e) in
    ap (λ (b : Bool). cond b (Some errors.Stopped) (busy s.pending)) h.going
    ∙ ap busy h.pending
    ∙ ap checked (ap (λ (d : Described). first_outside d.int_type 0 values) h.dataset ∙ taken.typed)
    ∙ cond-false past full None (few_chunks s.dataset (length (values_of bs)) (rows_of s + more) h.dataset (omega (arith, rows, whole, h.waits, taken.rows)))

-- any values are rows
pub are_rows : (bs : List (List ℤ)) (s : Session) (m : MemView) (values : List ℤ) → IsAfter bs s m → (n : ℕ) × (length values ≡ n * s.dataset.shape.cols)
are_rows bs s m values h =
    let columns : s.dataset.shape.cols ≡ 1 = ap (λ (d : Described). d.shape.cols) h.dataset in
    (length values, (let whole : length values ≡ length values * 1 = omega arith in whole ∙ ap (λ (n : ℕ). length values * n) (sym columns)))

-- ---- The flush

module _ (bs : List (List ℤ)) (values : List ℤ) (s t : Session) (m : MemView) (h : IsAfter bs s m) (adds : AddsValues s values t) where
  one_column : s.dataset.shape.cols ≡ 1
  one_column = ap (λ (d : Described). d.shape.cols) h.dataset

  -- each value is a row
  new_rows : length values / s.dataset.shape.cols ≡ length values
  new_rows = ap (λ (c : ℕ). length values / c) one_column ∙ (let e : length values / 1 ≡ length values = omega arith in e)

  pub waits_some : IsTaken bs values → 0 < t.waits
  waits_some taken = omega (arith, ap (λ (x : Session). x.waits) adds.session, new_rows, taken.some)

  added_going : t.stopped ≡ false
  added_going = ap (λ (x : Session). x.stopped) adds.session ∙ h.going

  pub flush_taken : t.pending ≡ [] → flush_refusal t ≡ None
  flush_taken idle = ap (λ (b : Bool). flush_refusal (record t { stopped = b })) added_going ∙ ap (λ (ws : List Write). flush_refusal (record t { stopped = false; pending = ws })) idle

-- the events once a batch was appended, and once its flush was planned
abbrev behind_append : List Write → List ℤ → List Happening → List Happening
behind_append early values es = showing early (appends values ∷ es)

abbrev behind_flush : (pieces early : List Write) → List ℤ → List Happening → List Happening
behind_flush pieces early values es = showing pieces (plans (length pieces) ∷ behind_append early values es)

module _ (bs : List (List ℤ)) (values : List ℤ) (s t : Session) (m n : MemView) (taken : IsTaken bs values) (h : IsAfter bs s m) (app : IsAppended values s t m n) where
  -- the log once the pieces that were written early became visible
  abbrev pub log_behind : Log
  log_behind = record (h.log) { events = behind_append app.early values h.log.events }

  pub stands_behind : Stands t log_behind
  stands_behind = app.stands h.log h.stands

  values_behind : appended log_behind ≡ values_of bs ++ values
  values_behind =
      ap (λ (vs : List ℤ). h.log.values ++ vs) (appended_showing app.early (appends values ∷ h.log.events))
      ∙ sym (append_assoc h.log.values _ values) ∙ ap (λ (vs : List ℤ). vs ++ values) (all_appended bs s m h)

  flushed_behind : length (flushed log_behind) ≡ length (values_of bs)
  flushed_behind =
      rows_flushed t log_behind (ap (λ (l : Log). l.columns) h.is) stands_behind (added_going bs values s t m h app.adds) app.idle
      ∙ ap (λ (x : Session). x.dataset.shape.rows) app.adds.session ∙ ap (λ (d : Described). d.shape.rows) h.dataset

  -- the loads of the append and of the flush
  pub flush_load : load cutting log_behind ≤ 346000
  flush_load = load_bound log_behind (omega (arith, ap length values_behind, length-append (values_of bs) values, flushed_behind, taken.few))

  pub spent_behind : spent cutting log_behind ≤ length bs * 700000 + 346000
  spent_behind =
      let is : spent cutting log_behind ≡ spent_in cutting log_behind h.log.events + load cutting (and_now (appends values) h.log) = spent_showing cutting log_behind app.early (appends values ∷ h.log.events) in
      let before : spent_in cutting log_behind h.log.events ≡ spent cutting h.log = spent_in-events cutting h.log (behind_append app.early values h.log.events) h.log.events in
      let loads : spent cutting h.log ≤ length bs * 700000 = subst (λ (c : Cutting). spent c h.log ≤ length bs * 700000) (cut_alike bs s m h) h.loads in
      omega (arith, is, before, loads, batch_load bs s m values h taken)

  pub place_there : HasPlace t
  place_there =
      let cut : cutting_of t ≡ cutting = ap cutting_of app.adds.session ∙ cut_alike bs s m h in
      let limit : t.places.limit ≡ 2 ^ 40 = app.adds.limit ∙ h.limit in
      let made : IsNew log_behind = is_new log_behind (ap (λ (l : Log). record l { events = behind_append app.early values h.log.events }) h.is) in (
        log_behind,
        stands_behind,
        made,
        λ full none.
            let size : full.size ≤ load cutting log_behind = subst (λ (c : Cutting). full.size ≤ load c log_behind) cut none.size_bound in
            let new : first_end_of log_behind ≡ 1024 = new_end log_behind made in
            let place : full.at ≤ first_end_of log_behind + spent cutting log_behind + load cutting log_behind =
            subst (λ (c : Cutting). full.at ≤ first_end_of log_behind + spent c log_behind + load c log_behind) cut none.at_bound in
            omega (arith, none.limit, none.past, size, place, new, flush_load, spent_behind, limit, taken.batches),
      )

-- ---- The batch

-- the image stays what its journal makes of no bytes
abbrev IsFolded : MemView → Type 0
IsFolded m = m.bytes ≡ image [] m.history

folded_shown : (ws : List Write) (m n : MemView) → ShowsAll ws m n → IsFolded m → IsFolded n
folded_shown ws m n shown folds = shown.bytes ∙ ap (λ (b : List ℕ). image b ws) folds ∙ sym (image-append [] m.history ws) ∙ ap (image []) (sym shown.history)

folded_same : (m n : MemView) → Same (steady m) (steady n) → IsFolded m → IsFolded n
folded_same m n same folds = some_is n.bytes m.bytes same.bytes ∙ folds ∙ ap (image []) (sym (some_is n.history m.history same.history))

module _ (bs : List (List ℤ)) (values : List ℤ) (s0 s1 s2 s3 : Session) (m0 m1 m2 m3 : MemView) (taken : IsTaken bs values) (h : IsAfter bs s0 m0) (app : IsAppended values s0 s1 m0 m1) (takes : TakesRows s1 s2)
    (stands2 : (log : Log) → Stands s1 log → Stands s2 (and_now (plans (length s2.pending)) log)) (same2 : Same (steady m1) (steady m2)) (after : AfterPiece s2 [] s3) (shown : ShowsAll s2.pending m2 m3)
    (stands3 : (log : Log) → Stands s2 log → Stands s3 (record log { events = showing s2.pending log.events })) where
  abbrev events : List Happening
  events = behind_flush s2.pending app.early values h.log.events

  hist_is : hist events ≡ (hist h.log.events ++ app.early) ++ s2.pending
  hist_is = hist_showing s2.pending (plans (length s2.pending) ∷ behind_append app.early values h.log.events) ∙ ap (λ (ws : List Write). ws ++ s2.pending) (hist_showing app.early (appends values ∷ h.log.events))

  history_is : m3.history ≡ hist events
  history_is =
      shown.history
      ∙ ap (λ (ws : List Write). ws ++ s2.pending) (some_is m2.history m1.history same2.history ∙ app.image.history ∙ ap (λ (ws : List Write). ws ++ app.early) h.history)
      ∙ sym hist_is

  bytes_are : m3.bytes ≡ image [] (hist events)
  bytes_are =
      let first : IsFolded m0 = h.bytes ∙ ap (image []) (sym h.history) in
      folded_shown s2.pending m2 m3 shown (folded_same m1 m2 same2 (folded_shown app.early m0 m1 app.image first)) ∙ ap (image []) history_is

  dataset_is : s3.dataset ≡ of_rows (length (values_of bs ++ values))
  dataset_is =
      let adds = app.adds in
      let rows : s0.dataset.shape.rows ≡ length (values_of bs) = ap (λ (d : Described). d.shape.rows) h.dataset in
      let all : rows_of (with_values s0 values) ≡ length (values_of bs ++ values) = omega (arith, rows, new_rows bs values s0 s1 m0 h adds, h.waits, length-append (values_of bs) values) in
      let named : IsNamed s1.dataset = subst (λ (x : Session). IsNamed x.dataset) (sym adds.session) (shown_laws.named s0 h.log h.stands (is_new h.log h.is)) in
      (piece_leaves s2 s3 [] after).dataset ∙ takes_named s1 s2 takes named ∙ ap (λ (x : Session). with_rows (rows_of x) x.dataset) adds.session
      ∙ ap (λ (d : Described). with_rows (rows_of (with_values s0 values)) d) h.dataset ∙ ap of_rows all

  loads_are : spent (cutting_of s3) (record (h.log) { events = events }) ≤ suc (length bs) * 700000
  loads_are =
      let log = record (h.log) { events = events } in
      let behind = log_behind bs values s0 s1 m0 m1 taken h app in
      let cut : cutting_of s3 ≡ cutting = ap (λ (d : Described). record { chunk_rows = d.layout.chunk_rows; chunk_columns = d.layout.chunk_cols; columns = d.shape.cols; value_size = d.int_type.size }) dataset_is in
      let is : spent cutting log ≡ spent_in cutting log behind.events + load cutting behind = spent_showing cutting log s2.pending (plans (length s2.pending) ∷ behind.events) in
      let before : spent_in cutting log behind.events ≡ spent cutting behind = spent_in-events cutting behind events behind.events in
      subst (λ (c : Cutting). spent c log ≤ suc (length bs) * 700000) (sym cut)
      (omega (arith, is, before, spent_behind bs values s0 s1 m0 m1 taken h app, flush_load bs values s0 s1 m0 m1 taken h app))

  pub batch_after : IsAfter (values ∷ bs) s3 m3
  batch_after =
      let facts = piece_leaves s2 s3 [] after in
      let adds = app.adds in
      record {
        log = record (h.log) { events = events };
        stands =
            let behind = log_behind bs values s0 s1 m0 m1 taken h app in
            stands3 (and_now (plans (length s2.pending)) behind) (stands2 behind (app.stands h.log h.stands));
        is = ap (λ (l : Log). record l { events = events }) h.is;
        batches = (h.log.events, h.batches, record { early = app.early; pieces = s2.pending; is = refl });
        history = history_is;
        bytes = bytes_are;
        name = facts.name ∙ takes.name ∙ ap (λ (x : Session). x.name) adds.session ∙ h.name;
        dataset = dataset_is;
        limit = facts.limit ∙ takes.limit ∙ adds.limit ∙ h.limit;
        waits = facts.waits ∙ takes.waits;
        pending = facts.pending;
        no_flush = facts.idle refl;
        going = facts.stopped ∙ takes.stopped ∙ ap (λ (x : Session). x.stopped) adds.session ∙ h.going;
        begun = omega (arith, h.begun, ap length hist_is, length-append (hist h.log.events ++ app.early) s2.pending, length-append (hist h.log.events) app.early);
        loads = loads_are;
      }

-- ---- The creation

pub created_after : (s t : Session) (m n o : MemView) → IsCreated new_file (2 ^ 40) s → Stands s (created_log new_file) → m ≡ fresh [] [] → Same (steady m) (steady n) → AfterPiece s [] t → ShowsAll s.pending n o
    → ((log : Log) → Stands s log → Stands t (record log { events = showing s.pending log.events })) → IsAfter [] t o
created_after s t m n o made stood empty same after shown stands =
    let is = made.session in
    let facts = piece_leaves s t [] after in
    let pending : s.pending ≡ created_writes new_file = ap (λ (x : Session). x.pending) is in
    let es : List Happening = showing (created_writes new_file) [] in
    let history : o.history ≡ hist es =
    shown.history ∙ ap (λ (ws : List Write). ws ++ s.pending) (some_is n.history m.history same.history ∙ ap (λ (v : MemView). v.history) empty) ∙ pending ∙ sym (hist_showing (created_writes new_file) []) in
    record {
      log = log_of new_file es;
      stands = subst (λ (ws : List Write). Stands t (log_of new_file (showing ws []))) pending (stands (log_of new_file []) stood);
      is = refl;
      batches = refl;
      history = history;
      bytes =
          shown.bytes ∙ ap (λ (b : List ℕ). image b s.pending) (some_is n.bytes m.bytes same.bytes ∙ ap (λ (v : MemView). v.bytes) empty)
          ∙ ap (image []) (pending ∙ sym (hist_showing (created_writes new_file) []));
      name = facts.name ∙ ap (λ (x : Session). x.name) is;
      dataset = facts.dataset ∙ ap (λ (x : Session). x.dataset) is;
      limit = facts.limit ∙ ap (λ (x : Session). x.places.limit) is;
      waits = facts.waits ∙ ap (λ (x : Session). x.waits) is;
      pending = facts.pending;
      no_flush = facts.idle refl;
      going = facts.stopped ∙ ap (λ (x : Session). x.stopped) is;
      begun = omega arith;
      loads = omega arith;
    }

-- ---- The pieces of a plan

-- so far these are left of the pieces, and the session, its image and its logs are on their way
pub record Showing (s t : Session) (m n : MemView) : Type 0 where
  pub session : AfterPiece s t.pending t
  pub bytes : image n.bytes t.pending ≡ image m.bytes s.pending
  pub history : n.history ++ t.pending ≡ m.history ++ s.pending
  pub stands : (log : Log) → Stands s log → (es : List Happening) × Stands t (record log { events = es }) × (showing t.pending es ≡ showing s.pending log.events)
  pub room : HasRoomFor t (steady n)

pub shows_first : (s : Session) (m : MemView) → 0 < length s.pending → HasRoomFor s (steady m) → Showing s s m m
shows_first s m some room = record {
  session = itself s s.pending refl some;
  bytes = refl;
  history = refl;
  stands = λ log stood. (log.events, stood, refl);
  room = room;
}

pub shows_next : (s t u : Session) (m n o : MemView) (w : Write) (ws : List Write) → Showing s t m n → t.pending ≡ w ∷ ws → AfterPiece t ws u → Wrote (w ∷ []) (steady n) (steady o)
    → ((log : Log) → Stands t log → Stands u (and_now (shows w) log)) → HasRoomFor u (steady o) → Showing s u m o
shows_next s t u m n o w ws so is after wrote stands room =
    let left : u.pending ≡ ws = after_pending t u ws after in
    let there : t ≡ record s { pending = w ∷ ws } = subst (λ (ps : List Write). AfterPiece s ps t) is so.session in
    record {
      session = subst (λ (ps : List Write). AfterPiece s ps u) (sym left) (onward s w ws ws u (subst (λ (x : Session). AfterPiece x ws u) there after));
      bytes =
          ap (λ (b : List ℕ). image b u.pending) (some_is o.bytes (image n.bytes (w ∷ [])) wrote.bytes)
          ∙ ap (λ (ps : List Write). image n.bytes (w ∷ ps)) left ∙ ap (image n.bytes) (sym is) ∙ so.bytes;
      history =
          ap (λ (hs : List Write). hs ++ u.pending) (some_is o.history (n.history ++ w ∷ []) wrote.history)
          ∙ append_assoc n.history (w ∷ []) u.pending ∙ ap (λ (ps : List Write). n.history ++ w ∷ ps) left ∙ ap (λ (ps : List Write). n.history ++ ps) (sym is) ∙ so.history;
      stands = λ log stood.
          let now = so.stands log stood in (
            shows w ∷ now.0,
            stands (record log { events = now.0 }) now.1,
            ap (λ (ps : List Write). showing ps (shows w ∷ now.0)) left ∙ ap (λ (ps : List Write). showing ps now.0) (sym is) ∙ now.2,
          );
      room = room;
    }

pub shows_done : (s t : Session) (m n : MemView) → Showing s t m n → t.pending ≡ [] → ShowsAll s.pending m n
shows_done s t m n so none = record {
  bytes = ap (λ (ps : List Write). image n.bytes ps) (sym none) ∙ so.bytes;
  history = sym (append-nil n.history) ∙ ap (λ (ps : List Write). n.history ++ ps) (sym none) ∙ so.history;
}

pub stands_done : (s t : Session) (m n : MemView) → Showing s t m n → t.pending ≡ [] → (log : Log) → Stands s log → Stands t (record log { events = showing s.pending log.events })
stands_done s t m n so none log stood =
    let now = so.stands log stood in
    let all : now.0 ≡ showing s.pending log.events = ap (λ (ps : List Write). showing ps now.0) (sym none) ∙ now.2 in
    subst (λ (es : List Happening). Stands t (record log { events = es })) all now.1

-- ---- Pieces that were written early

-- where there are none the log stays
pub none_stands : (s : Session) → s.pending ≡ [] → (log : Log) → Stands s log → Stands s (record log { events = showing s.pending log.events })
none_stands s none log stood = subst (λ (ws : List Write). Stands s (record log { events = showing ws log.events })) (sym none) stood

-- an append, and its early pieces
pub early_shown : (s t u : Session) (m n o : MemView) (values : List ℤ) → AddsValues s values t → Same (steady m) (steady n) → ((log : Log) → Stands s log → Stands t (and_now (appends values) log))
    → u ≡ record t { pending = [] } → ShowsAll t.pending n o → ((log : Log) → Stands t log → Stands u (record log { events = showing t.pending log.events })) → IsAppended values s u m o
early_shown s t u m n o values adds same stands1 is shown stands2 = record {
  early = t.pending;
  adds = subst (AddsValues s values) (sym is) (record { session = ap (λ (x : Session). record x { pending = [] }) adds.session; limit = adds.limit; rises = adds.rises });
  idle = ap (λ (x : Session). x.pending) is;
  image = record {
    bytes = shown.bytes ∙ ap (λ (b : List ℕ). image b t.pending) (some_is n.bytes m.bytes same.bytes);
    history = shown.history ∙ ap (λ (ws : List Write). ws ++ t.pending) (some_is n.history m.history same.history);
  };
  stands = λ log stood. stands2 (and_now (appends values) log) (stands1 log stood);
}

-- ---- The close

low_bit : (flags : ℕ) → cleared flags % 2 ≡ 0
low_bit flags = omega arith

third_bit : (flags : ℕ) → cleared flags / 4 % 2 ≡ 0
third_bit flags = omega arith

pub closed_after : (bs : List (List ℤ)) (s t u : Session) (m n o : MemView) → (h : IsAfter bs s m) → Same (steady m) (steady n) → t ≡ closed_of s → ((log : Log) → Stands s log → Stands t log) → AfterPiece t [] u
    → ShowsAll t.pending n o → ((log : Log) → Stands t log → Stands u (record log { events = showing t.pending log.events })) → IsClosed bs u o
closed_after bs s t u m n o h same is stands1 after shown stands2 =
    let facts = piece_leaves t u [] after in
    let w : Write = record { at = 0; piece = super_bytes (closed_root s) } in
    let pending : t.pending ≡ w ∷ [] = ap (λ (x : Session). x.pending) is in
    let es : List Happening = shows w ∷ h.log.events in
    let history : o.history ≡ hist h.log.events ++ w ∷ [] =
    shown.history ∙ ap (λ (ws : List Write). ws ++ t.pending) (some_is n.history m.history same.history ∙ h.history) ∙ ap (λ (ws : List Write). hist h.log.events ++ ws) pending in
    record {
      log = record (h.log) { events = es };
      stands = subst (λ (ws : List Write). Stands u (record (h.log) { events = showing ws h.log.events })) pending (stands2 h.log (stands1 h.log h.stands));
      is = ap (λ (l : Log). record l { events = es }) h.is;
      closed = record { before = h.log.events; batches = h.batches; root = closed_root s; no_write = low_bit s.root.flags; no_swmr = third_bit s.root.flags; is = refl };
      history = history;
      bytes =
          shown.bytes ∙ ap (λ (b : List ℕ). image b t.pending) (some_is n.bytes m.bytes same.bytes ∙ h.bytes) ∙ sym (image-append [] (hist h.log.events) t.pending)
          ∙ ap (λ (ws : List Write). image [] (hist h.log.events ++ ws)) pending;
      name = facts.name ∙ ap (λ (x : Session). x.name) is ∙ h.name;
      stopped = facts.stopped ∙ ap (λ (x : Session). x.stopped) is;
      committed =
          ap (λ (x : Session). x.committed) (facts.still (ap (λ (x : Session). x.flushing) is ∙ h.no_flush)) ∙ ap (λ (x : Session). x.committed) is ∙ all_committed bs s m h;
      begun = omega (arith, h.begun, length-append (hist h.log.events) (w ∷ []));
      limit = facts.limit ∙ ap (λ (x : Session). x.places.limit) is ∙ h.limit;
    }

-- a flush of rows for which there are places, and room in the index, over an image that does not fail, wants memory
pub only_memory : (s : Session) (e : FlushError) → flush_refusal s ≡ None → (flush_refusal s ≡ Some e) ⊎ (IsSpace e ⊎ ((e ≡ flushes.Deep) ⊎ ((e ≡ flushes.Failed) ⊎ (e ≡ flushes.OutOfMemory))))
    → ((full : Full) → e ≡ flushes.Space full → ⊥) → (e ≡ flushes.Deep → ⊥) → (e ≡ flushes.Failed → ⊥) → e ≡ flushes.OutOfMemory
only_memory s e none (inl is) space deep failed = absurd (none_some e (sym none ∙ is))
only_memory s e none (inr (inl full)) space deep failed = absurd (space full.0 full.1)
only_memory s e none (inr (inr (inl is))) space deep failed = absurd (deep is)
only_memory s e none (inr (inr (inr (inl is)))) space deep failed = absurd (failed is)
only_memory s e none (inr (inr (inr (inr is)))) space deep failed = is
