-- How a run in threads ends.
use Rattle.std.proofs.Common.{◌≡◌, ◌⊎◌, ℕ, ◌+◌, ◌≤◌, List, [], ◌∷◌, map, ℤ, Some, None, Result, Ok, Err, refl, sym, ap, ◌∙◌, subst, inl, inr}
use Rattle.h5w_model.specs.Causes.{Rose}
use Rattle.h5w_model.specs.Datasets.{Described}
use Rattle.h5w_model.specs.Logs.{load, spent}
use Rattle.h5w_shared.specs.Seats.{SeatView}
use Rattle.h5w_space.specs.declared.Full.{Full}
use Rattle.h5w_creation_laws.specs.CreatedFiles.{CreatedFile, described_of}
use Rattle.h5w_writer.specs.Loads.{NoPlace, first_end_of}
use Rattle.h5w_writer.specs.Sessions.{Session, cutting_of, with_rows}
use Rattle.h5w_writer.specs.declared.refusal.AppendError.{AppendError}
use Rattle.h5w_text.specs.Errors.{error_text}
use Rattle.h5w_text.specs.Says.{Said, SaidUnlessMemory, whole, failed}
use Rattle.h5w_input.specs.Scripts.{number_line_of}
use Rattle.h5w_text.specs.Statuses.{status_of}
use Rattle.h5w_text.specs.Streams.{SinkView, SourceView}
use Rattle.h5w_text.specs.declared.error.ErrorLine.{ErrorLine}
use Rattle.h5w_text.specs.declared.error.ErrorLine.TheVariants as errors
use Rattle.h5w_text.specs.declared.status.Status.{Status}
use Rattle.h5w_text.specs.declared.status.Status.TheVariants as statuses
use Rattle.h5w_batches.specs.Batches.{batches_of}
use Rattle.h5w_batches.specs.Inputs.{AreAll, HasNumbers, ReadsOutside}
use Rattle.h5w_batches.specs.Reads.{IsTooLong, ReadsBatches}
use Rattle.h5w_batches.specs.declared.error.BatchError.TheVariants as batch_errors
use Rattle.h5w_batches.proofs.AnswerLemmas.{completes_of, at_told}
use Rattle.h5w_live.specs.Writing.{IsFullAt, cutting_for, first_refused}
use Rattle.h5w_live.specs.declared.report.LiveReport.{LiveReport}
use Rattle.h5w_running.specs.Runs.{Asked, Halts, HaltsBy, LacksRoomAt, Refuses, RefusesBy, Tells}
use Rattle.h5w_running.specs.Ends.{ComesBy, ComesTo, Ends, HasRows, LiveEnds, LiveEndsWell, LiveTells, broken, ended_by, written}
use Rattle.h5w_running.specs.declared.ended.Ended.{Ended}
use Rattle.h5w_running.specs.declared.ended.Ended.TheVariants as ends
use Rattle.h5w_running.specs.declared.refusal.Refusal.{Refusal}
use Rattle.h5w_running.specs.declared.refusal.Refusal.TheVariants.{Error, Image}

-- ---- The last bytes

said_ends : {k l : SinkView} (text : List ℕ) (status result : Status) → Said text status result k l → Ends text (ends.With status) (ends.With result) k l
said_ends text status result (whole is gave) = written (ap ends.With is) gave
said_ends text status result (failed is rose some) = broken (ap ends.With is) rose some

-- a report
pub tells_ends : {s t : SourceView} {k l : SinkView} (a : Asked) (r : LiveReport) (text bytes : List ℕ) (status : Status) → Tells a s t r text → bytes ≡ text → Said bytes statuses.Done status k l → LiveEnds a (ends.With status) s t k l
tells_ends {k = k} {l} a r text bytes status tells same said =
    record { answer = Ok r; text = text; comes = tells; ended = said_ends text statuses.Done status (subst (λ (b : List ℕ). Said b statuses.Done status k l) same said) }

-- an error, or want of memory for its line
pub error_ends : {s t : SourceView} {k l : SinkView} (a : Asked) (e : ErrorLine) (status : Status) → Refuses a s t (Error e) → SaidUnlessMemory (error_text e) (status_of e) status k l → LiveEnds a (ends.With status) s t k l
error_ends a e status h (inl said) = record { answer = Err (Error e); text = error_text e; comes = (h, refl); ended = said_ends (error_text e) (status_of e) status said }
error_ends a e status h (inr said) =
    record { answer = Err (Error errors.Memory); text = error_text errors.Memory; comes = (tt, refl); ended = said_ends (error_text errors.Memory) statuses.Memory status said }

-- a failed image
pub image_ends : {s t : SourceView} {k l : SinkView} (a : Asked) (worn : SeatView) (status : Status) → Refuses a s t (Image worn) → (status ≡ statuses.Sink → ⊥) → Said (error_text errors.Image) statuses.Disk status k l → LiveEnds a (ends.Image worn) s t k l
image_ends a worn status h up (whole is gave) = record { answer = Err (Image worn); text = error_text errors.Image; comes = (h, refl); ended = written refl gave }
image_ends a worn status h up (failed is rose some) = absurd (up is)

pub image_breaks : {s t : SourceView} {k l : SinkView} (a : Asked) (worn : SeatView) (status : Status) → Refuses a s t (Image worn) → status ≡ statuses.Sink → Said (error_text errors.Image) statuses.Disk status k l → LiveEnds a (ends.With statuses.Sink) s t k l
image_breaks a worn status h down (whole is gave) = let clash : statuses.Disk ≡ statuses.Sink = sym is ∙ down in absurd (cc)
image_breaks a worn status h down (failed is rose some) = record { answer = Err (Image worn); text = error_text errors.Image; comes = (h, refl); ended = broken refl rose some }

-- ---- Where nothing stands in its way

one_list : {X : Type 0} (xs ys : List X) → map Some xs ≡ map Some ys → xs ≡ ys
one_list [] [] e = refl
one_list [] (y ∷ ys) e = absurd (cc)
one_list (x ∷ xs) [] e = absurd (cc)
one_list {X} (x ∷ xs) (y ∷ ys) e =
    let first : x ≡ y = cc in
    let behind : map Some xs ≡ map Some ys = cc in
    ap (λ (z : X). z ∷ xs) first ∙ ap (λ (zs : List X). y ∷ zs) (one_list xs ys behind)

-- an input has one list of batches
one_reading : {columns : ℕ} {s t : SourceView} (bs : List (List ℤ)) (h : HasNumbers columns s) → ReadsBatches columns s t bs → bs ≡ batches_of h.numbers
one_reading {columns} {s} bs h r =
    let all : AreAll r.reads.lines h.input = at_told s.left (AreAll r.reads.lines) h.input h.told r.reads.all in
    let same : map Some r.numbers ≡ map Some h.numbers = sym r.reads.spell ∙ ap (map (number_line_of columns)) (sym all.1) ∙ h.spell in
    r.batches_are ∙ ap batches_of (one_list r.numbers h.numbers same)

-- no batch of an input that is taken is refused
not_first : (a : Asked) {s t : SourceView} (bs : List (List ℤ)) (x : ℕ × AppendError) → HasRows a s → ReadsBatches a.file.columns s t bs → first_refused a.file 0 1 bs ≡ Some x → ⊥
not_first a bs x h read e =
    let none : first_refused a.file 0 1 bs ≡ None = ap (first_refused a.file 0 1) (one_reading bs h.has read) ∙ h.accepted in
    let clash : None ≡ Some x = sym none ∙ e in
    absurd (cc)

not_line : {columns : ℕ} {s : SourceView} (number : ℕ) (t : SourceView) → HasNumbers columns s → ReadsOutside columns s number → ⊥
not_line {columns} {s} number t h r = completes_of {T = Unit {0}} columns s t (Err (batch_errors.Line number)) h r

not_long : {columns : ℕ} {s : SourceView} (limit : ℕ) (t : SourceView) → HasNumbers columns s → IsTooLong columns s limit → ⊥
not_long {columns} {s} limit t h r = completes_of {T = Unit {0}} columns s t (Err (batch_errors.Input limit)) h r

abbrev IsGood : Ended → Type 0
IsGood result = (result ≡ ends.With statuses.Done) ⊎ ((result ≡ ends.With statuses.Limit) ⊎ (result ≡ ends.With statuses.Memory))

good : (a : Asked) (s t : SourceView) (answer : Result LiveReport Refusal) (text : List ℕ) → ComesTo a s t answer text → HasRows a s → (Rose s.faults t.faults → ⊥) → ((worn : SeatView) → ended_by answer ≡ ends.Image worn → ⊥) → IsGood (ended_by answer)
good a s t (Ok r) text comes h source image = inl refl
good a s t (Err (Error errors.Usage)) text comes h source image = absurd comes.0.2
good a s t (Err (Error errors.Missing)) text comes h source image = absurd comes.0.2
good a s t (Err (Error errors.Exists)) text comes h source image = absurd comes.0.2
good a s t (Err (Error (errors.Read r))) text comes h source image = absurd comes.0.2
good a s t (Err (Error (errors.Finding kind at))) text comes h source image = absurd comes.0.2
good a s t (Err (Error (errors.Overlap at len other other_len))) text comes h source image = absurd comes.0.2
good a s t (Err (Error (errors.Cut end size))) text comes h source image = absurd comes.0.2
good a s t (Err (Error (errors.WriterVersion version))) text comes h source image = absurd comes.0.2
good a s t (Err (Error errors.Layout)) text comes h source image = absurd comes.0.2
good a s t (Err (Error (errors.ChunkBytes bytes))) text comes h source image = absurd comes.0.2
good a s t (Err (Error errors.NoColumns)) text comes h source image = absurd comes.0.2
good a s t (Err (Error (errors.Same one other))) text comes h source image = absurd comes.0.2
good a s t (Err (Error (errors.FullChunks chunks limit))) text comes h source image = let why = comes.0 in absurd (not_first a why.0 _ h why.1 why.2.1)
good a s t (Err (Error (errors.FullSpace at size limit))) text comes h source image = inr (inl refl)
good a s t (Err (Error errors.Deep)) text comes h source image = absurd comes.0.2
good a s t (Err (Error (errors.Line number))) text comes h source image = absurd (not_line number t h.has comes.0)
good a s t (Err (Error (errors.Range batch index value))) text comes h source image = let why = comes.0 in absurd (not_first a why.0 _ h why.1 why.2)
good a s t (Err (Error (errors.Input limit))) text comes h source image = absurd (not_long limit t h.has comes.0)
good a s t (Err (Error errors.Disk)) text comes h source image = absurd comes.0.2
good a s t (Err (Error errors.Image)) text comes h source image = absurd comes.0.2
good a s t (Err (Error errors.Source)) text comes h source image = let why = comes.0 in absurd (source why.0)
good a s t (Err (Error errors.Memory)) text comes h source image = inr (inr refl)
good a s t (Err (Image worn)) text comes h source image = absurd (image worn refl)

pub ends_well : {s t : SourceView} {k l : SinkView} (a : Asked) (result : Ended) → LiveEnds a result s t k l → LiveEndsWell a result s t k l
ends_well {s} {t} {k} {l} a result e = λ h source sink image. go h source sink image e.ended
  where
    go : HasRows a s → (Rose s.faults t.faults → ⊥) → (Rose k.faults l.faults → ⊥) → ((worn : SeatView) → result ≡ ends.Image worn → ⊥) → Ends e.text (ended_by e.answer) result k l → IsGood result
    go h source sink image (broken is rose some) = absurd (sink rose)
    go h source sink image (written is gave) = subst IsGood (sym is) (good a s t e.answer e.text e.comes h source (λ worn same. image worn (is ∙ same)))

-- ---- In words of a log

cut_as : (f : CreatedFile) (s : Session) → s.dataset ≡ with_rows s.dataset.shape.rows (described_of f) → cutting_of s ≡ cutting_for f
cut_as f s h = ap (λ (d : Described). cutting_of (record s { dataset = d })) h

room_at : (f : CreatedFile) (most : ℕ) (bs : List (List ℤ)) (batch : ℕ) (full : Full) → IsFullAt f most bs batch full → LacksRoomAt f most bs batch full
room_at f most bs batch full h =
    let l = h.lacks in
    let none : NoPlace l.session l.log full = l.lacks l.log l.stands in
    let cut = cut_as f l.session l.dataset in
    let end : first_end_of l.log ≡ 1024 = ap first_end_of l.new in
    record {
      before = h.before;
      number = h.number;
      within = h.within;
      accepted = h.accepted;
      log = l.log;
      new = l.new;
      appended = l.appended;
      flushed = l.flushed;
      some = none.some;
      limit = l.limit;
      past = none.past;
      size_bound = subst (λ c. full.size ≤ load c l.log) cut none.size_bound;
      at_bound = subst (λ n. full.at ≤ n + spent (cutting_for f) l.log + load (cutting_for f) l.log) end (subst (λ c. full.at ≤ first_end_of l.log + spent c l.log + load c l.log) cut none.at_bound);
    }

halts_told : (f : CreatedFile) (most : ℕ) (bs : List (List ℤ)) (e : Refusal) → Halts f most bs e → HaltsBy LacksRoomAt f most bs e
halts_told f most bs (Error (errors.Range batch index value)) h = h
halts_told f most bs (Error (errors.FullChunks chunks limit)) h = h
halts_told f most bs (Error (errors.FullSpace at size limit)) h = (h.0, room_at f most bs h.0 (record { at = at; size = size; limit = limit }) h.1)
halts_told f most bs (Error errors.Memory) h = tt
halts_told f most bs (Image worn) h = tt
halts_told f most bs (Error errors.Usage) h = absurd h
halts_told f most bs (Error errors.Missing) h = absurd h
halts_told f most bs (Error errors.Exists) h = absurd h
halts_told f most bs (Error (errors.Read x)) h = absurd h
halts_told f most bs (Error (errors.Finding kind at)) h = absurd h
halts_told f most bs (Error (errors.Overlap at len other other_len)) h = absurd h
halts_told f most bs (Error (errors.Cut end size)) h = absurd h
halts_told f most bs (Error (errors.WriterVersion version)) h = absurd h
halts_told f most bs (Error errors.Layout) h = absurd h
halts_told f most bs (Error (errors.ChunkBytes bytes)) h = absurd h
halts_told f most bs (Error errors.NoColumns) h = absurd h
halts_told f most bs (Error (errors.Same one other)) h = absurd h
halts_told f most bs (Error errors.Deep) h = absurd h
halts_told f most bs (Error (errors.Line n)) h = absurd h
halts_told f most bs (Error (errors.Input limit)) h = absurd h
halts_told f most bs (Error errors.Disk) h = absurd h
halts_told f most bs (Error errors.Image) h = absurd h
halts_told f most bs (Error errors.Source) h = absurd h

refuses_told : (a : Asked) (s t : SourceView) (e : Refusal) → Refuses a s t e → RefusesBy LacksRoomAt a s t e
refuses_told a s t (Error (errors.Line number)) h = h
refuses_told a s t (Error (errors.Input limit)) h = h
refuses_told a s t (Error errors.Source) h = h
refuses_told a s t (Error errors.Memory) h = tt
refuses_told a s t (Error (errors.Range batch index value)) h = (h.0, h.1, halts_told a.file a.most h.0 (Error (errors.Range batch index value)) h.2)
refuses_told a s t (Error (errors.FullChunks chunks limit)) h = (h.0, h.1, halts_told a.file a.most h.0 (Error (errors.FullChunks chunks limit)) h.2)
refuses_told a s t (Error (errors.FullSpace at size limit)) h = (h.0, h.1, halts_told a.file a.most h.0 (Error (errors.FullSpace at size limit)) h.2)
refuses_told a s t (Error errors.Usage) h = (h.0, h.1, halts_told a.file a.most h.0 (Error errors.Usage) h.2)
refuses_told a s t (Error errors.Missing) h = (h.0, h.1, halts_told a.file a.most h.0 (Error errors.Missing) h.2)
refuses_told a s t (Error errors.Exists) h = (h.0, h.1, halts_told a.file a.most h.0 (Error errors.Exists) h.2)
refuses_told a s t (Error (errors.Read x)) h = (h.0, h.1, halts_told a.file a.most h.0 (Error (errors.Read x)) h.2)
refuses_told a s t (Error (errors.Finding kind at)) h = (h.0, h.1, halts_told a.file a.most h.0 (Error (errors.Finding kind at)) h.2)
refuses_told a s t (Error (errors.Overlap at len other other_len)) h = (h.0, h.1, halts_told a.file a.most h.0 (Error (errors.Overlap at len other other_len)) h.2)
refuses_told a s t (Error (errors.Cut end size)) h = (h.0, h.1, halts_told a.file a.most h.0 (Error (errors.Cut end size)) h.2)
refuses_told a s t (Error (errors.WriterVersion version)) h = (h.0, h.1, halts_told a.file a.most h.0 (Error (errors.WriterVersion version)) h.2)
refuses_told a s t (Error errors.Layout) h = (h.0, h.1, halts_told a.file a.most h.0 (Error errors.Layout) h.2)
refuses_told a s t (Error (errors.ChunkBytes bytes)) h = (h.0, h.1, halts_told a.file a.most h.0 (Error (errors.ChunkBytes bytes)) h.2)
refuses_told a s t (Error errors.NoColumns) h = (h.0, h.1, halts_told a.file a.most h.0 (Error errors.NoColumns) h.2)
refuses_told a s t (Error (errors.Same one other)) h = (h.0, h.1, halts_told a.file a.most h.0 (Error (errors.Same one other)) h.2)
refuses_told a s t (Error errors.Deep) h = (h.0, h.1, halts_told a.file a.most h.0 (Error errors.Deep) h.2)
refuses_told a s t (Error errors.Disk) h = (h.0, h.1, halts_told a.file a.most h.0 (Error errors.Disk) h.2)
refuses_told a s t (Error errors.Image) h = (h.0, h.1, halts_told a.file a.most h.0 (Error errors.Image) h.2)
refuses_told a s t (Image worn) h = (h.0, h.1, halts_told a.file a.most h.0 (Image worn) h.2)

comes_told : (a : Asked) (s t : SourceView) (r : Result LiveReport Refusal) (text : List ℕ) → ComesTo a s t r text → ComesBy LacksRoomAt a s t r text
comes_told a s t (Ok r) text h = h
comes_told a s t (Err e) text h = (refuses_told a s t e h.0, h.1)

-- an end in words of a log
pub live_tells : {s t : SourceView} {k l : SinkView} (a : Asked) (result : Ended) → LiveEnds a result s t k l → LiveTells a result s t k l
live_tells {s} {t} a result h = record { answer = h.answer; text = h.text; comes = comes_told a s t h.answer h.text h.comes; ended = h.ended }
