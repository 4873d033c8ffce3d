-- What a run comes to once its threads have ended, and its session was closed after them.
use Rattle.std.proofs.Common.{◌≡◌, ℕ, ◌+◌, ◌*◌, ◌^◌, ◌<◌, ◌≤◌, List, [], ◌++◌, length, take, ℤ, Some, None, Result, Ok, Err, sym, ap, ◌∙◌, subst, arith, length-append}
use Rattle.std.specs.Prelude.{All, IfOk, Option, drop, get_or, pos}
use Rattle.h5w_model.specs.Agrees.{Agrees, FlushesAgree, ReaderAgrees, Run, values_in}
use Rattle.h5w_model.specs.Logs.{Log, hist}
use Rattle.h5w_model.specs.declared.piece.Write.{Write}
use Rattle.h5w_model.specs.Messages.{IsIntType}
use Rattle.h5w_model.specs.declared.report.FlushLine.{FlushLine}
use Rattle.h5w_model.specs.declared.report.PollLine.{PollLine}
use Rattle.h5w_image.specs.Memory.{JournalView}
use Rattle.h5w_reader.specs.Readers.{reader_rules}
use Rattle.h5w_creation_laws.specs.CreatedFiles.{CreatedFile, created_writes}
use Rattle.h5w_writer.specs.Sessions.{Session}
use Rattle.h5w_shared.specs.Seats.{ImageId, NoteView, SeatView}
use Rattle.h5w_shared.specs.Turns.{StartsWith}
use Rattle.h5w_shared.proofs.Beginnings.{starts_both}
use Rattle.h5w_live_laws.specs.Laws.{IsStray}
use Rattle.h5w_live_laws.specs.Polls.{TellPolls}
use Rattle.h5w_live_laws.proofs.PollLemmas.{poll_laws}
use Rattle.h5w_live_reading.specs.Ends.{EndWith, ReadersEnd}
use Rattle.h5w_live_reading.specs.Reading.{Polled}
use Rattle.h5w_live_reading.proofs.PartLemmas.{parts_both}
use Rattle.h5w_live.specs.Reports.{AreWhole, BesideEnds, HasPutAll, IsBeside, IsShut, Joined, PartAgrees, PartJoined, Ran, Reports, TellPart, TellSeats, TellsSeat, before_close, run_of}
use Rattle.h5w_live.specs.Writing.{HasClosed, HasFlushed}
use Rattle.h5w_live_reading.specs.declared.actors.AllEnded.{AllEnded}
use Rattle.h5w_live_reading.specs.declared.actors.Cut.{Cut}
use Rattle.h5w_live_reading.specs.declared.actors.Cut.TheVariants as cuts
use Rattle.h5w_live.specs.declared.report.LiveError.{LiveError}
use Rattle.h5w_live.specs.declared.report.LiveReport.{LiveReport}
use Rattle.h5w_live.specs.declared.threads.Beside.{Beside}
use Rattle.h5w_live.specs.declared.threads.Written.{Written}
use Rattle.h5w_live.proofs.ReaderLemmas.{reader_agrees, tells_seat}
use Rattle.h5w_live.proofs.ReportLemmas.{all_whole, is_shut}
use Rattle.h5w_live.proofs.RowLemmas.{few_values}
use Rattle.h5w_live.proofs.RunLemmas.{is_run, restful}
use Rattle.h5w_writer.proofs.PastLemmas.{one_each}

-- ---- The readers of one image

module _ (i : ImageId) (s : Session) (v : SeatView) (fs : List FlushLine) (r : Result AllEnded Cut) (j : PartJoined i s v fs r) where
  start : j.flushed.writes.log.start ≡ i.start
  start = ap (λ (l : Log). l.start) j.flushed.writes.new ∙ sym j.start

  first : j.flushed.writes.log.first ≡ length (created_writes j.file)
  first = ap (λ (l : Log). l.first) j.flushed.writes.new ∙ sym (one_each j.file)

  begins_log : (seen : List Write) → StartsWith v.seen seen → StartsWith (hist j.flushed.writes.log.events) seen
  begins_log seen h = subst (λ (ws : List Write). StartsWith ws seen) (sym j.flushed.writes.seat.pieces) h

  ended : (e : AllEnded) → r ≡ Ok e → EndWith (reader_rules j.file.name j.attempts) i j.before j.calls j.readers (created_writes j.file) e.notes.items e.lines.items
  ended e is = subst (λ (x : Result AllEnded Cut). IfOk x (λ (e : AllEnded). EndWith (reader_rules j.file.name j.attempts) i j.before j.calls j.readers (created_writes j.file) e.notes.items e.lines.items)) is j.ends.end

  pub images : (e : AllEnded) → r ≡ Ok e → All (λ (n : NoteView). n.image ≡ i) e.notes.items
  images e is = λ k d less. ((ended e is).each k d (omega (arith, less, (ended e is).notes_count))).image

  -- where what each seat had seen begins what the writer wrote
  pub agree : (e : AllEnded) → r ≡ Ok e → All (λ (n : NoteView). StartsWith v.seen n.seen) e.notes.items → PartAgrees (run_of j.file j.attempts j.all j.calls j.batches fs) j.before j.readers e.lines.items
  agree e is begins =
      let d : NoteView = record { image = i; seen = [] } in
      let h = ended e is in
      record {
        count = h.lines_count;
        each = λ k less.
            let one = h.each k d less in
            reader_agrees (reader_rules j.file.name j.attempts) j.flushed.writes.log (run_of j.file j.attempts j.all j.calls j.batches fs) (j.before + k + 1) (created_writes j.file) (get_or e.notes.items k d).seen
            (take j.calls (drop (k * j.calls) e.lines.items))
            (is_run j.file j.most j.batches s v fs j.attempts j.all j.calls j.flushed j.some j.typed j.few) first (omega arith)
            (begins_log (get_or e.notes.items k d).seen (begins k d (omega (arith, less, h.notes_count))))
            (subst (λ (b : List ℕ). Polled (reader_rules j.file.name j.attempts) b (j.before + k + 1) (created_writes j.file) (get_or e.notes.items k d).seen (take j.calls (drop (k * j.calls) e.lines.items))) (sym start) one.polled);
      }

  -- and the lines tell of calls through the seats
  pub seats_told : (e : AllEnded) → r ≡ Ok e → All (λ (n : NoteView). StartsWith v.seen n.seen) e.notes.items → TellPart j.file j.attempts j.before j.readers j.calls v.seen e.lines.items
  seats_told e is begins = λ k less.
      let d : NoteView = record { image = i; seen = [] } in
      let h = ended e is in
      tells_seat j.file j.attempts (j.before + k + 1) v.seen (get_or e.notes.items k d).seen (take j.calls (drop (k * j.calls) e.lines.items)) (begins k d (omega (arith, less, h.notes_count)))
      (subst (λ (b : List ℕ). Polled (reader_rules j.file.name j.attempts) b (j.before + k + 1) (created_writes j.file) (get_or e.notes.items k d).seen (take j.calls (drop (k * j.calls) e.lines.items))) j.start (h.each k d less).polled)

  pub stray_image : (note : NoteView) → r ≡ Err (cuts.Stray note) → note.image ≡ i
  stray_image note is = (j.ends.stray note is).image

  -- no call strays
  pub none_strays : (note : NoteView) → r ≡ Err (cuts.Stray note) → StartsWith v.seen note.seen → ⊥
  none_strays note is begins =
      let s1 = j.ends.stray note is in
      let g = reader_rules j.file.name j.attempts in
      poll_laws.none_stray g j.flushed.writes.log s1.reader (created_writes j.file) s1.strays.between note.seen s1.strays.lines s1.strays.next
      (restful j.file s v j.attempts j.flushed.writes j.some) (omega (arith, first)) (begins_log note.seen begins)
      (subst (λ (b : List ℕ). TellPolls g b s1.reader 1 None (pos 0) (created_writes j.file) s1.strays.lines s1.strays.next s1.strays.between) (sym start) s1.strays.tell)
      (subst (λ (b : List ℕ). IsStray g b s1.strays.next s1.strays.between note.seen) (sym start) s1.strays.stray)

-- notes of what begins the beginning of a list
pub begin_all : (all front : List Write) (notes : List NoteView) → StartsWith all front → All (λ (n : NoteView). StartsWith front n.seen) notes → All (λ (n : NoteView). StartsWith all n.seen) notes
begin_all all front notes h each = λ k d less. starts_both all front (get_or notes k d).seen h (each k d less)

-- ---- The readers of both images

module _ (i : ImageId) (s : Session) (v : SeatView) (fs : List FlushLine) (r : Result AllEnded Cut) (b : Option Beside) (j : Joined i s v fs r b) where
  abbrev pub first_part : PartJoined i s v fs r
  first_part = record {
    file = j.file;
    most = j.most;
    batches = j.batches;
    attempts = j.attempts;
    before = 0;
    readers = j.readers;
    all = j.readers + j.mirrors;
    calls = j.calls;
    typed = j.typed;
    some = j.some;
    few = j.few;
    start = j.start;
    flushed = j.flushed;
    ends = j.ends;
  }

  -- the same with the seat as it is after a call that changed nothing of it
  abbrev pub at_seat : (w : SeatView) → w ≡ v → Joined i s w fs r b
  at_seat w same = record {
    file = j.file;
    most = j.most;
    batches = j.batches;
    attempts = j.attempts;
    readers = j.readers;
    mirrors = j.mirrors;
    calls = j.calls;
    typed = j.typed;
    some = j.some;
    few = j.few;
    start = j.start;
    flushed = subst (λ (x : SeatView). HasFlushed j.file j.most j.batches s x fs) (sym same) j.flushed;
    ends = j.ends;
    beside = j.beside;
  }

  pub beside_of : (x : Beside) → b ≡ Some x → BesideEnds (reader_rules j.file.name j.attempts) i j.readers j.calls j.mirrors (created_writes j.file) x
  beside_of x is = subst (λ (o : Option Beside). IsBeside (reader_rules j.file.name j.attempts) i j.readers j.calls j.mirrors (created_writes j.file) o) is j.beside

  pub none_beside : b ≡ None → j.mirrors ≡ 0
  none_beside is = subst (λ (o : Option Beside). IsBeside (reader_rules j.file.name j.attempts) i j.readers j.calls j.mirrors (created_writes j.file) o) is j.beside

  abbrev pub second_part : (x : Beside) → BesideEnds (reader_rules j.file.name j.attempts) i j.readers j.calls j.mirrors (created_writes j.file) x → PartJoined x.second.image s v fs x.ended
  second_part x h = record {
    file = j.file;
    most = j.most;
    batches = j.batches;
    attempts = j.attempts;
    before = j.readers;
    readers = j.mirrors;
    all = j.readers + j.mirrors;
    calls = j.calls;
    typed = j.typed;
    some = j.some;
    few = j.few;
    start = h.second.start;
    flushed = j.flushed;
    ends = h.ends;
  }

-- behind no others
agrees_first : (run : Run) (k : ℕ) (lines : List PollLine) → ReaderAgrees run (0 + k + 1) 1 run.first 0 lines → ReaderAgrees run (k + 1) 1 run.first 0 lines
agrees_first run k lines h = let same : 0 + k + 1 ≡ k + 1 = omega arith in subst (λ n. ReaderAgrees run n 1 run.first 0 lines) same h

tells_first : (f : CreatedFile) (attempts k : ℕ) (pieces : List Write) (lines : List PollLine) → TellsSeat f attempts (0 + k + 1) pieces lines → TellsSeat f attempts (k + 1) pieces lines
tells_first f attempts k pieces lines h = let same : 0 + k + 1 ≡ k + 1 = omega arith in subst (λ n. TellsSeat f attempts n pieces lines) same h

-- the lines of all readers, where there is no second image
pub agree_alone : (run : Run) (bs : List (List ℤ)) (n m : ℕ) (lines : List PollLine) → run.values ≡ values_in bs → FlushesAgree run.columns run.first 0 bs run.flushes → run.readers ≡ n + m → m ≡ 0 → PartAgrees run 0 n lines → Agrees run bs lines
agree_alone run bs n m lines values flushes all none h =
    let same : run.readers ≡ n = omega (arith, all, none) in
    record {
      values = values;
      flushes = flushes;
      count = h.count ∙ ap (λ k. k * run.calls) (sym same);
      each = λ k less. agrees_first run k (take run.calls (drop (k * run.calls) lines)) (h.each k (omega (arith, same, less)));
    }

-- and where there is one
pub agree_both : (run : Run) (bs : List (List ℤ)) (n m : ℕ) (front more lines : List PollLine) → run.values ≡ values_in bs → FlushesAgree run.columns run.first 0 bs run.flushes → run.readers ≡ n + m → PartAgrees run 0 n front → PartAgrees run n m more
    → lines ≡ front ++ more → Agrees run bs lines
agree_both run bs n m front more lines values flushes all h k is =
    let product : n * run.calls + m * run.calls ≡ (n + m) * run.calls = grind arith in
    record {
      values = values;
      flushes = flushes;
      count = ap length is ∙ (length-append front more ∙ (ap (λ a. a + length more) h.count ∙ (ap (λ a. n * run.calls + a) k.count ∙ (product ∙ ap (λ a. a * run.calls) (sym all)))));
      each = λ a less.
          subst (λ (ls : List PollLine). ReaderAgrees run (a + 1) 1 run.first 0 (take run.calls (drop (a * run.calls) ls))) (sym is)
          (parts_both (λ a ls. ReaderAgrees run (a + 1) 1 run.first 0 ls) run.calls n m front more h.count (λ a below. agrees_first run a (take run.calls (drop (a * run.calls) front)) (h.each a below)) k.each a (omega (arith, all, less)));
    }

pub tell_alone : (f : CreatedFile) (attempts n m calls : ℕ) (pieces : List Write) (lines : List PollLine) → m ≡ 0 → TellPart f attempts 0 n calls pieces lines → TellSeats f attempts (n + m) calls pieces lines
tell_alone f attempts n m calls pieces lines none h = λ k less. tells_first f attempts k pieces (take calls (drop (k * calls) lines)) (h k (omega (arith, none, less)))

pub tell_both : (f : CreatedFile) (attempts n m calls : ℕ) (pieces : List Write) (front more lines : List PollLine) → length front ≡ n * calls → TellPart f attempts 0 n calls pieces front → TellPart f attempts n m calls pieces more
    → lines ≡ front ++ more → TellSeats f attempts (n + m) calls pieces lines
tell_both f attempts n m calls pieces front more lines count h k is = λ a less.
    subst (λ (ls : List PollLine). TellsSeat f attempts (a + 1) pieces (take calls (drop (a * calls) ls))) (sym is)
    (parts_both (λ a ls. TellsSeat f attempts (a + 1) pieces ls) calls n m front more count (λ a below. tells_first f attempts a pieces (take calls (drop (a * calls) front)) (h a below)) k a less)

-- ---- The whole

pub few_put : (f : CreatedFile) (most : ℕ) (done : List (List ℤ)) (s : Session) (v : SeatView) (lines : List FlushLine) → HasFlushed f most done s v lines → length (values_in done) < 2 ^ 52
few_put f most done s v lines h = omega (arith, h.rows, few_values f s.dataset.shape.rows h.writes.is h.few)

abbrev pub joined : (i : ImageId) (w : Written) (r : Result AllEnded Cut) (b : Option Beside) (ran : Ran i w r b) (flushes : List FlushLine) → HasFlushed ran.file ran.most ran.batches w.session w.seat flushes → Joined i w.session w.seat flushes r b
joined i w r b ran flushes h = record {
  file = ran.file;
  most = ran.most;
  batches = ran.batches;
  attempts = ran.attempts;
  readers = ran.readers;
  mirrors = ran.mirrors;
  calls = ran.calls;
  typed = ran.typed;
  some = ran.some;
  few = few_put ran.file ran.most ran.batches w.session w.seat flushes h;
  start = sym (ap (λ (x : ImageId). x.start) ran.put.image) ∙ (sym h.writes.seat.start ∙ ap (λ (l : Log). l.start) h.writes.new);
  flushed = h;
  ends = ran.ends;
  beside = ran.beside;
}

-- what was copied, and the lines, are the report's
pub reported : (f : CreatedFile) (bs : List (List ℤ)) (attempts readers calls : ℕ) (s : Session) (v : SeatView) (flushes : List FlushLine) → HasClosed f bs s v flushes → (before : List Write) → before_close v.seen ≡ before → (journal : JournalView) (fs : List FlushLine)
    (ps polls : List PollLine) → journal.writes ≡ v.seen → fs ≡ flushes → ps ≡ polls → Agrees (run_of f attempts readers calls bs flushes) bs polls → TellSeats f attempts readers calls before polls
    → Reports f bs attempts readers calls (record { journal = journal; flushes = fs; polls = ps })
reported f bs attempts readers calls s v flushes h before last journal fs ps polls writes lines calls_are agrees told = record {
  agrees = subst (λ (ls : List FlushLine). Agrees (run_of f attempts readers calls bs ls) bs ps) (sym lines) (subst (λ (ls : List PollLine). Agrees (run_of f attempts readers calls bs flushes) bs ls) (sym calls_are) agrees);
  whole = subst (λ (ws : List Write). AreWhole f.name f.columns ws (values_in bs) 0 fs) (sym writes) (subst (λ (ls : List FlushLine). AreWhole f.name f.columns v.seen (values_in bs) 0 ls) (sym lines) (all_whole f bs s v flushes h));
  shut = subst (λ (ws : List Write). IsShut f.name f.columns ws (values_in bs)) (sym writes) (is_shut f bs s v flushes h);
  seats = subst (λ (ws : List Write). TellSeats f attempts readers calls ws ps) (sym (ap before_close writes ∙ last)) (subst (λ (ls : List PollLine). TellSeats f attempts readers calls before ls) (sym calls_are) told);
}

-- what the threads left
abbrev pub ran_of : (i : ImageId) (w : Written) (r : Result AllEnded Cut) (b : Option Beside) (f : CreatedFile) (most : ℕ) (bs given : List (List ℤ)) (name : List ℕ) (attempts readers mirrors calls seats : ℕ) (before : List Write) → IsIntType f.int_type → 1 ≤ attempts
    → before ≡ created_writes f → given ≡ bs → name ≡ f.name → seats ≡ readers → HasPutAll f most given i w → ReadersEnd (reader_rules name attempts) i 0 calls seats before r → IsBeside (reader_rules name attempts) i seats calls mirrors before b → Ran i w r b
ran_of i w r b f most bs given name attempts readers mirrors calls seats before typed some begun batches named count put ends beside = record {
  file = f;
  most = most;
  batches = bs;
  attempts = attempts;
  readers = readers;
  mirrors = mirrors;
  calls = calls;
  typed = typed;
  some = some;
  put = subst (λ (x : List (List ℤ)). HasPutAll f most x i w) batches put;
  ends = subst (λ (n : List ℕ). ReadersEnd (reader_rules n attempts) i 0 calls readers (created_writes f) r) named
      (subst (λ k. ReadersEnd (reader_rules name attempts) i 0 calls k (created_writes f) r) count (subst (λ (ws : List Write). ReadersEnd (reader_rules name attempts) i 0 calls seats ws r) begun ends));
  beside = subst (λ (n : List ℕ). IsBeside (reader_rules n attempts) i readers calls mirrors (created_writes f) b) named
      (subst (λ k. IsBeside (reader_rules name attempts) i k calls mirrors (created_writes f) b) count (subst (λ (ws : List Write). IsBeside (reader_rules name attempts) i seats calls mirrors ws b) begun beside));
}

-- what a report says, part by part
pub all_told : (f : CreatedFile) (bs : List (List ℤ)) (attempts readers calls : ℕ) (result : Result LiveReport LiveError) → IfOk result (Reports f bs attempts readers calls)
    → IfOk result (λ r. Agrees (run_of f attempts readers calls bs r.flushes) bs r.polls) × IfOk result (λ r. AreWhole f.name f.columns r.journal.writes (values_in bs) 0 r.flushes)
    × IfOk result (λ r. IsShut f.name f.columns r.journal.writes (values_in bs)) × IfOk result (λ r. TellSeats f attempts readers calls (before_close r.journal.writes) r.polls)
all_told f bs attempts readers calls (Ok r) h = (h.agrees, h.whole, h.shut, h.seats)
all_told f bs attempts readers calls (Err e) h = (tt, tt, tt, tt)
