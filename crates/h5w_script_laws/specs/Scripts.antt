-- All readers of a script at each of its lines: which reply a line may be given, and how they poll on.
use Rattle.std.specs.Prelude.{◌≡◌, ◌⊎◌, ℕ, ◌+◌, ◌<◌, ◌≤◌, false, List, [], ◌==◌, if◌then◌else◌, Option, Some, None, ℤ}
use Rattle.h5w_model.specs.Numbers.{range}
use Rattle.h5w_model.specs.Images.{image}
use Rattle.h5w_model.specs.Logs.{Log, appends, plans, shows, hist, flushed_rows, and_now}
use Rattle.h5w_model.specs.Tables.{Reading}
use Rattle.h5w_model.specs.Calls.{rows_seen, values_call}
use Rattle.h5w_model.specs.Unfinished.{Unfinished, values_left, next_look_of, fed_left, Reader}
use Rattle.h5w_model.specs.Lawful.{Line, adds, flushes, ends, opens, refreshes, reads, looks, ScriptState, ReaderState, reader_in, with_reader, after_shows, Allowed, next_state}
use Rattle.h5w_model.specs.declared.piece.Write.{Write}
use Rattle.h5w_model.specs.declared.reply.Reply.{Reply}
use Rattle.h5w_model.specs.declared.reply.Reply.TheVariants as replies
use Rattle.h5w_script_laws.specs.Polling.{Polling, now, Wants, MayPoll}
use Rattle.h5w_script_laws.specs.Premises.{LogHolds, Follows}
use Rattle.h5w_script_laws.specs.Laws.{opening, refreshing, reading, reply_to, after_look}

-- the readers that were opened, by number
abbrev pub Readers : Type 0
Readers = ℕ → Option Reader

-- each of them polls
abbrev pub AllPoll : Polling → Log → ScriptState → Readers → Type 0
AllPoll g log s rs = (n : ℕ) → MayPoll g log (reader_in n s.readers) (rs n)

-- reader n is this, and the others are as before
abbrev pub and_reader : ℕ → Reader → Readers → Readers
and_reader n r rs k = if n == k then Some r else rs k

-- ---- Lines of the writer

-- Lines of the writer leave the readers of the script as they were, but for the last piece of a flush, and each event of
-- the log leaves them polling. Where a piece does not end a flush, it flushes no rows.
pub record WriterLineLaws : Type 0 where
  pub adding : (g : Polling) (s : ScriptState) (values : List ℤ) (reply : Reply) → (next_state g.rules s (adds values) reply).readers ≡ s.readers
  pub flushing : (g : Polling) (s : ScriptState) (reply : Reply) → (next_state g.rules s flushes reply).readers ≡ s.readers
  pub ending : (g : Polling) (s : ScriptState) (reply : Reply) → (next_state g.rules s ends reply).readers ≡ s.readers
  pub showing_nothing : (g : Polling) (s : ScriptState) (pieces : ℕ) → s.ends_flush ≡ false → (after_shows g.rules s pieces).readers ≡ s.readers
  pub appended : (g : Polling) (log : Log) (s : ScriptState) (rs : Readers) (values : List ℤ) → AllPoll g log s rs → AllPoll g (and_now (appends values) log) s rs
  pub planned : (g : Polling) (log : Log) (s : ScriptState) (rs : Readers) (pieces : ℕ) → 1 ≤ pieces → AllPoll g log s rs → AllPoll g (and_now (plans pieces) log) s rs
  pub shown : (g : Polling) (log : Log) (s : ScriptState) (rs : Readers) (w : Write) (pieces : ℕ)
      → ((pieces < s.pending) ⊎ (s.ends_flush ≡ false) → flushed_rows (and_now (shows w) log) ≡ flushed_rows log)
      → AllPoll g log s rs → AllPoll g (and_now (shows w) log) (after_shows g.rules s pieces) rs

-- ---- Lines of a reader

-- the line may be given this reply, which leaves all as it was
pub record Refuses (g : Polling) (s : ScriptState) (line : Line) (reply : Reply) : Type 0 where
  pub allowed : Allowed g.rules s line reply
  pub same : next_state g.rules s line reply ≡ s

-- the line may be given this reply, after which reader n is this, and the others are as before
pub record Moves (g : Polling) (log : Log) (s : ScriptState) (rs : Readers) (line : Line) (reply : Reply) (n : ℕ) (r : Reader) : Type 0 where
  pub allowed : Allowed g.rules s line reply
  pub state : ReaderState
  pub is : next_state g.rules s line reply ≡ with_reader s n state
  pub polls : AllPoll g log (with_reader s n state) (and_reader n r rs)

-- a script over a log, whose readers poll it
pub record Polled (g : Polling) (log : Log) (s : ScriptState) (rs : Readers) : Type 0 where
  pub follows : Follows log s
  pub begun : log.first ≤ now log
  pub all : AllPoll g log s rs

pub record BeginLineLaws : Type 0 where
  pub opens_one : (g : Polling) (log : Log) (s : ScriptState) (rs : Readers) (n : ℕ) → Polled g log s rs → rs n ≡ None
      → Moves g log s rs (opens n) (replies.Opening n) n (opening g)
  pub opens_again : (g : Polling) (log : Log) (s : ScriptState) (rs : Readers) (n : ℕ) (r : Reader) → Polled g log s rs → rs n ≡ Some r
      → Refuses g s (opens n) (replies.ReaderExists n)
  pub refreshes_one : (g : Polling) (log : Log) (s : ScriptState) (rs : Readers) (n : ℕ) (r : Reader) → Polled g log s rs → rs n ≡ Some r → r.left ≡ None
      → Moves g log s rs (refreshes n) (replies.Refreshing n) n (refreshing r)
  pub refreshes_busy : (g : Polling) (log : Log) (s : ScriptState) (rs : Readers) (n : ℕ) (r : Reader) (left : Unfinished) → Polled g log s rs → rs n ≡ Some r → r.left ≡ Some left
      → Refuses g s (refreshes n) (replies.ReaderBusy n)
  pub refreshes_none : (g : Polling) (log : Log) (s : ScriptState) (rs : Readers) (n : ℕ) → Polled g log s rs → rs n ≡ None
      → Refuses g s (refreshes n) (replies.NoReader n)
  pub reads_some : (g : Polling) (log : Log) (s : ScriptState) (rs : Readers) (n from count : ℕ) (r : Reader) (what : Reading) → LogHolds g log → Polled g log s rs
      → rs n ≡ Some r → r.left ≡ None → r.known ≡ Some what → 1 ≤ count → from + count ≤ rows_seen r.known
      → Moves g log s rs (reads n from count) (replies.Reading n) n (reading r what from count)
  -- rows that were seen are read by looks
  pub reads_want : (g : Polling) (log : Log) (s : ScriptState) (rs : Readers) (n from count : ℕ) (r : Reader) (what : Reading) → LogHolds g log → Polled g log s rs
      → rs n ≡ Some r → r.left ≡ None → r.known ≡ Some what → 1 ≤ count → from + count ≤ rows_seen r.known → Wants (Some (values_left (values_call what from count)))
  pub reads_nothing : (g : Polling) (log : Log) (s : ScriptState) (rs : Readers) (n from : ℕ) (r : Reader) → Polled g log s rs → rs n ≡ Some r → r.left ≡ None
      → from ≤ rows_seen r.known → Refuses g s (reads n from 0) (replies.Values n [])
  pub reads_past : (g : Polling) (log : Log) (s : ScriptState) (rs : Readers) (n from count : ℕ) (r : Reader) → Polled g log s rs → rs n ≡ Some r → r.left ≡ None
      → rows_seen r.known < from + count → Refuses g s (reads n from count) (replies.OutOfRows n from count (rows_seen r.known))
  pub reads_busy : (g : Polling) (log : Log) (s : ScriptState) (rs : Readers) (n from count : ℕ) (r : Reader) (left : Unfinished) → Polled g log s rs
      → rs n ≡ Some r → r.left ≡ Some left → Refuses g s (reads n from count) (replies.ReaderBusy n)
  pub reads_none : (g : Polling) (log : Log) (s : ScriptState) (rs : Readers) (n from count : ℕ) → Polled g log s rs → rs n ≡ None
      → Refuses g s (reads n from count) (replies.NoReader n)

-- what is left of a call once its look gave the bytes of the image of now
abbrev pub looked_now : Log → (place len : ℕ) → Unfinished → Unfinished
looked_now log place n left = fed_left (range (image log.start (hist log.events)) place n) left

pub record LookLineLaws : Type 0 where
  pub looks_on : (g : Polling) (log : Log) (s : ScriptState) (rs : Readers) (n place len : ℕ) (r : Reader) (left : Unfinished) (reply : Reply)
      → LogHolds g log → Polled g log s rs → rs n ≡ Some r → r.left ≡ Some left → next_look_of left ≡ Some (place, len)
      → reply_to n (looked_now log place len left) ≡ Some reply
      → Moves g log s rs (looks n 1) reply n (after_look r (looked_now log place len left))
  pub replies_one : (g : Polling) (log : Log) (s : ScriptState) (rs : Readers) (n place len : ℕ) (r : Reader) (left : Unfinished)
      → LogHolds g log → Polled g log s rs → rs n ≡ Some r → r.left ≡ Some left → next_look_of left ≡ Some (place, len)
      → (reply : Reply) × (reply_to n (looked_now log place len left) ≡ Some reply)
  pub looks_idle : (g : Polling) (log : Log) (s : ScriptState) (rs : Readers) (n : ℕ) (r : Reader) → Polled g log s rs → rs n ≡ Some r → r.left ≡ None
      → Refuses g s (looks n 1) (replies.Idle n)
  pub looks_none : (g : Polling) (log : Log) (s : ScriptState) (rs : Readers) (n : ℕ) → Polled g log s rs → rs n ≡ None
      → Refuses g s (looks n 1) (replies.NoReader n)
