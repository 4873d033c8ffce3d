-- Which replies a script of one writer and some readers may be given.
use Rattle.std.specs.Prelude.{◌≡◌, ◌⊎◌, ℕ, ◌+◌, ◌-◌, ◌*◌, ◌/◌, ◌<◌, ◌≤◌, min, Bool, true, false, List, [], ◌∷◌, ◌++◌, length, replicate, take, drop, Contains, ℤ, nat_lt, ◌==◌, if◌then◌else◌, MatchBool, Option, Some, None}
use Rattle.h5w_model.specs.Messages.{IntTypeFields}
use Rattle.h5w_model.specs.Integers.{cell_bytes_of}
use Rattle.h5w_model.specs.Logs.{Cutting, needed_chunks, touched_chunks}
use Rattle.h5w_model.specs.declared.reply.Reply.{Reply}
use Rattle.h5w_model.specs.declared.reply.Reply.TheVariants as replies
use Rattle.h5w_model.specs.declared.event.Event.{Event}
use Rattle.h5w_model.specs.declared.event.Event.TheVariants as events

-- A line of a script. `shows_up_to k` makes up to k pending pieces visible, `looks r k` takes up to k looks of a
-- reader and ends at its call's answer.
pub data Line : Type 0 where
  adds : List ℤ → Line
  flushes : Line
  shows_up_to : ℕ → Line
  ends : Line
  opens : ℕ → Line
  refreshes : ℕ → Line
  reads : (reader from count : ℕ) → Line
  looks : (reader most : ℕ) → Line

-- an event is the line that asks for one piece or one look
abbrev pub line_of : Event → Line
line_of (events.Append values) = adds values
line_of events.Flush = flushes
line_of events.Visible = shows_up_to 1
line_of events.Stop = ends
line_of (events.Open reader) = opens reader
line_of (events.Refresh reader) = refreshes reader
line_of (events.Read reader from count) = reads reader from count
line_of (events.Look reader) = looks reader 1

-- what a script runs by
pub record Rules : Type 0 where
  pub cutting : Cutting
  pub int_type : IntTypeFields
  pub chunk_limit : ℕ
  pub space_limit : ℕ
  pub budget : ℕ
  pub attempts : ℕ

pub data CallKind : Type 0 where
  for_rows : CallKind
  for_values : (from count : ℕ) → CallKind

-- An unfinished call of a reader: the looks it took, the rows flushed when it began and at each of its looks, and how
-- often rows were flushed since it began.
pub record Calling : Type 0 where
  pub kind : CallKind
  pub looks : ℕ
  pub begun : ℕ
  pub at_looks : List ℕ
  pub rises : ℕ

-- a reader that was opened: the rows it has seen, and its call
pub record ReaderState : Type 0 where
  pub seen : ℕ
  pub call : Option Calling

-- The values appended, the rows flushed, the pieces pending and whether they end a flush, the loads so far, whether
-- the writer stopped, and the readers that were opened, in the order of their opening.
pub record ScriptState : Type 0 where
  pub appended : List ℤ
  pub flushed : ℕ
  pub pending : ℕ
  pub ends_flush : Bool
  pub spent : ℕ
  pub stopped : Bool
  pub readers : List (ℕ × ReaderState)

abbrev pub at_first : ScriptState
at_first = record { appended = []; flushed = 0; pending = 0; ends_flush = false; spent = 0; stopped = false; readers = [] }

abbrev pub rows_in : Rules → List ℤ → ℕ
rows_in g vs = length vs / g.cutting.columns

abbrev pub rows_of : Rules → ScriptState → ℕ
rows_of g s = rows_in g s.appended

-- a reader's state
abbrev pub reader_in : ℕ → List (ℕ × ReaderState) → Option ReaderState
reader_in r [] = None
reader_in r (x ∷ xs) = if x.0 == r then Some x.1 else reader_in r xs

-- more than the bytes that one plan may write
abbrev pub load_of : Rules → ScriptState → List ℤ → ℕ
load_of g s vs =
    1000 + touched_chunks g.cutting s.flushed (rows_in g vs) * (g.cutting.chunk_rows * g.cutting.chunk_columns * g.cutting.value_size + 20000)

-- ---- The writer's replies

-- the first value outside the type, with its index
abbrev pub first_outside : IntTypeFields → ℕ → List ℤ → Option (ℕ × ℤ)
first_outside t i [] = None
first_outside t i (v ∷ vs) = elim (cell_bytes_of v t) [ Some b ↦ first_outside t (i + 1) vs | None ↦ Some (i, v) ]

-- the needed chunks are within the limit
abbrev pub fitting_reply : Rules → List ℤ → Reply
fitting_reply g all =
    if nat_lt g.chunk_limit (needed_chunks g.cutting (rows_in g all))
    then replies.FullChunks (needed_chunks g.cutting (rows_in g all)) g.chunk_limit
    else replies.Appended (rows_in g all) 0

-- what an append is answered if no piece is written before its flush
abbrev pub append_reply : Rules → ScriptState → List ℤ → Reply
append_reply g s vs =
    if s.stopped then replies.Stopped
    else if nat_lt 0 s.pending then replies.Busy s.pending
    else elim (first_outside g.int_type 0 vs) [ Some x ↦ replies.OutOfRange x.0 x.1 | None ↦ fitting_reply g (s.appended ++ vs) ]

-- Some of the rows that wait are written before their flush: the load is past the budget, and bounds the pieces.
pub record IsEarly (g : Rules) (s : ScriptState) (vs : List ℤ) (reply : Reply) : Type 0 where
  pub pieces : ℕ
  pub accepted : append_reply g s vs ≡ replies.Appended (rows_in g (s.appended ++ vs)) 0
  pub is : reply ≡ replies.Appended (rows_in g (s.appended ++ vs)) pieces
  pub some : 1 ≤ pieces
  pub bound : pieces ≤ load_of g s (s.appended ++ vs)
  pub over : g.budget < load_of g s (s.appended ++ vs)

abbrev pub AppendAllowed : Rules → ScriptState → List ℤ → Reply → Type 0
AppendAllowed g s vs reply = (reply ≡ append_reply g s vs) ⊎ IsEarly g s vs reply

-- there is no place of that size
pub record IsFull (g : Rules) (s : ScriptState) (reply : Reply) : Type 0 where
  pub place : ℕ
  pub size : ℕ
  pub is : reply ≡ replies.FullSpace place size g.space_limit
  pub positive : 1 ≤ size
  pub size_bound : size ≤ load_of g s s.appended
  pub place_bound : place ≤ 1024 + s.spent + load_of g s s.appended
  pub full : g.space_limit < place + size

-- some pieces were planned
pub record IsPlanned (g : Rules) (s : ScriptState) (reply : Reply) : Type 0 where
  pub pieces : ℕ
  pub is : reply ≡ replies.Flushing pieces
  pub positive : 1 ≤ pieces
  pub bound : pieces ≤ load_of g s s.appended

abbrev pub FlushAllowed : Rules → ScriptState → Reply → Type 0
FlushAllowed g s reply =
    MatchBool s.stopped (reply ≡ replies.Stopped)
    (MatchBool (nat_lt 0 s.pending) (reply ≡ replies.Busy s.pending)
    (MatchBool (nat_lt s.flushed (rows_of g s)) (IsPlanned g s reply ⊎ IsFull g s reply) (reply ≡ replies.Flushing 0)))

-- ---- The readers' replies

-- the rows asked for, one after another
abbrev pub values_of : Rules → ScriptState → ℕ → ℕ → List ℤ
values_of g s from count = take (count * g.cutting.columns) (drop (from * g.cutting.columns) s.appended)

abbrev pub begin_reply : Reply → Option ReaderState → (ReaderState → Reply) → Reply
begin_reply absent None begin = absent
begin_reply absent (Some x) begin = begin x

abbrev pub idle_or : Reply → (ReaderState → Reply) → ReaderState → Reply
idle_or busy begin x = elim x.call [ Some c ↦ busy | None ↦ begin x ]

abbrev pub open_reply : ScriptState → ℕ → Reply
open_reply s r = elim (reader_in r s.readers) [ Some x ↦ replies.ReaderExists r | None ↦ replies.Opening r ]

abbrev pub refresh_reply : ScriptState → ℕ → Reply
refresh_reply s r = begin_reply (replies.NoReader r) (reader_in r s.readers) (idle_or (replies.ReaderBusy r) (λ x. replies.Refreshing r))

abbrev pub read_reply : ScriptState → ℕ → ℕ → ℕ → Reply
read_reply s r from count =
    begin_reply (replies.NoReader r) (reader_in r s.readers) (idle_or (replies.ReaderBusy r) (λ x.
    if nat_lt x.seen (from + count) then replies.OutOfRows r from count x.seen
    else if count == 0 then replies.Values r [] else replies.Reading r))

-- the most looks of a call for rows
abbrev pub most_looks : Rules → ScriptState → ℕ
most_looks g s = 2 + g.attempts * (2 + 21 * needed_chunks g.cutting (rows_of g s))

-- the most looks of a call for values
abbrev pub most_value_looks : Rules → ℕ → ℕ → ℕ
most_value_looks g from count =
    touched_chunks g.cutting from (from + count) * (g.cutting.chunk_rows * g.cutting.chunk_columns * g.cutting.value_size / 512 + 1)

-- an answer of rows: those flushed at one of the call's looks, none fewer than were flushed when it began or than were seen
pub record IsRows (s : ScriptState) (r : ℕ) (x : ReaderState) (c : Calling) (reply : Reply) : Type 0 where
  pub rows : ℕ
  pub is : reply ≡ replies.Rows r rows
  pub flushed : Contains (s.flushed ∷ c.at_looks) rows
  pub since_begin : c.begun ≤ rows
  pub seen : x.seen ≤ rows

-- rows were flushed at least once an attempt since the call began
pub record IsAgain (g : Rules) (r : ℕ) (c : Calling) (reply : Reply) : Type 0 where
  pub is : reply ≡ replies.Again r g.attempts
  pub rises : g.attempts ≤ c.rises

pub record IsLooking (r : ℕ) (c : Calling) (k bound : ℕ) (reply : Reply) : Type 0 where
  pub is : reply ≡ replies.Looking r
  pub fewer : c.looks + k < bound

-- what a line of k looks is answered: an answer of the call, which takes a look at least, or that more looks are to be taken
abbrev pub AnswerAllowed : Rules → ScriptState → ℕ → ReaderState → Calling → ℕ → CallKind → Reply → Type 0
AnswerAllowed g s r x c k for_rows reply = (1 ≤ k) × (IsRows s r x c reply ⊎ IsAgain g r c reply) ⊎ IsLooking r c k (most_looks g s) reply
AnswerAllowed g s r x c k (for_values from count) reply =
    (1 ≤ k) × (reply ≡ replies.Values r (values_of g s from count)) ⊎ IsLooking r c k (most_value_looks g from count) reply

abbrev pub CallAllowed : Rules → ScriptState → ℕ → ReaderState → ℕ → Option Calling → Reply → Type 0
CallAllowed g s r x k None reply = reply ≡ replies.Idle r
CallAllowed g s r x k (Some c) reply = AnswerAllowed g s r x c k c.kind reply

abbrev pub LookAllowed : Rules → ScriptState → ℕ → ℕ → Option ReaderState → Reply → Type 0
LookAllowed g s r k None reply = reply ≡ replies.NoReader r
LookAllowed g s r k (Some x) reply = CallAllowed g s r x k x.call reply

-- ---- Lawful

-- a reply that a line may be given
abbrev pub Allowed : Rules → ScriptState → Line → Reply → Type 0
Allowed g s (adds vs) reply = AppendAllowed g s vs reply
Allowed g s flushes reply = FlushAllowed g s reply
Allowed g s (shows_up_to k) reply = reply ≡ replies.Written (min k s.pending) (s.pending - min k s.pending)
Allowed g s ends reply = reply ≡ replies.Stopped
Allowed g s (opens r) reply = reply ≡ open_reply s r
Allowed g s (refreshes r) reply = reply ≡ refresh_reply s r
Allowed g s (reads r from count) reply = reply ≡ read_reply s r from count
Allowed g s (looks r k) reply = LookAllowed g s r k (reader_in r s.readers) reply

-- the readers with another state of one of them, or with one more behind the others
abbrev pub put_reader : ℕ → ReaderState → List (ℕ × ReaderState) → List (ℕ × ReaderState)
put_reader r x [] = (r, x) ∷ []
put_reader r x (y ∷ ys) = if y.0 == r then (r, x) ∷ ys else y ∷ put_reader r x ys

-- a reader's new state
abbrev pub with_reader : ScriptState → ℕ → ReaderState → ScriptState
with_reader s r x = record s { readers = put_reader r x s.readers }

-- a new call
abbrev pub begun_call : ScriptState → CallKind → Calling
begun_call s what = record { kind = what; looks = 0; begun = s.flushed; at_looks = []; rises = 0 }

-- what each reader's call has seen of one more commit
abbrev pub risen : List (ℕ × ReaderState) → List (ℕ × ReaderState)
risen [] = []
risen (x ∷ xs) =
    (x.0, elim x.1.call [ None ↦ x.1 | Some c ↦ record (x.1) { call = Some (record c { rises = c.rises + 1 }) } ]) ∷ risen xs

-- all rows are flushed now
abbrev pub committed : Rules → ScriptState → ScriptState
committed g s = record s { flushed = rows_of g s; pending = 0; ends_flush = false; readers = risen s.readers }

-- after j of the pending pieces became visible
abbrev pub after_shows : Rules → ScriptState → ℕ → ScriptState
after_shows g s j =
    if nat_lt j s.pending then record s { pending = s.pending - j }
    else if s.ends_flush then committed g s else record s { pending = 0 }

-- k looks of a call without an answer
abbrev pub looked : ScriptState → Calling → ℕ → Calling
looked s c k = record c { looks = c.looks + k; at_looks = replicate k s.flushed ++ c.at_looks }

-- a reader after a line of looks
abbrev pub after_looks : ScriptState → ℕ → ReaderState → Reply → ReaderState
after_looks s k x (replies.Rows reader rows) = record x { seen = rows; call = None }
after_looks s k x (replies.Looking reader) = record x { call = elim x.call [ None ↦ None | Some c ↦ Some (looked s c k) ] }
after_looks s k x (replies.Values reader values) = record x { call = None }
after_looks s k x (replies.Again reader attempts) = record x { call = None }
after_looks s k x reply = x

abbrev pub on_reader : ScriptState → ℕ → (ReaderState → ReaderState) → ScriptState
on_reader s r f = elim (reader_in r s.readers) [ None ↦ s | Some x ↦ with_reader s r (f x) ]

-- the state after a line that was given a reply
abbrev pub next_state : Rules → ScriptState → Line → Reply → ScriptState
next_state g s (adds vs) (replies.Appended rows pending) =
    record s { appended = s.appended ++ vs; pending = pending; ends_flush = false; spent = s.spent + load_of g s (s.appended ++ vs) }
next_state g s flushes (replies.Flushing pieces) =
    record s { pending = pieces; ends_flush = nat_lt 0 pieces; spent = s.spent + load_of g s s.appended }
next_state g s (shows_up_to k) (replies.Written pieces pending) = after_shows g s pieces
next_state g s ends replies.Stopped = record s { stopped = true; pending = 0; ends_flush = false }
next_state g s (opens r) (replies.Opening reader) = with_reader s r (record { seen = 0; call = Some (begun_call s for_rows) })
next_state g s (refreshes r) (replies.Refreshing reader) = on_reader s r (λ x. record x { call = Some (begun_call s for_rows) })
next_state g s (reads r from count) (replies.Reading reader) = on_reader s r (λ x. record x { call = Some (begun_call s (for_values from count)) })
next_state g s (looks r k) reply = on_reader s r (λ x. after_looks s k x reply)
next_state g s line reply = s

-- these replies may be given to these lines, one after another
abbrev pub Lawful : Rules → ScriptState → List Line → List Reply → Type 0
Lawful g s [] [] = Unit {0}
Lawful g s (line ∷ lines) (reply ∷ rest) = Allowed g s line reply × Lawful g (next_state g s line reply) lines rest
Lawful g s [] (reply ∷ rest) = ⊥
Lawful g s (line ∷ lines) [] = ⊥
