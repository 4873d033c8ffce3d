-- Which replies a script of one writer and some readers may be given, over several datasets of one file.
--
-- `append` and `open` speak of the dataset in use; `use I` changes it. A flush takes the rows of all datasets: a part
-- for each dataset with rows that wait. Pieces are pending of all parts together. A reader's lines speak of the dataset
-- that it was opened for. `takeover` begins another writer where one was stopped.
use Rattle.std.specs.Prelude.{◌≡◌, ◌⊎◌, ℕ, zero, suc, ◌+◌, ◌-◌, ◌*◌, ◌<◌, ◌≤◌, min, Bool, true, false, List, [], ◌∷◌, ◌++◌, length, map, take, ℤ, nat_lt, if◌then◌else◌, MatchBool, Some, None, slice_get, slice_set}
use Rattle.h5w_model.specs.Lawful.{Rules, Line, adds, flushes, shows_up_to, ends, opens, refreshes, reads, looks, ScriptState, Allowed, after_shows, append_reply, at_first, load_of, next_state, reader_in, rows_in, rows_of}
use Rattle.h5w_model.specs.declared.reply.Reply.{Reply}
use Rattle.h5w_model.specs.declared.reply.Reply.TheVariants as replies

-- From this line on `append` and `open` speak of dataset i, counted from 1; another writer takes the file over; or a line
-- as a script of one dataset has it.
pub data FileLine : Type 0 where
  uses : ℕ → FileLine
  takes : FileLine
  asks : Line → FileLine

-- That dataset i is in use; how many pieces a flush planned for each dataset, in their order; that the writer was not
-- stopped, so that nobody took over; the rows of each dataset with which a writer took over; or a reply as a script of
-- one dataset is given it.
pub data FileReply : Type 0 where
  using : ℕ → FileReply
  flushing_each : List ℕ → FileReply
  goes_on : FileReply
  took_over : List ℕ → FileReply
  says : Reply → FileReply

-- ---- The state

-- A dataset of a script: the rules of its rows and readers, and its state, which has its own values, rows and readers.
-- Of the pieces that are left those count as pending that come up to the last one of its part, none where it has no
-- part. So a piece makes of this state what it makes of a script of one dataset.
pub record SetState : Type 0 where
  pub rules : Rules
  pub state : ScriptState

-- The datasets in their order, the number of the one in use, counted from 0, how many pieces are left of each part, the
-- loads so far, whether the writer stopped, the most bytes of the file and the budget.
pub record FileState : Type 0 where
  pub sets : List SetState
  pub used : ℕ
  pub left : List ℕ
  pub spent : ℕ
  pub stopped : Bool
  pub space_limit : ℕ
  pub budget : ℕ

-- of datasets without rows, with these rules
abbrev pub first_in : List Rules → (space_limit budget : ℕ) → FileState
first_in gs limit budget = record {
  sets = map (λ (g : Rules). record { rules = g; state = at_first }) gs;
  used = 0;
  left = map (λ (g : Rules). 0) gs;
  spent = 0;
  stopped = false;
  space_limit = limit;
  budget = budget;
}

abbrev pub with_state : SetState → ScriptState → SetState
with_state x s = record x { state = s }

-- the pieces that are left, of all parts
abbrev pub total : List ℕ → ℕ
total [] = 0
total (n ∷ ns) = n + total ns

abbrev pub pending_in : FileState → ℕ
pending_in F = total F.left

-- some of its rows are not flushed
abbrev pub rows_wait : SetState → Bool
rows_wait x = nat_lt x.state.flushed (rows_of x.rules x.state)

abbrev pub some_wait : List SetState → Bool
some_wait [] = false
some_wait (x ∷ xs) = if rows_wait x then true else some_wait xs

-- more than the bytes that one plan of all datasets may write: their loads together
abbrev pub load_in : List SetState → ℕ
load_in [] = 0
load_in (x ∷ xs) = load_of x.rules x.state x.state.appended + load_in xs

-- ---- The writer's replies

-- with more values
abbrev pub with_values : SetState → List ℤ → SetState
with_values x vs = with_state x (record (x.state) { appended = x.state.appended ++ vs })

-- what an append to this dataset is answered if no piece is written before its flush: pieces of every part make the
-- writer busy
abbrev pub append_reply_in : FileState → SetState → List ℤ → Reply
append_reply_in F x vs = append_reply x.rules (record (x.state) { pending = pending_in F; stopped = F.stopped }) vs

-- the load of all datasets once these values were appended to the one in use
abbrev pub load_with : FileState → SetState → List ℤ → ℕ
load_with F x vs = load_in (slice_set F.sets F.used (with_values x vs))

-- Some of the rows that wait are written before their flush: the load is past the budget, and bounds the pieces.
pub record IsEarlyIn (F : FileState) (x : SetState) (vs : List ℤ) (reply : FileReply) : Type 0 where
  pub pieces : ℕ
  pub accepted : append_reply_in F x vs ≡ replies.Appended (rows_in x.rules (x.state.appended ++ vs)) 0
  pub is : reply ≡ says (replies.Appended (rows_in x.rules (x.state.appended ++ vs)) pieces)
  pub some : 1 ≤ pieces
  pub bound : pieces ≤ load_with F x vs
  pub over : F.budget < load_with F x vs

pub record AppendAllowedIn (F : FileState) (vs : List ℤ) (reply : FileReply) : Type 0 where
  pub set : SetState
  pub used : slice_get F.sets F.used ≡ Some set
  pub allowed : (reply ≡ says (append_reply_in F set vs)) ⊎ IsEarlyIn F set vs reply

-- There is no place of that size. Of a file that its session creates, 1024 bytes a dataset bound what it begins with.
pub record IsFullIn (F : FileState) (reply : FileReply) : Type 0 where
  pub place : ℕ
  pub size : ℕ
  pub is : reply ≡ says (replies.FullSpace place size F.space_limit)
  pub positive : 1 ≤ size
  pub size_bound : size ≤ load_in F.sets
  pub place_bound : place ≤ 1024 * length F.sets + F.spent + load_in F.sets
  pub full : F.space_limit < place + size

-- each dataset with rows that wait has pieces, each other one has none
abbrev pub ArePlanned : List SetState → List ℕ → Type 0
ArePlanned [] [] = Unit {0}
ArePlanned [] (n ∷ ns) = ⊥
ArePlanned (x ∷ xs) [] = ⊥
ArePlanned (x ∷ xs) (n ∷ ns) = MatchBool (rows_wait x) (1 ≤ n) (n ≡ 0) × ArePlanned xs ns

-- pieces were planned
pub record IsPlannedIn (F : FileState) (reply : FileReply) : Type 0 where
  pub counts : List ℕ
  pub is : reply ≡ flushing_each counts
  pub each : ArePlanned F.sets counts
  pub bound : total counts ≤ load_in F.sets

abbrev pub FlushAllowedIn : FileState → FileReply → Type 0
FlushAllowedIn F reply =
    MatchBool F.stopped (reply ≡ says replies.Stopped)
    (MatchBool (nat_lt 0 (pending_in F)) (reply ≡ says (replies.Busy (pending_in F)))
    (MatchBool (some_wait F.sets) (IsPlannedIn F reply ⊎ IsFullIn F reply) (reply ≡ flushing_each (map (λ (x : SetState). 0) F.sets))))

-- ---- Another writer

-- One dataset once another writer took the file over: the rows that were not flushed are gone, and nothing is pending. A
-- takeover counts among the loads, as a plan without rows.
abbrev pub settled_state : Rules → ScriptState → ScriptState
settled_state g s =
    let kept = take (s.flushed * g.cutting.columns) s.appended in
    record s { appended = kept; pending = 0; ends_flush = false; spent = s.spent + load_of g s kept; stopped = false }

abbrev pub settled_set : SetState → SetState
settled_set x = with_state x (settled_state x.rules x.state)

abbrev pub settled_in : FileState → FileState
settled_in F =
    let sets = map settled_set F.sets in
    record F { sets = sets; left = map (λ (n : ℕ). 0) F.left; spent = F.spent + load_in sets; stopped = false }

-- the rows of each dataset that were flushed
abbrev pub flushed_of : List SetState → List ℕ
flushed_of xs = map (λ (x : SetState). x.state.flushed) xs

-- only a writer that was stopped is taken over
abbrev pub TakeAllowedIn : FileState → FileReply → Type 0
TakeAllowedIn F reply = MatchBool F.stopped (reply ≡ took_over (flushed_of F.sets)) (reply ≡ goes_on)

-- ---- The readers' replies

-- the number of the dataset that a reader was opened for, these being counted from d on; another number where it was
-- not opened
abbrev pub set_of : (r other d : ℕ) → List SetState → ℕ
set_of r other d [] = other
set_of r other d (x ∷ xs) = elim (reader_in r x.state.readers) [ Some y ↦ d | None ↦ set_of r other (suc d) xs ]

-- a reader that was not opened is asked of the dataset in use
abbrev pub set_asked : FileState → ℕ → ℕ
set_asked F r = set_of r F.used 0 F.sets

-- the line may be given this reply in a script of one dataset, which is this one
pub record AllowedOf (F : FileState) (d : ℕ) (line : Line) (reply : FileReply) : Type 0 where
  pub set : SetState
  pub there : slice_get F.sets d ≡ Some set
  pub own : Reply
  pub is : reply ≡ says own
  pub allowed : Allowed set.rules set.state line own

-- ---- Lawful

-- a reply that a line may be given
abbrev pub AllowedAll : FileState → FileLine → FileReply → Type 0
AllowedAll F (uses i) reply = (1 ≤ i) × (i ≤ length F.sets) × (reply ≡ using i)
AllowedAll F takes reply = TakeAllowedIn F reply
AllowedAll F (asks (adds vs)) reply = AppendAllowedIn F vs reply
AllowedAll F (asks flushes) reply = FlushAllowedIn F reply
AllowedAll F (asks (shows_up_to k)) reply = reply ≡ says (replies.Written (min k (pending_in F)) (pending_in F - min k (pending_in F)))
AllowedAll F (asks ends) reply = reply ≡ says replies.Stopped
AllowedAll F (asks (opens r)) reply = AllowedOf F (set_asked F r) (opens r) reply
AllowedAll F (asks (refreshes r)) reply = AllowedOf F (set_asked F r) (refreshes r) reply
AllowedAll F (asks (reads r from count)) reply = AllowedOf F (set_asked F r) (reads r from count) reply
AllowedAll F (asks (looks r k)) reply = AllowedOf F (set_asked F r) (looks r k) reply

-- one dataset after a line, as in a script of its own
abbrev pub set_after : Line → Reply → SetState → SetState
set_after line reply x = with_state x (next_state x.rules x.state line reply)

-- the datasets after a line of one of them
abbrev pub sets_after : ℕ → Line → Reply → List SetState → List SetState
sets_after d line reply [] = []
sets_after zero line reply (x ∷ xs) = set_after line reply x ∷ xs
sets_after (suc d) line reply (x ∷ xs) = x ∷ sets_after d line reply xs

-- so many pieces of the dataset with this number, and none of the others
abbrev pub left_of : ℕ → ℕ → List SetState → List ℕ
left_of d n [] = []
left_of zero n (x ∷ xs) = n ∷ map (λ (x : SetState). 0) xs
left_of (suc d) n (x ∷ xs) = 0 ∷ left_of d n xs

-- how many pieces come up to the last one of a part of so many, behind those before it; none where it has none
abbrev pub due : (before n : ℕ) → ℕ
due before zero = 0
due before (suc n) = before + suc n

-- the datasets after a flush that planned so many pieces for each, behind the pieces of others
abbrev pub planned : ℕ → List ℕ → List SetState → List SetState
planned before [] xs = xs
planned before (n ∷ ns) [] = []
planned before (n ∷ ns) (x ∷ xs) = set_after flushes (replies.Flushing (due before n)) x ∷ planned (before + n) ns xs

-- how many pieces are left of each part once j more became visible, part after part
abbrev pub left_after : ℕ → List ℕ → List ℕ
left_after j [] = []
left_after j (n ∷ ns) = (n - j) ∷ left_after (j - n) ns

-- each dataset after j more pieces, whose ever they are
abbrev pub shown_sets : ℕ → List SetState → List SetState
shown_sets j xs = map (λ (x : SetState). with_state x (after_shows x.rules x.state j)) xs

-- with other datasets' states after an append, which is accepted
abbrev pub added : FileState → List ℤ → (rows pending : ℕ) → FileState
added F vs rows pending =
    let sets = sets_after F.used (adds vs) (replies.Appended rows pending) F.sets in
    record F { sets = sets; left = left_of F.used pending F.sets; spent = F.spent + load_in sets }

-- after a line of a reader
abbrev pub asked_of : FileState → ℕ → Line → Reply → FileState
asked_of F r line reply = record F { sets = sets_after (set_asked F r) line reply F.sets }

-- the state after a line that was given a reply
abbrev pub next_all : FileState → FileLine → FileReply → FileState
next_all F (uses i) (using n) = record F { used = i - 1 }
next_all F takes (took_over rows) = settled_in F
next_all F (asks (adds vs)) (says (replies.Appended rows pending)) = added F vs rows pending
next_all F (asks flushes) (flushing_each counts) = record F { sets = planned 0 counts F.sets; left = counts; spent = F.spent + load_in F.sets }
next_all F (asks (shows_up_to k)) (says (replies.Written pieces pending)) = record F { sets = shown_sets pieces F.sets; left = left_after pieces F.left }
next_all F (asks ends) (says replies.Stopped) = record F { sets = map (set_after ends replies.Stopped) F.sets; left = map (λ (n : ℕ). 0) F.left; stopped = true }
next_all F (asks (opens r)) (says reply) = asked_of F r (opens r) reply
next_all F (asks (refreshes r)) (says reply) = asked_of F r (refreshes r) reply
next_all F (asks (reads r from count)) (says reply) = asked_of F r (reads r from count) reply
next_all F (asks (looks r k)) (says reply) = asked_of F r (looks r k) reply
next_all F line reply = F

-- these replies may be given to these lines, one after another
abbrev pub LawfulAll : FileState → List FileLine → List FileReply → Type 0
LawfulAll F [] [] = Unit {0}
LawfulAll F (line ∷ lines) (reply ∷ rest) = AllowedAll F line reply × LawfulAll (next_all F line reply) lines rest
LawfulAll F [] (reply ∷ rest) = ⊥
LawfulAll F (line ∷ lines) [] = ⊥
