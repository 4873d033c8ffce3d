-- Readers that poll the log of one writer, as a script knows them: what each knows, and the looks of its unfinished call.
use Rattle.std.specs.Prelude.{◌≡◌, ℕ, ◌+◌, ◌<◌, ◌≤◌, List, [], ◌∷◌, length, map, reverse, Option, Some, None}
use Rattle.h5w_model.specs.Logs.{Log, hist, flushed_at}
use Rattle.h5w_model.specs.Tables.{Limits, Reading, Shows, format_limits}
use Rattle.h5w_model.specs.Prefixed.{image_at, IsPosition}
use Rattle.h5w_model.specs.Readers.{Placed, IsCall, looks_of}
use Rattle.h5w_model.specs.Calls.{rows_seen}
use Rattle.h5w_model.specs.Unfinished.{Unfinished, rows_left, values_left, wanted, ReaderRules, Reader}
use Rattle.h5w_model.specs.Asked.{Begins, IsAsking}
use Rattle.h5w_model.specs.Lawful.{Rules, CallKind, for_rows, for_values, Calling, ReaderState}

-- What readers poll for: the dataset's name, the most chunks that they read, the blocks that they keep in an attempt, and
-- the rules of the script.
pub record Polling : Type 0 where
  pub name : List ℕ
  pub limits : Limits
  pub keeps : ℕ
  pub rules : Rules

-- by what each of them calls
abbrev pub reader_rules : Polling → ReaderRules
reader_rules g = record { name = g.name; limits = g.limits; keeps = g.keeps; attempts = g.rules.attempts }

-- ---- Positions

-- the last position of a log
abbrev pub now : Log → ℕ
now log = length (hist log.events)

-- a reading that is shown at a position
pub record ShownAt (g : Polling) (log : Log) (p : ℕ) (r : Reading) : Type 0 where
  pub position : IsPosition log p
  pub shows : Shows format_limits (image_at log p) g.name r

-- Positions, the last one first, from one on and not past another, at each of which more rows are flushed than at the one before.
abbrev pub MoreThan : Log → ℕ → List ℕ → Type 0
MoreThan log p [] = Unit {0}
MoreThan log p (q ∷ qs) = flushed_at log q < flushed_at log p

abbrev pub Rising : Log → (from to : ℕ) → List ℕ → Type 0
Rising log from to [] = Unit {0}
Rising log from to (p ∷ ps) = (from ≤ p) × (p ≤ to) × MoreThan log p ps × Rising log from p ps

-- ---- What a reader knows

-- a reading that was shown at a position, not behind another
pub record KnownBy (g : Polling) (log : Log) (until : ℕ) (r : Reading) : Type 0 where
  pub position : ℕ
  pub earlier : position ≤ until
  pub shown : ShownAt g log position r

-- what a reader knows from calls that ended at a position or before
abbrev pub Knows : Polling → Log → ℕ → Option Reading → Type 0
Knows g log until None = Unit {0}
Knows g log until (Some r) = KnownBy g log until r

-- ---- The unfinished call

-- a look that a call wants
pub record Wants (left : Option Unfinished) : Type 0 where
  pub place : ℕ
  pub len : ℕ
  pub is : wanted left ≡ Some (place, len)

-- the kind of a call that was begun
abbrev pub kind_of : (g : ReaderRules) (known : Option Reading) (program : Unfinished) → Begins g known program → CallKind
kind_of g known (rows_left p) begins = for_rows
kind_of g known (values_left p) begins = for_values begins.from begins.count

-- An unfinished call of a reader, which was asked it and took looks at the images of the log, and wants another. It began at
-- a position, with what was known then. The script has kept its kind, the rows flushed when it began and at its looks, the
-- last first, and at most as many commits as there were since.
pub record Calls (g : Polling) (log : Log) (r : Reader) (c : Calling) : Type 0 where
  pub program : Unfinished
  pub looks : List Placed
  pub asking : IsAsking r (Some (record { program = program; looks = looks_of looks }))
  pub wants : Wants r.left
  pub from : ℕ
  pub after_first : log.first ≤ from
  pub within : from ≤ now log
  pub knew : Knows g log from r.known
  pub is_call : IsCall log from looks
  pub kind : c.kind ≡ kind_of r.rules r.known program asking.0
  pub count : c.looks ≡ length looks
  pub begun : c.begun ≡ flushed_at log from
  pub at_looks : c.at_looks ≡ reverse (map (λ l. flushed_at log l.position) looks)
  pub rises : (ps : List ℕ) → Rising log from (now log) ps → length ps ≤ c.rises + 1

abbrev pub CallPolls : Polling → Log → Reader → Option Calling → Type 0
CallPolls g log r None = (r.left ≡ None) × Knows g log (now log) r.known
CallPolls g log r (Some c) = Calls g log r c

-- ---- The reader

-- what a script keeps of a reader is true of it
pub record Polls (g : Polling) (log : Log) (x : ReaderState) (r : Reader) : Type 0 where
  pub rules : r.rules ≡ reader_rules g
  pub seen : x.seen ≡ rows_seen r.known
  pub call : CallPolls g log r x.call

-- of one that may not be opened yet
abbrev pub MayPoll : Polling → Log → Option ReaderState → Option Reader → Type 0
MayPoll g log None None = Unit {0}
MayPoll g log (Some x) (Some r) = Polls g log x r
MayPoll g log None (Some r) = ⊥
MayPoll g log (Some x) None = ⊥
