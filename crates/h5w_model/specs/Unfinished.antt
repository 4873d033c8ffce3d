-- What is left of a reader's call, and by what a reader calls.
use Rattle.std.specs.Prelude.{ℕ, List, [], ◌==◌, if◌then◌else◌, Option, Some, None, Result, Ok, ℤ}
use Rattle.h5w_model.specs.Programs.{Prog, ret, next_look, fed}
use Rattle.h5w_model.specs.Tables.{Limits, Reading}
use Rattle.h5w_model.specs.Calls.{CallRules, open_call, rows_call, values_call}
use Rattle.h5w_model.specs.declared.refusal.ReadError.{ReadError}

-- what is left of an unfinished call for rows, or of one for values
pub data Unfinished : Type 0 where
  rows_left : Prog (Result Reading ReadError) → Unfinished
  values_left : Prog (Result (List ℤ) ReadError) → Unfinished

-- the place and the length of its next look
abbrev pub next_look_of : Unfinished → Option (ℕ × ℕ)
next_look_of (rows_left p) = next_look p
next_look_of (values_left p) = next_look p

-- the next look of a call that may be unfinished; none where there is no call
abbrev pub wanted : Option Unfinished → Option (ℕ × ℕ)
wanted None = None
wanted (Some left) = next_look_of left

-- what is left once a look gave these bytes
abbrev pub fed_left : List ℕ → Unfinished → Unfinished
fed_left bytes (rows_left p) = rows_left (fed bytes p)
fed_left bytes (values_left p) = values_left (fed bytes p)

-- By what a reader calls: the dataset's name, the most chunks that it reads, the blocks that it keeps in an attempt, and
-- its attempts.
pub record ReaderRules : Type 0 where
  pub name : List ℕ
  pub limits : Limits
  pub keeps : ℕ
  pub attempts : ℕ

-- by what a refresh goes that knows this
abbrev pub refresh_rules : ReaderRules → Reading → CallRules
refresh_rules g r = record { limits = g.limits; keeps = g.keeps; attempts = g.attempts; place = r.place; known = Some r }

-- a call for rows: an open, until a dataset is known
abbrev pub rows_program : ReaderRules → Option Reading → Prog (Result Reading ReadError)
rows_program g None = open_call g.limits g.keeps g.attempts g.name
rows_program g (Some r) = rows_call (refresh_rules g r)

-- a call for values; no row needs no look
abbrev pub values_program : Option Reading → ℕ → ℕ → Prog (Result (List ℤ) ReadError)
values_program None from count = ret (Ok [])
values_program (Some r) from count = if count == 0 then ret (Ok []) else values_call r from count

-- A reader: by what it calls, what it knows by the last call that was answered with rows, and what is left of its
-- unfinished call.
pub record Reader : Type 0 where
  pub rules : ReaderRules
  pub known : Option Reading
  pub left : Option Unfinished

abbrev pub with_left : Reader → Option Unfinished → Reader
with_left r l = record r { left = l }
