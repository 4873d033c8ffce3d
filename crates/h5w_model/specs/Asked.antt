-- What a reader was asked: the looks of its calls, and what they were answered.
use Rattle.std.specs.Prelude.{◌≡◌, ℕ, ◌+◌, ◌≤◌, List, [], ◌∷◌, ◌++◌, Option, Some, None, option_map, Result, Ok, Err, ℤ}
use Rattle.h5w_model.specs.Programs.{Prog, Look, Takes, rest_after}
use Rattle.h5w_model.specs.Tables.{Reading}
use Rattle.h5w_model.specs.Calls.{values_call}
use Rattle.h5w_model.specs.declared.refusal.ReadError.{ReadError}
use Rattle.h5w_model.specs.Unfinished.{Unfinished, rows_left, values_left, Reader, ReaderRules, rows_program}

-- what a call was answered
pub data Answer : Type 0 where
  told_rows : Reading → Answer
  told_values : List ℤ → Answer
  told_refusal : ReadError → Answer

-- an unfinished call: its program, and the looks that were taken of it
pub record Asking : Type 0 where
  pub program : Unfinished
  pub looks : List Look

-- one that was answered
pub record Answered : Type 0 where
  pub program : Unfinished
  pub looks : List Look
  pub answer : Answer

-- the calls of a reader: those that were answered, the last of them first, and the unfinished one
pub record Asks : Type 0 where
  pub answered : List Answered
  pub unfinished : Option Asking

-- ---- What is said of them

abbrev pub known_after : Answer → Option Reading → Option Reading
known_after (told_rows r) known = Some r
known_after (told_values vs) known = known
known_after (told_refusal e) known = known

-- what is known by the last answer with rows
abbrev pub known_by : List Answered → Option Reading
known_by [] = None
known_by (c ∷ cs) = known_after c.answer (known_by cs)

-- a read of rows of what is known
pub record IsRead (known : Option Reading) (p : Prog (Result (List ℤ) ReadError)) : Type 0 where
  pub reading : Reading
  pub from : ℕ
  pub count : ℕ
  pub is_known : known ≡ Some reading
  pub some : 1 ≤ count
  pub inside : from + count ≤ reading.dataset.shape.rows
  pub is : p ≡ values_call reading from count

-- a call that a reader begins while this is known
abbrev pub Begins : ReaderRules → Option Reading → Unfinished → Type 0
Begins rules known (rows_left p) = p ≡ rows_program rules known
Begins rules known (values_left p) = IsRead known p

-- these looks are all that the call takes, and it answers this
abbrev pub IsAnswered : Unfinished → List Look → Answer → Type 0
IsAnswered (rows_left p) ls (told_rows r) = Takes p ls (Ok r)
IsAnswered (rows_left p) ls (told_values vs) = ⊥
IsAnswered (rows_left p) ls (told_refusal e) = Takes p ls (Err e)
IsAnswered (values_left p) ls (told_rows r) = ⊥
IsAnswered (values_left p) ls (told_values vs) = Takes p ls (Ok vs)
IsAnswered (values_left p) ls (told_refusal e) = Takes p ls (Err e)

-- each of them began by what the calls before it told, and told what it answers
abbrev pub AreCalls : ReaderRules → List Answered → Type 0
AreCalls rules [] = Unit {0}
AreCalls rules (c ∷ cs) = Begins rules (known_by cs) c.program × IsAnswered c.program c.looks c.answer × AreCalls rules cs

-- what is left of a call after these looks, if they are its
abbrev pub left_after : List Look → Unfinished → Option Unfinished
left_after ls (rows_left p) = option_map rows_left (rest_after p ls)
left_after ls (values_left p) = option_map values_left (rest_after p ls)

abbrev pub IsAsking : Reader → Option Asking → Type 0
IsAsking r None = r.left ≡ None
IsAsking r (Some a) = Begins r.rules r.known a.program × (r.left ≡ left_after a.looks a.program)

-- A reader was asked these calls: it knows what the last answer with rows told, and of its unfinished call is left what is
-- left after these looks.
pub record Asked (r : Reader) (asks : Asks) : Type 0 where
  pub known : r.known ≡ known_by asks.answered
  pub calls : AreCalls r.rules asks.answered
  pub call : IsAsking r asks.unfinished

-- ---- How they grow

-- no call
abbrev pub no_asks : Asks
no_asks = record { answered = []; unfinished = None }

-- a call begins
abbrev pub beginning : Unfinished → Asks → Asks
beginning p asks = record { answered = asks.answered; unfinished = Some (record { program = p; looks = [] }) }

-- the unfinished call is taken away, if there is one
abbrev pub without : Asks → Asks
without asks = record { answered = asks.answered; unfinished = None }

-- a read begins, unless its values are known without a look
abbrev pub reading : Option (List ℤ) → Unfinished → Asks → Asks
reading None p asks = beginning p asks
reading (Some vs) p asks = asks

-- the unfinished call's looks with another
abbrev pub and_look : Look → Asking → Asking
and_look l a = record { program = a.program; looks = a.looks ++ l ∷ [] }
