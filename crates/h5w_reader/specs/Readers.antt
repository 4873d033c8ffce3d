-- A reader as contracts see it, and what its calls make of it.
use Rattle.std.specs.Prelude.{◌≡◌, ◌⊎◌, ℕ, ◌+◌, List, nat_lt, if◌then◌else◌, Option, Some, None, Result, Ok, Err, ℤ}
use Rattle.h5w_model.specs.Programs.{Prog, ret}
use Rattle.h5w_model.specs.Tables.{Reading}
use Rattle.h5w_model.specs.Calls.{rows_seen}
use Rattle.h5w_model.specs.Unfinished.{Unfinished, rows_left, values_left, ReaderRules, Reader, rows_program, with_left}
use Rattle.h5w_model.specs.declared.refusal.ReadError.{ReadError}
use Rattle.h5w_model.specs.declared.refusal.ReadError.TheVariants as read_errors
use Rattle.h5w_lookup.specs.Attempts.{reader_limits, known_of}
use Rattle.h5w_reader.specs.Calling.{stage_left}
use Rattle.h5w_reader.specs.Values.{reading_values, valued}
use Rattle.h5w_lookup.specs.declared.known.Known.{Known}
use Rattle.h5w_reader.specs.declared.values.Reads.{Reads}
use Rattle.h5w_lookup.specs.declared.outcome.Outcome.{Outcome}
use Rattle.h5w_reader.specs.declared.call.Call.{Call}
use Rattle.h5w_reader.specs.declared.call.Call.TheVariants as calls
use Rattle.h5w_reader.specs.declared.step.Step.{Step}
use Rattle.h5w_reader.specs.declared.step.Step.TheVariants as steps
use Rattle.h5w_reader.specs.declared.step.ReadBegin.{ReadBegin}
use Rattle.h5w_reader.specs.declared.step.ReadBegin.TheVariants as begins

-- ---- A reader

-- by what a reader of a dataset of this name calls, with so many attempts: 16 blocks are kept
abbrev pub reader_rules : List ℕ → ℕ → ReaderRules
reader_rules name most = record { name = name; limits = reader_limits; keeps = 16; attempts = most }

-- a reader that begins to open its dataset
abbrev pub new_reader : ReaderRules → Reader
new_reader g = record { rules = g; known = None; left = Some (rows_left (rows_program g None)) }

-- what is left of a read of the known dataset
abbrev pub reads_left : Option Known → Reads → Option Unfinished
reads_left None v = None
reads_left (Some k) v = Some (values_left (reading_values k v))

abbrev pub valued_left : Option Known → Outcome (List ℤ) Reads → Option Unfinished
valued_left None v = None
valued_left (Some k) v = Some (values_left (valued k v))

abbrev pub left_of : ℕ → List ℕ → Option Known → Option Call → Option Unfinished
left_of most name k None = None
left_of most name k (Some (calls.Rows s)) = Some (rows_left (stage_left most name (known_of k) s))
left_of most name k (Some (calls.Values v)) = reads_left k v

abbrev pub reader_of : List ℕ → ℕ → Option Known → Option Call → Reader
reader_of name most k call = record { rules = reader_rules name most; known = known_of k; left = left_of most name k call }

-- ---- Answers

-- a call that begins is refused while one is unfinished
abbrev pub begin_refusal : Option Unfinished → Option ReadBegin
begin_refusal None = None
begin_refusal (Some l) = Some begins.Busy

-- a read also past the rows that were seen
abbrev pub read_refusal : Reader → ℕ → ℕ → Option ReadBegin
read_refusal r from count = elim r.left [
  | Some l ↦ Some begins.Busy
  | None ↦ (if nat_lt (rows_seen r.known) (from + count) then Some (begins.OutOfRows from count (rows_seen r.known)) else None)
]

-- a read has begun, or its values are known without a look
abbrev pub BegunRead : Prog (Result (List ℤ) ReadError) → Reader → Option (List ℤ) → Reader → Type 0
BegunRead p old None new = new ≡ with_left old (Some (values_left p))
BegunRead p old (Some vs) new = (new ≡ old) × (p ≡ ret (Ok vs))

-- why a read is not begun: as above, or memory is wanting
abbrev pub IsRefusedRead : Option ReadBegin → ReadBegin → Type 0
IsRefusedRead refusal begins.OutOfMemory = Unit {0}
IsRefusedRead refusal e = refusal ≡ Some e

-- the answer of a call for rows, and what is known from then on
abbrev pub IsRows : Option Unfinished → ℕ → Reader → Reader → Type 0
IsRows l n old new =
    (r : Reading) × (l ≡ Some (rows_left (ret (Ok r)))) × (n ≡ r.dataset.shape.rows) × (new ≡ record { rules = old.rules; known = Some r; left = None })

-- the refusal of a call, or want of memory
abbrev pub IsRefused : Option Unfinished → ReadError → Type 0
IsRefused l e = (l ≡ Some (rows_left (ret (Err e)))) ⊎ (l ≡ Some (values_left (ret (Err e)))) ⊎ (e ≡ read_errors.OutOfMemory)

-- What a step tells, where this is left of the call once the look's bytes are known: more is wanted of it, or it is the
-- answer. A refusal, also that for want of memory, ends the call, and what was known stays.
abbrev pub StepTells : Option Unfinished → Reader → Step → Reader → Type 0
StepTells l old steps.More new = new ≡ with_left old l
StepTells l old (steps.Rows n) new = IsRows l n old new
StepTells l old (steps.Values vs) new = (l ≡ Some (values_left (ret (Ok vs)))) × (new ≡ with_left old None)
StepTells l old (steps.Refused e) new = IsRefused l e × (new ≡ with_left old None)
