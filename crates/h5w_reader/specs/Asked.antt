-- What a look makes of what a reader was asked.
use Rattle.std.specs.Prelude.{◌≡◌, ℕ, Bool, true, false, List, ◌∷◌, Option, Some, None}
use Rattle.h5w_model.specs.Programs.{Look}
use Rattle.h5w_model.specs.Tables.{Reading}
use Rattle.h5w_model.specs.Asked.{Answer, told_rows, told_values, told_refusal, Asking, Asks, without, and_look}
use Rattle.h5w_model.specs.declared.refusal.ReadError.{ReadError}
use Rattle.h5w_model.specs.declared.refusal.ReadError.TheVariants as read_errors
use Rattle.h5w_reader.specs.declared.step.Step.{Step}
use Rattle.h5w_reader.specs.declared.step.Step.TheVariants as steps

-- a call that is answered by its last look
abbrev pub answering : Asks → Asking → Answer → Asks
answering asks a answer = record { answered = record { program = a.program; looks = a.looks; answer = answer } ∷ asks.answered; unfinished = None }

abbrev pub is_want_of_memory : ReadError → Bool
is_want_of_memory read_errors.OutOfMemory = true
is_want_of_memory e = false

-- a call that is refused; for want of memory it is taken away
abbrev pub refusing : Asks → Asking → ReadError → Asks
refusing asks a e = elim (is_want_of_memory e) [ true ↦ without asks | false ↦ answering asks a (told_refusal e) ]

-- its answer with rows, by what is known then
abbrev pub finding : Asks → Asking → Option Reading → Asks
finding asks a None = without asks
finding asks a (Some r) = answering asks a (told_rows r)

-- a step by this look, and what the reader knows then
abbrev pub stepping : Asks → Asking → Step → Option Reading → Asks
stepping asks a steps.More known = record { answered = asks.answered; unfinished = Some a }
stepping asks a (steps.Rows n) known = finding asks a known
stepping asks a (steps.Values vs) known = answering asks a (told_values vs)
stepping asks a (steps.Refused e) known = refusing asks a e

abbrev pub looking : Look → Step → Option Reading → Asks → Asks
looking l step known asks = elim asks.unfinished [ Some a ↦ stepping asks (and_look l a) step known | None ↦ asks ]

-- a look that was wanted, and gave these bytes
pub record IsWanted (next : Option (ℕ × ℕ)) (bytes : List ℕ) (l : Look) : Type 0 where
  pub range : next ≡ Some (l.place, l.len)
  pub got : l.bytes ≡ bytes
