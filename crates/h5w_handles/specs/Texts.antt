-- A text that is put where the caller has room.
use Rattle.std.specs.Prelude.{◌≡◌, ◌⊎◌, ℕ, List, ◌++◌, length, take, drop, Option, Some, None}
use Rattle.h5w_model.specs.declared.refusal.ReadError.{ReadError}
use Rattle.h5w_text.specs.Errors.{error_text}
use Rattle.h5w_text.specs.declared.error.ErrorLine.TheVariants.{Read}

-- as much of a text as there is room for, in front of what else is there
abbrev pub laid : (text out : List ℕ) → List ℕ
laid text out = take (length out) text ++ drop (length (take (length out) text)) out

-- How many bytes a text has, and what it leaves. 0 says that memory is wanting, and then all stays.
abbrev pub PutsText : (text out : List ℕ) → ℕ × List ℕ → Type 0
PutsText text out answer = ((answer.0 ≡ length text) × (answer.1 ≡ laid text out)) ⊎ ((answer.0 ≡ 0) × (answer.1 ≡ out))

-- the line of a refusal, as the program prints it, with the byte 0a behind it; nothing without one
abbrev pub PutsRefusal : Option ReadError → (out : List ℕ) → ℕ × List ℕ → Type 0
PutsRefusal None out answer = (answer.0 ≡ 0) × (answer.1 ≡ out)
PutsRefusal (Some e) out answer = PutsText (error_text (Read e)) out answer
