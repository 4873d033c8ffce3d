-- The lines of a script over the datasets of a file.
use Rattle.std.specs.Prelude.{◌≡◌, ℕ, ◌+◌, ◌<◌, Bool, List, codes, if◌then◌else◌, Option, Some, None, Result, Ok, Err, option_map}
use Rattle.h5w_input.specs.Scripts.{is_word, script_line_of}
use Rattle.h5w_input.specs.Words.{line_of_script}
use Rattle.h5w_input.specs.declared.script.TextError.{TextError}
use Rattle.h5w_input.specs.declared.script.TextError.TheVariants.{Grammar}
use Rattle.h5w_several_batches.specs.SetLines.{use_of}
use Rattle.h5w_several_script_laws.specs.Scripts.{FileLine, uses, takes, asks}
use Rattle.h5w_playing.specs.declared.line.PlayLine.{PlayLine}
use Rattle.h5w_playing.specs.declared.line.PlayLine.TheVariants.{Use, Takeover, Asks}

-- by what lines are read: how many columns a row of each dataset has, and how many datasets there are
pub record Spelling : Type 0 where
  pub columns : ℕ
  pub sets : ℕ

-- a line as a script of one dataset has it, if the bytes name no dataset to be in use
abbrev pub line_unless : ℕ → List ℕ → Option ℕ → Option FileLine
line_unless columns line None = option_map asks (script_line_of columns line)
line_unless columns line (Some d) = Some (uses (d + 1))

-- the line by which another writer takes the file over
abbrev pub is_takeover : List ℕ → Bool
is_takeover line = is_word (codes "takeover") line

-- The line that some bytes spell: `takeover`; `use I`, I from 1 to the number of datasets; or a line as a script of one dataset has it.
abbrev pub file_line_of : Spelling → List ℕ → Option FileLine
file_line_of g line = if is_takeover line then Some takes else line_unless g.columns line (use_of g.sets line)

-- the line that it stands for; datasets are counted from 0 there, and from 1 here
abbrev pub line_of_play : PlayLine → FileLine
line_of_play (Use d) = uses (d + 1)
line_of_play Takeover = takes
line_of_play (Asks line) = asks (line_of_script line)

-- Ok: it stands for the line that is given. Grammar: none is given. Want of memory says nothing.
abbrev pub Means : Option FileLine → Result PlayLine TextError → Type 0
Means given (Ok l) = given ≡ Some (line_of_play l)
Means given (Err e) = e ≡ Grammar → given ≡ None

-- a dataset that is named is one of so many
abbrev pub IsWithin : ℕ → PlayLine → Type 0
IsWithin sets (Use d) = d < sets
IsWithin sets Takeover = Unit {0}
IsWithin sets (Asks line) = Unit {0}
