-- The words of a line that are left, and what some bytes of a script spell.
use Rattle.std.specs.Prelude.{◌≡◌, Option, Some, None, Result, Ok, Err}
use Rattle.h5w_model.specs.Lawful.{Line, adds, flushes, shows_up_to, ends, opens, refreshes, reads, looks}
use Rattle.h5w_input.specs.declared.script.ScriptLine.{ScriptLine}
use Rattle.h5w_input.specs.declared.script.ScriptLine.TheVariants.{Append, Flush, Write, Stop, Open, Refresh, Read, Look}
use Rattle.h5w_input.specs.declared.script.TextError.{TextError}
use Rattle.h5w_input.specs.declared.script.TextError.TheVariants.{Grammar}

-- the line that it stands for
abbrev pub line_of_script : ScriptLine → Line
line_of_script (Append values) = adds values
line_of_script Flush = flushes
line_of_script (Write pieces) = shows_up_to pieces
line_of_script Stop = ends
line_of_script (Open reader) = opens reader
line_of_script (Refresh reader) = refreshes reader
line_of_script (Read reader from count) = reads reader from count
line_of_script (Look reader most) = looks reader most

-- Ok: it stands for the line that is given. Grammar: none is given. Want of memory says nothing.
abbrev pub Spells : Option Line → Result ScriptLine TextError → Type 0
Spells given (Ok l) = given ≡ Some (line_of_script l)
Spells given (Err e) = e ≡ Grammar → given ≡ None
