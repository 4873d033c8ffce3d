-- What an answer to a line of a script is between two worlds.
use Rattle.std.specs.Prelude.{◌≡◌, ℕ, ◌*◌, ◌≤◌, List, length, Option}
use Rattle.h5w_model.specs.Lawful.{Line, Rules, adds, opens, refreshes, reads, looks, ScriptState, Allowed, next_state}
use Rattle.h5w_model.specs.declared.reply.Reply.{Reply}
use Rattle.h5w_input.specs.Scripts.{script_line_of}
use Rattle.h5w_core.specs.Worlds.{WorldView, HaveOneLog, rules_of}

-- its values are rows of so many columns, its reader is one of 16, and it asks for a look at least
abbrev pub InRange : ℕ → Line → Type 0
InRange columns (adds values) = (n : ℕ) × (length values ≡ n * columns)
InRange columns (opens r) = (1 ≤ r) × (r ≤ 16)
InRange columns (refreshes r) = (1 ≤ r) × (r ≤ 16)
InRange columns (reads r from count) = (1 ≤ r) × (r ≤ 16)
InRange columns (looks r k) = (1 ≤ r) × (r ≤ 16) × (1 ≤ k)
InRange columns line = Unit {0}

-- the line of a script that some bytes spell, by the columns of a row
abbrev pub play_line_of : Rules → List ℕ → Option Line
play_line_of g bytes = script_line_of g.cutting.columns bytes

-- A line that was given a reply between two worlds: for each state that fits the world before, the reply is lawful, and the
-- next state fits the world after.
pub record Answers (old : WorldView) (line : Line) (reply : Reply) (new : WorldView) : Type 0 where
  pub rules : rules_of new ≡ rules_of old
  pub lawful : (s : ScriptState) → HaveOneLog old s → Allowed (rules_of old) s line reply × HaveOneLog new (next_state (rules_of old) s line reply)
