-- What answers the lines of a script of one dataset, whoever writes its file.
use Rattle.std.specs.Prelude.{◌≡◌, ℕ, true, List, ◌++◌, Some}
use Rattle.h5w_core.specs.Worlds.{WorldView}
use Rattle.h5w_input.specs.LinesAhead.{IsLine}
use Rattle.h5w_input.specs.declared.line.TextLine.{TextLine}
use Rattle.h5w_several_script_laws.specs.Scripts.{FileReply, FileState, AllowedAll, next_all, takes}
use Rattle.h5w_playing.specs.Lines.{Spelling, file_line_of}
use Rattle.h5w_playing.specs.Ones.{FitsAlone, spelling_of}
use Rattle.h5w_playing.specs.Replies.{file_reply_text}
use Rattle.h5w_several_playing.specs.Sets.{FitsAll, spelling_in}
use Rattle.h5w_several_playing.specs.declared.alone.AloneScript.{AloneScript}
use Rattle.h5w_several_playing.specs.declared.alone.AloneScript.TheVariants.{Own, Taken, Lost}

-- how its lines are read; one that is lost answers none
abbrev pub spelling_by : AloneScript → Spelling
spelling_by (Own world) = spelling_of world
spelling_by (Taken script) = spelling_in script
spelling_by Lost = record { columns = 1; sets = 1 }

-- it fits a script in this state
abbrev pub FitsOne : AloneScript → FileState → Type 0
FitsOne (Own world) F = FitsAlone world F
FitsOne (Taken script) F = FitsAll script F
FitsOne Lost F = ⊥

-- a world whose writer was stopped
abbrev pub IsStopped : AloneScript → Type 0
IsStopped (Own world) = world.session.stopped ≡ true
IsStopped (Taken script) = ⊥
IsStopped Lost = ⊥

-- The line asks that another writer takes over from one that was stopped, and nothing was done.
pub record AsksTakeover (line : TextLine) (old new : WorldView) (before after : List ℕ) : Type 0 where
  pub spelled : (bytes : List ℕ) → IsLine line bytes → file_line_of (spelling_of old) bytes ≡ Some takes
  pub stopped : old.session.stopped ≡ true
  pub same : new ≡ old
  pub text : after ≡ before

-- Another writer took over: in each state that fitted the reply is lawful, and the next state fits then. Its text was added.
pub record TookOver (old new : AloneScript) (before after : List ℕ) : Type 0 where
  pub reply : FileReply
  pub lawful : (F : FileState) → FitsOne old F → AllowedAll F takes reply × FitsOne new (next_all F takes reply)
  pub spelling : spelling_by new ≡ spelling_by old
  pub text : after ≡ before ++ file_reply_text reply
