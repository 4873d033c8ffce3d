-- A world of one dataset as what answers the lines of a script over the datasets of a file.
use Rattle.std.specs.Prelude.{◌≡◌, ℕ, List, ◌++◌}
use Rattle.h5w_model.specs.Lawful.{Line, ScriptState}
use Rattle.h5w_model.specs.declared.reply.Reply.{Reply}
use Rattle.h5w_text.specs.Replies.{reply_text}
use Rattle.h5w_core.specs.Worlds.{WorldView, HaveOneLog, rules_of}
use Rattle.h5w_several_script_laws.specs.Alone.{alone}
use Rattle.h5w_several_script_laws.specs.Scripts.{FileState}
use Rattle.h5w_playing.specs.Answers.{Answers}
use Rattle.h5w_playing.specs.Lines.{Spelling}

-- how its lines are read
abbrev pub spelling_of : WorldView → Spelling
spelling_of w = record { columns = (rules_of w).cutting.columns; sets = 1 }

-- the file's state is that of one dataset, whose state fits the world
pub record FitsAlone (w : WorldView) (F : FileState) : Type 0 where
  pub script : ScriptState
  pub is : F ≡ alone (rules_of w) script
  pub fits : HaveOneLog w script

-- a line was given a reply, whose text was added
pub record Says (old : WorldView) (line : Line) (new : WorldView) (before after : List ℕ) : Type 0 where
  pub reply : Reply
  pub answers : Answers old line reply new
  pub text : after ≡ before ++ reply_text reply
