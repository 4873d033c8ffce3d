-- What an answer to a line of a script is between two states of a machine.
use Rattle.std.specs.Prelude.{◌≡◌, ℕ, List, ◌++◌, Some}
use Rattle.h5w_several_script_laws.specs.Scripts.{FileLine, FileReply, FileState, AllowedAll, next_all}
use Rattle.h5w_playing.specs.Lines.{Spelling, file_line_of}
use Rattle.h5w_playing.specs.Replies.{file_reply_text}

-- A line that was given a reply: in each state that fitted before, the reply is lawful, and the next state fits then. Its text was added.
pub record GivesReply (g : Spelling) (bytes : List ℕ) (before after : FileState → Type 0) (old new : List ℕ) : Type 0 where
  pub line : FileLine
  pub reply : FileReply
  pub spelled : file_line_of g bytes ≡ Some line
  pub lawful : (F : FileState) → before F → AllowedAll F line reply × after (next_all F line reply)
  pub text : new ≡ old ++ file_reply_text reply
