-- A machine of several datasets as what answers the lines of a script.
use Rattle.std.specs.Prelude.{◌≡◌, ℕ, ◌<◌, ◌≤◌, List, ◌++◌, length, Some, slice_get}
use Rattle.h5w_model.specs.Lawful.{Line, Rules, adds, looks, opens, reads, refreshes}
use Rattle.h5w_several_script_laws.specs.Scripts.{FileReply, FileState, AllowedAll, asks, next_all, takes}
use Rattle.h5w_several_core.specs.Worlds.{AreRowsIn, HaveFileLog, SeveralView, rules_of}
use Rattle.h5w_playing.specs.Lines.{Spelling}
use Rattle.h5w_playing.specs.Replies.{file_reply_text}

-- the machine, the dataset in use, counted from 0, and how many columns a row of each dataset has
pub record ScriptView : Type 0 where
  pub world : SeveralView
  pub used : ℕ
  pub columns : ℕ

-- The dataset in use is there, and a row of each has so many columns. There are 8 datasets at most.
pub record IsScript (gs : List Rules) (used columns : ℕ) : Type 0 where
  pub inside : used < length gs
  pub few : length gs ≤ 8
  pub some : 1 ≤ columns
  pub each : (d : ℕ) (g : Rules) → slice_get gs d ≡ Some g → g.cutting.columns ≡ columns

-- The values of a line are rows of this dataset, which is there; its reader is one of 16, and it asks for a look at least.
abbrev pub IsHeardBy : List Rules → ℕ → Line → Type 0
IsHeardBy gs d (adds values) = AreRowsIn gs d values
IsHeardBy gs d (opens r) = (r ≤ 16) × (d < length gs)
IsHeardBy gs d (refreshes r) = r ≤ 16
IsHeardBy gs d (reads r from count) = r ≤ 16
IsHeardBy gs d (looks r k) = (r ≤ 16) × (1 ≤ k)
IsHeardBy gs d line = Unit {0}

-- how its lines are read
abbrev pub spelling_in : ScriptView → Spelling
spelling_in s = record { columns = s.columns; sets = length (rules_of s.world) }

-- the state fits the machine, and has the same dataset in use
pub record FitsAll (s : ScriptView) (F : FileState) : Type 0 where
  pub fits : HaveFileLog s.world F
  pub used : F.used ≡ s.used

-- A line was given a reply between two machines: in each state that fits and has this dataset in use the reply is lawful, and the next state
-- fits then.
pub record AnswersIn (used : ℕ) (old : SeveralView) (line : Line) (reply : FileReply) (new : SeveralView) : Type 0 where
  pub rules : rules_of new ≡ rules_of old
  pub lawful : (F : FileState) → HaveFileLog old F → F.used ≡ used → AllowedAll F (asks line) reply × HaveFileLog new (next_all F (asks line) reply)

-- a line was given a reply, whose text was added; the dataset in use and the columns stay
pub record SaysIn (old : ScriptView) (line : Line) (new : ScriptView) (before after : List ℕ) : Type 0 where
  pub reply : FileReply
  pub answers : AnswersIn old.used old.world line reply new.world
  pub used : new.used ≡ old.used
  pub columns : new.columns ≡ old.columns
  pub text : after ≡ before ++ file_reply_text reply

-- Another writer takes the file over, where its writer was stopped; the text of the reply was added; the dataset in use and the columns stay.
pub record TakesIn (old new : ScriptView) (before after : List ℕ) : Type 0 where
  pub reply : FileReply
  pub lawful : (F : FileState) → HaveFileLog old.world F → AllowedAll F takes reply × HaveFileLog new.world (next_all F takes reply)
  pub used : new.used ≡ old.used
  pub text : after ≡ before ++ file_reply_text reply
