-- Why a script ends before its input does, and what is left to write then.
use Rattle.std.specs.Prelude.{◌≡◌, ℕ, List, [], ◌++◌, Some, None, Result, Ok, Err}
use Rattle.h5w_model.specs.Causes.{Rose}
use Rattle.h5w_text.specs.Streams.{SourceView, SinkView, Gave, GaveSome}
use Rattle.h5w_text.specs.Errors.{error_text}
use Rattle.h5w_text.specs.declared.error.ErrorLine.TheVariants as errors
use Rattle.h5w_input.specs.declared.line.LineError.{LineError}
use Rattle.h5w_input.specs.declared.line.LineError.TheVariants as line_errors
use Rattle.h5w_batches.specs.Inputs.{input_limit}
use Rattle.h5w_several_script_laws.specs.Scripts.{FileLine, FileReply, FileState, AllowedAll, next_all}
use Rattle.h5w_playing.specs.Lines.{Spelling, file_line_of}
use Rattle.h5w_playing.specs.Replies.{file_reply_text}
use Rattle.h5w_playing.specs.Plays.{Begun, Broken, Finished, Writes}
use Rattle.h5w_playing.specs.declared.ending.Ending.{Ending}
use Rattle.h5w_playing.specs.declared.ending.Ending.TheVariants.{Line, Input, Source, Sink, Memory}
use Rattle.h5w_text.specs.declared.status.Status.{Status}
use Rattle.h5w_text.specs.declared.status.Status.TheVariants as statuses

abbrev pub ending_of : LineError → Ending
ending_of line_errors.Failed = Source
ending_of (line_errors.Input limit) = Input
ending_of line_errors.OutOfMemory = Memory

-- a line of the input was given a reply, and its text was written
pub record Answered (g : Spelling) (bytes : List ℕ) (before after : FileState → Type 0) (k l : SinkView) : Type 0 where
  pub line : FileLine
  pub reply : FileReply
  pub spelled : file_line_of g bytes ≡ Some line
  pub lawful : (F : FileState) → before F → AllowedAll F line reply × after (next_all F line reply)
  pub gave : Gave (file_reply_text reply) k l

-- a line of the input was given a reply, and some first part of its text was written
pub record HalfAnswered (g : Spelling) (bytes : List ℕ) (before : FileState → Type 0) (k l : SinkView) : Type 0 where
  pub rose : Rose k.faults l.faults
  pub line : FileLine
  pub reply : FileReply
  pub spelled : file_line_of g bytes ≡ Some line
  pub lawful : (F : FileState) → before F → AllowedAll F line reply
  pub gave : GaveSome (file_reply_text reply) k l

-- the script ends at a line of the input, of this number
abbrev pub EndsAt : Spelling → List ℕ → ℕ → (FileState → Type 0) → SinkView → SinkView → Ending → Type 0
EndsAt g bytes number before k l (Line n) = (n ≡ number) × (file_line_of g bytes ≡ None) × (l ≡ k)
EndsAt g bytes number before k l Input = ⊥
EndsAt g bytes number before k l Source = ⊥
EndsAt g bytes number before k l Sink = HalfAnswered g bytes before k l
EndsAt g bytes number before k l Memory = l ≡ k

-- some first lines were answered, and these last bytes are left to write
pub record Leaves (g : Spelling) (F : FileState) (status : Status) (last : List ℕ) (s t : SourceView) (k l : SinkView) : Type 0 where
  pub text : List ℕ
  pub begun : Begun g F s [] text
  pub writes : Writes g F status s t (text ++ last)
  pub gave : Gave text k l

-- what a script leaves
abbrev pub Runs : {A : Type 0} → Spelling → FileState → Result A Ending → SourceView → SourceView → SinkView → SinkView → Type 0
Runs g F (Ok a) s t k l = Finished g F statuses.Done s t k l
Runs g F (Err (Line n)) s t k l = Leaves g F statuses.Input (error_text (errors.Line n)) s t k l
Runs g F (Err Input) s t k l = Leaves g F statuses.Input (error_text (errors.Input input_limit)) s t k l
Runs g F (Err Source) s t k l = Leaves g F statuses.Source (error_text errors.Source) s t k l
Runs g F (Err Sink) s t k l = Broken g F s t k l
Runs g F (Err Memory) s t k l = Leaves g F statuses.Memory (error_text errors.Memory) s t k l
