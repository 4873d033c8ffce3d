-- What a run of a script over the datasets of a file writes, and why it ends: the lines of its input spell the lines of a
-- script, these are given replies, and the text of the replies is written.
use Rattle.std.specs.Prelude.{◌≡◌, ◌⊎◌, ℕ, ◌+◌, ◌≤◌, ◌<◌, List, [], ◌∷◌, ◌++◌, length, map, take, flat_map, option_map, Some, None, IfSome}
use Rattle.h5w_model.specs.Causes.{Rose}
use Rattle.h5w_text.specs.Streams.{SourceView, SinkView, Gave, GaveSome}
use Rattle.h5w_input.specs.Lines.{lines_of, whole_lines_of}
use Rattle.h5w_text.specs.Errors.{error_text}
use Rattle.h5w_text.specs.declared.error.ErrorLine.TheVariants as errors
use Rattle.h5w_batches.specs.Inputs.{input_limit}
use Rattle.h5w_several_script_laws.specs.Scripts.{FileLine, FileReply, FileState, LawfulAll}
use Rattle.h5w_playing.specs.Lines.{Spelling, file_line_of}
use Rattle.h5w_playing.specs.Replies.{file_reply_text}
use Rattle.h5w_text.specs.declared.status.Status.{Status}
use Rattle.h5w_text.specs.declared.status.Status.TheVariants.{Done, Usage, Missing, Exists, Format, Damaged, Flags, Again, Input, Limit, Disk, Source, Sink, Memory}

-- a text of replies that may be given to the lines of a script in this state, one after another
pub record Replied (g : Spelling) (F : FileState) (lines : List (List ℕ)) (text : List ℕ) : Type 0 where
  pub script : List FileLine
  pub replies : List FileReply
  pub spelled : map (file_line_of g) lines ≡ map Some script
  pub lawful : LawfulAll F script replies
  pub is : text ≡ flat_map file_reply_text replies

-- these lines are the first of an input: they stand in its first bytes, of which there are no more than an input may have,
-- and the others stand behind these bytes
pub record HasFirst (lines : List (List ℕ)) (input : List ℕ) : Type 0 where
  pub taken : List ℕ
  pub rest : List ℕ
  pub is : input ≡ taken ++ rest
  pub bound : length taken ≤ input_limit
  pub lines_are : lines_of input ≡ lines ++ lines_of rest

-- these lines are the first of those that a source had left, where it tells its bytes
abbrev pub AreFirst : List (List ℕ) → SourceView → Type 0
AreFirst lines s = IfSome s.left (HasFirst lines)

-- the whole input, which is not too long, was read and answered
pub record Whole (g : Spelling) (F : FileState) (s t : SourceView) (text : List ℕ) : Type 0 where
  pub bound : IfSome s.left (λ input. length input ≤ input_limit)
  pub lines : List (List ℕ)
  pub all : IfSome s.left (λ input. lines_of input ≡ lines)
  pub read : IfSome t.left (λ rest. rest ≡ [])
  pub replied : Replied g F lines text

-- some first lines were answered, and the text ends with these bytes
pub record Begun (g : Spelling) (F : FileState) (s : SourceView) (last text : List ℕ) : Type 0 where
  pub lines : List (List ℕ)
  pub first : AreFirst lines s
  pub answers : List ℕ
  pub replied : Replied g F lines answers
  pub is : text ≡ answers ++ last

-- the first line that spells no line of a script that is answered, and the text of its number behind the replies to those
-- before it
pub record Refused (g : Spelling) (F : FileState) (s : SourceView) (text : List ℕ) : Type 0 where
  pub lines : List (List ℕ)
  pub line : List ℕ
  pub first : AreFirst (lines ++ line ∷ []) s
  pub outside : file_line_of g line ≡ None
  pub answers : List ℕ
  pub replied : Replied g F lines answers
  pub is : text ≡ answers ++ error_text (errors.Line (length lines + 1))

-- all whole lines that were read between two states of the source were answered, and the text ends with these bytes; of a
-- last piece that was read without its end nothing is answered
pub record Stopped (g : Spelling) (F : FileState) (s t : SourceView) (last text : List ℕ) : Type 0 where
  pub taken : List ℕ
  pub bound : length taken ≤ input_limit
  pub read : s.left ≡ option_map (λ rest. taken ++ rest) t.left
  pub answers : List ℕ
  pub replied : Replied g F (whole_lines_of taken) answers
  pub is : text ≡ answers ++ last

-- the source had more bytes than an input may have, where it tells them; all whole lines among so many first ones were
-- answered, and that is said behind
pub record TooLong (g : Spelling) (F : FileState) (s : SourceView) (text : List ℕ) : Type 0 where
  pub lines : List (List ℕ)
  pub long : IfSome s.left (λ input. (input_limit < length input) × (whole_lines_of (take input_limit input) ≡ lines))
  pub answers : List ℕ
  pub replied : Replied g F lines answers
  pub is : text ≡ answers ++ error_text (errors.Input input_limit)

-- What a run of a script has to write, by the status with which it ends. Its sink may fail before, or in the last line.
abbrev pub Writes : Spelling → FileState → Status → SourceView → SourceView → List ℕ → Type 0
Writes g F Done s t text = Whole g F s t text
Writes g F Usage s t text = ⊥
Writes g F Missing s t text = ⊥
Writes g F Exists s t text = ⊥
Writes g F Format s t text = ⊥
Writes g F Damaged s t text = ⊥
Writes g F Flags s t text = ⊥
Writes g F Again s t text = ⊥
Writes g F Input s t text = Refused g F s text ⊎ TooLong g F s text
Writes g F Limit s t text = ⊥
Writes g F Disk s t text = ⊥
Writes g F Source s t text = Rose s.faults t.faults × Stopped g F s t (error_text errors.Source) text
Writes g F Sink s t text = Begun g F s [] text
Writes g F Memory s t text = Begun g F s (error_text errors.Memory) text

-- a sink failed after some first part of what a run had to write
pub record Broken (g : Spelling) (F : FileState) (s t : SourceView) (k l : SinkView) : Type 0 where
  pub rose : Rose k.faults l.faults
  pub status : Status
  pub text : List ℕ
  pub writes : Writes g F status s t text
  pub gave : GaveSome text k l

-- what a run had to write was written
pub record Finished (g : Spelling) (F : FileState) (status : Status) (s t : SourceView) (k l : SinkView) : Type 0 where
  pub text : List ℕ
  pub writes : Writes g F status s t text
  pub gave : Gave text k l

-- what a run of a script leaves of its source and its sink, by its status
abbrev pub Plays : Spelling → FileState → Status → SourceView → SourceView → SinkView → SinkView → Type 0
Plays g F Sink s t k l = Broken g F s t k l
Plays g F status s t k l = Finished g F status s t k l

-- a source tells an input, which is not too long, and whose lines spell the lines of a script
pub record HasScript (g : Spelling) (s : SourceView) : Type 0 where
  pub input : List ℕ
  pub told : s.left ≡ Some input
  pub bound : length input ≤ input_limit
  pub script : List FileLine
  pub spelled : map (file_line_of g) (lines_of input) ≡ map Some script

-- a run of a script that neither source nor sink failed in ends when all is done, or for want of memory
abbrev pub Completes : Spelling → FileState → Status → SourceView → SourceView → SinkView → SinkView → Type 0
Completes g F status s t k l = HasScript g s → (Rose s.faults t.faults → ⊥) → (Rose k.faults l.faults → ⊥) → (status ≡ Done) ⊎ (status ≡ Memory)
