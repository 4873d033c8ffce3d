-- What an append to several datasets of a file tells and what it leaves, in words of the file's bytes, of its datasets and of a log.
use Rattle.std.specs.Prelude.{◌≡◌, ◌⊎◌, ℕ, suc, ◌+◌, ◌*◌, ◌/◌, ◌^◌, ◌<◌, ◌≤◌, true, List, [], ◌∷◌, ◌++◌, length, map, max, slice_get, option_map, Option, Some, None, IfSome, Result, Ok, Err, ℤ}
use Rattle.h5w_model.specs.Causes.{Rose}
use Rattle.h5w_model.specs.Datasets.{Described}
use Rattle.h5w_model.specs.Findings.{AllSummary, AllValid}
use Rattle.h5w_model.specs.Lawful.{first_outside}
use Rattle.h5w_model.specs.Logs.{Cutting, appended_in, flushed}
use Rattle.h5w_model.specs.Numbers.{range}
use Rattle.h5w_model.specs.Prefixed.{Held, Prefixed, ReadsNow, Still}
use Rattle.h5w_model.specs.Relations.{AllPaired}
use Rattle.h5w_model.specs.Several.{Begun, FileLog, load_all, log_of, pieces_in, shown_in}
use Rattle.h5w_model.specs.Superblock.{super_at}
use Rattle.h5w_model.specs.Tables.{Reads, format_limits, limit_of, needed}
use Rattle.h5w_model.specs.declared.piece.Write.{Write}
use Rattle.h5w_model.specs.declared.root.Super.{Super}
use Rattle.h5w_image.specs.View.{DiskView, IsThere, file}
use Rattle.h5w_space.specs.declared.Full.{Full}
use Rattle.h5w_opening.specs.declared.error.OpenError.{OpenError}
use Rattle.h5w_writer.specs.Sessions.{with_rows}
use Rattle.h5w_text.specs.Errors.{error_text}
use Rattle.h5w_text.specs.Streams.{SourceView, SinkView, Gave, GaveSome}
use Rattle.h5w_text.specs.declared.error.ErrorLine.{ErrorLine}
use Rattle.h5w_text.specs.declared.error.ErrorLine.TheVariants as errors
use Rattle.h5w_text.specs.declared.status.Status.{Status}
use Rattle.h5w_text.specs.declared.status.Status.TheVariants as statuses
use Rattle.h5w_files.specs.Images.{LeavesFiles, told_bytes}
use Rattle.h5w_files.specs.Ends.{EndsBehind}
use Rattle.h5w_batches.specs.Batches.{Batches, end_batch}
use Rattle.h5w_batches.specs.Inputs.{input_limit}
use Rattle.h5w_writer_lines.specs.Lines.{open_line}
use Rattle.h5w_appending.specs.Appends.{IsFree, IsOfOpen, IsShut}
use Rattle.h5w_appending.specs.Puts.{after_puts, writes_of}
use Rattle.h5w_appending.specs.Taken.{rows_after, values_of}
use Rattle.h5w_appending.specs.Tells.{IsDatasetIn, cut_of}
use Rattle.h5w_several_open.specs.Beginnings.{HadFlags, IsNoneBegun, shut_by}
use Rattle.h5w_several_open.specs.declared.beginning.Beginning.{Beginning}
use Rattle.h5w_several_open.specs.Begins.{ReadsIt}
use Rattle.h5w_several_open.specs.Stands.{opened_file}
use Rattle.h5w_several_writer_laws.specs.Together.{file_at}
use Rattle.h5w_several_batches.specs.SetLines.{set_line_of}
use Rattle.h5w_several_batches.specs.SetInputs.{SaysAll, SaysBefore, SaysTooMuch, SaysWhole}
use Rattle.h5w_several_batches.specs.declared.line.SetLine.{SetLine}
use Rattle.h5w_several_batches.specs.declared.line.SetLine.TheVariants.{Numbers}
use Rattle.h5w_several_appending.specs.Taken.{AreTaken, SetBatches, after_all, close_each, closed_line, columns_of, no_sets, none_waits, rows_with, told_line, told_text}

-- ---- The file

-- The file is there; if the disk tells its bytes, these are its datasets by these names, in their order.
pub record HasDatasets (by : Beginning) (name : List ℕ) (names : List (List ℕ)) (v : DiskView) (ds : List Described) : Type 0 where
  pub there : IsThere v name
  pub are : (img : List ℕ) → told_bytes v.told name ≡ Some img → AllPaired (λ (at : List ℕ) (d : Described). IsDatasetIn by img at d) names ds

-- if the file was there and valid for all names, by its bytes, and by the columns of each dataset and the values that it read as
abbrev pub OfFile : List ℕ → List (List ℕ) → DiskView → (List ℕ → List Begun → Type 0) → Type 0
OfFile name names v P = (img : List ℕ) (t : AllSummary) (sets : List Begun) → told_bytes v.told name ≡ Some img → AllValid img names t → AllPaired (ReadsIt img) names sets → P img sets

-- ---- Why it is not opened

-- in a file that may be missing
abbrev pub TellsWhy : Beginning → List (List ℕ) → Option (List ℕ) → ErrorLine → Type 0
TellsWhy by names None e = e ≡ errors.Missing
TellsWhy by names (Some img) e = (x : OpenError) × (open_line x ≡ e) × IsNoneBegun by img (length img) names x

-- The file is not opened, and everything stays as it was.
pub record Unopened (by : Beginning) (name : List ℕ) (names : List (List ℕ)) (v w : DiskView) (e : ErrorLine) : Type 0 where
  pub disk : LeavesFiles v.told v w
  pub exact : IfSome v.told (λ d. IsFree e ⊎ TellsWhy by names (file d name) e)
  pub kinds : IsOfOpen e
  pub cause : e ≡ errors.Disk → Rose v.faults w.faults

-- Nothing is read of the input.
pub record TellsNone (by : Beginning) (name : List ℕ) (names : List (List ℕ)) (s t : SourceView) (v w : DiskView) (e : ErrorLine) (front last : List ℕ) : Type 0 where
  pub unopened : Unopened by name names v w e
  pub unread : t ≡ s
  pub front_is : front ≡ []
  pub last_is : last ≡ error_text e

-- ---- The log

-- what the batches that were closed make of a dataset's values
abbrev pub Exactly : List ℤ → Batches → List ℤ → Type 0
Exactly values b now = now ≡ values ++ values_of b.closed

-- the same, or with the values that wait, too
abbrev pub OfEither : List ℤ → Batches → List ℤ → Type 0
OfEither values b now = (now ≡ values ++ values_of b.closed) ⊎ (now ≡ values ++ values_of (end_batch b).closed)

-- What the log of a dataset of this number is: its closed batches are flushed, and those that wait are appended. Readers can rest on it: at each
-- position its image is valid and reads as the rows that are flushed there, and what a reader knows stays true. So it is behind the last piece.
pub record IsLogOver (Flushed : List ℤ → Batches → List ℤ → Type 0) (log : FileLog) (at : List ℕ) (d : ℕ) (s : Begun) (b : Batches) : Type 0 where
  pub flushed_are : Flushed s.values b (flushed (log_of d s log))
  pub appended_are : appended_in (log_of d s log).events ≡ values_of b.closed ++ b.waiting
  pub prefixed : Prefixed at (log_of d s log)
  pub still : Still at (log_of d s log)
  pub held : Held at (log_of d s log)
  pub now : ReadsNow at (log_of d s log)

-- the same of each dataset, from this number on
abbrev pub EachLogOver : (List ℤ → Batches → List ℤ → Type 0) → FileLog → ℕ → List (List ℕ) → List Begun → List Batches → Type 0
EachLogOver Flushed log d [] [] [] = Unit {0}
EachLogOver Flushed log d [] [] (b ∷ bs) = ⊥
EachLogOver Flushed log d [] (s ∷ ss) bs = ⊥
EachLogOver Flushed log d (at ∷ names) [] bs = ⊥
EachLogOver Flushed log d (at ∷ names) (s ∷ ss) [] = ⊥
EachLogOver Flushed log d (at ∷ names) (s ∷ ss) (b ∷ bs) = IsLogOver Flushed log at d s b × EachLogOver Flushed log (suc d) names ss bs

-- A log over the file of these bytes and datasets: these are its pieces so far. At each position no finding applies to all names together, and no
-- image is longer than a file may be, or than the file was.
pub record AreLogsOver (Flushed : List ℤ → Batches → List ℤ → Type 0) (img : List ℕ) (names : List (List ℕ)) (sets : List Begun) (ws : List Write) (b : SetBatches) : Type 0 where
  pub log : FileLog
  pub begun : log ≡ record (opened_file img sets) { events = log.events }
  pub pieces : pieces_in log.events ≡ ws
  pub each : EachLogOver Flushed log 0 names sets b.sets
  pub valid : (p : ℕ) → p ≤ shown_in log.events → (t : AllSummary) × AllValid (file_at log p) names t
  pub fits : (p : ℕ) → p ≤ shown_in log.events → length (file_at log p) ≤ max (2 ^ 40) (length img)

-- ---- What is left

-- each dataset reads so by its name
abbrev pub EachReads : (List ℤ → Batches → List ℤ → Type 0) → List ℕ → List (List ℕ) → List Begun → List Batches → Type 0
EachReads Flushed bytes [] [] [] = Unit {0}
EachReads Flushed bytes [] [] (b ∷ bs) = ⊥
EachReads Flushed bytes [] (s ∷ ss) bs = ⊥
EachReads Flushed bytes (at ∷ names) [] bs = ⊥
EachReads Flushed bytes (at ∷ names) (s ∷ ss) [] = ⊥
EachReads Flushed bytes (at ∷ names) (s ∷ ss) (b ∷ bs) = ((now : List ℤ) × Flushed s.values b now × Reads bytes at (length now / s.columns) s.columns now) × EachReads Flushed bytes names ss bs

-- The file is there, is valid for all names, and each dataset reads as its values and then those of its batches.
pub record Holds (Flushed : List ℤ → Batches → List ℤ → Type 0) (name : List ℕ) (names : List (List ℕ)) (w : DiskView) (sets : List Begun) (b : SetBatches) : Type 0 where
  pub bytes : List ℕ
  pub told : told_bytes w.told name ≡ Some bytes
  pub summary : AllSummary
  pub valid : AllValid bytes names summary
  pub reads : EachReads Flushed bytes names sets b.sets

-- no flag of a writer is set: an opened file has the superblock that it had, but for its end, one that was taken over has lost both flags
abbrev pub ShutAgain : Beginning → List ℕ → DiskView → DiskView → Type 0
ShutAgain by name v w = (img : List ℕ) (root : Super) → told_bytes v.told name ≡ Some img → super_at (range img 0 48) ≡ Ok root → HadFlags by root.flags × IsShut name (shut_by by root) w

-- These batches were stored and the file was closed: no flag of a writer is set, and if it was valid for all names it is so, and each dataset reads
-- as its values and those of its batches. The puts into it are the pieces of such a log. No other file is changed, and the disk did not fail.
pub record IsClosed (by : Beginning) (name : List ℕ) (names : List (List ℕ)) (b : SetBatches) (v w : DiskView) : Type 0 where
  pub puts : List (Write × ℕ)
  pub disk : LeavesFiles (option_map (after_puts name puts) v.told) v w
  pub calm : w.faults ≡ v.faults
  pub holds : OfFile name names v (λ img sets. Holds Exactly name names w sets b)
  pub logs : OfFile name names v (λ img sets. AreLogsOver Exactly img names sets (writes_of puts) b)
  pub shut : ShutAgain by name v w

-- The disk failed at a piece: the flags of a writer may be left. Of each dataset the values that waited may be stored, if the pieces were those of
-- their flush.
pub record IsBroken (name : List ℕ) (names : List (List ℕ)) (b : SetBatches) (v w : DiskView) : Type 0 where
  pub puts : List (Write × ℕ)
  pub disk : LeavesFiles (option_map (after_puts name puts) v.told) v w
  pub rose : Rose v.faults w.faults
  pub holds : OfFile name names v (λ img sets. Holds OfEither name names w sets b)
  pub logs : OfFile name names v (λ img sets. AreLogsOver OfEither img names sets (writes_of puts) b)

-- ---- Why an input is not taken to its end

-- the line of this number is read behind those of these batches
pub record AtLine (ds : List Described) (s : SourceView) (b : SetBatches) (n : ℕ) (line : List ℕ) : Type 0 where
  pub said : List SetLine
  pub before : SaysBefore (columns_of ds) s said line
  pub number : n ≡ length said + 1
  pub batches : b ≡ after_all ds (no_sets ds) said

-- it has these values of the dataset in use
pub record HasValues (ds : List Described) (s : SourceView) (b : SetBatches) (n : ℕ) (values : List ℤ) : Type 0 where
  pub line : List ℕ
  pub at : AtLine ds s b n line
  pub spelled : set_line_of (columns_of ds) b.used line ≡ Some (Numbers values)

-- the batch that waits is closed, by an empty line or by the end of the input
pub record Closes (ds : List Described) (s t : SourceView) (b : SetBatches) : Type 0 where
  pub said : List SetLine
  pub batches : b ≡ after_all ds (no_sets ds) said
  pub read : ((line : List ℕ) × SaysBefore (columns_of ds) s said line × (set_line_of (columns_of ds) b.used line ≡ Some (Numbers []))) ⊎ SaysAll (columns_of ds) s t said

-- A line's rows, behind those of its dataset, those of its closed batches and those that wait, need so many chunks, more than an index of its kind has.
pub record LacksChunks (ds : List Described) (s : SourceView) (b : SetBatches) (chunks limit : ℕ) : Type 0 where
  pub number : ℕ
  pub values : List ℤ
  pub at : HasValues ds s b number values
  pub set : Described
  pub is : slice_get ds b.used ≡ Some set
  pub own : Batches
  pub own_is : slice_get b.sets b.used ≡ Some own
  pub waits : ℕ
  pub waiting : length own.waiting ≡ waits * set.shape.cols
  pub chunks_are : chunks ≡ needed (with_rows (rows_after set.shape.cols set.shape.rows own.closed + waits + length values / set.shape.cols) set)
  pub limit_is : limit ≡ limit_of format_limits set.layout.index
  pub past : limit < chunks

-- how the rows of each dataset are cut into chunks
abbrev pub cuts_of : List Described → List Cutting
cuts_of ds = map cut_of ds

-- Values wait in a log over the file, and there is no place of this size: it would end past the limit. The size is bounded by the loads of all
-- datasets together.
pub record LacksPlace (ds : List Described) (img : List ℕ) (names : List (List ℕ)) (sets : List Begun) (limit : ℕ) (b : SetBatches) (full : Full) : Type 0 where
  pub log : FileLog
  pub begun : log ≡ record (opened_file img sets) { events = log.events }
  pub each : EachLogOver Exactly log 0 names sets b.sets
  pub some : 1 ≤ full.size
  pub limited : full.limit ≡ limit
  pub past : full.limit < full.at + full.size
  pub size_bound : full.size ≤ load_all (cuts_of ds) log

-- the file has no place for the batch
abbrev pub LacksRoom : List ℕ → List (List ℕ) → (limit : ℕ) → List Described → DiskView → SetBatches → Full → Type 0
LacksRoom name names limit ds v b full = OfFile name names v (λ img sets. LacksPlace ds img names sets limit b full)

-- By the error, once these batches were closed: the first line outside the grammar, the first value outside the type, too many chunks, no
-- place, no room in a tree; too many bytes, a source that failed; or want of memory.
pub data IsWhyBy (Room : SetBatches → Full → Type 0) (ds : List Described) (s t : SourceView) (b : SetBatches) : ErrorLine → Type 0 where
  of_line : (n : ℕ) (line : List ℕ) → AtLine ds s b n line → set_line_of (columns_of ds) b.used line ≡ None → IsWhyBy Room ds s t b (errors.Line n)
  of_range : (n i : ℕ) (x : ℤ) (values : List ℤ) (d : Described) → HasValues ds s b n values → slice_get ds b.used ≡ Some d → first_outside d.int_type 0 values ≡ Some (i, x) → IsWhyBy Room ds s t b (errors.Range n i x)
  of_chunks : (chunks limit : ℕ) → LacksChunks ds s b chunks limit → IsWhyBy Room ds s t b (errors.FullChunks chunks limit)
  of_room : (full : Full) → Closes ds s t b → Room b full → IsWhyBy Room ds s t b (errors.FullSpace full.at full.size full.limit)
  of_depth : Closes ds s t b → IsWhyBy Room ds s t b errors.Deep
  of_input : (said : List SetLine) → SaysTooMuch (columns_of ds) s said → b ≡ after_all ds (no_sets ds) said → IsWhyBy Room ds s t b (errors.Input input_limit)
  of_source : (said : List SetLine) → Rose s.faults t.faults → SaysWhole (columns_of ds) s t said → b ≡ after_all ds (no_sets ds) said → IsWhyBy Room ds s t b errors.Source
  of_memory : IsWhyBy Room ds s t b errors.Memory

abbrev pub IsWhy : List ℕ → List (List ℕ) → (limit : ℕ) → List Described → SourceView → SourceView → SetBatches → DiskView → ErrorLine → Type 0
IsWhy name names limit ds s t b v e = IsWhyBy (LacksRoom name names limit ds v) ds s t b e

-- ---- A sink that fails at a line

-- The sink failed at the line of the last of these batches: the lines of those before were written, then some first part of that one. No
-- value waits.
pub record StopsAtLine (b : SetBatches) (k l : SinkView) : Type 0 where
  pub before : List (List ℕ)
  pub last : List ℕ
  pub told : b.told ≡ before ++ last ∷ []
  pub waiting : none_waits b.sets ≡ true
  pub middle : SinkView
  pub gave : Gave (told_text before) k middle
  pub rose : Rose middle.faults l.faults
  pub some : GaveSome (told_line last) middle l

-- ---- The whole append

-- the batches of all lines, the last of which the end of the input closes
abbrev pub all_batches : List Described → List SetLine → SetBatches
all_batches ds said = close_each ds (after_all ds (no_sets ds) said)

-- All was appended: each line says something, and the end of the input closes the last batch.
pub record TellsWhole (by : Beginning) (name : List ℕ) (names : List (List ℕ)) (s t : SourceView) (v w : DiskView) (front last : List ℕ) : Type 0 where
  pub ds : List Described
  pub datasets : HasDatasets by name names v ds
  pub said : List SetLine
  pub read : SaysAll (columns_of ds) s t said
  pub closed : IsClosed by name names (all_batches ds said) v w
  pub front_is : front ≡ told_text (all_batches ds said).told
  pub last_is : last ≡ closed_line (rows_with ds (all_batches ds said).sets)

-- A refusal, behind which the file was closed: what waits for the end of its batch is dropped.
pub record TellsSome (by : Beginning) (name : List ℕ) (names : List (List ℕ)) (limit : ℕ) (s t : SourceView) (v w : DiskView) (e : ErrorLine) (front last : List ℕ) : Type 0 where
  pub ds : List Described
  pub datasets : HasDatasets by name names v ds
  pub batches : SetBatches
  pub taken : AreTaken ds s t batches
  pub refused : IsWhy name names limit ds s t batches v e
  pub closed : IsClosed by name names batches v w
  pub front_is : front ≡ told_text batches.told
  pub last_is : last ≡ error_text e

-- The disk failed behind these batches.
pub record TellsUpTo (by : Beginning) (name : List ℕ) (names : List (List ℕ)) (s t : SourceView) (v w : DiskView) (front last : List ℕ) : Type 0 where
  pub ds : List Described
  pub datasets : HasDatasets by name names v ds
  pub batches : SetBatches
  pub taken : AreTaken ds s t batches
  pub broken : IsBroken name names batches v w
  pub front_is : front ≡ told_text batches.told
  pub last_is : last ≡ error_text errors.Disk

-- an append by its answer and by what it writes: a line for each batch, and then a last line
abbrev pub TellsTo : Beginning → List ℕ → List (List ℕ) → (limit : ℕ) → SourceView → SourceView → DiskView → DiskView → Result (Unit {0}) ErrorLine → List ℕ → List ℕ → Type 0
TellsTo by name names limit s t v w (Ok a) front last = TellsWhole by name names s t v w front last
TellsTo by name names limit s t v w (Err e) front last =
    TellsNone by name names s t v w e front last ⊎ (TellsSome by name names limit s t v w e front last ⊎ ((e ≡ errors.Disk) × TellsUpTo by name names s t v w front last))

-- The sink failed at the line of a batch: the file has that batch, those before it, and no more. It was closed, unless the disk failed at that.
pub record TellsCut (by : Beginning) (name : List ℕ) (names : List (List ℕ)) (s t : SourceView) (v w : DiskView) (k l : SinkView) : Type 0 where
  pub ds : List Described
  pub datasets : HasDatasets by name names v ds
  pub batches : SetBatches
  pub taken : AreTaken ds s t batches
  pub stops : StopsAtLine batches k l
  pub left : IsClosed by name names batches v w ⊎ IsBroken name names batches v w

-- how an append ends: the lines of all its batches are written before the last line, or the sink fails at one of them
abbrev pub SeveralEnds : Beginning → List ℕ → List (List ℕ) → (limit : ℕ) → SourceView → SourceView → DiskView → DiskView → Status → SinkView → SinkView → Type 0
SeveralEnds by name names limit s t v w status k l =
    EndsBehind {A = Unit {0}} (TellsTo by name names limit s t v w) status k l ⊎ ((status ≡ statuses.Sink) × TellsCut by name names s t v w k l)
