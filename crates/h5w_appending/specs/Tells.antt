-- What an append to a file tells and what it leaves, in words of the file's bytes, of its dataset and of a log of its values.
use Rattle.std.specs.Prelude.{◌≡◌, ◌⊎◌, ℕ, ◌+◌, ◌*◌, ◌/◌, ◌^◌, ◌<◌, ◌≤◌, List, [], ◌++◌, length, max, option_map, Option, Some, None, IfSome, Result, Ok, Err, ℤ}
use Rattle.h5w_model.specs.Causes.{Rose}
use Rattle.h5w_model.specs.Datasets.{Described}
use Rattle.h5w_model.specs.Findings.{Summary, Valid}
use Rattle.h5w_model.specs.Lawful.{first_outside}
use Rattle.h5w_model.specs.Logs.{Cutting, Log, appended_in, flushed, hist, load, spent}
use Rattle.h5w_model.specs.Numbers.{range}
use Rattle.h5w_model.specs.Prefixed.{Held, IsPosition, Prefixed, ReadsNow, Still, image_at}
use Rattle.h5w_model.specs.Superblock.{super_at}
use Rattle.h5w_model.specs.Tables.{Reads, format_limits, limit_of, needed}
use Rattle.h5w_model.specs.declared.piece.Write.{Write}
use Rattle.h5w_model.specs.declared.refusal.BlockFault.{BlockFault}
use Rattle.h5w_model.specs.declared.refusal.ReadError.TheVariants as reads
use Rattle.h5w_image.specs.View.{DiskView, IsThere, file}
use Rattle.h5w_space.specs.declared.Full.{Full}
use Rattle.h5w_opening.specs.Openings.{Opened, refused_dataset}
use Rattle.h5w_opening.specs.declared.error.OpenError.{OpenError}
use Rattle.h5w_opening.specs.declared.error.OpenError.TheVariants as opens
use Rattle.h5w_writer.specs.Loads.{end_in}
use Rattle.h5w_writer.specs.Openings.{opened_log}
use Rattle.h5w_writer.specs.Sessions.{with_rows}
use Rattle.h5w_several_open.specs.Beginnings.{found_by}
use Rattle.h5w_several_open.specs.declared.beginning.Beginning.{Beginning}
use Rattle.h5w_text.specs.Errors.{error_text}
use Rattle.h5w_input.specs.Scripts.{number_line_of}
use Rattle.h5w_text.specs.Streams.{SourceView, SinkView}
use Rattle.h5w_text.specs.declared.error.ErrorLine.{ErrorLine}
use Rattle.h5w_text.specs.declared.error.ErrorLine.TheVariants as errors
use Rattle.h5w_text.specs.declared.status.Status.{Status}
use Rattle.h5w_text.specs.declared.status.Status.TheVariants as statuses
use Rattle.h5w_files.specs.Images.{LeavesFiles, told_bytes}
use Rattle.h5w_files.specs.Ends.{EndsBehind}
use Rattle.h5w_writer_lines.specs.Lines.{open_line}
use Rattle.h5w_batches.specs.Batches.{Batches, after_lines, close_batch, no_batches}
use Rattle.h5w_batches.specs.Inputs.{ReadsAll, ReadsTooMuch, ReadsWhole, input_limit}
use Rattle.h5w_appending.specs.Taken.{AreTaken, ReadsLine, closed_text, rows_after, rows_lines, values_of}
use Rattle.h5w_appending.specs.Puts.{after_puts, writes_of}
use Rattle.h5w_appending.specs.Appends.{AtLine, HasValues, Holds, IsFree, IsOfOpen, ShutAgain, StopsAtLine}

-- ---- The file

-- the dataset that the root group's link of this name leads to, in a file of these bytes to which rows are appended
pub record IsDatasetIn (by : Beginning) (img at : List ℕ) (d : Described) : Type 0 where
  pub found : Opened
  pub is : found_by by (length img) at img ≡ Ok found
  pub unrefused : refused_dataset found ≡ None
  pub dataset : found.header.dataset ≡ d

-- The file is there; if the disk tells its bytes, this is their dataset.
pub record HasDataset (by : Beginning) (name at : List ℕ) (v : DiskView) (d : Described) : Type 0 where
  pub there : IsThere v name
  pub is : (img : List ℕ) → told_bytes v.told name ≡ Some img → IsDatasetIn by img at d

-- if the file was there and valid, by its bytes, its columns and the values that it read as
abbrev pub OfFile : List ℕ → List ℕ → DiskView → (List ℕ → ℕ → List ℤ → Type 0) → Type 0
OfFile name at v P = (img : List ℕ) (rows columns : ℕ) (values : List ℤ) (sm : Summary) → told_bytes v.told name ≡ Some img → Valid img at sm → Reads img at rows columns values → P img columns values

-- ---- Why it is not opened

-- once its headers were read: a block of its index is refused or missing, its tree is none to which rows are appended, or its dataset is not
pub data IsBehind (o : Opened) : OpenError → Type 0 where
  of_block : (at : ℕ) (f : BlockFault) → IsBehind o (opens.Read (reads.Damaged at f))
  of_tree : (kind at : ℕ) → IsBehind o (opens.Finding kind at)
  of_dataset : (e : OpenError) → refused_dataset o ≡ Some e → IsBehind o e

-- in a file of these bytes: by what is looked at before the index, or behind that
pub data IsUnopened (by : Beginning) (img at : List ℕ) (e : OpenError) : Type 0 where
  of_headers : found_by by (length img) at img ≡ Err e → IsUnopened by img at e
  of_index : (o : Opened) → found_by by (length img) at img ≡ Ok o → IsBehind o e → IsUnopened by img at e

-- in a file that may be missing
abbrev pub TellsWhy : Beginning → List ℕ → Option (List ℕ) → ErrorLine → Type 0
TellsWhy by at None e = e ≡ errors.Missing
TellsWhy by at (Some img) e = (x : OpenError) × (open_line x ≡ e) × IsUnopened by img at x

-- The file is not opened, nothing is read of the input, and everything stays as it was.
pub record TellsNone (by : Beginning) (name at : List ℕ) (s t : SourceView) (v w : DiskView) (e : ErrorLine) (front last : List ℕ) : Type 0 where
  pub disk : LeavesFiles v.told v w
  pub exact : IfSome v.told (λ d. IsFree e ⊎ TellsWhy by at (file d name) e)
  pub kinds : IsOfOpen e
  pub cause : e ≡ errors.Disk → Rose v.faults w.faults
  pub unread : t ≡ s
  pub front_is : front ≡ []
  pub last_is : last ≡ error_text e

-- ---- The log

-- A log over the file of these bytes and values: these are its pieces so far, the values of the closed batches are flushed, and those that
-- wait are appended. Readers can rest on it: at each position its image is valid and reads as the rows that are flushed there, what a
-- reader knows stays true, and no image is longer than a file may be, or than the file was. So it is behind the last piece.
pub record IsLogOver (img at : List ℕ) (columns : ℕ) (values : List ℤ) (ws : List Write) (b : Batches) : Type 0 where
  pub log : Log
  pub begun : log ≡ record (opened_log img columns values) { events = log.events }
  pub pieces : hist log.events ≡ ws
  pub flushed_are : flushed log ≡ values ++ values_of b.closed
  pub appended_are : appended_in log.events ≡ values_of b.closed ++ b.waiting
  pub prefixed : Prefixed at log
  pub still : Still at log
  pub held : Held at log
  pub fits : (p : ℕ) → IsPosition log p → length (image_at log p) ≤ max (2 ^ 40) (length img)
  pub now : ReadsNow at log

-- ---- What is left

-- These batches were stored and the file was closed: no flag of a writer is set, and if it was valid it is so, with their values behind its
-- own. The puts into it are the pieces of such a log. No other file is changed, and the disk did not fail.
pub record IsClosed (by : Beginning) (name at : List ℕ) (b : Batches) (v w : DiskView) : Type 0 where
  pub puts : List (Write × ℕ)
  pub disk : LeavesFiles (option_map (after_puts name puts) v.told) v w
  pub calm : w.faults ≡ v.faults
  pub holds : OfFile name at v (λ img columns values. Holds name at w columns (values ++ values_of b.closed))
  pub logs : OfFile name at v (λ img columns values. IsLogOver img at columns values (writes_of puts) b)
  pub shut : ShutAgain by name at v w

-- The same once the disk failed at a piece: the flags of a writer may be left.
pub record IsBroken (name at : List ℕ) (b : Batches) (v w : DiskView) : Type 0 where
  pub puts : List (Write × ℕ)
  pub disk : LeavesFiles (option_map (after_puts name puts) v.told) v w
  pub rose : Rose v.faults w.faults
  pub holds : OfFile name at v (λ img columns values. Holds name at w columns (values ++ values_of b.closed))
  pub logs : OfFile name at v (λ img columns values. IsLogOver img at columns values (writes_of puts) b)

-- ---- Why an input is not taken to its end

-- the batch that waits is closed, by an empty line or by the end of the input
pub record Closes (columns : ℕ) (s t : SourceView) (b : Batches) : Type 0 where
  pub numbers : List (List ℤ)
  pub batches : b ≡ after_lines no_batches numbers
  pub read : ((line : List ℕ) × ReadsLine columns s numbers line × (number_line_of columns line ≡ Some [])) ⊎ ReadsAll columns s t numbers

-- a line's rows, behind the file's, those of the closed batches and those that wait, need so many chunks, more than an index of its kind has
pub record LacksChunks (d : Described) (s : SourceView) (b : Batches) (chunks limit : ℕ) : Type 0 where
  pub number : ℕ
  pub values : List ℤ
  pub at : HasValues d.shape.cols s b number values
  pub waits : ℕ
  pub waiting : length b.waiting ≡ waits * d.shape.cols
  pub chunks_are : chunks ≡ needed (with_rows (rows_after d.shape.cols d.shape.rows b.closed + waits + length values / d.shape.cols) d)
  pub limit_is : limit ≡ limit_of format_limits d.layout.index
  pub past : limit < chunks

-- how its rows are cut into chunks
abbrev pub cut_of : Described → Cutting
cut_of d = record { chunk_rows = d.layout.chunk_rows; chunk_columns = d.layout.chunk_cols; columns = d.shape.cols; value_size = d.int_type.size }

-- Values wait in a log over the file, and there is no place of this size: it would end past the limit. Both are bounded by the loads of the
-- log: what a flush and what the log so far may need.
pub record LacksPlace (d : Described) (img : List ℕ) (columns : ℕ) (values : List ℤ) (limit : ℕ) (b : Batches) (full : Full) : Type 0 where
  pub log : Log
  pub begun : log ≡ record (opened_log img columns values) { events = log.events }
  pub flushed_are : flushed log ≡ values ++ values_of b.closed
  pub appended_are : appended_in log.events ≡ values_of b.closed ++ b.waiting
  pub some : 1 ≤ full.size
  pub limited : full.limit ≡ limit
  pub past : full.limit < full.at + full.size
  pub size_bound : full.size ≤ load (cut_of d) log
  pub at_bound : full.at ≤ end_in (super_at (range img 0 48)) + spent (cut_of d) log + load (cut_of d) log

-- the file has no place for the batch
pub record LacksRoom (name at : List ℕ) (limit : ℕ) (d : Described) (s t : SourceView) (b : Batches) (v : DiskView) (full : Full) : Type 0 where
  pub closes : Closes d.shape.cols s t b
  pub lacks : OfFile name at v (λ img columns values. LacksPlace d img columns values limit b full)

-- By the error, once these batches were closed: the first line outside the grammar, the first value outside the type, too many chunks, no
-- place, no room in the tree; too many bytes, a source that failed; or want of memory.
abbrev pub IsWhy : (name at : List ℕ) (limit : ℕ) → Described → SourceView → SourceView → Batches → DiskView → ErrorLine → Type 0
IsWhy name at limit d s t b v (errors.Line n) = (line : List ℕ) × AtLine d.shape.cols s b n line × (number_line_of d.shape.cols line ≡ None)
IsWhy name at limit d s t b v (errors.Range n i x) = (values : List ℤ) × HasValues d.shape.cols s b n values × (first_outside d.int_type 0 values ≡ Some (i, x))
IsWhy name at limit d s t b v (errors.FullChunks chunks most) = LacksChunks d s b chunks most
IsWhy name at limit d s t b v (errors.FullSpace place size most) = LacksRoom name at limit d s t b v (record { at = place; size = size; limit = most })
IsWhy name at limit d s t b v errors.Deep = Closes d.shape.cols s t b
IsWhy name at limit d s t b v (errors.Input most) = (most ≡ input_limit) × (numbers : List (List ℤ)) × ReadsTooMuch d.shape.cols s numbers × (b ≡ after_lines no_batches numbers)
IsWhy name at limit d s t b v errors.Source = Rose s.faults t.faults × (numbers : List (List ℤ)) × ReadsWhole d.shape.cols s t numbers × (b ≡ after_lines no_batches numbers)
IsWhy name at limit d s t b v errors.Memory = Unit {0}
IsWhy name at limit d s t b v e = ⊥

-- ---- The whole append

-- All was appended: each line is of numbers, and the end of the input closes the last batch.
pub record TellsWhole (by : Beginning) (name at : List ℕ) (s t : SourceView) (v w : DiskView) (front last : List ℕ) : Type 0 where
  pub d : Described
  pub dataset : HasDataset by name at v d
  pub numbers : List (List ℤ)
  pub read : ReadsAll d.shape.cols s t numbers
  pub closed : IsClosed by name at (close_batch (after_lines no_batches numbers)) v w
  pub holds : OfFile name at v (λ img columns values. Holds name at w columns (values ++ values_of numbers))
  pub front_is : front ≡ rows_lines d.shape.cols d.shape.rows (close_batch (after_lines no_batches numbers)).closed
  pub last_is : last ≡ closed_text (rows_after d.shape.cols d.shape.rows (close_batch (after_lines no_batches numbers)).closed)

-- A refusal, behind which the file was closed: what waits for the end of its batch is dropped.
pub record TellsSome (by : Beginning) (name at : List ℕ) (limit : ℕ) (s t : SourceView) (v w : DiskView) (e : ErrorLine) (front last : List ℕ) : Type 0 where
  pub d : Described
  pub dataset : HasDataset by name at v d
  pub batches : Batches
  pub taken : AreTaken d.shape.cols s t batches
  pub refused : IsWhy name at limit d s t batches v e
  pub closed : IsClosed by name at batches v w
  pub front_is : front ≡ rows_lines d.shape.cols d.shape.rows batches.closed
  pub last_is : last ≡ error_text e

-- The disk failed behind these batches.
pub record TellsUpTo (by : Beginning) (name at : List ℕ) (s t : SourceView) (v w : DiskView) (front last : List ℕ) : Type 0 where
  pub d : Described
  pub dataset : HasDataset by name at v d
  pub batches : Batches
  pub taken : AreTaken d.shape.cols s t batches
  pub broken : IsBroken name at batches v w
  pub front_is : front ≡ rows_lines d.shape.cols d.shape.rows batches.closed
  pub last_is : last ≡ error_text errors.Disk

-- an append by its answer and by what it writes: a line for each batch, and then a last line
abbrev pub TellsTo : Beginning → List ℕ → List ℕ → (limit : ℕ) → SourceView → SourceView → DiskView → DiskView → Result (Unit {0}) ErrorLine → List ℕ → List ℕ → Type 0
TellsTo by name at limit s t v w (Ok a) front last = TellsWhole by name at s t v w front last
TellsTo by name at limit s t v w (Err e) front last =
    TellsNone by name at s t v w e front last ⊎ (TellsSome by name at limit s t v w e front last ⊎ ((e ≡ errors.Disk) × TellsUpTo by name at s t v w front last))

-- The sink failed at the line of a batch: the file has that batch, those before it, and no more. It was closed, unless the disk failed at that.
pub record TellsCut (by : Beginning) (name at : List ℕ) (s t : SourceView) (v w : DiskView) (k l : SinkView) : Type 0 where
  pub d : Described
  pub dataset : HasDataset by name at v d
  pub batches : Batches
  pub taken : AreTaken d.shape.cols s t batches
  pub stops : StopsAtLine d.shape.cols d.shape.rows batches k l
  pub left : IsClosed by name at batches v w ⊎ IsBroken name at batches v w

-- how an append ends: the lines of all its batches are written before the last line, or the sink fails at one of them
abbrev pub TellsEnd : Beginning → List ℕ → List ℕ → (limit : ℕ) → SourceView → SourceView → DiskView → DiskView → Status → SinkView → SinkView → Type 0
TellsEnd by name at limit s t v w status k l =
    EndsBehind {A = Unit {0}} (TellsTo by name at limit s t v w) status k l ⊎ ((status ≡ statuses.Sink) × TellsCut by name at s t v w k l)
