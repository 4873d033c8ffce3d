-- How an append to several datasets ends, in words of the file's bytes and of a log alone: these also tell why a file is not opened.
use Rattle.std.specs.Prelude.{◌≡◌, ◌⊎◌, ℕ, ◌<◌, List, [], get_or, length, take, Option, Some, None, IfSome, Result, Ok, Err}
use Rattle.std.specs.List.{AllByRecursion}
use Rattle.h5w_model.specs.Causes.{Rose}
use Rattle.h5w_model.specs.Programs.{eval}
use Rattle.h5w_image.specs.View.{DiskView, file}
use Rattle.h5w_opening.specs.Fronts.{FrontFields, front_for, written_front}
use Rattle.h5w_opening.specs.Openings.{DatasetHeaderFields, dataset_found}
use Rattle.h5w_opening.specs.declared.error.OpenError.{OpenError}
use Rattle.h5w_text.specs.Errors.{error_text}
use Rattle.h5w_text.specs.Streams.{SourceView, SinkView}
use Rattle.h5w_text.specs.declared.error.ErrorLine.{ErrorLine}
use Rattle.h5w_text.specs.declared.error.ErrorLine.TheVariants as errors
use Rattle.h5w_text.specs.declared.status.Status.{Status}
use Rattle.h5w_text.specs.declared.status.Status.TheVariants as statuses
use Rattle.h5w_files.specs.Images.{LeavesFiles}
use Rattle.h5w_files.specs.Ends.{EndsBehind}
use Rattle.h5w_writer_lines.specs.Lines.{open_line}
use Rattle.h5w_appending.specs.Appends.{IsFree, IsOfOpen}
use Rattle.h5w_appending.specs.Tells.{IsBehind}
use Rattle.h5w_several_open.specs.declared.beginning.Beginning.{Beginning}
use Rattle.h5w_several_open.specs.declared.beginning.Beginning.TheVariants as beginnings
use Rattle.h5w_several_appending.specs.Tells.{TellsCut, TellsSome, TellsUpTo, TellsWhole}

-- ---- Why a file is not opened

-- what a file of these bytes has before the first dataset header, where a session begins so
abbrev pub front_found : Beginning → List ℕ → List (List ℕ) → Result FrontFields OpenError
front_found beginnings.Opened img names = eval img (front_for (length img) names)
front_found beginnings.TakenOver img names = eval img (written_front (length img) names)

-- the header at this place says what its dataset is
pub record SaysDataset (img : List ℕ) (place : ℕ) : Type 0 where
  pub header : DatasetHeaderFields
  pub is : dataset_found place img ≡ Ok header

-- The links of the names lead to these headers, and each before the one of this number says what its dataset is.
pub record LeadsTo (by : Beginning) (img : List ℕ) (names : List (List ℕ)) (f : FrontFields) (n : ℕ) : Type 0 where
  pub is : front_found by img names ≡ Ok f
  pub inside : n < length f.places
  pub before : AllByRecursion (SaysDataset img) (take n f.places)

-- Why a file of these bytes is not opened by these names: by what is looked at before the first dataset header; by the first such header that is
-- refused; or, once those before it were read, by the index or the dataset of one.
pub data IsNoneOpened (by : Beginning) (img : List ℕ) (names : List (List ℕ)) : OpenError → Type 0 where
  by_front : (e : OpenError) → front_found by img names ≡ Err e → IsNoneOpened by img names e
  by_header : (f : FrontFields) (n : ℕ) (e : OpenError) → LeadsTo by img names f n → dataset_found (get_or f.places n 0) img ≡ Err e → IsNoneOpened by img names e
  by_dataset : (f : FrontFields) (n : ℕ) (h : DatasetHeaderFields) (e : OpenError) → LeadsTo by img names f n → dataset_found (get_or f.places n 0) img ≡ Ok h
      → IsBehind (record { root = f.root; place = get_or f.places n 0; header = h }) e → IsNoneOpened by img names e

-- in a file that may be missing
abbrev pub WhyNoneOpened : Beginning → List (List ℕ) → Option (List ℕ) → ErrorLine → Type 0
WhyNoneOpened by names None e = e ≡ errors.Missing
WhyNoneOpened by names (Some img) e = (x : OpenError) × (open_line x ≡ e) × IsNoneOpened by img names x

-- The file is not opened, nothing is read of the input, and everything stays as it was.
pub record LeavesUnopened (by : Beginning) (name : List ℕ) (names : List (List ℕ)) (s t : SourceView) (v w : DiskView) (e : ErrorLine) (front last : List ℕ) : Type 0 where
  pub disk : LeavesFiles v.told v w
  pub exact : IfSome v.told (λ d. IsFree e ⊎ WhyNoneOpened by names (file d name) e)
  pub kinds : IsOfOpen e
  pub cause : e ≡ errors.Disk → Rose v.faults w.faults
  pub unread : t ≡ s
  pub front_is : front ≡ []
  pub last_is : last ≡ error_text e

-- ---- The whole append

-- an append by its answer and by what it writes: a line for each batch, and then a last line
abbrev pub EndsTo : Beginning → List ℕ → List (List ℕ) → (limit : ℕ) → SourceView → SourceView → DiskView → DiskView → Result (Unit {0}) ErrorLine → List ℕ → List ℕ → Type 0
EndsTo by name names limit s t v w (Ok a) front last = TellsWhole by name names s t v w front last
EndsTo by name names limit s t v w (Err e) front last =
    LeavesUnopened by name names s t v w e front last ⊎ (TellsSome by name names limit s t v w e front last ⊎ ((e ≡ errors.Disk) × TellsUpTo by name names s t v w front last))

-- how an append ends: the lines of all its batches are written before the last line, or the sink fails at one of them
abbrev pub SeveralTellsEnd : Beginning → List ℕ → List (List ℕ) → (limit : ℕ) → SourceView → SourceView → DiskView → DiskView → Status → SinkView → SinkView → Type 0
SeveralTellsEnd by name names limit s t v w status k l =
    EndsBehind {A = Unit {0}} (EndsTo by name names limit s t v w) status k l ⊎ ((status ≡ statuses.Sink) × TellsCut by name names s t v w k l)
