-- What the opening of a file by several names answers of each of its datasets.
use Rattle.std.specs.Prelude.{◌≡◌, ℕ, List, [], Option, Some, None, Result, Ok, Err}
use Rattle.std.specs.Option.{option_or}
use Rattle.h5w_model.specs.declared.root.Super.{Super}
use Rattle.h5w_model.specs.declared.refusal.BlockFault.{BlockFault}
use Rattle.h5w_model.specs.declared.refusal.ReadError.TheVariants.{Damaged}
use Rattle.h5w_index.specs.Views.{IndexView}
use Rattle.h5w_opening.specs.Openings.{DatasetHeaderFields, IsFound, Opened, dataset_found, refused_dataset}
use Rattle.h5w_opening.specs.declared.error.OpenError.{OpenError}
use Rattle.h5w_opening.specs.declared.error.OpenError.TheVariants.{Read}
use Rattle.h5w_writer.specs.Sessions.{Session}
use Rattle.h5w_writer_open.specs.declared.index.NoIndex.{NoIndex}
use Rattle.h5w_writer_open.specs.OpenAnswers.{IsBadBlock, IsIndexOf, IsKeptIndexOf, opened_session}
use Rattle.h5w_writer_open.specs.OpenRanges.{ranges_refused, refused_index}
use Rattle.h5w_writer_open.specs.OpenSteps.{HasItsBlock, IfNamedIndex, front_of, versioned}

-- the dataset whose header stands there, in a file with this superblock
abbrev pub opened_at : Super → ℕ → DatasetHeaderFields → Opened
opened_at root place h = record { root = root; place = place; header = h }

-- a dataset, and its index: all of it is read, and each range stands in the file
pub record IsReadAt (img : List ℕ) (root : Super) (place : ℕ) (o : Opened) (a : Result IndexView NoIndex) : Type 0 where
  pub header : dataset_found place img ≡ Ok o.header
  pub is : o ≡ opened_at root place o.header
  pub index : IsIndexOf img o.header.dataset a
  pub within : ranges_refused o a ≡ None

-- Why a dataset is not read: something of its header; a block of its index; or a range of either, once all was read.
pub data IsUnread (img : List ℕ) (root : Super) (place : ℕ) : OpenError → Type 0 where
  no_header : (e : OpenError) → dataset_found place img ≡ Err e → IsUnread img root place e
  bad_block : (h : DatasetHeaderFields) (at : ℕ) (f : BlockFault) → dataset_found place img ≡ Ok h → IsBadBlock img h.dataset at f → IsUnread img root place (Read (Damaged at f))
  bad_range : (h : DatasetHeaderFields) (a : Result IndexView NoIndex) (e : OpenError) → dataset_found place img ≡ Ok h → IsIndexOf img h.dataset a → ranges_refused (opened_at root place h) a ≡ Some e
      → IsUnread img root place e

-- what was read, whatever the image is
pub record IsReadWell (o : Opened) (a : Result IndexView NoIndex) : Type 0 where
  pub found : IsFound o
  pub named : IfNamedIndex o.header.dataset a
  pub made : HasItsBlock a
  pub within : ranges_refused o a ≡ None

-- why no rows are appended to a dataset that was read: tried once all of all datasets was read
abbrev pub refused_part : Opened → Result IndexView NoIndex → Option OpenError
refused_part o a = option_or (refused_dataset o) (refused_index o.header.dataset a)

-- a session over a dataset that was read
pub record IsPartOver (img : List ℕ) (o : Opened) (a : Result IndexView NoIndex) (name : List ℕ) (limit budget : ℕ) (s : Session) : Type 0 where
  pub fit : refused_part o a ≡ None
  pub kept : IndexView
  pub is_kept : IsKeptIndexOf o.header.dataset a kept
  pub session : s ≡ opened_session (versioned o) (front_of img o.place o.header.len) kept name limit budget

-- a dataset that was read is refused
abbrev pub IsUnfit : List ℕ → Opened → Result IndexView NoIndex → OpenError → Type 0
IsUnfit img o a e = dataset_found o.place img ≡ Ok o.header → refused_part o a ≡ Some e
