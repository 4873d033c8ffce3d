-- Why a file is not opened, beside why it is not found.
use Rattle.std.specs.Prelude.{◌≡◌, ◌⊎◌, Option, Some, None}
use Rattle.h5w_image.specs.declared.fault.ImageError.{ImageError}
use Rattle.h5w_image.specs.declared.fault.ImageError.TheVariants as image_errors
use Rattle.h5w_headers.specs.Ran.{Errors}
use Rattle.h5w_headers.specs.Errors.{IsOfBytes}
use Rattle.h5w_headers.specs.declared.error.FindError.{FindError}
use Rattle.h5w_headers.specs.declared.error.FindError.TheVariants as find_errors
use Rattle.h5w_opening.specs.declared.error.OpenError.{OpenError}
use Rattle.h5w_opening.specs.declared.error.OpenError.TheVariants.{Read, Version, Flags, Cut, Same, Layout, ChunkBytes, NoColumns, Finding, Failed, OutOfMemory}

-- a refusal of reading is one of opening; a failed image and want of memory stay what they are
abbrev pub open_error : FindError → OpenError
open_error (find_errors.Refused e) = Read e
open_error find_errors.Failed = Failed
open_error find_errors.OutOfMemory = OutOfMemory

-- what an image's failure is to who opens a file
abbrev pub outside : ImageError → OpenError
outside image_errors.Failed = Failed
outside image_errors.OutOfMemory = OutOfMemory

-- all but a failed image and want of memory are refusals
abbrev pub refusal_of : OpenError → Option OpenError
refusal_of Failed = None
refusal_of OutOfMemory = None
refusal_of (Read e) = Some (Read e)
refusal_of (Version version) = Some (Version version)
refusal_of (Flags flags) = Some (Flags flags)
refusal_of (Cut end size) = Some (Cut end size)
refusal_of (Same first second) = Some (Same first second)
refusal_of Layout = Some Layout
refusal_of (ChunkBytes bytes limit) = Some (ChunkBytes bytes limit)
refusal_of NoColumns = Some NoColumns
refusal_of (Finding kind at) = Some (Finding kind at)

-- A refusal of reading is one of the file's bytes: an open tells flags by Flags, compares no two looks, and has seen no rows before. A
-- finding is one of a tree.
abbrev pub IsOpenKind : OpenError → Type 0
IsOpenKind (Read e) = IsOfBytes e
IsOpenKind (Finding kind at) = (kind ≡ 15) ⊎ (kind ≡ 16)
IsOpenKind e = Unit {0}

abbrev pub open_errors : Errors OpenError OpenError
open_errors = record { refusal = refusal_of; failed = Failed }
