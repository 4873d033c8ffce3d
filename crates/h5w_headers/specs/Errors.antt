-- Why a header or a dataset is not found, and what an image's failure is to the finding.
use Rattle.std.specs.Prelude.{Option, Some, None, ℕ}
use Rattle.h5w_model.specs.Datasets.{header_refusal}
use Rattle.h5w_model.specs.declared.refusal.ReadError.{ReadError}
use Rattle.h5w_model.specs.declared.refusal.ReadError.TheVariants as read_errors
use Rattle.h5w_model.specs.declared.refusal.HeaderError.{HeaderError}
use Rattle.h5w_model.specs.declared.refusal.HeaderError.TheVariants as header_errors
use Rattle.h5w_image.specs.declared.fault.ImageError.{ImageError}
use Rattle.h5w_image.specs.declared.fault.ImageError.TheVariants as image_errors
use Rattle.h5w_headers.specs.Ran.{Errors}
use Rattle.h5w_headers.specs.declared.error.FindError.{FindError}
use Rattle.h5w_headers.specs.declared.error.FindError.TheVariants.{Refused, Failed, OutOfMemory}

abbrev pub outside : ImageError → FindError
outside image_errors.Failed = Failed
outside image_errors.OutOfMemory = OutOfMemory

abbrev pub refusal_of : FindError → Option ReadError
refusal_of (Refused e) = Some e
refusal_of Failed = None
refusal_of OutOfMemory = None

abbrev pub find_errors : Errors ReadError FindError
find_errors = record { refusal = refusal_of; failed = Failed }

-- A refusal of bytes that are found: it tells of no flags, of no two looks that differ, of no rows that were seen before, and of no want of
-- memory.
abbrev pub IsOfBytes : ReadError → Type 0
IsOfBytes (read_errors.NotSwmr flags) = ⊥
IsOfBytes (read_errors.Again attempts at first last) = ⊥
IsOfBytes (read_errors.Shrunk seen found) = ⊥
IsOfBytes read_errors.OutOfMemory = ⊥
IsOfBytes e = Unit {0}

-- what is refused is refused for its bytes
abbrev pub IsFindKind : FindError → Type 0
IsFindKind (Refused e) = IsOfBytes e
IsFindKind e = Unit {0}

-- a refused header or continuation block at a place
abbrev pub refused_header : ℕ → HeaderError → FindError
refused_header place header_errors.OutOfMemory = OutOfMemory
refused_header place e = Refused (header_refusal place e)
