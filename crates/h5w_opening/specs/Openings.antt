-- What is looked at of a file that is opened for appending, up to the index of its chunks, and what it has.
use Rattle.std.specs.Prelude.{◌≡◌, ℕ, ◌/◌, ◌%◌, Bool, true, false, not, ◌||◌, ◌&&◌, ◌==◌, List, [], ◌∷◌, nat_lt, if◌then◌else◌, Option, Some, None, Result, Ok, Err}
use Rattle.h5w_model.specs.Numbers.{range, undefined}
use Rattle.h5w_model.specs.Programs.{Prog, ret, whole, eval, bind, and_then}
use Rattle.h5w_model.specs.Superblock.{super_at}
use Rattle.h5w_model.specs.Datasets.{Described, FoundMessage, Range, super_refusal, linked, described, first_of, layout_kind, then_also, refused_as}
use Rattle.h5w_model.specs.Tables.{format_limits, limit_of, needed}
use Rattle.h5w_model.specs.Findings.{chunk_bytes}
use Rattle.h5w_model.specs.declared.root.Super.{Super}
use Rattle.h5w_model.specs.declared.refusal.ReadError.{ReadError}
use Rattle.h5w_model.specs.declared.refusal.ReadError.TheVariants as read_errors
use Rattle.h5w_headers.specs.Walks.{root_header_for, dataset_header_for}
use Rattle.h5w_opening.specs.declared.error.OpenError.{OpenError}
use Rattle.h5w_opening.specs.declared.error.OpenError.TheVariants.{Read, Version, Flags, Cut, Layout, ChunkBytes, NoColumns}

-- What a dataset header says: how many bytes its chunk 0 has; the dataset; whether the first layout message stands in chunk 0.
pub record DatasetHeaderFields : Type 0 where
  pub len : ℕ
  pub dataset : Described
  pub in_chunk_0 : Bool

-- The superblock; the dataset header's place, and what it says.
pub record Opened : Type 0 where
  pub root : Super
  pub place : ℕ
  pub header : DatasetHeaderFields

-- open for writing, or for SWMR writing
abbrev pub is_open : ℕ → Bool
is_open flags = not (flags % 2 == 0) || not (flags / 4 % 2 == 0)

-- the superblock of a file of this size that nobody writes; one of version 2 is read and not written, whatever its flags say
abbrev pub closed_super : ℕ → Super → Result Super OpenError
closed_super size s =
    if s.version == 2 then Err (Version 2)
    else if is_open s.flags then Err (Flags s.flags)
    else if nat_lt size s.end then Err (Cut s.end size) else Ok s

-- open for writing and for SWMR writing
abbrev pub is_written : ℕ → Bool
is_written flags = (flags % 2 == 1) && (flags / 4 % 2 == 1)

-- the superblock of a file of this size that somebody writes, or wrote and did not close
abbrev pub written_super : ℕ → Super → Result Super OpenError
written_super size s =
    if s.version == 2 then Err (Version 2)
    else if not (is_written s.flags) then Err (Flags s.flags)
    else if nat_lt size s.end then Err (Cut s.end size) else Ok s

-- the first layout message stands in chunk 0
abbrev pub in_chunk_0 : List FoundMessage → Bool
in_chunk_0 ms = elim (first_of layout_kind ms) [ Some m ↦ m.in_chunk_0 | None ↦ false ]

-- how many bytes chunk 0 has: its range is visited first
abbrev pub chunk_0_len : List Range → ℕ
chunk_0_len [] = 0
chunk_0_len (r ∷ rs) = r.len

-- what a dataset's messages say, with so many bytes in chunk 0, where its rows need no more chunks than are read
abbrev pub known : ℕ → List FoundMessage → Result DatasetHeaderFields OpenError
known len ms =
    then_also (refused_as (λ e. Read (read_errors.Unsupported e)) (described ms)) (λ d.
    if nat_lt (limit_of format_limits d.layout.index) (needed d) then Err (Read (read_errors.TooManyChunks (needed d) (limit_of format_limits d.layout.index)))
    else Ok (record { len = len; dataset = d; in_chunk_0 = in_chunk_0 ms }))

-- a reader's program, whose refusals are those of an open
abbrev pub reading : {A : Type 0} → Prog (Result A ReadError) → Prog (Result A OpenError)
reading p = bind p (λ r. ret (refused_as Read r))

-- all that is looked at before the index
abbrev pub looked_for : ℕ → List ℕ → Prog (Result Opened OpenError)
looked_for size name =
    and_then (reading (whole 0 48 (λ b. ret (refused_as super_refusal (super_at b))))) (λ s.
    and_then (ret (closed_super size s)) (λ s.
    and_then (reading (root_header_for true s.root)) (λ h.
    and_then (ret (refused_as Read (linked name h.messages))) (λ place.
    and_then (reading (dataset_header_for true place)) (λ h.
    ret (then_also (known (chunk_0_len h.ranges) h.messages) (λ d. Ok (record { root = s; place = place; header = d }))))))))

-- ---- Its parts on an image

-- the superblock, where it is tested so
abbrev pub super_by : (Super → Result Super OpenError) → List ℕ → Result Super OpenError
super_by tested img = then_also (refused_as Read (refused_as super_refusal (super_at (range img 0 48)))) tested

abbrev pub super_found : ℕ → List ℕ → Result Super OpenError
super_found size img = super_by (closed_super size) img

abbrev pub place_found : List ℕ → ℕ → List ℕ → Result ℕ OpenError
place_found name root img = then_also (refused_as Read (eval img (root_header_for true root))) (λ h. refused_as Read (linked name h.messages))

abbrev pub dataset_found : ℕ → List ℕ → Result DatasetHeaderFields OpenError
dataset_found place img = then_also (refused_as Read (eval img (dataset_header_for true place))) (λ h. known (chunk_0_len h.ranges) h.messages)

-- ---- What was found, whatever the image is

-- some messages say this
abbrev pub IsSaid : DatasetHeaderFields → Type 0
IsSaid h = (ms : List FoundMessage) × (known h.len ms ≡ Ok h)

-- nobody writes the file, and some messages say what its dataset is
pub record IsFound (o : Opened) : Type 0 where
  pub closed : is_open o.root.flags ≡ false
  pub said : IsSaid o.header

-- ---- What is appended to

-- the most bytes of a chunk that is written
abbrev pub most_chunk_bytes : ℕ
most_chunk_bytes = 16777216

-- why no rows are appended to it: tried once all was read
abbrev pub refused_dataset : Opened → Option OpenError
refused_dataset o =
    if (o.header.dataset.layout.address == undefined) && not o.header.in_chunk_0 then Some Layout
    else if nat_lt most_chunk_bytes (chunk_bytes o.header.dataset) then Some (ChunkBytes (chunk_bytes o.header.dataset) most_chunk_bytes)
    else if o.header.dataset.shape.cols == 0 then Some NoColumns
    else None
