-- How many looks a call takes before its answer.
use Rattle.std.specs.Prelude.{◌≡◌, ◌≢◌, ℕ, ◌+◌, ◌*◌, ◌/◌, ◌<◌, ◌≤◌, List, [], ◌∷◌, length, ℤ, Some, Result}
use Rattle.h5w_model.specs.Programs.{Prog, ret, Visit, visits, Look, rest_after}
use Rattle.h5w_model.specs.Logs.{Log, Cutting, hist, touched_chunks}
use Rattle.h5w_model.specs.Datasets.{Described, root_header, dataset_place}
use Rattle.h5w_model.specs.Tables.{Limits, Reading, Shows, format_limits, needed}
use Rattle.h5w_model.specs.Prefixed.{image_at, IsPosition, root_address, continuation_blocks}
use Rattle.h5w_model.specs.Readers.{Placed, IsCall, looks_of}
use Rattle.h5w_model.specs.Calls.{CallRules, open_call, rows_call, values_call}
use Rattle.h5w_model.specs.declared.refusal.ReadError.{ReadError}
use Rattle.h5w_reader_laws.specs.Headline.{Served}

-- at no position more chunks are needed
abbrev pub NeedsAtMost : List ℕ → Log → ℕ → Type 0
NeedsAtMost name log n = (p : ℕ) (r : Reading) → IsPosition log p → Shows format_limits (image_at log p) name r → needed r.dataset ≤ n

-- how many looks of at most 512 bytes these ranges take
abbrev pub looks_in : List Visit → ℕ
looks_in [] = 0
looks_in (v ∷ vs) = (v.len + 511) / 512 + looks_in vs

-- the looks on the way to the dataset header: at the superblock, the root header and its continuation blocks
abbrev pub way_looks : List ℕ → List ℕ → ℕ
way_looks img name = looks_in (visits img (dataset_place name))

-- those at the continuation blocks of the dataset header
abbrev pub continuation_looks : List ℕ → Reading → ℕ
continuation_looks img r = looks_in (continuation_blocks img r)

-- what is left of a call that has no answer yet
abbrev pub IsUnfinished : {A : Type 0} → Prog A → Type 0
IsUnfinished {A} q = (a : A) → q ≢ ret a

-- An open without an answer has taken fewer looks than those on the way to the dataset header and, an attempt, two for that
-- header, those at its continuation blocks, and 21 for each needed chunk. These ways and blocks are as at any one position.
abbrev pub OpensInLooks : Type 0
OpensInLooks = (name : List ℕ) (log : Log) (limits : Limits) (keeps attempts from n at : ℕ) (shown : Reading) (ls : List Placed) (q : Prog (Result Reading ReadError))
    → Served name log → NeedsAtMost name log n → 1 ≤ attempts → IsPosition log from → IsCall log from ls
    → IsPosition log at → Shows format_limits (image_at log at) name shown
    → rest_after (open_call limits keeps attempts name) (looks_of ls) ≡ Some q → IsUnfinished q
    → length ls < way_looks (image_at log at) name + attempts * (2 + continuation_looks (image_at log at) shown + 21 * n)

-- a refresh likewise, without the way
abbrev pub RefreshesInLooks : Type 0
RefreshesInLooks = (name : List ℕ) (log : Log) (g : CallRules) (seen : ℕ) (r : Reading) (from n at : ℕ) (shown : Reading) (ls : List Placed) (q : Prog (Result Reading ReadError))
    → Served name log → NeedsAtMost name log n → 1 ≤ g.attempts → IsPosition log from → IsCall log from ls
    → IsPosition log seen → Shows format_limits (image_at log seen) name r → g.place ≡ r.place
    → IsPosition log at → Shows format_limits (image_at log at) name shown
    → rest_after (rows_call g) (looks_of ls) ≡ Some q → IsUnfinished q
    → length ls < g.attempts * (2 + continuation_looks (image_at log at) shown + 21 * n)

-- The root header is shown by at most two looks, so in 1,024 bytes, as that of eight names of 64 bytes is. The dataset
-- header is shown by one: its chunk 0 has at most 512 bytes, and there are no continuation blocks.
pub record ShortHeaders (name : List ℕ) (log : Log) : Type 0 where
  pub root : (p : ℕ) → IsPosition log p → looks_in (visits (image_at log p) (root_header (root_address (image_at log p)))) ≤ 2
  pub dataset : (p : ℕ) (r : Reading) → IsPosition log p → Shows format_limits (image_at log p) name r → continuation_blocks (image_at log p) r ≡ []

-- Where the headers are short, the way takes three looks at most, and there are no continuation blocks. The looks of an attempt
-- are one fewer than two and 21 for each needed chunk, which makes up for the third look of the way.
pub record ShortBounds : Type 0 where
  pub opens : (name : List ℕ) (log : Log) (limits : Limits) (keeps attempts from n : ℕ) (ls : List Placed) (q : Prog (Result Reading ReadError))
      → Served name log → ShortHeaders name log → NeedsAtMost name log n → 1 ≤ attempts → IsPosition log from → IsCall log from ls
      → rest_after (open_call limits keeps attempts name) (looks_of ls) ≡ Some q → IsUnfinished q → length ls < 2 + attempts * (2 + 21 * n)
  pub refreshes : (name : List ℕ) (log : Log) (g : CallRules) (seen : ℕ) (r : Reading) (from n : ℕ) (ls : List Placed) (q : Prog (Result Reading ReadError))
      → Served name log → ShortHeaders name log → NeedsAtMost name log n → 1 ≤ g.attempts → IsPosition log from → IsCall log from ls
      → IsPosition log seen → Shows format_limits (image_at log seen) name r → g.place ≡ r.place
      → rest_after (rows_call g) (looks_of ls) ≡ Some q → IsUnfinished q → length ls < g.attempts * (2 + 21 * n)

-- how a dataset's rows are cut into chunks
abbrev pub cutting_of : Described → Cutting
cutting_of d = record { chunk_rows = d.layout.chunk_rows; chunk_columns = d.layout.chunk_cols; columns = d.shape.cols; value_size = d.int_type.size }

-- a read without an answer has taken fewer looks than those at all of each touched chunk, whatever it was shown
abbrev pub ReadsInLooks : Type 0
ReadsInLooks = (img name : List ℕ) (r : Reading) (first count : ℕ) (ls : List Look) (q : Prog (Result (List ℤ) ReadError))
    → Shows format_limits img name r → 1 ≤ count → rest_after (values_call r first count) ls ≡ Some q → IsUnfinished q
    → length ls < touched_chunks (cutting_of r.dataset) first (first + count) * (r.dataset.layout.chunk_rows * r.dataset.layout.chunk_cols * r.dataset.int_type.size / 512 + 1)

-- The premises follow from one position each. As many chunks are needed at the last one as anywhere, and the headers are
-- short where they are so once.
pub record BoundsFromOne : Type 0 where
  pub needs : (name : List ℕ) (log : Log) (n : ℕ) (r : Reading) → Served name log → Shows format_limits (image_at log (length (hist log.events))) name r
      → needed r.dataset ≤ n → NeedsAtMost name log n
  pub headers : (name : List ℕ) (log : Log) (p : ℕ) (r : Reading) → Served name log → IsPosition log p → Shows format_limits (image_at log p) name r
      → looks_in (visits (image_at log p) (root_header (root_address (image_at log p)))) ≤ 2 → continuation_blocks (image_at log p) r ≡ [] → ShortHeaders name log
