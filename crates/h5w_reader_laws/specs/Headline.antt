-- What readers are given while one writer appends and flushes: at every moment, and however their looks and the writer's
-- pieces follow one another.
use Rattle.std.specs.Prelude.{◌≡◌, ◌⊎◌, ℕ, zero, suc, ◌+◌, ◌-◌, ◌*◌, ◌/◌, ◌%◌, ◌^◌, ◌<◌, ◌≤◌, List, [], ◌∷◌, ◌++◌, length, take, drop, slice_get, nat_lt, if◌then◌else◌, ℤ, Some, Result, Ok, Err}
use Rattle.std.specs.List.{Any, AllByRecursion}
use Rattle.h5w_model.specs.Programs.{Prog, rest_after, Takes, below_end}
use Rattle.h5w_model.specs.Logs.{Log, hist, appended, flushed_at}
use Rattle.h5w_model.specs.Tables.{Limits, Reading, Shows, format_limits, limit_of, needed, cell}
use Rattle.h5w_model.specs.Prefixed.{image_at, IsPosition, Prefixed, Held}
use Rattle.h5w_model.specs.Readers.{Placed, IsCall, looks_of, header_at, Quiet}
use Rattle.h5w_model.specs.Calls.{CallRules, difference_from, open_call, rows_call, values_call}
use Rattle.h5w_model.specs.declared.refusal.ReadError.{ReadError}
use Rattle.h5w_model.specs.declared.refusal.ReadError.TheVariants.{Again}

-- ---- Premises

-- A log that readers can rest on: at each position the image is valid and reads as the flushed rows, what readers rest on
-- stays from each position to each later one, and no image ends past 2^64.
pub record Served (name : List ℕ) (log : Log) : Type 0 where
  pub prefixed : Prefixed name log
  pub held : Held name log
  pub fits : (p : ℕ) → IsPosition log p → length (image_at log p) ≤ 2 ^ 64

-- at no position more chunks are needed than these limits allow
abbrev pub WithinLimits : Limits → List ℕ → Log → Type 0
WithinLimits limits name log = (p : ℕ) (r : Reading) → IsPosition log p → Shows format_limits (image_at log p) name r → needed r.dataset ≤ limit_of limits r.dataset.layout.index

-- ---- Looks of a call

-- a look taken at a position
abbrev pub IsTakenAt : ℕ → Placed → Type 0
IsTakenAt p l = l.position ≡ p

-- a look at the dataset header, whose place is given, taken at a position
pub record IsHeaderLook (place p : ℕ) (l : Placed) : Type 0 where
  pub position : l.position ≡ p
  pub header : l.look.place ≡ place
  pub bytes : l.look.len ≡ below_end place 512

-- the dataset header stands there at every position
abbrev pub IsHeaderPlace : List ℕ → Log → ℕ → Type 0
IsHeaderPlace name log place = (p : ℕ) (r : Reading) → IsPosition log p → Shows format_limits (image_at log p) name r → r.place ≡ place

-- ---- Rows

-- The answer to a call for rows that began at a position: what the image showed at the position of one of the call's
-- looks. Its rows are those that were flushed when the call looked at the dataset header: the beginning of the appended
-- rows, with all that were flushed when the call began, and all that were seen.
pub record GetsRows (name : List ℕ) (log : Log) (from seen : ℕ) (ls : List Placed) (r : Reading) : Type 0 where
  pub header : ℕ
  pub begun : from ≤ header
  pub header_looked : Any (IsHeaderLook r.place header) ls
  pub rows : r.dataset.shape.rows ≡ flushed_at log header
  pub since_begin : flushed_at log from ≤ r.dataset.shape.rows
  pub since_seen : seen ≤ r.dataset.shape.rows
  -- where it was shown: the header was as in the header look
  pub shown : ℕ
  pub position : IsPosition log shown
  pub looked : Any (IsTakenAt shown) ls
  pub later : header ≤ shown
  pub quiet : Quiet log r.place header shown
  pub shows : Shows format_limits (image_at log shown) name r
  pub values : (k : ℕ) → k < r.dataset.shape.rows * r.dataset.shape.cols
      → cell (image_at log shown) r (k / r.dataset.shape.cols) (k % r.dataset.shape.cols) ≡ slice_get (appended log) k

-- ---- Again

-- From a position to a later one the dataset header changed, and rows were flushed between them.
pub record Changes (name : List ℕ) (log : Log) (place p q : ℕ) : Type 0 where
  pub later : p ≤ q
  pub differs : ¬ Quiet log place p q
  pub rises : (r s : Reading) → Shows format_limits (image_at log p) name r → Shows format_limits (image_at log q) name s
      → r.dataset.shape.rows < s.dataset.shape.rows
  pub flushed : flushed_at log p < flushed_at log q

-- so it did between each two neighbours
abbrev pub EachChanges : List ℕ → Log → ℕ → List ℕ → Type 0
EachChanges name log place [] = Unit {0}
EachChanges name log place (p ∷ []) = Unit {0}
EachChanges name log place (p ∷ q ∷ qs) = Changes name log place p q × EachChanges name log place (q ∷ qs)

-- the refusal of a last attempt whose header looks were at these positions: the first place at which they differ
abbrev pub again_between : Log → ℕ → ℕ → ℕ → ℕ → ReadError
again_between log attempts place p q =
    let d = difference_from place (header_at log place p) (header_at log place q) in Again attempts d.place d.first d.last

-- at how many of the n positions behind one more rows are flushed than at the position before
abbrev pub rises : Log → ℕ → ℕ → ℕ
rises log from zero = 0
rises log from (suc n) = rises log from n + (if nat_lt (flushed_at log (from + n)) (flushed_at log (from + suc n)) then 1 else 0)

-- Again: the header changed in each attempt. There is a header look before the first attempt, and one at the end of each.
-- So since the call began at least as often as it made attempts the flushed rows became more.
pub record GivesUp (name : List ℕ) (log : Log) (from attempts : ℕ) (ls : List Placed) (a : Result Reading ReadError) : Type 0 where
  pub place : ℕ
  pub found : IsHeaderPlace name log place
  pub earlier : List ℕ
  pub before : ℕ
  pub last : ℕ
  pub attempted : length earlier + 1 ≡ attempts
  pub looked : AllByRecursion (λ p. Any (IsHeaderLook place p) ls) (earlier ++ before ∷ last ∷ [])
  pub changed : EachChanges name log place (earlier ++ before ∷ last ∷ [])
  pub begun : from ≤ before
  pub ended : last ≤ length (hist log.events)
  pub commits : attempts ≤ rises log from (last - from)
  pub answer : a ≡ Err (again_between log attempts place before last)

-- what a call for rows is answered: rows, or Again, and nothing else
abbrev pub IsAnswer : List ℕ → Log → ℕ → ℕ → ℕ → List Placed → Result Reading ReadError → Type 0
IsAnswer name log from seen attempts ls a = ((r : Reading) × (a ≡ Ok r) × GetsRows name log from seen ls r) ⊎ GivesUp name log from attempts ls a

-- ---- The laws

-- an open, which begins at a position at which there is a file
abbrev pub OpensOnRows : Type 0
OpensOnRows = (name : List ℕ) (log : Log) (limits : Limits) (keeps attempts from : ℕ) (ls : List Placed) (a : Result Reading ReadError)
    → Served name log → WithinLimits limits name log → 1 ≤ attempts → log.first ≤ from → IsCall log from ls
    → Takes (open_call limits keeps attempts name) (looks_of ls) a → IsAnswer name log from 0 attempts ls a

-- a refresh, of a reader that knows what was shown at an earlier position
abbrev pub RefreshesToRows : Type 0
RefreshesToRows = (name : List ℕ) (log : Log) (g : CallRules) (seen : ℕ) (r : Reading) (from : ℕ) (ls : List Placed) (a : Result Reading ReadError)
    → Served name log → WithinLimits g.limits name log → 1 ≤ g.attempts → IsPosition log seen → seen ≤ from → IsCall log from ls
    → Shows format_limits (image_at log seen) name r → g.place ≡ r.place → g.known ≡ Some r
    → Takes (rows_call g) (looks_of ls) a → IsAnswer name log from r.dataset.shape.rows g.attempts ls a

-- A read of rows that were seen gives the values that were appended for them: `count` rows from `first` on, at least one, of
-- what was shown at an earlier position.
abbrev pub ReadsValues : Type 0
ReadsValues = (name : List ℕ) (log : Log) (seen : ℕ) (r : Reading) (from first count : ℕ) (ls : List Placed) (a : Result (List ℤ) ReadError)
    → Served name log → IsPosition log seen → seen ≤ from → Shows format_limits (image_at log seen) name r → IsCall log from ls
    → 1 ≤ count → first + count ≤ r.dataset.shape.rows
    → Takes (values_call r first count) (looks_of ls) a → a ≡ Ok (take (count * r.dataset.shape.cols) (drop (first * r.dataset.shape.cols) (appended log)))

-- ---- What these laws stand on

-- as many chunks are needed at the last position as anywhere
abbrev pub WithinFromLast : Type 0
WithinFromLast = (limits : Limits) (name : List ℕ) (log : Log) (r : Reading) → Served name log → Shows format_limits (image_at log (length (hist log.events))) name r
    → needed r.dataset ≤ limit_of limits r.dataset.layout.index → WithinLimits limits name log

-- looks at the last image that end a call
pub record IsEnd {A : Type 0} (log : Log) (from : ℕ) (p : Prog A) (ls more : List Placed) : Type 0 where
  pub last : AllByRecursion (IsTakenAt (length (hist log.events))) more
  pub call : IsCall log from (ls ++ more)
  pub answer : A
  pub takes : Takes p (looks_of (ls ++ more)) answer

-- No call hangs where nothing more is shown: each ends, by looks at the last image.
pub record EndsWhenStill : Type 0 where
  pub opens : (name : List ℕ) (log : Log) (limits : Limits) (keeps attempts from : ℕ) (ls : List Placed) (q : Prog (Result Reading ReadError)) → IsPosition log from → IsCall log from ls
      → rest_after (open_call limits keeps attempts name) (looks_of ls) ≡ Some q → (more : List Placed) × IsEnd log from (open_call limits keeps attempts name) ls more
  pub refreshes : (log : Log) (g : CallRules) (from : ℕ) (ls : List Placed) (q : Prog (Result Reading ReadError)) → IsPosition log from → IsCall log from ls
      → rest_after (rows_call g) (looks_of ls) ≡ Some q → (more : List Placed) × IsEnd log from (rows_call g) ls more
  pub reads : (log : Log) (r : Reading) (first count from : ℕ) (ls : List Placed) (q : Prog (Result (List ℤ) ReadError)) → IsPosition log from → IsCall log from ls
      → rest_after (values_call r first count) (looks_of ls) ≡ Some q → (more : List Placed) × IsEnd log from (values_call r first count) ls more
