-- What is answered over looks at one image, as where no writer is at work.
use Rattle.std.specs.Prelude.{◌≡◌, ℕ, ◌+◌, ◌*◌, ◌^◌, ◌≤◌, List, length, take, drop, ℤ, Some, Result, Ok}
use Rattle.std.specs.List.{AllByRecursion}
use Rattle.h5w_model.specs.Numbers.{range}
use Rattle.h5w_model.specs.Programs.{eval, Look, IsLookAt, Takes}
use Rattle.h5w_model.specs.Headers.{header_view}
use Rattle.h5w_model.specs.Tables.{Limits, Reading, Shows, Reads, reading}
use Rattle.h5w_model.specs.Calls.{CallRules, behind_header, open_call, rows_call, values_call}
use Rattle.h5w_model.specs.declared.refusal.ReadError.{ReadError}

-- Over looks at one image a call answers what that image gives: an open what it shows or the refusal of the first step
-- that fails, a refresh the same of its header, with Shrunk where that has fewer rows than were seen. Again never comes.
pub record StillCalls : Type 0 where
  pub opens : (img name : List ℕ) (limits : Limits) (keeps attempts : ℕ) (ls : List Look) (a : Result Reading ReadError) → length img ≤ 2 ^ 64 → AllByRecursion (IsLookAt img) ls
      → Takes (open_call limits keeps attempts name) ls a → a ≡ eval img (reading limits name)
  pub refreshes : (img : List ℕ) (g : CallRules) (ls : List Look) (a : Result Reading ReadError) → length img ≤ 2 ^ 64 → AllByRecursion (IsLookAt img) ls
      → Takes (rows_call g) ls a → a ≡ eval img (behind_header g (header_view (range img g.place 512)))

-- a refresh of a reader that knows what the image shows answers this again
abbrev pub StillRefresh : Type 0
StillRefresh = (img name : List ℕ) (g : CallRules) (r : Reading) (ls : List Look) (a : Result Reading ReadError) → length img ≤ 2 ^ 64
    → Shows g.limits img name r → g.known ≡ Some r → g.place ≡ r.place → AllByRecursion (IsLookAt img) ls
    → Takes (rows_call g) ls a → a ≡ Ok r

-- and a read gives the rows that the image reads as
abbrev pub StillReads : Type 0
StillReads = (img name : List ℕ) (rows columns : ℕ) (values : List ℤ) (reads : Reads img name rows columns values) (first count : ℕ) (ls : List Look) (a : Result (List ℤ) ReadError)
    → length img ≤ 2 ^ 64 → 1 ≤ count → first + count ≤ rows → AllByRecursion (IsLookAt img) ls
    → Takes (values_call reads.shown first count) ls a → a ≡ Ok (take (count * columns) (drop (first * columns) values))
