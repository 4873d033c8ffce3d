-- How many looks a call takes at most, whatever they give: no image is spoken of.
use Rattle.std.specs.Prelude.{◌≡◌, ℕ, ◌+◌, ◌*◌, ◌/◌, ◌^◌, ◌<◌, ◌≤◌, max, List, length, Some}
use Rattle.h5w_model.specs.Programs.{Prog, Look, rest_after}
use Rattle.h5w_model.specs.Logs.{touched_chunks}
use Rattle.h5w_model.specs.Tables.{Limits, Reading}
use Rattle.h5w_model.specs.Calls.{CallRules, open_call, rows_call, values_call}
use Rattle.h5w_model.specs.Unfinished.{ReaderRules}
use Rattle.h5w_model.specs.Asked.{Answered, AreCalls, known_by}
use Rattle.h5w_reader_laws.specs.Bounds.{cutting_of}
use Rattle.h5w_script_laws.specs.Attempts.{AreLimits}

-- whatever its looks give, no more than so many are taken of it
abbrev pub TakesAtMost : {A : Type 0} → ℕ → Prog A → Type 0
TakesAtMost {A} n p = (ls : List Look) (q : Prog A) → rest_after p ls ≡ Some q → length ls ≤ n

-- the looks at a range of any length: nothing is looked at from 2^64 on
abbrev pub range_most : ℕ
range_most = 2 ^ 55

-- those on the way to the dataset header: two, those at the rest of the root header's chunk 0, and at 32 continuation blocks
abbrev pub way_most : ℕ
way_most = 2 + 33 * range_most

-- those of an attempt behind its first: at 32 continuation blocks, 21 for each chunk that the limits allow, and one at the header
abbrev pub attempt_most : Limits → ℕ
attempt_most limits = 32 * range_most + 21 * max limits.array limits.tree + 1

-- its chunks have rows and columns
pub record IsCut (r : Reading) : Type 0 where
  pub rows : 0 < r.dataset.layout.chunk_rows
  pub columns : 0 < r.dataset.layout.chunk_cols

-- Whatever the looks give, each call has no more of them than a number that its rules say. What a reader knows is cut so.
pub record CallsEnd : Type 0 where
  pub rows : (g : CallRules) → AreLimits g.limits → 1 ≤ g.attempts → TakesAtMost (1 + g.attempts * attempt_most g.limits) (rows_call g)
  pub opens : (limits : Limits) (keeps attempts : ℕ) (name : List ℕ) → AreLimits limits → 1 ≤ attempts
      → TakesAtMost (way_most + (1 + attempts * attempt_most limits)) (open_call limits keeps attempts name)
  pub values : (r : Reading) (first count : ℕ) → IsCut r → 1 ≤ count
      → TakesAtMost (touched_chunks (cutting_of r.dataset) first (first + count) * (r.dataset.layout.chunk_rows * r.dataset.layout.chunk_cols * r.dataset.int_type.size / 512 + 1)) (values_call r first count)
  pub known : (rules : ReaderRules) (calls : List Answered) (r : Reading) → AreLimits rules.limits → 1 ≤ rules.attempts → AreCalls rules calls → known_by calls ≡ Some r → IsCut r
