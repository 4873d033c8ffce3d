-- How many looks a call for rows takes, whatever the looks give: no image is spoken of.
use Rattle.std.specs.Prelude.{◌≡◌, ◌⊎◌, ◌≤◌, ℕ, zero, suc, ◌-◌, ◌*◌, List, [], ◌∷◌, ◌++◌, length, nat_lt, if◌then◌else◌, Some, Result, Ok, Err}
use Rattle.h5w_model.specs.Programs.{Prog, Look, lowered, rest_after, Takes}
use Rattle.h5w_model.specs.Headers.{header_view}
use Rattle.h5w_model.specs.Datasets.{Described, dataset_from, dataset_place}
use Rattle.h5w_model.specs.Tables.{Limits, Reading, format_limits, limit_of, needed}
use Rattle.h5w_model.specs.Calls.{CallRules, open_call, open_rules, rows_call}
use Rattle.h5w_model.specs.declared.refusal.ReadError.{ReadError}

-- no more chunks than the format's limits allow
pub record AreLimits (limits : Limits) : Type 0 where
  pub array : limits.array ≤ format_limits.array
  pub tree : limits.tree ≤ format_limits.tree

-- the chunks that are looked up behind a header: those that it needs, none if they are too many or the header is refused
abbrev pub looked_up : Limits → Result Described ReadError → ℕ
looked_up limits (Ok d) = if nat_lt (limit_of limits d.layout.index) (needed d) then 0 else needed d
looked_up limits (Err e) = 0

-- The looks behind a header: those at its continuation blocks, and then at most 21 for each chunk that it needs.
pub record LooksBehind (g : CallRules) (v : List ℕ) (ls : List Look) : Type 0 where
  pub continued : List Look
  pub chunks : List Look
  pub are : continued ++ chunks ≡ ls
  pub header : Result Described ReadError
  pub says : Takes (lowered g.keeps [] (dataset_from g.place v)) continued header
  pub few : length chunks ≤ 21 * looked_up g.limits header

-- The looks of an attempt whose first look found this header: none or those behind it; then none, or its last look at the
-- header, and behind that none or those of the next attempt, by the header that was found.
pub record AttemptTakes (g : CallRules) (next : List ℕ → List Look → Type 0) (v : List ℕ) (ls : List Look) : Type 0 where
  pub behind : List Look
  pub rest : List Look
  pub are : behind ++ rest ≡ ls
  pub first : (behind ≡ []) ⊎ LooksBehind g v behind
  pub last : (rest ≡ []) ⊎ ((l : Look) × (more : List Look) × (rest ≡ l ∷ more) × ((more ≡ []) ⊎ next (header_view l.bytes) more))

-- the looks of an attempt, and of at most so many more
abbrev pub AttemptsTake : ℕ → CallRules → List ℕ → List Look → Type 0
AttemptsTake zero g v ls = AttemptTakes g (λ w more. more ≡ []) v ls
AttemptsTake (suc n) g v ls = AttemptTakes g (λ w more. AttemptsTake n g w more) v ls

-- a call for rows: a look at the header, and those of its attempts
abbrev pub RowsTake : CallRules → List Look → Type 0
RowsTake g ls = (l : Look) × (more : List Look) × (ls ≡ l ∷ more) × AttemptsTake (g.attempts - 1) g (header_view l.bytes) more

-- behind the dataset header's place, or none where that is refused
abbrev pub PlaceTakes : (ℕ → CallRules) → List Look → Result ℕ ReadError → Type 0
PlaceTakes rules ls (Ok at) = RowsTake (rules at) ls
PlaceTakes rules ls (Err e) = ls ≡ []

-- an open: the looks on the way to the dataset header, and those of a call for rows
pub record OpenTakes (limits : Limits) (keeps attempts : ℕ) (name : List ℕ) (ls : List Look) : Type 0 where
  pub way : List Look
  pub rest : List Look
  pub are : way ++ rest ≡ ls
  pub place : Result ℕ ReadError
  pub says : Takes (lowered keeps [] (dataset_place name)) way place
  pub behind : PlaceTakes (open_rules limits keeps attempts) rest place

-- Whatever the looks give. A call that has no answer yet has one after some more looks.
pub record LooksOfAttempts : Type 0 where
  pub rows : (g : CallRules) (ls : List Look) (a : Result Reading ReadError) → AreLimits g.limits → Takes (rows_call g) ls a → RowsTake g ls
  pub opens : (limits : Limits) (keeps attempts : ℕ) (name : List ℕ) (ls : List Look) (a : Result Reading ReadError) → AreLimits limits
      → Takes (open_call limits keeps attempts name) ls a → OpenTakes limits keeps attempts name ls
  pub rows_end : (g : CallRules) (ls : List Look) (q : Prog (Result Reading ReadError)) → rest_after (rows_call g) ls ≡ Some q
      → (more : List Look) × (a : Result Reading ReadError) × Takes (rows_call g) (ls ++ more) a
  pub opens_end : (limits : Limits) (keeps attempts : ℕ) (name : List ℕ) (ls : List Look) (q : Prog (Result Reading ReadError))
      → rest_after (open_call limits keeps attempts name) ls ≡ Some q → (more : List Look) × (a : Result Reading ReadError) × Takes (open_call limits keeps attempts name) (ls ++ more) a
