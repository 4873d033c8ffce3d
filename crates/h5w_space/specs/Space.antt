-- What a session knows of the places in its file: where the file ends, which ranges behind it are free,
-- and which were retired and become free with the next commit.
use Rattle.std.specs.Prelude.{◌≡◌, ℕ, ◌+◌, ◌≤◌, ◌==◌, min, max, Bool, false, List, [], ◌∷◌, ◌++◌, ◌⊎◌}
use Rattle.std.specs.List.{All, list_any}
use Rattle.std.specs.List.Sorted.{IsPermutation}
use Rattle.h5w_space.specs.declared.Extent.{Extent}

-- what contracts see of the places
pub record Space : Type 0 where
  pub end : ℕ
  pub limit : ℕ
  pub free : List Extent
  pub retired : List Extent
  -- how many more retirements have room, among the retired and among the free
  pub spare : ℕ

abbrev pub extent : ℕ → ℕ → Extent
extent a n = record { at = a; size = n }

-- no byte lies in both: the earlier end is not behind the later beginning
abbrev pub Apart : Extent → Extent → Type 0
Apart r s = min (r.at + r.size) (s.at + s.size) ≤ max r.at s.at

-- some place has just this size
abbrev pub has_size : ℕ → List Extent → Bool
has_size size places = list_any (λ p. p.size == size) places

-- the range ends by the end, and has no byte in common with a free or a retired place
pub record IsLive (s : Space) (r : Extent) : Type 0 where
  pub within : r.at + r.size ≤ s.end
  pub off_free : All (Apart r) s.free
  pub off_retired : All (Apart r) s.retired

-- the range was a free place, and is one no longer
pub record TakesFree (old new : Space) (r : Extent) : Type 0 where
  pub free : IsPermutation old.free (r ∷ new.free)
  pub end : new.end ≡ old.end

-- the range stands at the old end, which moves behind it
pub record TakesEnd (old new : Space) (r : Extent) : Type 0 where
  pub none : has_size r.size old.free ≡ false
  pub place : r.at ≡ old.end
  pub end : new.end ≡ old.end + r.size
  pub fits : new.end ≤ old.limit
  pub free : new.free ≡ old.free

-- the range was taken: a free place of just its size, or where there is none the file's end
pub record TakesPlace (old new : Space) (r : Extent) : Type 0 where
  pub by : TakesFree old new r ⊎ TakesEnd old new r
  pub limit : new.limit ≡ old.limit
  pub retired : new.retired ≡ old.retired
  pub spare : new.spare ≡ old.spare

-- the retired places are free, and nothing else changed
pub record Commits (old new : Space) : Type 0 where
  pub free : IsPermutation (old.free ++ old.retired) new.free
  pub retired : new.retired ≡ []
  pub end : new.end ≡ old.end
  pub limit : new.limit ≡ old.limit
  pub spare : new.spare ≡ old.spare
