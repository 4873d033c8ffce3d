-- The ranges of a valid file: those that a check collects, superblock, headers, blocks of the index and chunks.
use Rattle.std.specs.Prelude.{◌≡◌, ℕ, ◌+◌, ◌≤◌, not, List, [], ◌∷◌, ◌++◌, length, count_by, sum_by, Ok}
use Rattle.std.specs.List.{AllByRecursion}
use Rattle.h5w_model.specs.Images.{Apart}
use Rattle.h5w_model.specs.Programs.{ret, whole, eval, and_then}
use Rattle.h5w_model.specs.Tables.{Limits, format_limits}
use Rattle.h5w_model.specs.Findings.{Used, Summary, Visited, Valid, the_superblock, checked_super, checked_root, checked_dataset, index_visit}

-- the ranges that a check of an image of some size collects, in the order of visit, or the first finding before the verdict
abbrev pub collected : Limits → List ℕ → ℕ → Visited
collected limits name size =
    whole 0 48 (λ b.
    and_then (ret (checked_super size b)) (λ s.
    and_then (checked_root name s) (λ root.
    and_then (checked_dataset limits s root.0) (λ d.
    and_then (index_visit s.end d.0) (λ us.
    ret (Ok (the_superblock ∷ root.1 ++ d.1 ++ us)))))))

-- a range ends by a place
abbrev pub EndsBy : ℕ → Used → Type 0
EndsBy end u = u.place + u.len ≤ end

-- two ranges do not meet
abbrev pub AreApart : Used → Used → Type 0
AreApart u v = Apart u.place u.len v.place v.len

-- none of these ranges meets one behind it
abbrev pub AllApart : List Used → Type 0
AllApart [] = Unit {0}
AllApart (u ∷ us) = AllByRecursion (AreApart u) us × AllApart us

-- The ranges that the check of an image collects are apart, within the end-of-file address, which the image has, and with the
-- lost bytes make it; chunks and blocks are so many as the summary says.
pub record HasRanges (img name : List ℕ) (s : Summary) : Type 0 where
  pub ranges : List Used
  pub are : eval img (collected format_limits name (length img)) ≡ Ok ranges
  pub apart : AllApart ranges
  pub within : AllByRecursion (EndsBy s.end) ranges
  pub made : sum_by (λ u. u.len) ranges + s.lost ≡ s.end
  pub complete : s.end ≤ length img
  pub chunks : s.chunks ≡ count_by (λ u. u.chunk) ranges
  pub blocks : s.blocks ≡ count_by (λ u. not u.chunk) ranges

-- of each valid image
abbrev pub ValidRanges : Type 0
ValidRanges = (img name : List ℕ) (s : Summary) → Valid img name s → HasRanges img name s
