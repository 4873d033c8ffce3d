-- The ranges that a check of a file finds, and how what is looked at lies in them.
use Rattle.std.specs.Prelude.{◌≡◌, ◌⊎◌, ℕ, ◌+◌, ◌<◌, ◌≤◌, true, false, List, [], ◌∷◌, length, map, None}
use Rattle.h5w_model.specs.Images.{apply, Apart, Misses}
use Rattle.h5w_model.specs.Programs.{Visit, all_of, Same}
use Rattle.h5w_model.specs.Findings.{Used, by_place, overlap_of}
use Rattle.h5w_model.specs.declared.piece.Write.{Write}

-- one of these ranges
abbrev pub Among : Used → List Used → Type 0
Among u [] = ⊥
Among u (v ∷ vs) = (v ≡ u) ⊎ Among u vs

-- each of these ranges is one of those
abbrev pub AllAmong : List Used → List Used → Type 0
AllAmong us vs = (u : Used) → Among u us → Among u vs

-- each of these ranges ends by a place
abbrev pub AllEndBy : ℕ → List Used → Type 0
AllEndBy end us = (u : Used) → Among u us → u.place + u.len ≤ end

-- none of these ranges is empty
abbrev pub AllSome : List Used → Type 0
AllSome us = (u : Used) → Among u us → 0 < u.len

-- two ranges do not meet
abbrev pub AreApart : Used → Used → Type 0
AreApart u v = Apart u.place u.len v.place v.len

-- none of these ranges is empty or meets another
abbrev pub Disjoint : List Used → Type 0
Disjoint [] = Unit {0}
Disjoint (u ∷ us) = (0 < u.len) × ((v : Used) → Among v us → AreApart u v) × Disjoint us

-- a write meets none of the blocks; a chunk's bytes are not looked at
abbrev pub MissesBlocks : Write → List Used → Type 0
MissesBlocks w us = (u : Used) → Among u us → u.chunk ≡ false → Misses w u.place u.len

-- what is visited lies in a block
pub record Covers (us : List Used) (v : Visit) : Type 0 where
  pub used : Used
  pub among : Among used us
  pub block : used.chunk ≡ false
  pub from : used.place ≤ v.place
  pub to : v.place + v.len ≤ used.place + used.len

abbrev pub AllWithin : List Used → List Visit → Type 0
AllWithin us [] = Unit {0}
AllWithin us (v ∷ vs) = Covers us v × AllWithin us vs

-- the range of a block
abbrev pub block_at : ℕ → ℕ → Used
block_at address n = record { place = address; len = n; chunk = false }

-- the range of a chunk
abbrev pub chunk_at : ℕ → ℕ → Used
chunk_at address bytes = record { place = address; len = bytes; chunk = true }

-- the blocks of some visits
abbrev pub blocks_of : List Visit → List Used
blocks_of vs = map (λ v. block_at v.place v.len) vs

-- a visit of each of some ranges, all of it
abbrev pub visits_of : List Used → List Visit
visits_of us = map (λ u. record { place = u.place; len = u.len; counts = all_of }) us

-- ---- Laws

-- A write that misses the blocks, all within the image, leaves what is looked at in them.
abbrev pub MissedStay : Type 0
MissedStay = (w : Write) (img : List ℕ) (end : ℕ) (us : List Used) (vs : List Visit) → end ≤ length img → AllEndBy end us → AllWithin us vs → MissesBlocks w us
    → Same img (apply w img) vs

-- The check's test of ranges by their places says that none meets another, where none is empty.
pub record OverlapLaws : Type 0 where
  pub apart : (us : List Used) → AllSome us → overlap_of (by_place us) ≡ None → Disjoint us
  pub none : (us : List Used) → Disjoint us → overlap_of (by_place us) ≡ None
