-- An index to which chunks come, one after another, and places of which none is free.
use Rattle.std.specs.Prelude.{◌≡◌, ◌≢◌, ℕ, ◌+◌, ◌≤◌, ◌==◌, List, [], ◌∷◌, length, map, if◌then◌else◌}
use Rattle.h5w_model.specs.Numbers.{undefined}
use Rattle.h5w_model.specs.Datasets.{Described}
use Rattle.h5w_model.specs.Tables.{index_key}
use Rattle.h5w_model.specs.Findings.{Used}
use Rattle.h5w_model.specs.declared.cell.Key.{Key}
use Rattle.h5w_model.specs.declared.piece.Write.{Write}
use Rattle.h5w_space.specs.Space.{Space}
use Rattle.h5w_space.specs.declared.Extent.{Extent}
use Rattle.h5w_cache.specs.Plans.{Chain, Took}
use Rattle.h5w_index.specs.Views.{IndexView}
use Rattle.h5w_index.specs.Steps.{IsSet}

-- ---- The chunks in the index

-- the index names one chunk more, by its key and its address
pub record IsNamedNext (v : IndexView) (a : Key × ℕ) (w : IndexView) : Type 0 where
  pub defined : a.1 ≢ undefined
  pub sets : IsSet a.0 a.1 v w

-- chunks, one after another
abbrev pub AreNamed : IndexView → List (Key × ℕ) → IndexView → Type 0
AreNamed v cs w = Chain IsNamedNext v cs w

-- the chunks that have an address in a table, by key and address; the table's first is the chunk of this number
abbrev pub named_from : Described → ℕ → List ℕ → List (Key × ℕ)
named_from d n [] = []
named_from d n (a ∷ rest) = if a == undefined then named_from d (n + 1) rest else (index_key d n, a) ∷ named_from d (n + 1) rest

-- ---- Places

-- ranges stand one after another without a gap, from a place up to an end
abbrev pub RangesFrom : ℕ → List Used → ℕ → Type 0
RangesFrom from [] end = from ≡ end
RangesFrom from (u ∷ us) end = (u.place ≡ from) × RangesFrom (from + u.len) us end

-- nothing is free, and nothing becomes so: each place is taken at the end
pub record IsTight (s : Space) : Type 0 where
  pub free : s.free ≡ []
  pub retired : s.retired ≡ []

-- the next place of such stands at the end, which moves behind it
pub record TakesTight (s t : Space) (r : Extent) : Type 0 where
  pub place : r.at ≡ s.end
  pub end : t.end ≡ s.end + r.size
  pub tight : IsTight t

-- ---- Writes

-- what each writes, as a block
abbrev pub own_blocks : List Write → List (ℕ × List ℕ)
own_blocks ws = map (λ (w : Write). (w.at, w.piece)) ws

-- of the size of a piece
pub record IsPiece (w : Write) : Type 0 where
  pub some : 1 ≤ length w.piece
  pub short : length w.piece ≤ 512

-- ---- A law

-- Where none is free, a place is taken at the end.
abbrev pub TightTakes : Type 0
TightTakes = (s t : Space) (r : Extent) → IsTight s → Took s t r → TakesTight s t r
