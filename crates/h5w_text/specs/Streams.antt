-- What a thing outside that gives bytes, or takes them, tells of itself, and what its calls leave.
use Rattle.std.specs.Prelude.{ℕ, ◌≤◌, ◌≡◌, ◌⊎◌, List, ◌++◌, take, Option, None}
use Rattle.std.specs.Option.{option_map}

-- what contracts see of a source
pub record SourceView : Type 0 where
  -- the bytes that are left, where it tells them
  pub left : Option (List ℕ)
  -- how often it failed
  pub faults : ℕ
  -- the references that it works through, the outermost first
  pub through : List ℕ

-- what contracts see of a sink
pub record SinkView : Type 0 where
  -- the bytes that were written, where it tells them
  pub written : Option (List ℕ)
  -- how often it failed
  pub faults : ℕ
  -- the references that it works through, the outermost first
  pub through : List ℕ

-- these bytes were taken from the source
pub record Took (bytes : List ℕ) (v w : SourceView) : Type 0 where
  pub left : v.left ≡ option_map (λ rest. bytes ++ rest) w.left
  pub faults : v.faults ≤ w.faults
  pub through : w.through ≡ v.through

-- bytes come behind what was written; a sink may stop to tell what was written
abbrev pub Grows : List ℕ → Option (List ℕ) → Option (List ℕ) → Type 0
Grows bytes before now = (now ≡ None) ⊎ (now ≡ option_map (λ front. front ++ bytes) before)

-- these bytes were written
pub record Gave (bytes : List ℕ) (v w : SinkView) : Type 0 where
  pub written : Grows bytes v.written w.written
  pub faults : v.faults ≤ w.faults
  pub through : w.through ≡ v.through

-- so many of these bytes were written, the first ones
abbrev pub GaveSome : List ℕ → SinkView → SinkView → Type 0
GaveSome bytes v w = (n : ℕ) × Gave (take n bytes) v w
