-- The words that are left of a line, and its first word.
use Rattle.std.specs.Prelude.{◌≡◌, ◌≤◌, ◌<◌, ◌+◌, ℕ, List, [], ◌∷◌, length, take, drop, Option, Some, None, option_map, ℤ}
use Rattle.h5w_input.specs.Bytes.{Lacks}
use Rattle.h5w_input.specs.Lines.{value_of, values_of, words_of}

-- those of the bytes that are left, none where nothing is left
abbrev pub words_left : Option (List ℕ) → List (List ℕ)
words_left None = []
words_left (Some rest) = words_of rest

-- the line's first word has so many bytes, and is the spelling of v
pub record LeadsWith {V : Type 0} (spelled : List ℕ → Option V) (line : List ℕ) (len : ℕ) (v : V) : Type 0 where
  pub within : len ≤ length line
  pub lacks : Lacks 32 (take len line)
  pub ends : len < length line → drop len line ≡ 32 ∷ drop (len + 1) line
  pub value : spelled (take len line) ≡ Some v

-- the bytes begin with a spelling of v, of so many bytes and of `most` at most
pub record BeginsWith {V : Type 0} (spelled : List ℕ → Option V) (most : ℕ) (bytes : List ℕ) (len : ℕ) (v : V) : Type 0 where
  pub within : len ≤ length bytes
  pub some : 1 ≤ len
  pub few : len ≤ most
  pub lacks : Lacks 32 (take len bytes)
  pub line : Lacks 10 (take len bytes)
  pub value : spelled (take len bytes) ≡ Some v

-- a line of so many bytes stands at the front of the bytes with its end, and is the spelling of v
pub record IsAlone (bytes : List ℕ) (len : ℕ) (v : ℤ) : Type 0 where
  pub first : BeginsWith value_of 19 bytes len v
  pub ends : drop len bytes ≡ 10 ∷ drop (len + 1) bytes
  pub inside : len < length bytes

-- the first of some words spells this value, and these words are left
pub record FirstSpells (v : ℤ) (words left : List (List ℕ)) : Type 0 where
  pub values : values_of words ≡ option_map (λ vs. v ∷ vs) (values_of left)
  pub fewer : length left < length words
