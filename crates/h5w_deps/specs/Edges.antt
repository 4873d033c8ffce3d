-- Which blocks wait for which: an edge from a block to one that is written after it, because it names it.
use Rattle.std.specs.Prelude.{ℕ, List}
use Rattle.std.specs.List.{Contains}
use Rattle.h5w_deps.specs.declared.Edge.{Edge}

abbrev pub edge : ℕ → ℕ → Edge
edge a b = record { child = a; parent = b }

-- up to the second block one comes from the first by edges, each from a child to a parent; a block comes to itself by none
pub data Reaches (edges : List Edge) : ℕ → ℕ → Type 0 where
  here : (a : ℕ) → Reaches edges a a
  up : (a b c : ℕ) → Contains edges (edge a b) → Reaches edges b c → Reaches edges a c

-- no block waits for itself: no edge leads up to a block from which one comes back
pub record IsAcyclic (edges : List Edge) : Type 0 where
  pub no_way_back : (a b : ℕ) → Contains edges (edge a b) → Reaches edges b a → ⊥
