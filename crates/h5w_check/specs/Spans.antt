-- What is known of the keys under a node of a tree.
use Rattle.std.specs.Prelude.{ℕ, ◌+◌, ◌-◌, ◌^◌, min, Bool, true, ◌&&◌, List, [], ◌∷◌, length, Option, Some, None}
use Rattle.h5w_model.specs.Tables.{key_below}
use Rattle.h5w_model.specs.Findings.{are_rising}
use Rattle.h5w_model.specs.declared.cell.Key.{Key}
use Rattle.h5w_check.specs.declared.span.Span.{Span}

-- a count goes up to 2^128 - 1
abbrev pub capped : ℕ → ℕ
capped n = min n (2 ^ 128 - 1)

-- the last of some keys, of which this is the first
abbrev pub last_of : Key → List Key → Key
last_of k [] = k
last_of k (l ∷ ks) = last_of l ks

abbrev pub ends_of : List Key → Option (Key × Key)
ends_of [] = None
ends_of (k ∷ ks) = Some (k, last_of k ks)

abbrev pub span_of : List Key → Span
span_of ks = record { count = capped (length ks); ends = ends_of ks; rising = are_rising ks }

-- the last of the one stands before the first of the other
abbrev pub in_order : Option (Key × Key) → Option (Key × Key) → Bool
in_order None b = true
in_order (Some a) None = true
in_order (Some a) (Some b) = key_below a.1 b.0

abbrev pub ends_joined : Option (Key × Key) → Option (Key × Key) → Option (Key × Key)
ends_joined None b = b
ends_joined (Some a) None = Some a
ends_joined (Some a) (Some b) = Some (a.0, b.1)

-- keys, and others behind them
abbrev pub joined_spans : Span → Span → Span
joined_spans a b = record { count = capped (a.count + b.count); ends = ends_joined a.ends b.ends; rising = a.rising && in_order a.ends b.ends && b.rising }
