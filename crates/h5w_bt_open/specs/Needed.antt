-- The ranges of the nodes of a tree on the way to some keys.
use Rattle.std.specs.Prelude.{ℕ, zero, suc, ◌==◌, List, [], ◌∷◌, ◌++◌, length, Option, Some, None, if◌then◌else◌}
use Rattle.h5w_model.specs.Trees.{btin_len, btlf_len}
use Rattle.h5w_model.specs.declared.cell.Key.{Key}
use Rattle.h5w_space.specs.declared.Extent.{Extent}
use Rattle.h5w_space.specs.Ranges.{range_at}
use Rattle.h5w_bt.specs.declared.records.Record.{Record}
use Rattle.h5w_bt_nodes.specs.Nodes.{Tree}
use Rattle.h5w_bt_index.specs.Index.{Index}
use Rattle.h5w_bt_open.specs.declared.span.Span.{Span}
use Rattle.h5w_bt_open.specs.Spans.{high_of, low_behind, low_of, rest, span_here}
use Rattle.h5w_bt_open.specs.Opened.{from_key}

-- what comes of each child, by the keys that lead to it
abbrev pub of_each : {T A : Type 0} → (Option Span → T → List A) → Option Key → Option Key → List Record → List T → List A
of_each f low high rs [] = []
of_each f low high rs (t ∷ ts) = f (span_here low high rs) t ++ of_each f (low_behind low rs) high (rest rs) ts

-- nothing, where no key leads
abbrev pub if_led : {A : Type 0} → Option Span → List A → List A
if_led None xs = []
if_led (Some s) xs = xs

-- those on the way to some keys, each of so many bytes as were looked at, in the order of the looks: a node's own, then those of its children
abbrev pub needed_ranges : (d : ℕ) → Option Span → Tree d → List Extent
needed_ranges zero s t = if_led s (range_at t.place (btlf_len (length t.records)))
needed_ranges (suc d) s t = if_led s (range_at t.place (btin_len (length t.records) (suc d)) ++ of_each (needed_ranges d) (low_of s) (high_of s) t.records t.children)

-- those on the way to a key from one on
abbrev pub ranges_from : Key → Index → List Extent
ranges_from first v = needed_ranges v.depth (from_key first) v.root
