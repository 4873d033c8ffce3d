-- Where all nodes of a tree end by a place, those on the way to some keys do by their own lengths.
use Rattle.std.proofs.Common.{◌≡◌, ℕ, zero, suc, ◌+◌, ◌*◌, ◌≤◌, ◌==◌, Bool, true, false, cond, List, [], ◌∷◌, ◌++◌, flat_map, length, Option, None, Some, arith}
use Rattle.std.specs.List.{All}
use Rattle.std.proofs.lemmas.List.Elements.{All-append, All-cons, All-head, All-nil, All-tail}
use Rattle.h5w_model.specs.Numbers.{undefined}
use Rattle.h5w_model.specs.Trees.{btin_len, btlf_len, capacity_of, node_size}
use Rattle.h5w_model.specs.declared.cell.Key.{Key}
use Rattle.h5w_space.specs.Space.{extent}
use Rattle.h5w_space.specs.declared.Extent.{Extent}
use Rattle.h5w_space.specs.Ranges.{range_at}
use Rattle.h5w_bt.specs.declared.records.Record.{Record}
use Rattle.h5w_bt_nodes.specs.Nodes.{Tree}
use Rattle.h5w_bt_index.specs.Sound.{IsSound}
use Rattle.h5w_bt_index.specs.Index.{Index, IsIndex}
use Rattle.h5w_bt_open.specs.declared.span.Span.{Span}
use Rattle.h5w_bt_open.specs.Spans.{high_of, low_behind, low_of, rest, span_here}
use Rattle.h5w_bt_open.specs.Opened.{from_key}
use Rattle.h5w_bt_open.specs.Kept.{node_ranges, own_extent, ranges_of}
use Rattle.h5w_bt_open.specs.Needed.{needed_ranges, of_each, ranges_from}
use Rattle.h5w_tree_open_laws.proofs.OpenedStandLemmas.{AllEnd, both_parts}

-- ---- Lengths

-- a node has no more bytes than there are for one
inner_short : (d n : ℕ) → suc d ≤ 3 → n ≤ capacity_of (suc d) → btin_len n (suc d) ≤ node_size
inner_short zero n deep few = omega (arith, few)
inner_short (suc zero) n deep few = omega (arith, few)
inner_short (suc (suc zero)) n deep few = omega (arith, few)
inner_short (suc (suc (suc d))) n deep few = absurd (omega (arith, deep))

shorter_ends : (end place len : ℕ) → len ≤ node_size → AllEnd end (own_extent place) → AllEnd end (range_at place len)
shorter_ends end place len short = go (place == undefined)
  where
    go : (none : Bool) → AllEnd end (cond none [] (extent place node_size ∷ [])) → AllEnd end (cond none [] (extent place len ∷ []))
    go true h = h
    go false h =
        let long : place + node_size ≤ end = All-head (λ (r : Extent). r.at + r.size ≤ end) (extent place node_size) [] h in
        All-cons (λ (r : Extent). r.at + r.size ≤ end) (extent place len) [] (omega (arith, long, short)) (All-nil (λ (r : Extent). r.at + r.size ≤ end))

-- ---- Trees

module _ (end d : ℕ) (under : (s : Option Span) (t : Tree d) → IsSound d (capacity_of d) t → AllEnd end (node_ranges d t) → AllEnd end (needed_ranges d s t)) where
  each_needed : (low high : Option Key) (rs : List Record) (ts : List (Tree d)) → All (IsSound d (capacity_of d)) ts → AllEnd end (flat_map (node_ranges d) ts) → AllEnd end (of_each (needed_ranges d) low high rs ts)
  each_needed low high rs [] sound h = All-nil (λ (r : Extent). r.at + r.size ≤ end)
  each_needed low high rs (t ∷ ts) sound h =
      let p = both_parts (λ (r : Extent). r.at + r.size ≤ end) (node_ranges d t) (flat_map (node_ranges d) ts) h in
      All-append (λ (r : Extent). r.at + r.size ≤ end) (needed_ranges d (span_here low high rs) t) (of_each (needed_ranges d) (low_behind low rs) high (rest rs) ts)
      (under (span_here low high rs) t (All-head (IsSound d (capacity_of d)) t ts sound) p.0)
      (each_needed (low_behind low rs) high (rest rs) ts (All-tail (IsSound d (capacity_of d)) t ts sound) p.1)

needed_under : (end d : ℕ) (s : Option Span) (t : Tree d) → d ≤ 3 → IsSound d (capacity_of d) t → AllEnd end (node_ranges d t) → AllEnd end (needed_ranges d s t)
needed_under end zero None t deep sound h = All-nil (λ (r : Extent). r.at + r.size ≤ end)
needed_under end zero (Some s) t deep sound h = shorter_ends end t.place (btlf_len (length t.records)) (omega (arith, sound)) h
needed_under end (suc d) None t deep sound h = All-nil (λ (r : Extent). r.at + r.size ≤ end)
needed_under end (suc d) (Some s) t deep sound h =
    let p = both_parts (λ (r : Extent). r.at + r.size ≤ end) (own_extent t.place) (flat_map (node_ranges d) t.children) h in
    All-append (λ (r : Extent). r.at + r.size ≤ end) (range_at t.place (btin_len (length t.records) (suc d))) (of_each (needed_ranges d) (Some s.from) s.to t.records t.children)
    (shorter_ends end t.place (btin_len (length t.records) (suc d)) (inner_short d (length t.records) deep sound.few) p.0)
    (each_needed end d (λ q u is all. needed_under end d q u (omega (arith, deep)) is all) (Some s.from) s.to t.records t.children sound.each p.1)

pub needed_ends : (end : ℕ) (first : Key) (v : Index) → IsIndex v → AllEnd end (ranges_of v) → AllEnd end (ranges_from first v)
needed_ends end first v is h = needed_under end v.depth (from_key first) v.root is.shallow is.sound h
