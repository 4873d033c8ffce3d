-- What a visit of a tree's nodes gives, behind other ranges and keys.
use Rattle.std.specs.Prelude.{◌≡◌, ℕ, ◌+◌, ◌-◌, ◌≤◌, Bool, true, not, ◌&&◌, ◌||◌, ◌==◌, List, [], ◌∷◌, ◌++◌, length, map, if◌then◌else◌, Result, Ok, Err}
use Rattle.std.specs.List.{All}
use Rattle.h5w_model.specs.Trees.{RecordFields, ChildFields, BtinFields, BthdFields, bthd_at, btlf_at, btin_at, capacity_of}
use Rattle.h5w_model.specs.Datasets.{then_also}
use Rattle.h5w_model.specs.Findings.{Used, Finding, found, Under, chunk_ranges, keys_of, bad_index_header, bad_node, wrong_total, keys_not_rising}
use Rattle.h5w_check.specs.Ranges.{after, put_after}
use Rattle.h5w_check.specs.Blocks.{decoded}
use Rattle.h5w_check.specs.Spans.{span_of, joined_spans}
use Rattle.h5w_check.specs.declared.span.Span.{Span}

-- ranges, and what is known of keys
abbrev pub Spanned : Type 0
Spanned = List Used × Span

abbrev pub under_after : List Used → Result Under Finding → Result Spanned Finding
under_after old given = then_also given (λ u. Ok (old ++ u.ranges, span_of u.keys))

abbrev pub children_after : Bool → List Used → Span → Result (Bool × Under) Finding → Result (Bool × Spanned) Finding
children_after totals old span given = then_also given (λ u. Ok (totals && u.0, (old ++ u.1.ranges, joined_spans span (span_of u.1.keys))))

-- the end of a node, behind its children: their totals, and then the keys
abbrev pub ended : ℕ → Bool → List Used → Span → Result Spanned Finding
ended at totals ranges span = if not totals then Err (found wrong_total at) else if not span.rising then Err (found keys_not_rising at) else Ok (ranges, span)

-- the ranges, where they still count: not where keys have fallen
abbrev pub counting : Bool → List Used → List Used
counting fallen us = if fallen then [] else us

abbrev pub faded : Bool → Result Spanned Finding → Result Spanned Finding
faded fallen given = then_also given (λ x. Ok (counting fallen x.0, x.1))

-- the same with totals: the ranges do not count either where these keys do not rise
abbrev pub all_faded : Bool → Result (Bool × Spanned) Finding → Result (Bool × Spanned) Finding
all_faded fallen given = then_also given (λ y. Ok (y.0, (counting (not y.1.1.rising || fallen) y.1.0, y.1.1)))

-- records behind other ranges and keys
abbrev pub records_after : ℕ → ℕ → List Used → Span → List RecordFields → Result Spanned Finding
records_after end bytes old span rs = then_also (after old (chunk_ranges end bytes (map (λ r. r.address) rs))) (λ mid. Ok (mid, joined_spans span (span_of (keys_of rs))))

-- the first of some records, if there is one
abbrev pub record_after : ℕ → ℕ → List RecordFields → List Used → Span → Result Spanned Finding
record_after end bytes [] old span = Ok (old, span)
record_after end bytes (r ∷ rs) old span = then_also (put_after end bytes r.address old) (λ mid. Ok (mid, joined_spans span (span_of (r.key ∷ []))))

-- a child under which this stands, and the record behind it
abbrev pub add_found : ℕ → ℕ → Bool → Span → ℕ → Span → List RecordFields → List Used → Result (Bool × Spanned) Finding
add_found end bytes totals span total child rs old = then_also (record_after end bytes rs old (joined_spans span child)) (λ x. Ok (totals && (total == child.count), x))

abbrev pub leaf_found : ℕ → ℕ → ℕ → ℕ → List ℕ → List Used → Result Spanned Finding
leaf_found end bytes at n b old =
    elim (btlf_at b at n) [ Ok rs ↦ then_also (records_after end bytes old (span_of []) rs) (λ x. ended at true x.0 x.1) | Err f ↦ Err (found bad_node at) ]

abbrev pub inner_found : ℕ → ℕ → ℕ → List ℕ → Result BtinFields Finding
inner_found at n depth b = decoded bad_node at (λ t. t) (btin_at b at n depth)

abbrev pub root_found : ℕ → List ℕ → Result BthdFields Finding
root_found at b = decoded bad_index_header at (λ t. t) (bthd_at b at)

-- an inner node has a child more than records, and each child no more records than it has room for
pub record IsInner (depth : ℕ) (t : BtinFields) : Type 0 where
  pub count : length t.children ≡ length t.records + 1
  pub few : All (λ (c : ChildFields). c.records ≤ capacity_of (depth - 1)) t.children
