use Rattle.std.proofs.Common.{◌≢◌, ◌⊎◌, IsTrue, map, ◌+◌, ◌<◌, false, List, sym, subst, inl, inr, arith}
use Rattle.std.specs.Prelude.{slice_index_or}
use Rattle.std.proofs.lemmas.Bool.{eqb-true, eq-eqb}
use Rattle.h5w_model.specs.Tiles.{TileFields, Tiled}
use Rattle.h5w_packing.specs.Tiles.{tile_of}
use Rattle.h5w_packing.specs.declared.ranges.Range.{Range}
use Rattle.h5w_packing.proofs.TiledLemmas.{tiling_end, tiling_more, tiling_not, tiling_start}
use Rattle.h5w_packing.proofs.ranges.tiles.Goals as goal
use Rattle.h5w_packing.proofs.ranges.tiles.Goals.{then-range-at-via-then-range-at, then-range-at-via-else-range-at+then-range-end}

abbrev none : Range
none = record { at = 0; len = 0; kind = 0 }

pub loop-range-init : goal.loop-range-init
loop-range-init c = tiling_start (map tile_of c.as_slice-range-items.result.now) c.args.end

pub overflow_sub-end : goal.overflow_sub-end
overflow_sub-end c = c.loop-range.invariant.low

pub returns-then-range-at : goal.returns-then-range-at
returns-then-range-at c =
    let rs = c.as_slice-range-items.result.now in
    let x : Range = slice_index_or rs c.loop-range.range-index none in
    let low = c.loop-range.invariant.low in
    let off : (x.at ≢ c.loop-range.at) ⊎ (c.args.end < c.loop-range.at + x.len) = elim c.then-range-at.branch [
      | then-range-at-via-then-range-at w ↦ inl w.if-range-at.true
      | then-range-at-via-else-range-at+then-range-end w ↦ inr (omega (arith, w.if-range-end.true, low))
    ] in
    let not_tiled = tiling_not (map tile_of rs) rs c.loop-range.range-index c.loop-range.at c.args.end none c.loop-range.invariant c.loop-range-test.true off in
    ((λ e. absurd (never e)), (λ t. absurd (not_tiled (subst (λ (ts : List TileFields). Tiled ts c.args.end) (sym c.as_slice-range-items.ensures) t))))
  where
    never : IsTrue false → ⊥
    never e = cc

pub loop-range-preserved : goal.loop-range-preserved
loop-range-preserved c =
    let rs = c.as_slice-range-items.result.now in
    tiling_more (map tile_of rs) rs c.loop-range.range-index c.loop-range.at c.args.end none c.loop-range.invariant c.loop-range-test.true c.if-range-at.false (omega (arith, c.if-range-end.false, c.loop-range.invariant.low))

pub returns : goal.returns
returns c =
    let rs = c.as_slice-range-items.result.now in
    let both = tiling_end (map tile_of rs) rs c.loop-range.range-index c.loop-range.at c.args.end c.loop-range.invariant c.loop-range-test.false in (
      (λ e. subst (λ (ts : List TileFields). Tiled ts c.args.end) c.as_slice-range-items.ensures (both.0 (eqb-true c.loop-range.at c.args.end e))),
      (λ t. eq-eqb c.loop-range.at c.args.end (both.1 (subst (λ (ts : List TileFields). Tiled ts c.args.end) (sym c.as_slice-range-items.ensures) t))),
    )
