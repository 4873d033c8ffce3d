use Rattle.std.proofs.Common.{◌++◌, ◌∙◌, List, ap}
use Rattle.h5w_space.specs.declared.Extent.{Extent}
use Rattle.h5w_array_laws.specs.Parts.{header, index_block}
use Rattle.h5w_ea_index.specs.Ranges.{range_of_part, ranges_of_super_block}
use Rattle.h5w_ea_index.proofs.RangeLemmas.{next_below, none_below}
use Rattle.h5w_ea_index.proofs.ranges.ranges.Goals as goal

pub loop-sblock-init : goal.loop-sblock-init
loop-sblock-init c =
    let top : List Extent = range_of_part c.args.cache.now header in
    let second : List Extent = range_of_part c.args.cache.now index_block in
    c.in_ok-put_range-2.ensures
    ∙ ap (λ (x : List Extent). x ++ second) (c.in_ok-put_range.ensures ∙ ap (λ (x : List Extent). x ++ top) c.new-ranges.ensures.items)
    ∙ none_below (ranges_of_super_block c.args.first c.args.cache.now) (top ++ second)

pub loop-sblock-preserved : goal.loop-sblock-preserved
loop-sblock-preserved c =
    let start : List Extent = range_of_part c.args.cache.now header ++ range_of_part c.args.cache.now index_block in
    next_below (ranges_of_super_block c.args.first c.args.cache.now) c.loop-sblock.sblock start c.loop-sblock.ranges.items c.put_super_block.new.ranges.items c.loop-sblock.invariant c.in_ok-put_super_block.ensures
