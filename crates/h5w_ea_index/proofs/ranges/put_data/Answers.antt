use Rattle.std.proofs.Common.{◌≡◌, ◌++◌, subst, arith}
use Rattle.h5w_model.specs.Arrays.{super_block_of}
use Rattle.h5w_array_laws.specs.Parts.{data_of}
use Rattle.h5w_ea_index.specs.Ranges.{each_below, range_from}
use Rattle.h5w_ea_index.proofs.RangeLemmas.{next_below, none_below}
use Rattle.h5w_ea_index.proofs.ranges.put_data.Goals as goal

pub loop-block-init : goal.loop-block-init
loop-block-init c = none_below (λ b. range_from c.args.first c.args.cache.now (data_of c.args.sblock b)) c.args.ranges.now.items

pub loop-block-preserved : goal.loop-block-preserved
loop-block-preserved c = next_below (λ b. range_from c.args.first c.args.cache.now (data_of c.args.sblock b)) c.loop-block.block c.args.ranges.now.items c.loop-block.ranges.items c.put_part.new.ranges.items c.loop-block.invariant c.in_ok-put_part.ensures

pub returns : goal.returns
returns c =
    let blocks = c.super_block-blocks.ensures.blocks in
    let e : c.loop-block.block ≡ (super_block_of c.args.sblock).blocks = omega arith in
    subst (λ n. c.loop-block.ranges.items ≡ c.args.ranges.now.items ++ each_below (λ b. range_from c.args.first c.args.cache.now (data_of c.args.sblock b)) n) e c.loop-block.invariant
