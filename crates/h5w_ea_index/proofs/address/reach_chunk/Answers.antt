use Rattle.std.proofs.Common.{◌+◌}
use Rattle.h5w_array_laws.specs.Parts.{holder, index_block}
use Rattle.h5w_ea_index.specs.Steps.{OnWay}
use Rattle.h5w_ea_index.proofs.StepLemmas.{held_onward}
use Rattle.h5w_ea_index.proofs.TouchLemmas.{header_way, in_place_way, touch_onward}
use Rattle.h5w_ea_index.proofs.WayLemmas.{raised_reach}
use Rattle.h5w_ea_index.proofs.address.reach_chunk.Goals as goal

pub reach-requires-clause-changed : goal.reach-requires-clause-changed
reach-requires-clause-changed c = c.hold_in_place.ensures.array.marked index_block tt c.hold_in_place.ensures.changed

pub returns-clause-held : goal.returns-clause-held
returns-clause-held c = held_onward c.args.cache.now c.hold_in_place.new.cache c.reach.new.cache c.hold_in_place.ensures.held c.reach.ensures.held

pub returns-clause-reach : goal.returns-clause-reach
returns-clause-reach c = raised_reach c.args.cache.now c.hold_in_place.new.cache c.reach.new.cache (c.args.i + 1) c.hold_in_place.ensures.reach c.reach.ensures

pub returns-clause-way : goal.returns-clause-way
returns-clause-way c =
    touch_onward (OnWay (holder c.args.i)) c.args.cache.now c.hold_in_place.new.cache c.reach.new.cache (in_place_way (holder c.args.i) c.args.cache.now c.hold_in_place.new.cache c.hold_in_place.ensures.way)
    (header_way (holder c.args.i) c.hold_in_place.new.cache c.reach.new.cache c.reach.ensures.others)
