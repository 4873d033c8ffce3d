use Rattle.std.proofs.Common.{◌∙◌}
use Rattle.h5w_array_laws.specs.Parts.{data_of}
use Rattle.h5w_ea_index.specs.Steps.{OnWay}
use Rattle.h5w_ea_index.proofs.TouchLemmas.{touch_onward}
use Rattle.h5w_ea_index.proofs.StepLemmas.{held_onward}
use Rattle.h5w_ea_index.proofs.way.hold_way.Goals as goal

pub returns-clause-held : goal.returns-clause-held
returns-clause-held c = held_onward c.args.cache.now c.hold_above.new.cache c.hold_data.new.cache c.hold_above.ensures.held c.hold_data.ensures.held

pub returns-clause-numbered : goal.returns-clause-numbered
returns-clause-numbered c = λ h. c.hold_data.ensures.numbered (c.hold_above.ensures.numbered h)

pub returns-clause-way : goal.returns-clause-way
returns-clause-way c = touch_onward (OnWay (data_of c.args.sblock c.args.block)) c.args.cache.now c.hold_above.new.cache c.hold_data.new.cache c.hold_above.ensures.way c.hold_data.ensures.way

pub returns-clause-reach : goal.returns-clause-reach
returns-clause-reach c = c.hold_data.ensures.reach ∙ c.hold_above.ensures.reach
