use Rattle.std.proofs.Common.{◌≡◌, ap, ◌∙◌, sym, subst, true}
use Rattle.std.specs.Prelude.{OnOk}
use Rattle.h5w_cache.specs.Stores.{is_changed}
use Rattle.h5w_array_laws.specs.Parts.{data_of, number_of}
use Rattle.h5w_ea_index.specs.Steps.{OnWay}
use Rattle.h5w_ea_index.proofs.TouchLemmas.{in_place_way, secondary_way, touch_onward}
use Rattle.h5w_ea_index.proofs.StepLemmas.{held_onward}
use Rattle.h5w_ea_index.proofs.WayLemmas.{first_parent, second_parent}
use Rattle.h5w_ea_index.proofs.way.hold_above.Goals as goal

pub returns-then-sblock-lt4-clause-changed : goal.returns-then-sblock-lt4-clause-changed
returns-then-sblock-lt4-clause-changed c = ap (λ k. is_changed c.hold_in_place.new.cache (number_of k)) (first_parent c.args.sblock c.args.block c.if-sblock-lt4.true) ∙ c.hold_in_place.ensures.changed

pub returns-clause-held : goal.returns-clause-held
returns-clause-held c = held_onward c.args.cache.now c.hold_in_place.new.cache c.hold_secondary.new.cache c.hold_in_place.ensures.held c.hold_secondary.ensures.held

pub returns-clause-numbered : goal.returns-clause-numbered
returns-clause-numbered c = λ h. c.hold_secondary.ensures.numbered (c.hold_in_place.ensures.numbered h)

pub returns-clause-changed : goal.returns-clause-changed
returns-clause-changed c = subst (λ k. OnOk c.hold_secondary.result (is_changed c.hold_secondary.new.cache (number_of k) ≡ true)) (sym (second_parent c.args.sblock c.args.block c.if-sblock-lt4.false)) c.hold_secondary.ensures.changed

pub returns-then-sblock-lt4-clause-way : goal.returns-then-sblock-lt4-clause-way
returns-then-sblock-lt4-clause-way c = in_place_way (data_of c.args.sblock c.args.block) c.args.cache.now c.hold_in_place.new.cache c.hold_in_place.ensures.way

pub returns-clause-way : goal.returns-clause-way
returns-clause-way c =
    touch_onward (OnWay (data_of c.args.sblock c.args.block)) c.args.cache.now c.hold_in_place.new.cache c.hold_secondary.new.cache
    (in_place_way (data_of c.args.sblock c.args.block) c.args.cache.now c.hold_in_place.new.cache c.hold_in_place.ensures.way)
    (secondary_way c.args.sblock (data_of c.args.sblock c.args.block) c.hold_in_place.new.cache c.hold_secondary.new.cache (second_parent c.args.sblock c.args.block c.if-sblock-lt4.false) c.hold_secondary.ensures.way)

pub returns-clause-reach : goal.returns-clause-reach
returns-clause-reach c = c.hold_secondary.ensures.reach ∙ c.hold_in_place.ensures.reach
