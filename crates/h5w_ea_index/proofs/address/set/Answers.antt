use Rattle.std.proofs.Common.{◌∙◌, ap}
use Rattle.h5w_cache.specs.Stores.{Store, is_changed}
use Rattle.h5w_array_laws.specs.Parts.{Part, number_of}
use Rattle.h5w_ea_index.specs.Fresh.{part_of}
use Rattle.h5w_ea_index.proofs.WayLemmas.{Setting, holder_part, read_fits, setting_from, setting_array, setting_set, setting_top, setting_numbered, setting_reach, setting_way, set_then}
use Rattle.h5w_ea_index.proofs.address.set.Goals as goal

pub holder_number-requires : goal.holder_number-requires
holder_number-requires c = holder_part c.args.i (part_of c.locate-slot.result.holder) c.locate-slot.ensures.holder c.requires.below

pub set_number-requires-clause-changed : goal.set_number-requires-clause-changed
set_number-requires-clause-changed c = ap (is_changed c.args.cache.now) (c.holder_number.ensures ∙ ap number_of c.locate-slot.ensures.holder) ∙ c.requires.changed

pub set_number-requires-clause-inside : goal.set_number-requires-clause-inside
set_number-requires-clause-inside c = read_fits c.args.cache.now c.args.i c.holder_number.result c.locate-slot.result.offset (part_of c.locate-slot.result.holder) c.requires.below c.requires.array c.locate-slot.ensures.holder c.holder_number.ensures c.locate-slot.ensures.offset

pub reach-requires-clause-array : goal.reach-requires-clause-array
reach-requires-clause-array c =
    let v : Store = c.args.cache.now in
    let u : Store = c.set_number.new.self in
    let k : Part = part_of c.locate-slot.result.holder in
    let s : Setting v u c.args.i c.args.address = setting_from v u c.args.i c.args.address c.holder_number.result c.locate-slot.result.offset k c.requires.below c.ranges.address.fits c.requires.array c.requires.changed
    c.locate-slot.ensures.holder c.holder_number.ensures c.locate-slot.ensures.offset c.set_number.ensures in
    setting_array v u c.args.i c.args.address s

pub reach-requires-clause-changed : goal.reach-requires-clause-changed
reach-requires-clause-changed c =
    let v : Store = c.args.cache.now in
    let u : Store = c.set_number.new.self in
    let k : Part = part_of c.locate-slot.result.holder in
    let s : Setting v u c.args.i c.args.address = setting_from v u c.args.i c.args.address c.holder_number.result c.locate-slot.result.offset k c.requires.below c.ranges.address.fits c.requires.array c.requires.changed
    c.locate-slot.ensures.holder c.holder_number.ensures c.locate-slot.ensures.offset c.set_number.ensures in
    setting_top v u c.args.i c.args.address s

pub returns-clause-numbered : goal.returns-clause-numbered
returns-clause-numbered c = λ h.
    let v : Store = c.args.cache.now in
    let u : Store = c.set_number.new.self in
    let k : Part = part_of c.locate-slot.result.holder in
    let s : Setting v u c.args.i c.args.address = setting_from v u c.args.i c.args.address c.holder_number.result c.locate-slot.result.offset k c.requires.below c.ranges.address.fits c.requires.array c.requires.changed
    c.locate-slot.ensures.holder c.holder_number.ensures c.locate-slot.ensures.offset c.set_number.ensures in
    setting_numbered v u c.reach.new.cache c.args.i c.args.address s h c.requires.defined c.reach.ensures

pub returns-clause-set : goal.returns-clause-set
returns-clause-set c =
    let v : Store = c.args.cache.now in
    let u : Store = c.set_number.new.self in
    let k : Part = part_of c.locate-slot.result.holder in
    let s : Setting v u c.args.i c.args.address = setting_from v u c.args.i c.args.address c.holder_number.result c.locate-slot.result.offset k c.requires.below c.ranges.address.fits c.requires.array c.requires.changed
    c.locate-slot.ensures.holder c.holder_number.ensures c.locate-slot.ensures.offset c.set_number.ensures in
    set_then c.args.i c.args.address v u c.reach.new.cache (setting_set v u c.args.i c.args.address s) c.reach.ensures.held

pub returns-clause-way : goal.returns-clause-way
returns-clause-way c =
    let v : Store = c.args.cache.now in
    let u : Store = c.set_number.new.self in
    let k : Part = part_of c.locate-slot.result.holder in
    let s : Setting v u c.args.i c.args.address = setting_from v u c.args.i c.args.address c.holder_number.result c.locate-slot.result.offset k c.requires.below c.ranges.address.fits c.requires.array c.requires.changed
    c.locate-slot.ensures.holder c.holder_number.ensures c.locate-slot.ensures.offset c.set_number.ensures in
    setting_way v u c.reach.new.cache c.args.i c.args.address s c.reach.ensures.others

pub returns-clause-reach : goal.returns-clause-reach
returns-clause-reach c =
    let v : Store = c.args.cache.now in
    let u : Store = c.set_number.new.self in
    let k : Part = part_of c.locate-slot.result.holder in
    let s : Setting v u c.args.i c.args.address = setting_from v u c.args.i c.args.address c.holder_number.result c.locate-slot.result.offset k c.requires.below c.ranges.address.fits c.requires.array c.requires.changed
    c.locate-slot.ensures.holder c.holder_number.ensures c.locate-slot.ensures.offset c.set_number.ensures in
    setting_reach v u c.reach.new.cache c.args.i c.args.address s c.reach.ensures
