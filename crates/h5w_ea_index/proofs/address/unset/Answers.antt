use Rattle.std.proofs.Common.{◌∙◌, ap, arith}
use Rattle.h5w_model.specs.Numbers.{undefined}
use Rattle.h5w_cache.specs.Stores.{Store, is_changed}
use Rattle.h5w_array_laws.specs.Parts.{Part, number_of}
use Rattle.h5w_ea_index.specs.Fresh.{part_of}
use Rattle.h5w_ea_index.proofs.UnsetLemmas.{max_below, setting_unset, top_number, unset_numbered, unset_reach, unset_then}
use Rattle.h5w_ea_index.proofs.WayLemmas.{Setting, holder_part, read_fits, setting_from, setting_array, setting_top, setting_way}
use Rattle.h5w_ea_index.proofs.address.unset.Goals as goal

pub holder_number-requires : goal.holder_number-requires
holder_number-requires c = holder_part c.args.i (part_of c.locate-slot.result.holder) c.locate-slot.ensures.holder c.requires.below

pub set_number-requires-clause-changed : goal.set_number-requires-clause-changed
set_number-requires-clause-changed c = ap (is_changed c.args.cache.now) (c.holder_number.ensures ∙ ap number_of c.locate-slot.ensures.holder) ∙ c.requires.changed

pub set_number-requires-clause-inside : goal.set_number-requires-clause-inside
set_number-requires-clause-inside c = read_fits c.args.cache.now c.args.i c.holder_number.result c.locate-slot.result.offset (part_of c.locate-slot.result.holder) c.requires.below c.requires.array c.locate-slot.ensures.holder c.holder_number.ensures c.locate-slot.ensures.offset

pub max_index_set-requires : goal.max_index_set-requires
max_index_set-requires c =
    let v : Store = c.args.cache.now in
    let u : Store = c.set_number.new.self in
    let k : Part = part_of c.locate-slot.result.holder in
    let s : Setting v u c.args.i undefined = setting_from v u c.args.i undefined c.holder_number.result c.locate-slot.result.offset k c.requires.below (omega arith) c.requires.array c.requires.changed
    c.locate-slot.ensures.holder c.holder_number.ensures c.locate-slot.ensures.offset c.set_number.ensures in
    record { array = setting_array v u c.args.i undefined s }

pub last_set-count-requires-clause-array : goal.last_set-count-requires-clause-array
last_set-count-requires-clause-array c =
    let v : Store = c.args.cache.now in
    let u : Store = c.set_number.new.self in
    let k : Part = part_of c.locate-slot.result.holder in
    let s : Setting v u c.args.i undefined = setting_from v u c.args.i undefined c.holder_number.result c.locate-slot.result.offset k c.requires.below (omega arith) c.requires.array c.requires.changed
    c.locate-slot.ensures.holder c.holder_number.ensures c.locate-slot.ensures.offset c.set_number.ensures in
    setting_array v u c.args.i undefined s

pub set_max_index-requires-clause-array : goal.set_max_index-requires-clause-array
set_max_index-requires-clause-array c =
    let v : Store = c.args.cache.now in
    let u : Store = c.set_number.new.self in
    let k : Part = part_of c.locate-slot.result.holder in
    let s : Setting v u c.args.i undefined = setting_from v u c.args.i undefined c.holder_number.result c.locate-slot.result.offset k c.requires.below (omega arith) c.requires.array c.requires.changed
    c.locate-slot.ensures.holder c.holder_number.ensures c.locate-slot.ensures.offset c.set_number.ensures in
    setting_array v u c.args.i undefined s

pub set_max_index-requires-clause-changed : goal.set_max_index-requires-clause-changed
set_max_index-requires-clause-changed c =
    let v : Store = c.args.cache.now in
    let u : Store = c.set_number.new.self in
    let k : Part = part_of c.locate-slot.result.holder in
    let s : Setting v u c.args.i undefined = setting_from v u c.args.i undefined c.holder_number.result c.locate-slot.result.offset k c.requires.below (omega arith) c.requires.array c.requires.changed
    c.locate-slot.ensures.holder c.holder_number.ensures c.locate-slot.ensures.offset c.set_number.ensures in
    setting_top v u c.args.i undefined s

pub returns-clause-numbered : goal.returns-clause-numbered
returns-clause-numbered c = λ h.
    let v : Store = c.args.cache.now in
    let u : Store = c.set_number.new.self in
    let k : Part = part_of c.locate-slot.result.holder in
    let s : Setting v u c.args.i undefined = setting_from v u c.args.i undefined c.holder_number.result c.locate-slot.result.offset k c.requires.below (omega arith) c.requires.array c.requires.changed
    c.locate-slot.ensures.holder c.holder_number.ensures c.locate-slot.ensures.offset c.set_number.ensures in
    unset_numbered v u c.set_max_index.new.cache c.args.i c.last_set-count.result s h
    (λ j from below. c.last_set-count.ensures.above j from (let most = max_below v h.max h.greatest in let top = top_number v u c.args.i undefined s h in let is = c.max_index_set.ensures in let m = c.min.ensures in omega arith))
    c.last_set-count.ensures.least c.set_max_index.ensures

pub returns-clause-unset : goal.returns-clause-unset
returns-clause-unset c =
    let v : Store = c.args.cache.now in
    let u : Store = c.set_number.new.self in
    let k : Part = part_of c.locate-slot.result.holder in
    let s : Setting v u c.args.i undefined = setting_from v u c.args.i undefined c.holder_number.result c.locate-slot.result.offset k c.requires.below (omega arith) c.requires.array c.requires.changed
    c.locate-slot.ensures.holder c.holder_number.ensures c.locate-slot.ensures.offset c.set_number.ensures in
    unset_then c.args.i v u c.set_max_index.new.cache (setting_unset v u c.args.i s) c.set_max_index.ensures.held

pub returns-clause-way : goal.returns-clause-way
returns-clause-way c =
    let v : Store = c.args.cache.now in
    let u : Store = c.set_number.new.self in
    let k : Part = part_of c.locate-slot.result.holder in
    let s : Setting v u c.args.i undefined = setting_from v u c.args.i undefined c.holder_number.result c.locate-slot.result.offset k c.requires.below (omega arith) c.requires.array c.requires.changed
    c.locate-slot.ensures.holder c.holder_number.ensures c.locate-slot.ensures.offset c.set_number.ensures in
    setting_way v u c.set_max_index.new.cache c.args.i undefined s c.set_max_index.ensures.others

pub returns-clause-reach : goal.returns-clause-reach
returns-clause-reach c =
    let v : Store = c.args.cache.now in
    let u : Store = c.set_number.new.self in
    let k : Part = part_of c.locate-slot.result.holder in
    let s : Setting v u c.args.i undefined = setting_from v u c.args.i undefined c.holder_number.result c.locate-slot.result.offset k c.requires.below (omega arith) c.requires.array c.requires.changed
    c.locate-slot.ensures.holder c.holder_number.ensures c.locate-slot.ensures.offset c.set_number.ensures in
    unset_reach v u c.set_max_index.new.cache c.args.i c.last_set-count.result s
    (λ j from below low. c.last_set-count.ensures.above j from (let is = c.max_index_set.ensures in let m = c.min.ensures in omega arith)) c.set_max_index.ensures
