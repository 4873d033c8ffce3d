use Rattle.std.proofs.Common.{◌∙◌, ap, length}
use Rattle.h5w_cache.specs.Stores.{Store}
use Rattle.h5w_array_laws.specs.Parts.{secondary_of}
use Rattle.h5w_ea_index.proofs.StepLemmas.{held_onward}
use Rattle.h5w_ea_index.specs.Steps.{OnWay}
use Rattle.h5w_ea_index.proofs.TouchLemmas.{header_way, touch_onward}
use Rattle.h5w_ea_index.proofs.WayLemmas.{Making, made_from, clean_at, making_array, making_held, making_changed, making_top, making_way, secondary_numbered, secondary_reach}
use Rattle.h5w_ea_index.proofs.way.make_secondary.Goals as goal

pub add-requires-clause-clean : goal.add-requires-clause-clean
add-requires-clause-clean c = clean_at c.args.cache.now (secondary_of c.args.sblock) c.secondary_number.result c.requires.array c.requires.none c.secondary_number.ensures.value

pub count_secondary-requires-clause-array : goal.count_secondary-requires-clause-array
count_secondary-requires-clause-array c =
    let v : Store = c.args.cache.now in
    let u : Store = c.add.new.cache in
    let m : Making v u (secondary_of c.args.sblock) c.in_ok-block.block = made_from v u (secondary_of c.args.sblock) c.in_ok-block.block c.secondary_number.result c.place.result c.requires.part c.requires.array c.requires.none c.requires.changed c.in_ok-block.ensures c.place.ensures c.secondary_number.ensures.value c.add.ensures in
    making_array v u (secondary_of c.args.sblock) c.in_ok-block.block m

pub count_secondary-requires-clause-changed : goal.count_secondary-requires-clause-changed
count_secondary-requires-clause-changed c =
    let v : Store = c.args.cache.now in
    let u : Store = c.add.new.cache in
    let m : Making v u (secondary_of c.args.sblock) c.in_ok-block.block = made_from v u (secondary_of c.args.sblock) c.in_ok-block.block c.secondary_number.result c.place.result c.requires.part c.requires.array c.requires.none c.requires.changed c.in_ok-block.ensures c.place.ensures c.secondary_number.ensures.value c.add.ensures in
    making_top v u (secondary_of c.args.sblock) c.in_ok-block.block m

pub returns-clause-numbered : goal.returns-clause-numbered
returns-clause-numbered c = λ h.
    let v : Store = c.args.cache.now in
    let u : Store = c.add.new.cache in
    let m : Making v u (secondary_of c.args.sblock) c.in_ok-block.block = made_from v u (secondary_of c.args.sblock) c.in_ok-block.block c.secondary_number.result c.place.result c.requires.part c.requires.array c.requires.none c.requires.changed c.in_ok-block.ensures c.place.ensures c.secondary_number.ensures.value c.add.ensures in
    secondary_numbered v u c.count_secondary.new.cache c.args.sblock (length c.bytes.result.now) c.in_ok-block.block m h (ap length c.bytes.ensures.value ∙ c.in_ok-block.ensures.block.len) c.count_secondary.ensures

pub returns-clause-held : goal.returns-clause-held
returns-clause-held c =
    let v : Store = c.args.cache.now in
    let u : Store = c.add.new.cache in
    let m : Making v u (secondary_of c.args.sblock) c.in_ok-block.block = made_from v u (secondary_of c.args.sblock) c.in_ok-block.block c.secondary_number.result c.place.result c.requires.part c.requires.array c.requires.none c.requires.changed c.in_ok-block.ensures c.place.ensures c.secondary_number.ensures.value c.add.ensures in
    held_onward v u c.count_secondary.new.cache (making_held v u (secondary_of c.args.sblock) c.in_ok-block.block m) c.count_secondary.ensures.held

pub returns-clause-reach : goal.returns-clause-reach
returns-clause-reach c =
    let v : Store = c.args.cache.now in
    let u : Store = c.add.new.cache in
    let m : Making v u (secondary_of c.args.sblock) c.in_ok-block.block = made_from v u (secondary_of c.args.sblock) c.in_ok-block.block c.secondary_number.result c.place.result c.requires.part c.requires.array c.requires.none c.requires.changed c.in_ok-block.ensures c.place.ensures c.secondary_number.ensures.value c.add.ensures in
    secondary_reach v u c.count_secondary.new.cache (secondary_of c.args.sblock) c.in_ok-block.block (length c.bytes.result.now) m c.count_secondary.ensures

pub returns-clause-changed : goal.returns-clause-changed
returns-clause-changed c =
    let v : Store = c.args.cache.now in
    let u : Store = c.add.new.cache in
    let m : Making v u (secondary_of c.args.sblock) c.in_ok-block.block = made_from v u (secondary_of c.args.sblock) c.in_ok-block.block c.secondary_number.result c.place.result c.requires.part c.requires.array c.requires.none c.requires.changed c.in_ok-block.ensures c.place.ensures c.secondary_number.ensures.value c.add.ensures in
    c.count_secondary.ensures.held.marks _ (making_changed v u (secondary_of c.args.sblock) c.in_ok-block.block m)

pub returns-clause-way : goal.returns-clause-way
returns-clause-way c =
    let v : Store = c.args.cache.now in
    let u : Store = c.add.new.cache in
    let m : Making v u (secondary_of c.args.sblock) c.in_ok-block.block = made_from v u (secondary_of c.args.sblock) c.in_ok-block.block c.secondary_number.result c.place.result c.requires.part c.requires.array c.requires.none c.requires.changed c.in_ok-block.ensures c.place.ensures c.secondary_number.ensures.value c.add.ensures in
    touch_onward (OnWay (secondary_of c.args.sblock)) v u c.count_secondary.new.cache (making_way v u (secondary_of c.args.sblock) c.in_ok-block.block m) (header_way (secondary_of c.args.sblock) u c.count_secondary.new.cache c.count_secondary.ensures.others)
