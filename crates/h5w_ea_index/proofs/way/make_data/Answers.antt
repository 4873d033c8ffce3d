use Rattle.std.proofs.Common.{◌∙◌, ap, length}
use Rattle.h5w_cache.specs.Stores.{Store}
use Rattle.h5w_array_laws.specs.Parts.{data_of}
use Rattle.h5w_ea_index.proofs.StepLemmas.{held_onward}
use Rattle.h5w_ea_index.specs.Steps.{OnWay}
use Rattle.h5w_ea_index.proofs.TouchLemmas.{header_way, touch_onward}
use Rattle.h5w_ea_index.proofs.WayLemmas.{Making, made_from, clean_at, making_array, making_held, making_changed, making_top, making_way, data_numbered, data_reach}
use Rattle.h5w_ea_index.proofs.way.make_data.Goals as goal

pub add-requires-clause-clean : goal.add-requires-clause-clean
add-requires-clause-clean c = clean_at c.args.cache.now (data_of c.args.sblock c.args.block) c.data_number.result c.requires.array c.requires.none c.data_number.ensures.value

pub count_data-requires-clause-array : goal.count_data-requires-clause-array
count_data-requires-clause-array c =
    let v : Store = c.args.cache.now in
    let u : Store = c.add.new.cache in
    let m : Making v u (data_of c.args.sblock c.args.block) c.in_ok-made.made = made_from v u (data_of c.args.sblock c.args.block) c.in_ok-made.made c.data_number.result c.place.result c.requires.part c.requires.array c.requires.none c.requires.changed c.in_ok-made.ensures c.place.ensures c.data_number.ensures.value c.add.ensures in
    making_array v u (data_of c.args.sblock c.args.block) c.in_ok-made.made m

pub count_data-requires-clause-changed : goal.count_data-requires-clause-changed
count_data-requires-clause-changed c =
    let v : Store = c.args.cache.now in
    let u : Store = c.add.new.cache in
    let m : Making v u (data_of c.args.sblock c.args.block) c.in_ok-made.made = made_from v u (data_of c.args.sblock c.args.block) c.in_ok-made.made c.data_number.result c.place.result c.requires.part c.requires.array c.requires.none c.requires.changed c.in_ok-made.ensures c.place.ensures c.data_number.ensures.value c.add.ensures in
    making_top v u (data_of c.args.sblock c.args.block) c.in_ok-made.made m

pub returns-clause-numbered : goal.returns-clause-numbered
returns-clause-numbered c = λ h.
    let v : Store = c.args.cache.now in
    let u : Store = c.add.new.cache in
    let m : Making v u (data_of c.args.sblock c.args.block) c.in_ok-made.made = made_from v u (data_of c.args.sblock c.args.block) c.in_ok-made.made c.data_number.result c.place.result c.requires.part c.requires.array c.requires.none c.requires.changed c.in_ok-made.ensures c.place.ensures c.data_number.ensures.value c.add.ensures in
    data_numbered v u c.count_data.new.cache c.args.sblock c.args.block (length c.bytes.result.now) c.super_block-slots.result.1 c.in_ok-made.made m h (ap length c.bytes.ensures.value ∙ c.in_ok-made.ensures.block.len) c.super_block-slots.ensures.slots c.count_data.ensures

pub returns-clause-held : goal.returns-clause-held
returns-clause-held c =
    let v : Store = c.args.cache.now in
    let u : Store = c.add.new.cache in
    let m : Making v u (data_of c.args.sblock c.args.block) c.in_ok-made.made = made_from v u (data_of c.args.sblock c.args.block) c.in_ok-made.made c.data_number.result c.place.result c.requires.part c.requires.array c.requires.none c.requires.changed c.in_ok-made.ensures c.place.ensures c.data_number.ensures.value c.add.ensures in
    held_onward v u c.count_data.new.cache (making_held v u (data_of c.args.sblock c.args.block) c.in_ok-made.made m) c.count_data.ensures.held

pub returns-clause-reach : goal.returns-clause-reach
returns-clause-reach c =
    let v : Store = c.args.cache.now in
    let u : Store = c.add.new.cache in
    let m : Making v u (data_of c.args.sblock c.args.block) c.in_ok-made.made = made_from v u (data_of c.args.sblock c.args.block) c.in_ok-made.made c.data_number.result c.place.result c.requires.part c.requires.array c.requires.none c.requires.changed c.in_ok-made.ensures c.place.ensures c.data_number.ensures.value c.add.ensures in
    data_reach v u c.count_data.new.cache (data_of c.args.sblock c.args.block) c.in_ok-made.made (length c.bytes.result.now) c.super_block-slots.result.1 m c.count_data.ensures

pub returns-clause-changed : goal.returns-clause-changed
returns-clause-changed c =
    let v : Store = c.args.cache.now in
    let u : Store = c.add.new.cache in
    let m : Making v u (data_of c.args.sblock c.args.block) c.in_ok-made.made = made_from v u (data_of c.args.sblock c.args.block) c.in_ok-made.made c.data_number.result c.place.result c.requires.part c.requires.array c.requires.none c.requires.changed c.in_ok-made.ensures c.place.ensures c.data_number.ensures.value c.add.ensures in
    c.count_data.ensures.held.marks _ (making_changed v u (data_of c.args.sblock c.args.block) c.in_ok-made.made m)

pub returns-clause-way : goal.returns-clause-way
returns-clause-way c =
    let v : Store = c.args.cache.now in
    let u : Store = c.add.new.cache in
    let m : Making v u (data_of c.args.sblock c.args.block) c.in_ok-made.made = made_from v u (data_of c.args.sblock c.args.block) c.in_ok-made.made c.data_number.result c.place.result c.requires.part c.requires.array c.requires.none c.requires.changed c.in_ok-made.ensures c.place.ensures c.data_number.ensures.value c.add.ensures in
    touch_onward (OnWay (data_of c.args.sblock c.args.block)) v u c.count_data.new.cache (making_way v u (data_of c.args.sblock c.args.block) c.in_ok-made.made m) (header_way (data_of c.args.sblock c.args.block) u c.count_data.new.cache c.count_data.ensures.others)
