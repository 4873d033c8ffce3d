use Rattle.std.proofs.Common.{refl}
use Rattle.h5w_cache.specs.Stores.{Store}
use Rattle.h5w_array_laws.specs.Parts.{data_of}
use Rattle.h5w_ea_index.proofs.WayLemmas.{Marking, marking_from, none_at, marking_array, marking_numbered, marking_held, marking_reach, marking_changed, marking_way}
use Rattle.h5w_ea_index.proofs.way.hold_data.Goals as goal

pub returns-then-is_kept : goal.returns-then-is_kept
returns-then-is_kept c =
    let v : Store = c.args.cache.now in
    let w : Store = c.mark.new.self in
    let m : Marking v w (data_of c.args.sblock c.args.block) = marking_from v w (data_of c.args.sblock c.args.block) c.data_number-number.result c.is_kept.result c.requires.part refl c.requires.array c.is_kept.ensures c.if-is_kept.true c.requires.changed c.data_number-number.ensures.value c.mark.ensures in
    record {
      array = marking_array v w (data_of c.args.sblock c.args.block) m;
      numbered = marking_numbered v w (data_of c.args.sblock c.args.block) m;
      held = marking_held v w (data_of c.args.sblock c.args.block) m;
      reach = marking_reach v w (data_of c.args.sblock c.args.block) m;
      way = marking_way v w (data_of c.args.sblock c.args.block) m;
      changed = marking_changed v w (data_of c.args.sblock c.args.block) m;
    }

pub make_data-requires-clause-none : goal.make_data-requires-clause-none
make_data-requires-clause-none c = none_at c.args.cache.now (data_of c.args.sblock c.args.block) c.data_number-number.result c.is_kept.result c.is_kept.ensures c.if-is_kept.false c.data_number-number.ensures.value
