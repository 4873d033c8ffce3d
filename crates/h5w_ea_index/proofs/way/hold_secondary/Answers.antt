use Rattle.std.proofs.Common.{refl}
use Rattle.h5w_cache.specs.Stores.{Store}
use Rattle.h5w_array_laws.specs.Parts.{secondary_of}
use Rattle.h5w_ea_index.proofs.WayLemmas.{Marking, marking_from, none_at, marking_array, marking_numbered, marking_held, marking_reach, marking_changed, marking_way}
use Rattle.h5w_ea_index.proofs.way.hold_secondary.Goals as goal

pub returns-then-is_kept : goal.returns-then-is_kept
returns-then-is_kept c =
    let v : Store = c.args.cache.now in
    let w : Store = c.mark.new.self in
    let m : Marking v w (secondary_of c.args.sblock) = marking_from v w (secondary_of c.args.sblock) c.secondary_number-number.result c.is_kept.result c.requires.part refl c.requires.array c.is_kept.ensures c.if-is_kept.true c.requires.changed c.secondary_number-number.ensures.value c.mark.ensures in
    record {
      array = marking_array v w (secondary_of c.args.sblock) m;
      numbered = marking_numbered v w (secondary_of c.args.sblock) m;
      held = marking_held v w (secondary_of c.args.sblock) m;
      reach = marking_reach v w (secondary_of c.args.sblock) m;
      way = marking_way v w (secondary_of c.args.sblock) m;
      changed = marking_changed v w (secondary_of c.args.sblock) m;
    }

pub make_secondary-requires-clause-none : goal.make_secondary-requires-clause-none
make_secondary-requires-clause-none c = none_at c.args.cache.now (secondary_of c.args.sblock) c.secondary_number-number.result c.is_kept.result c.is_kept.ensures c.if-is_kept.false c.secondary_number-number.ensures.value
