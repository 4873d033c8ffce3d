use Rattle.h5w_ea_index.specs.Fresh.{part_of}
use Rattle.h5w_ea_index.proofs.WayLemmas.{holder_part, read_fits}
use Rattle.h5w_ea_index.proofs.address.address.Goals as goal

pub holder_number-requires : goal.holder_number-requires
holder_number-requires c = holder_part c.args.i (part_of c.locate-slot.result.holder) c.locate-slot.ensures.holder c.requires.below

pub read-requires : goal.read-requires
read-requires c = read_fits c.args.cache.now c.args.i c.holder_number.result c.locate-slot.result.offset (part_of c.locate-slot.result.holder) c.requires.below c.requires.array c.locate-slot.ensures.holder c.holder_number.ensures c.locate-slot.ensures.offset
