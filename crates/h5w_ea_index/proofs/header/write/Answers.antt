use Rattle.h5w_ea_index.proofs.WayLemmas.{written_from}
use Rattle.h5w_ea_index.proofs.header.write.Goals as goal

pub returns : goal.returns
returns c = written_from c.args.cache.now c.set_number.new.self c.args.index c.args.value c.requires.array c.requires.changed c.requires.index c.ranges.value.fits c.set_number.ensures
