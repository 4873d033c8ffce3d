use Rattle.h5w_ea_index.specs.Counts.{more_at}
use Rattle.h5w_ea_index.proofs.WayLemmas.{counted_two}
use Rattle.h5w_ea_index.proofs.header.count_secondary.Goals as goal

pub raise-requires-2-clause-changed : goal.raise-requires-2-clause-changed
raise-requires-2-clause-changed c = c.raise.ensures.held.marks 846 c.requires.changed

pub returns : goal.returns
returns c = counted_two (more_at 0 1) (more_at 1 c.args.len) c.args.cache.now c.raise.new.cache c.raise-2.new.cache c.raise.ensures c.raise-2.ensures
