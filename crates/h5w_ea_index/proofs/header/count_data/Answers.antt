use Rattle.h5w_ea_index.specs.Counts.{more_at}
use Rattle.h5w_ea_index.proofs.WayLemmas.{counted_two}
use Rattle.h5w_ea_index.proofs.header.count_data.Goals as goal

pub raise-requires-2-clause-changed : goal.raise-requires-2-clause-changed
raise-requires-2-clause-changed c = c.raise.ensures.held.marks 846 c.requires.changed

pub raise-requires-3-clause-changed : goal.raise-requires-3-clause-changed
raise-requires-3-clause-changed c = c.raise-2.ensures.held.marks 846 (c.raise.ensures.held.marks 846 c.requires.changed)

pub returns : goal.returns
returns c =
    counted_two (λ l. more_at 3 c.args.len (more_at 2 1 l)) (more_at 5 c.args.slots) c.args.cache.now c.raise-2.new.cache c.raise-3.new.cache
    (counted_two (more_at 2 1) (more_at 3 c.args.len) c.args.cache.now c.raise.new.cache c.raise-2.new.cache c.raise.ensures c.raise-2.ensures) c.raise-3.ensures
