use Rattle.std.proofs.Common.{subst}
use Rattle.h5w_cache.specs.Stores.{Store}
use Rattle.h5w_array_laws.specs.Parts.{holder}
use Rattle.h5w_ea_index.specs.Steps.{OnWay, Touches}
use Rattle.h5w_ea_index.proofs.index.ArrayIndex.reach.Goals as goal

pub returns-clause-way : goal.returns-clause-way
returns-clause-way c = subst (λ (v : Store). Touches (OnWay (holder c.args.i)) v c.reach_chunk.new.cache) c.self.view_is c.reach_chunk.ensures.way
