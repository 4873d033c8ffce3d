use Rattle.h5w_commands.proofs.NameLemmas.{may_pack}
use Rattle.h5w_commands.proofs.repack.repack.Goals as goal

pub repack-requires-clause-names : goal.repack-requires-clause-names
repack-requires-clause-names g c = may_pack c.args.names.now c.requires.names
