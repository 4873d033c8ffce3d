use Rattle.std.proofs.Common.{rules}
use Rattle.h5w_files.proofs.ClearLemmas.{rewritten_is}
use Rattle.h5w_files.proofs.flags.rewritten.Goals as goal

pub returns : goal.returns
returns c = rewritten_is c.args.superblock.now c.put.new.b c.put-2.new.b c.seal.new.b c.args.flags c.requires (search rules) (search rules) (search rules) c.seal.ensures
