use Rattle.h5w_repack.proofs.CopyLemmas.{block_done}
use Rattle.h5w_repack.proofs.copying.write_piece.Goals as goal

pub returns-in-Ok-clause-done : goal.returns-in-Ok-clause-done
returns-in-Ok-clause-done g c = block_done {u = g.P.Pair.view c.args.pair.now} {v = g.P.Pair.view c.write.new.self} c.args.w.now c.write.ensures.looked c.write.ensures.name c.in-Ok.ensures.wrote
