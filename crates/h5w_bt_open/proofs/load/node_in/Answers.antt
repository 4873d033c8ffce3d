use Rattle.std.proofs.Common.{sym, arith}
use Rattle.h5w_model.proofs.IntegerLemmas.{AreBytes-each}
use Rattle.h5w_bt.specs.Fields.{btin_of}
use Rattle.h5w_bt_open.proofs.HeldLemmas.{judged_node}
use Rattle.h5w_bt_open.proofs.load.node_in.Goals as goal

pub returns-in-Ok-clause-read : goal.returns-in-Ok-clause-read
returns-in-Ok-clause-read c = λ d deep.
    judged_node c.args.bytes.now c.args.at c.args.records c.args.depth d (btin_of c.in-Ok.node) (AreBytes-each c.args.bytes.now (λ k. omega (arith, c.type_inv.bytes k))) deep
    (omega (arith, sym deep, c.requires.shallow)) c.in-Ok.ensures.exact
