use Rattle.std.proofs.Common.{arith}
use Rattle.h5w_model.proofs.IntegerLemmas.{AreBytes-each}
use Rattle.h5w_answers.proofs.call.are_bytes.Goals as goal

pub returns : goal.returns
returns c = AreBytes-each c.args.bytes.now (λ k. omega (arith, c.type_inv.bytes k))
