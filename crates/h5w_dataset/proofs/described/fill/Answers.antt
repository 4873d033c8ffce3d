use Rattle.h5w_types.specs.Fields.{int_type_of}
use Rattle.h5w_dataset.proofs.FillLemmas.{decoded_sized}
use Rattle.h5w_dataset.proofs.described.fill.Goals as goal

pub returns-in-Some-clause-sized : goal.returns-in-Some-clause-sized
returns-in-Some-clause-sized c = decoded_sized c.in-Some.b.now (int_type_of c.args.t.now) c.decode.result c.decode.ensures.exact c.decode.ensures.padded
