use Rattle.std.proofs.Common.{arith}
use Rattle.h5w_several_creation_laws.proofs.PlaceLemmas.{end_above}
use Rattle.h5w_several_creation.specs.Forms.{each_by}
use Rattle.h5w_several_creation.proofs.file.+put_sets.Goals as goal

pub put_set-requires-clause-place : goal.put_set-requires-clause-place
put_set-requires-clause-place t c =
    let above = end_above c.args.first (each_by c.args.names.now c.args.forms.now) in
    let low = c.requires.low in
    omega (arith, above, low)
