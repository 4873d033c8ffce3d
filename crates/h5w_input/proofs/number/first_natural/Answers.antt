use Rattle.std.proofs.Common.{◌∙◌, arith, sym}
use Rattle.h5w_input.proofs.NumberLemmas.{begins_natural}
use Rattle.h5w_input.proofs.number.first_natural.Goals as goal

pub returns : goal.returns
returns c = begins_natural c.args.bytes.now c.read_digits-len.result.0 c.read_digits-len.result.1 (omega (arith, c.read_digits-len.ensures.end)) c.read_digits-len.ensures.within c.read_digits-len.ensures.value (omega arith) (omega arith)
    (sym c.is_lean.ensures ∙ c.if-not-is_lean.false)
