use Rattle.std.proofs.Common.{◌+◌, sym, ap, ◌∙◌, arith, Err}
use Rattle.h5w_model.specs.declared.refusal.BlockFault.TheVariants.{Field}
use Rattle.h5w_model.proofs.NumberLemmas.{field-byte}
use Rattle.h5w_ea.proofs.Fixed.{left-fails, left-passes}
use Rattle.h5w_ea.proofs.fields.check_fixed.Goals as goal

pub returns-then-found-want : goal.returns-then-found-want
returns-then-found-want c =
    let here = field-byte c.args.b.now (4 + c.loop-i.i) (omega arith) in
    record { exact = sym (c.loop-i.invariant ∙ left-fails c.args.b.now c.args.at c.args.wanted.now c.loop-i.i c.loop-i-test.true (λ e. c.if-found-want.true (sym here ∙ e)) ∙ ap (λ v. Err (Field (c.args.at + (4 + c.loop-i.i)) v)) (here ∙ sym c.from.ensures)) }

pub loop-i-preserved : goal.loop-i-preserved
loop-i-preserved c =
    let here = field-byte c.args.b.now (4 + c.loop-i.i) (omega arith) in
    c.loop-i.invariant ∙ left-passes c.args.b.now c.args.at c.args.wanted.now c.loop-i.i c.loop-i-test.true (here ∙ c.if-found-want.false)
