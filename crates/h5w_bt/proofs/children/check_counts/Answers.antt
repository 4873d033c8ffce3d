use Rattle.std.proofs.Common.{◌≡◌, ◌+◌, ◌-◌, ◌*◌, ◌<◌, ◌≤◌, Err, sym, ap, ◌∙◌, arith}
use Rattle.h5w_model.specs.Numbers.{field}
use Rattle.h5w_model.specs.Trees.{capacity_of, pointer_size}
use Rattle.h5w_model.specs.declared.refusal.BlockFault.TheVariants.{Field}
use Rattle.h5w_bt.proofs.Reading.{counts_left-passes, counts_left-fails, counts_left-none, counts_left-all}
use Rattle.h5w_bt.proofs.children.check_counts.Goals as goal

pub loop-i-init : goal.loop-i-init
loop-i-init c = sym (counts_left-all c.args.b.now c.args.at c.args.depth c.args.n c.args.from)

pub returns-then-found-capacity : goal.returns-then-found-capacity
returns-then-found-capacity c =
    let b = c.args.b.now in
    let i = c.loop-i.i in
    let from = c.args.from in
    let w = pointer_size c.args.depth in
    let place : from + i * c.pointer_size-width.result + 8 ≡ from + i * pointer_size c.args.depth + 8 = ap (λ k. from + i * k + 8) c.pointer_size-width.ensures.exact in
    let found : c.number-found.result ≡ field c.args.b.now (from + i * pointer_size c.args.depth + 8) 1 = c.number-found.ensures ∙ ap (λ p. field b p 1) place in
    let above : capacity_of (c.args.depth - 1) < field c.args.b.now (from + i * pointer_size c.args.depth + 8) 1 = omega (arith, c.if-found-capacity.true, c.capacity.ensures.exact, found) in
    record {
      exact = sym (c.loop-i.invariant
          ∙ counts_left-fails b c.args.at c.args.depth c.args.n from i c.loop-i-test.true above
          ∙ ap (λ v. Err (Field (c.args.at + (from + i * w + 8)) v)) (sym found)
          ∙ ap (λ p. Err (Field (c.args.at + p) c.number-found.result)) (sym place));
    }

pub loop-i-preserved : goal.loop-i-preserved
loop-i-preserved c =
    let b = c.args.b.now in
    let i = c.loop-i.i in
    let from = c.args.from in
    let place : from + i * c.pointer_size-width.result + 8 ≡ from + i * pointer_size c.args.depth + 8 = ap (λ k. from + i * k + 8) c.pointer_size-width.ensures.exact in
    let found : c.number-found.result ≡ field c.args.b.now (from + i * pointer_size c.args.depth + 8) 1 = c.number-found.ensures ∙ ap (λ p. field b p 1) place in
    let within : field c.args.b.now (from + i * pointer_size c.args.depth + 8) 1 ≤ capacity_of (c.args.depth - 1) = omega (arith, c.if-found-capacity.false, c.capacity.ensures.exact, found) in
    c.loop-i.invariant ∙ counts_left-passes b c.args.at c.args.depth c.args.n from i c.loop-i-test.true within

pub returns : goal.returns
returns c = record { exact = sym (c.loop-i.invariant ∙ counts_left-none c.args.b.now c.args.at c.args.depth c.args.n c.args.from c.loop-i.i (omega arith)) }
