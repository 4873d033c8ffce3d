use Rattle.std.proofs.Common.{◌+◌, ◌≢◌, arith, rules}
use Rattle.std.proofs.lemmas.List.{get_or_default}
use Rattle.std.proofs.lemmas.List.Elements.{All-more}
use Rattle.h5w_space.specs.declared.groups.Group.{Group}
use Rattle.h5w_space.proofs.Laid.{length_laid-take_more, length_laid-take}
use Rattle.h5w_space.proofs.groups.find.Goals as goal

pub overflow_add-end : goal.overflow_add-end
overflow_add-end c =
    let gs = c.args.groups.now in
    let i = c.loop-index.index in
    omega (arith, length_laid-take_more gs i (record { size = 0; count = 0 }) c.loop-index-test.true, length_laid-take gs (i + 1), c.loop-index.invariant.0)

pub returns-then-group-size-clause-found : goal.returns-then-group-size-clause-found
returns-then-group-size-clause-found c =
    let gs = c.args.groups.now in
    let i = c.loop-index.index in
    record {
      inside = c.loop-index-test.true;
      is = λ d. search (rules, get_or_default);
      ends = omega (arith, length_laid-take_more gs i (record { size = 0; count = 0 }) c.loop-index-test.true, c.loop-index.invariant.0);
    }

pub loop-index-preserved : goal.loop-index-preserved
loop-index-preserved c =
    let gs = c.args.groups.now in
    let i = c.loop-index.index in
    let d : Group = record { size = 0; count = 0 } in (
      omega (arith, length_laid-take_more gs i d c.loop-index-test.true, c.loop-index.invariant.0),
      All-more (λ g. g.size ≢ c.args.size) gs i d c.loop-index-test.true c.loop-index.invariant.1 c.if-group-size.false,
    )
