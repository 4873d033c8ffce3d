use Rattle.std.proofs.Common.{◌∙◌, ap, arith}
use Rattle.std.proofs.lemmas.List.Sorted.{IsPermutation-trans}
use Rattle.h5w_space.specs.declared.groups.Group.{Group}
use Rattle.h5w_space.specs.Groups.{sizes}
use Rattle.h5w_space.proofs.Laid.{length_laid-take_more, moves_back, back_inside}
use Rattle.h5w_space.proofs.groups.to_back.Goals as goal

pub overflow_add-hole-in-loop-group : goal.overflow_add-hole-in-loop-group
overflow_add-hole-in-loop-group c =
    let inside = back_inside c.args.groups.now c.loop-group.group-index (record { size = 0; count = 0 }) _ _ _ _ c.loop-group-test.true c.loop-group.invariant.moved c.loop-group.invariant.here in
    omega (arith, inside)

pub loop-group-preserved : goal.loop-group-preserved
loop-group-preserved c =
    let gs = c.args.groups.now in
    let i = c.loop-group.group-index in
    let d : Group = record { size = 0; count = 0 } in
    let l = c.loop-group.invariant in
    record {
      order = IsPermutation-trans _ _ _ l.order c.swap.ensures.permutation;
      here = omega (arith, length_laid-take_more gs i d c.loop-group-test.true, l.here);
      moved = ap sizes c.swap.ensures.after ∙ moves_back gs i d _ _ _ _ c.loop-group-test.true l.moved l.here;
    }

pub overflow_add-hole : goal.overflow_add-hole
overflow_add-hole c =
    let inside = back_inside c.args.groups.now c.loop-group.group-index (record { size = 0; count = 0 }) _ _ _ _ c.loop-group-test.true c.loop-group.invariant.moved c.loop-group.invariant.here in
    omega (arith, inside)

pub swap-requires-clause-a_in_bounds : goal.swap-requires-clause-a_in_bounds
swap-requires-clause-a_in_bounds c =
    let inside = back_inside c.args.groups.now c.loop-group.group-index (record { size = 0; count = 0 }) _ _ _ _ c.loop-group-test.true c.loop-group.invariant.moved c.loop-group.invariant.here in
    omega (arith, inside)

pub swap-requires-clause-b_in_bounds : goal.swap-requires-clause-b_in_bounds
swap-requires-clause-b_in_bounds c =
    back_inside c.args.groups.now c.loop-group.group-index (record { size = 0; count = 0 }) _ _ _ _ c.loop-group-test.true c.loop-group.invariant.moved c.loop-group.invariant.here
