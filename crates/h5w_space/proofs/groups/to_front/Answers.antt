use Rattle.std.proofs.Common.{ℕ, ◌+◌, ◌-◌, ◌∷◌, ◌++◌, List, [], subst, sym, length, take, drop, get_or, arith}
use Rattle.std.proofs.lemmas.List.Sorted.{IsPermutation-trans}
use Rattle.h5w_space.specs.declared.Extent.{Extent}
use Rattle.h5w_space.specs.declared.groups.Group.{Group}
use Rattle.h5w_space.specs.Groups.{laid, sizes}
use Rattle.h5w_space.proofs.Laid.{length_laid-take_more, IsFronted, IsFronted-more, front_inside}
use Rattle.h5w_space.proofs.groups.to_front.Goals as goal

pub swap-requires-clause-a_in_bounds : goal.swap-requires-clause-a_in_bounds
swap-requires-clause-a_in_bounds c =
    let d : Group = record { size = 0; count = 0 } in
    let l = c.loop-group.invariant in
    omega (arith, front_inside c.args.groups.now c.loop-group.group-index d _ _ _ _ c.loop-group-test.true l.here l.end l.moved)

pub overflow_add-first : goal.overflow_add-first
overflow_add-first c =
    let d : Group = record { size = 0; count = 0 } in
    let l = c.loop-group.invariant in
    omega (arith, front_inside c.args.groups.now c.loop-group.group-index d _ _ _ _ c.loop-group-test.true l.here l.end l.moved)

pub loop-group-preserved : goal.loop-group-preserved
loop-group-preserved c =
    let gs = c.args.groups.now in
    let i = c.loop-group.group-index in
    let d : Group = record { size = 0; count = 0 } in
    let l = c.loop-group.invariant in
    let S : List ℕ = sizes c.args.places.now in
    let start : List ℕ = take c.args.at S ++ get_or S (length c.args.places.now - 1) 0 ∷ [] in
    let P : List Extent → Type 0 = λ places. IsFronted (sizes places) (start ++ laid (take (i + 1) gs)) (laid (drop (i + 1) gs)) in
    record {
      order = IsPermutation-trans _ _ _ l.order c.swap.ensures.permutation;
      here = omega (arith, length_laid-take_more gs i d c.loop-group-test.true, l.here);
      end = omega (arith, c.swap.ensures.len, l.end);
      moved = subst P (sym c.swap.ensures.after) (IsFronted-more gs i d _ start _ _ c.loop-group-test.true l.here l.end (c.requires.filled i d c.loop-group-test.true) l.moved);
    }
