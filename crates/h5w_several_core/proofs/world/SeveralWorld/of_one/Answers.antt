use Rattle.h5w_several_core.proofs.OneLemmas.{apart_fits, apart_hold, apart_keeps, apart_may_take, apart_names, apart_rows, apart_rules}
use Rattle.h5w_several_core.proofs.world.SeveralWorld.of_one.Goals as goal

pub taken-requires-clause-unrefused : goal.taken-requires-clause-unrefused
taken-requires-clause-unrefused c =
    let p = c.into_parts-before in
    let some = p.ensures.some in
    (apart_may_take c.args.world p.result p.ensures.parts c.limit-limit.result c.budget-budget.result c.limit-limit.ensures c.budget-budget.ensures some.0 some.1 p.ensures.front c.in_ok-names.names c.name.result.now c.in_ok-names.ensures c.name.ensures).unrefused

pub invariant_of-machine : goal.invariant_of-machine
invariant_of-machine c =
    let w = c.args.world in
    let p = c.into_parts-before in
    let some = p.ensures.some in
    let s = c.in_ok-session in (
      apart_hold w p.result p.ensures.parts c.limit-limit.result c.budget-budget.result c.limit-limit.ensures c.budget-budget.ensures s.session c.taken.new.image s.ensures.same c.in_ok-names.names c.name.result.now c.in_ok-names.ensures c.name.ensures c.in_ok-places.places.items c.in_ok-places.ensures s.ensures.taken s.ensures.begun some.0 some.1
          p.ensures.front p.ensures.room,
      apart_keeps w p.result p.ensures.parts c.limit-limit.result c.budget-budget.result c.limit-limit.ensures c.budget-budget.ensures s.session c.taken.new.image s.ensures.same c.in_ok-names.names c.name.result.now c.in_ok-names.ensures c.name.ensures c.in_ok-places.places.items c.in_ok-places.ensures s.ensures.taken s.ensures.begun some.0 some.1,
    )

pub returns-clause-fits : goal.returns-clause-fits
returns-clause-fits c state have =
    let w = c.args.world in
    let p = c.into_parts-before in
    let s = c.in_ok-session in
    apart_fits w p.result p.ensures.parts c.limit-limit.result c.budget-budget.result c.limit-limit.ensures c.budget-budget.ensures s.session c.taken.new.image s.ensures.same c.in_ok-names.names c.name.result.now c.in_ok-names.ensures c.name.ensures c.in_ok-places.places.items c.in_ok-places.ensures s.ensures.taken s.ensures.begun state have

pub returns-clause-rows : goal.returns-clause-rows
returns-clause-rows c state have =
    let w = c.args.world in
    let p = c.into_parts-before in
    let s = c.in_ok-session in
    apart_rows w p.result p.ensures.parts c.limit-limit.result c.budget-budget.result c.limit-limit.ensures c.budget-budget.ensures s.session c.taken.new.image s.ensures.same c.in_ok-names.names c.name.result.now c.in_ok-names.ensures c.name.ensures c.in_ok-places.places.items c.in_ok-places.ensures s.ensures.taken s.ensures.begun state have
    c.committed-rows.result c.committed-rows.ensures

pub returns-clause-rules : goal.returns-clause-rules
returns-clause-rules c =
    let w = c.args.world in
    let p = c.into_parts-before in
    let some = p.ensures.some in
    let s = c.in_ok-session in
    apart_rules w p.result p.ensures.parts c.limit-limit.result c.budget-budget.result c.limit-limit.ensures c.budget-budget.ensures s.session c.taken.new.image s.ensures.same c.in_ok-names.names c.name.result.now c.in_ok-names.ensures c.name.ensures c.in_ok-places.places.items c.in_ok-places.ensures s.ensures.taken s.ensures.begun some.0 some.1

pub returns-clause-names : goal.returns-clause-names
returns-clause-names c =
    let w = c.args.world in
    let p = c.into_parts-before in
    let some = p.ensures.some in
    let s = c.in_ok-session in
    apart_names w p.result p.ensures.parts c.limit-limit.result c.budget-budget.result c.limit-limit.ensures c.budget-budget.ensures s.session c.taken.new.image s.ensures.same c.in_ok-names.names c.name.result.now c.in_ok-names.ensures c.name.ensures c.in_ok-places.places.items c.in_ok-places.ensures s.ensures.taken s.ensures.begun some.0 some.1
