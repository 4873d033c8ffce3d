use Rattle.std.proofs.Common.{◌-◌, ◌≤◌, subst, arith, rules}
use Rattle.h5w_model.proofs.ArrayGeometry.{slot_place-stands, slot_place-super}
use Rattle.h5w_ea.proofs.PlaceLemmas.{slot_place_of-is, direct_place, second_place}
use Rattle.h5w_ea.proofs.geometry.place.Goals as goal

pub returns-in_default-clause-inside : goal.returns-in_default-clause-inside
returns-in_default-clause-inside c = slot_place-stands (c.args.i - 4) (omega arith)

pub returns-in_default-clause-known : goal.returns-in_default-clause-known
returns-in_default-clause-known c = slot_place-super (c.args.i - 4) (omega arith)

pub super_block-slots-requires : goal.super_block-slots-requires
super_block-slots-requires c =
    let l = c.ilog2-sblock.ensures in
    let j = c.in-Some.number in
    subst (λ p. p.sblock ≤ 12) (slot_place_of-is j c.ilog2-sblock.result (omega arith) l.power_le l.next_power_gt) (slot_place-super j (omega arith))

pub returns-in-Some-get-clause-exact : goal.returns-in-Some-get-clause-exact
returns-in-Some-get-clause-exact c =
    let l = c.ilog2-sblock.ensures in
    let n = c.in-Some.ensures in
    let b = c.super_block-slots.ensures in
    let get = c.in-Some-get.ensures.lookup in
    direct_place c.args.i c.in-Some.number c.ilog2-sblock.result _ _ _
    (record { behind = n.0; number = n.1; below = omega arith; low = l.power_le; high = l.next_power_gt; slots_is = b.slots; start_is = b.start })
    get.3.0 (get.3.1 0)

pub returns-in-Some-get-clause-inside : goal.returns-in-Some-get-clause-inside
returns-in-Some-get-clause-inside c = slot_place-stands (c.args.i - 4) (omega arith)

pub returns-in-Some-get-clause-known : goal.returns-in-Some-get-clause-known
returns-in-Some-get-clause-known c = slot_place-super (c.args.i - 4) (omega arith)

pub returns-in-None-clause-exact : goal.returns-in-None-clause-exact
returns-in-None-clause-exact c =
    let l = c.ilog2-sblock.ensures in
    let n = c.in-Some.ensures in
    let b = c.super_block-slots.ensures in
    second_place c.args.i c.in-Some.number c.ilog2-sblock.result _ _ _
    (record { behind = n.0; number = n.1; below = omega arith; low = l.power_le; high = l.next_power_gt; slots_is = b.slots; start_is = b.start })
    c.in-None.ensures.lookup.3 (search rules)

pub returns-in-None-clause-inside : goal.returns-in-None-clause-inside
returns-in-None-clause-inside c = slot_place-stands (c.args.i - 4) (omega arith)

pub returns-in-None-clause-known : goal.returns-in-None-clause-known
returns-in-None-clause-known c = slot_place-super (c.args.i - 4) (omega arith)
