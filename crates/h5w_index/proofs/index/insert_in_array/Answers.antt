use Rattle.std.proofs.Common.{rules, ◌≡◌, ◌≤◌, Err, arith}
use Rattle.h5w_ea_index.specs.Reach.{max_index_set}
use Rattle.h5w_index.proofs.SetLemmas.{array_sets}
use Rattle.h5w_index.proofs.index.insert_in_array.Goals as goal

pub returns-in_err-hold-clause-held : goal.returns-in_err-hold-clause-held
returns-in_err-hold-clause-held c =
    let is : c.from_residual.result ≡ Err c.in_err-hold.field-0.0 = search rules in
    let reach : max_index_set c.args.index.now ≤ max_index_set c.hold.new.self = omega (arith, c.hold.ensures.reach) in
    rw is (record { held = c.hold.ensures.held; reach = reach; way = c.hold.ensures.way; array = c.hold.ensures.array; numbered = c.hold.ensures.numbered })

pub returns-clause-set : goal.returns-clause-set
returns-clause-set c =
    array_sets c.args.i c.args.address c.args.index.now c.hold.new.self c.set.new.self c.requires.below c.hold.ensures.held c.hold.ensures.reach c.hold.ensures.way c.in_ok-hold.ensures.changed c.hold.ensures.numbered
    c.set.ensures.set c.set.ensures.reach c.set.ensures.way c.set.ensures.array c.set.ensures.numbered
