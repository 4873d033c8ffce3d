use Rattle.std.proofs.Common.{◌≡◌, ◌≤◌, ◌-◌, ◌+◌, arith}
use Rattle.h5w_model.specs.Trees.{capacity_of}
use Rattle.h5w_lookup.proofs.NodeLemmas.{child_of_depth}
use Rattle.h5w_lookup.proofs.content.Content.turn.Goals as goal

pub returns-clause-few : goal.returns-clause-few
returns-clause-few c =
    let some : 1 ≤ c.args.depth = omega arith in
    let one : c.args.depth ≡ c.args.depth - 1 + 1 = omega arith in
    child_of_depth c.args.depth (capacity_of (c.args.depth - 1)) c.inner.result some (c.inner.ensures.kept (capacity_of (c.args.depth - 1)) (c.requires (c.args.depth - 1) one))
