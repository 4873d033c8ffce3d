use Rattle.std.proofs.Common.{rules, arith}
use Rattle.h5w_pieces.specs.Joined.{option_list}
use Rattle.h5w_pieces.proofs.JoinedLemmas.{joined_alone, joined_behind}
use Rattle.h5w_pieces.proofs.joining.join_block.Goals as goal

pub returns-in-Some-clause-joined : goal.returns-in-Some-clause-joined
returns-in-Some-clause-joined c =
    joined_behind c.args.pieces.items c.args.plan.copies.items c.pop.new.self.items c.args.plan.in_place.items (option_list c.args.superblock) c.in-Some.top c.args.header c.join_behind.result.items c.in-Some.ensures.items c.join_behind.ensures.items

pub returns-clause-joined : goal.returns-clause-joined
returns-clause-joined c =
    joined_alone c.args.pieces.items c.args.plan.copies.items c.args.plan.in_place.items (option_list c.args.superblock) c.args.header c.append.new.self.items c.end_with.result.items (omega (arith, c.in-None.ensures.cases.0, c.args.plan.in_place.ok.0)) (search rules) c.end_with.ensures.exact
