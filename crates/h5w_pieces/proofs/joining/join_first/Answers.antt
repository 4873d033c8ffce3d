use Rattle.std.proofs.Common.{Option, ℕ, sym, subst}
use Rattle.h5w_pieces.specs.Joined.{option_list}
use Rattle.h5w_pieces.specs.Joined.{AreJoined}
use Rattle.h5w_pieces.proofs.JoinedLemmas.{joined_start}
use Rattle.h5w_pieces.proofs.joining.join_first.Goals as goal

pub returns-in-Some-clause-joined : goal.returns-in-Some-clause-joined
returns-in-Some-clause-joined c =
    joined_start c.args.naming _ c.args.pieces.items c.args.plan.copies.items c.args.plan.in_place.items (option_list c.args.superblock) c.args.header c.join_start.result.items c.in-Some.is c.join_start.ensures.items

pub returns-in-None-clause-joined : goal.returns-in-None-clause-joined
returns-in-None-clause-joined c =
    subst (λ (o : Option ℕ). AreJoined o c.args.pieces.items c.args.plan.copies.items c.args.plan.in_place.items (option_list c.args.superblock) c.args.header c.join_block.result.items) (sym c.in-None.is) c.join_block.ensures.joined
