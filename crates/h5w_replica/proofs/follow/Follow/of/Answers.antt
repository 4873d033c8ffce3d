use Rattle.std.proofs.Common.{sym, subst}
use Rattle.h5w_shared.specs.Turns.{StartsWith}
use Rattle.h5w_shared.proofs.Beginnings.{starts_nothing}
use Rattle.h5w_replica.proofs.follow.Follow.of.Goals as goal

pub invariant_of-result : goal.invariant_of-result
invariant_of-result c = record {
  leads = c.requires.leads;
  mirrored = subst (StartsWith c.args.seat.seen) (sym c.requires.new) (starts_nothing c.args.seat.seen);
  part = tt;
}
