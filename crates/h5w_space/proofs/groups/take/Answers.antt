use Rattle.std.proofs.Common.{◌≡◌, subst}
use Rattle.std.specs.List.{All}
use Rattle.h5w_space.proofs.Edits.{has_size-none}
use Rattle.h5w_space.proofs.groups.take.Goals as goal

pub returns-in_err-spot-clause-none : goal.returns-in_err-spot-clause-none
returns-in_err-spot-clause-none c =
    rw c.from_residual.ensures (has_size-none c.args.groups.now.items _ _ c.requires.grouped (subst (λ l. All (λ g. (g.size ≡ c.args.size) → ⊥) l) c.deref.ensures.value c.in_err-spot.ensures.none))
