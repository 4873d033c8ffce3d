use Rattle.std.proofs.Common.{[], length, sym, subst}
use Rattle.h5w_model.specs.Checksum.{Words}
use Rattle.h5w_sum.specs.Fronts.{IsFront}
use Rattle.h5w_sum.proofs.Rounds.{front_none}
use Rattle.h5w_sum.proofs.front.begun_with.Goals as goal

pub returns-clause-front : goal.returns-clause-front
returns-clause-front c = subst (λ (w : Words). IsFront (length c.args.b.now) [] w) (sym c.begun.ensures) (front_none (length c.args.b.now))
