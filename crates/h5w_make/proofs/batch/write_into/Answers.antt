use Rattle.std.specs.Prelude.{Result, Ok, Err, OnOk}
use Rattle.h5w_writer.specs.Sessions.{Session}
use Rattle.h5w_make.specs.Commands.{batches}
use Rattle.h5w_make.specs.States.{IsClosed}
use Rattle.h5w_make.proofs.batch.write_into.Goals as goal

-- what holds of a session holds of some one
of_some : {T E : Type 0} (P : Session → Type 0) (r : Result T E) (s : Session) → OnOk r (P s) → OnOk r ((s : Session) × P s)
of_some P (Ok x) s h = (s, h)
of_some P (Err e) s h = tt

pub returns : goal.returns
returns c = of_some (λ s. IsClosed (batches c.args.seed c.args.n) s c.fill.new.image) c.fill.result c.fill.new.session c.fill.ensures
