use Rattle.std.proofs.Common.{rules, refl}
use Rattle.h5w_system.proofs.disk.FileDisk.create.Goals as goal

pub returns-clause-kept : goal.returns-clause-kept
returns-clause-kept c = record { file = _; is = refl; named = search rules; may = λ asked. refl }
