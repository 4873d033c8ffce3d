use Rattle.std.proofs.Common.{rules}
use Rattle.h5w_system.proofs.disk.FileDisk.keep.Goals as goal

pub returns-in-Some-clause-kept : goal.returns-in-Some-clause-kept
returns-in-Some-clause-kept c = record { file = c.in-Some.kept; is = search rules; named = search rules; may = λ asked. search (rules, asked, c.if-not-writable.either) }
