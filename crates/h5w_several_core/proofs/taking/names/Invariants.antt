use Rattle.std.proofs.Common.{◌≡◌, take}
use Rattle.h5w_several_writer_laws.specs.Valid.{names_in}
use Rattle.h5w_several_core.proofs.taking.names.Given as goal

abbrev pub invariant-loop-d : goal.invariant-loop-d
invariant-loop-d l = l.names ≡ names_in (take l.d l.fn.session.parts)
