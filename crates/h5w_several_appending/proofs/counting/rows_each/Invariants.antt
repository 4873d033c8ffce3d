use Rattle.std.proofs.Common.{◌≡◌, map, take}
use Rattle.h5w_writer.specs.Sessions.{rows_of}
use Rattle.h5w_several_appending.proofs.counting.rows_each.Given as goal

abbrev pub invariant-loop-d : goal.invariant-loop-d
invariant-loop-d l = l.rows ≡ map rows_of (take l.d l.fn.session.parts)
