use Rattle.std.proofs.Common.{◌≡◌, take}
use Rattle.h5w_several_core.proofs.TakeLemmas.{rows_in}
use Rattle.h5w_several_core.proofs.taking.committed.Given as goal

abbrev pub invariant-loop-d : goal.invariant-loop-d
invariant-loop-d l = l.rows ≡ rows_in (take l.d l.fn.session.parts)
