use Rattle.std.proofs.Common.{◌≤◌, ◌-◌, length}
use Rattle.h5w_system.proofs.disk.read_from.Given as goal

abbrev pub invariant-loop-got : goal.invariant-loop-got
invariant-loop-got l = l.got ≤ length l.buf

abbrev pub decreases-loop-got : goal.decreases-loop-got
decreases-loop-got l = length l.buf - l.got
