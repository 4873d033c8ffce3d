use Rattle.std.proofs.Common.{◌≡◌, ℕ, List, map, pos, sum, take}
use Rattle.h5w_make.proofs.reading.sum_of.Given as goal

abbrev pub invariant-loop-value : goal.invariant-loop-value
invariant-loop-value l = (ns : List ℕ) → l.values ≡ map pos ns → l.sum ≡ sum (take l.value-index ns)
