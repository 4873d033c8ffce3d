use Rattle.std.proofs.Common.{◌≡◌, ◌++◌, drop, length, take}
use Rattle.h5w_handles.specs.Copies.{front}
use Rattle.h5w_handles.proofs.copying.copy.Given as goal

abbrev pub invariant-loop-k : goal.invariant-loop-k
invariant-loop-k g l = (length (front g.T.Narrow.narrowed (take l.k l.values)) ≡ l.k) × (l.out ≡ front g.T.Narrow.narrowed (take l.k l.values) ++ drop l.k l.initial.out)
