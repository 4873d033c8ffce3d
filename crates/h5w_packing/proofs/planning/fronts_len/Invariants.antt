use Rattle.std.proofs.Common.{◌≡◌, ◌≤◌, ◌+◌, ◌*◌}
use Rattle.std.specs.Prelude.{drop, map}
use Rattle.h5w_packing.specs.Plans.{fronts_size, wanted_of}
use Rattle.h5w_packing.proofs.planning.fronts_len.Given as goal

abbrev pub invariant-loop-source : goal.invariant-loop-source
invariant-loop-source l = (l.len + fronts_size (drop l.source-index (map wanted_of l.sources)) ≡ fronts_size (map wanted_of l.sources)) × (l.len ≤ 515 * l.source-index)
