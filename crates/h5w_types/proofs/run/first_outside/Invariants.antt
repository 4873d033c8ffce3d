use Rattle.std.proofs.Common.{◌≡◌, drop}
use Rattle.h5w_model.specs.Lawful.{first_outside}
use Rattle.h5w_types.specs.Fields.{int_type_of}
use Rattle.h5w_types.proofs.run.first_outside.Given as goal

abbrev pub invariant-loop-i : goal.invariant-loop-i
invariant-loop-i l = first_outside (int_type_of l.t) l.i (drop l.i l.values) ≡ first_outside (int_type_of l.t) 0 l.values
