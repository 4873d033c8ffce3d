use Rattle.std.proofs.Common.{◌≡◌, ◌++◌, take}
use Rattle.std.specs.Prelude.{flat_map}
use Rattle.h5w_text.specs.Refusals.{hex_digits}
use Rattle.h5w_text.proofs.refusal.signature.Given as goal

abbrev pub invariant-loop-byte : goal.invariant-loop-byte
invariant-loop-byte l = l.out.items ≡ l.initial.out.items ++ flat_map (hex_digits 2) (take l.byte-index l.found)
