use Rattle.std.proofs.Common.{◌≡◌, ◌+◌, ◌∷◌, ◌++◌, length, take, drop, get_or}
use Rattle.std.specs.List.Sorted.{IsPermutation}
use Rattle.h5w_space.specs.Groups.{laid, sizes}
use Rattle.h5w_space.proofs.groups.to_back.Given as goal

abbrev pub invariant-loop-group : goal.invariant-loop-group
invariant-loop-group l = record {
  order : IsPermutation l.fn.places l.places;
  here : l.hole ≡ length (take l.at (sizes l.fn.places)) + length (laid (take l.group-index l.groups));
  moved : sizes l.places ≡ (take l.at (sizes l.fn.places) ++ laid (take l.group-index l.groups)) ++ get_or (sizes l.fn.places) l.at 0 ∷ laid (drop l.group-index l.groups);
}
