use Rattle.std.proofs.Common.{◌≡◌, ◌+◌, ◌∷◌, ◌++◌, [], length, take, drop, get_or}
use Rattle.std.specs.List.Sorted.{IsPermutation}
use Rattle.h5w_space.specs.Groups.{laid, sizes}
use Rattle.h5w_space.proofs.Laid.{IsFronted}
use Rattle.h5w_space.proofs.groups.to_front.Given as goal

abbrev pub invariant-loop-group : goal.invariant-loop-group
invariant-loop-group l =
    let start = take l.at (sizes l.fn.places) ++ get_or (sizes l.fn.places) l.last 0 ∷ [] in
    record {
      order : IsPermutation l.fn.places l.places;
      here : l.first + 1 ≡ length start + length (laid (take l.group-index l.groups));
      end : l.last + 1 ≡ length l.places;
      moved : IsFronted (sizes l.places) (start ++ laid (take l.group-index l.groups)) (laid (drop l.group-index l.groups));
    }
