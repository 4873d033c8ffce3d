use Rattle.std.proofs.Common.{◌≡◌, ◌≢◌, length, take}
use Rattle.std.specs.List.{All}
use Rattle.h5w_space.specs.Groups.{laid}
use Rattle.h5w_space.proofs.groups.find.Given as goal

abbrev pub invariant-loop-index : goal.invariant-loop-index
invariant-loop-index l =
    (l.end ≡ length (laid (take l.index l.groups))) × All (λ g. g.size ≢ l.size) (take l.index l.groups)
