use Rattle.std.proofs.Common.{◌≡◌, ◌+◌, ◌*◌, ◌<◌, ◌^◌, ◌++◌, map, take, drop}
use Rattle.std.specs.List.{All, flat_map}
use Rattle.h5w_model.specs.Trees.{child_bytes, pointer_size}
use Rattle.h5w_bt.specs.Parts.{child_of}
use Rattle.h5w_bt.proofs.children.write_children.Given as goal

abbrev pub invariant-loop-i : goal.invariant-loop-i
invariant-loop-i l = record {
  written : l.out ≡ (take l.from l.fn.out ++ flat_map (child_bytes l.depth) (take l.i (map child_of l.children))) ++ drop (l.from + l.i * pointer_size l.depth) l.fn.out;
  fits : All (λ c. c.address < 2 ^ 64) (take l.i l.children);
}
