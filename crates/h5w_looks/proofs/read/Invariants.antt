use Rattle.std.proofs.Common.{◌≡◌, ◌+◌, ◌≤◌, ◌^◌, ◌++◌, ℕ, List, length}
use Rattle.h5w_model.specs.Numbers.{range}
use Rattle.h5w_model.specs.Programs.{below_end}
use Rattle.h5w_image.specs.View.{Looked}
use Rattle.h5w_looks.specs.Still.{IsStill}
use Rattle.h5w_looks.proofs.read.Given as goal

abbrev pub invariant-loop-rest : goal.invariant-loop-rest
invariant-loop-rest g l = record {
  looked : Looked (g.I.PieceRead.view l.initial.image) (g.I.PieceRead.view l.image);
  exact : (img : List ℕ) → IsStill (g.I.PieceRead.view l.initial.image) img → l.bytes.items ++ range img l.place l.rest ≡ range img l.at (below_end l.at l.len);
  behind : l.at + length l.bytes.items ≤ l.place;
  few : length l.bytes.items + l.rest ≤ l.len;
  inside : l.place + l.rest ≤ 2 ^ 64;
}

abbrev pub decreases-loop-rest : goal.decreases-loop-rest
decreases-loop-rest g l = l.rest
