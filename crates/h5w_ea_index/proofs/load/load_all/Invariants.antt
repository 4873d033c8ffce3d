use Rattle.std.proofs.Common.{ℕ, ◌*◌, List}
use Rattle.h5w_image.specs.View.{Looked}
use Rattle.h5w_looks.specs.Still.{IsStill}
use Rattle.h5w_ea_index.specs.Loading.{IsLoading}
use Rattle.h5w_ea_index.specs.Opened.{IsOpened}
use Rattle.h5w_ea_index.proofs.load.load_all.Given as goal

abbrev pub invariant-loop-sblock : goal.invariant-loop-sblock
invariant-loop-sblock g l = record {
  looked : Looked (g.I.PieceRead.view l.initial.image) (g.I.PieceRead.view l.image);
  loading : IsLoading l.header (65 * l.sblock) l.cache;
  opened : (img : List ℕ) → IsStill (g.I.PieceRead.view l.initial.image) img → IsOpened img l.first l.initial.cache → IsOpened img l.first l.cache;
}
