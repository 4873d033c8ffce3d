use Rattle.std.proofs.Common.{◌≡◌}
use Rattle.std.specs.Prelude.{IsSome}
use Rattle.h5w_model.specs.Unfinished.{wanted}
use Rattle.h5w_image.specs.View.{Looked}
use Rattle.h5w_reader.specs.Cores.{reader}
use Rattle.h5w_answers.specs.Answering.{IsForRows}
use Rattle.h5w_files.proofs.polling.rows_found.Given as goal

abbrev pub invariant-again : goal.invariant-again
invariant-again g l = record {
  looked : Looked (g.I.PieceRead.view l.fn.image) (g.I.PieceRead.view l.image);
  same : reader l.reader ≡ reader l.fn.reader;
  wanting : IsSome (wanted (reader l.reader).left);
  call : IsForRows (reader l.reader).left;
}

abbrev pub decreases-again : goal.decreases-again
decreases-again g l = l.looks
