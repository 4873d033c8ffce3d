use Rattle.std.proofs.Common.{◌≤◌}
use Rattle.h5w_reader.specs.Cores.{reader}
use Rattle.h5w_answers.proofs.AnsweringLemmas.{Asking}
use Rattle.h5w_answers.proofs.EndLemmas.{looks_left}
use Rattle.h5w_answers.proofs.call.answer.Given as goal

abbrev pub invariant-loop-look : goal.invariant-loop-look
invariant-loop-look g l = record {
  asking : Asking (g.I.PieceRead.view l.initial.image) (g.I.PieceRead.view l.image) (reader l.initial.reader) (reader l.reader);
  fewer : l.looks ≤ l.initial.looks;
}

abbrev pub decreases-loop-look : goal.decreases-loop-look
decreases-loop-look g l = looks_left (reader l.reader).left
