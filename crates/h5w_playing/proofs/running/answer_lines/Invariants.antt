use Rattle.std.proofs.Common.{◌≡◌, ◌≤◌, length, ◌+◌}
use Rattle.h5w_input.specs.LinesAhead.{Stays, lines_ahead}
use Rattle.h5w_several_script_laws.specs.Scripts.{FileState}
use Rattle.h5w_playing.proofs.PlayLemmas.{GoingWhole}
use Rattle.h5w_playing.proofs.running.answer_lines.Given as goal

abbrev pub invariant-loop-text : goal.invariant-loop-text
invariant-loop-text g l = record {
  goes : (F : FileState) → g.M.Machine.fits l.fn.machine F → GoingWhole (lines_ahead (g.S.Source.view l.fn.lines.source.now) l.fn.lines.intake.now) (lines_ahead (g.S.Source.view l.lines.source.now) l.lines.intake.now) (g.M.Machine.spelling l.fn.machine) F
      (g.M.Machine.fits l.machine) l.number (g.K.Sink.view l.fn.sink) (g.K.Sink.view l.sink);
  bound : (length l.lines.intake.now.held + l.lines.intake.now.more) + l.number ≤ length l.fn.lines.intake.now.held + l.fn.lines.intake.now.more;
  stays : Stays (lines_ahead (g.S.Source.view l.fn.lines.source.now) l.fn.lines.intake.now) (lines_ahead (g.S.Source.view l.lines.source.now) l.lines.intake.now);
  spelling : g.M.Machine.spelling l.machine ≡ g.M.Machine.spelling l.fn.machine;
  same_reference : l.lines.source.ghost_name ≡ l.fn.lines.source.ghost_name;
  same_intake : l.lines.intake.ghost_name ≡ l.fn.lines.intake.ghost_name;
}

abbrev pub decreases-loop-text : goal.decreases-loop-text
decreases-loop-text g l = length l.lines.intake.now.held + l.lines.intake.now.more
