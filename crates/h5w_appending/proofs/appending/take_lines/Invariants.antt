use Rattle.std.proofs.Common.{◌≡◌, ◌+◌, length}
use Rattle.h5w_input.specs.LinesAhead.{lines_ahead}
use Rattle.h5w_appending.proofs.InputLemmas.{Taking}
use Rattle.h5w_appending.proofs.appending.take_lines.Given as goal

abbrev pub invariant-loop-session : goal.invariant-loop-session
invariant-loop-session g l = record {
  taking : Taking l.fn.target.faults l.fn.target.file.now l.fn.session l.session (lines_ahead (g.S.Source.view l.fn.lines.source.now) l.fn.lines.intake.now) (lines_ahead (g.S.Source.view l.lines.source.now) l.lines.intake.now) l.number (g.D.Disk.view l.fn.disk) (g.D.Disk.view l.disk) (g.K.Sink.view l.fn.sink) (g.K.Sink.view l.sink);
  same_reference : l.lines.source.ghost_name ≡ l.fn.lines.source.ghost_name;
  same_intake : l.lines.intake.ghost_name ≡ l.fn.lines.intake.ghost_name;
}

abbrev pub decreases-loop-session : goal.decreases-loop-session
decreases-loop-session g l = length l.lines.intake.now.held + l.lines.intake.now.more
