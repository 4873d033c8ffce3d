use Rattle.std.proofs.Common.{◌≡◌, ◌≤◌, ◌+◌, [], length}
use Rattle.h5w_options.specs.declared.options.Options.{Options}
use Rattle.h5w_input.specs.LinesAhead.{Stays, lines_ahead}
use Rattle.h5w_stopping.specs.Writing.{Follows}
use Rattle.h5w_stopping.proofs.TakingLemmas.{GoesWhole}
use Rattle.h5w_stopping.proofs.stopping.take_lines.Given as goal

abbrev pub invariant-loop-line : goal.invariant-loop-line
invariant-loop-line g l = record {
  goes : (o : Options) → Follows o [] l.fn.world → GoesWhole o (lines_ahead (g.S.Source.view l.fn.lines.source.now) l.fn.lines.intake.now) (lines_ahead (g.S.Source.view l.lines.source.now) l.lines.intake.now) l.world l.number;
  bound : (length l.lines.intake.now.held + l.lines.intake.now.more) + l.number ≤ length l.fn.lines.intake.now.held + l.fn.lines.intake.now.more;
  stays : Stays (lines_ahead (g.S.Source.view l.fn.lines.source.now) l.fn.lines.intake.now) (lines_ahead (g.S.Source.view l.lines.source.now) l.lines.intake.now);
  same_reference : l.lines.source.ghost_name ≡ l.fn.lines.source.ghost_name;
  same_intake : l.lines.intake.ghost_name ≡ l.fn.lines.intake.ghost_name;
}

abbrev pub decreases-loop-line : goal.decreases-loop-line
decreases-loop-line g l = length l.lines.intake.now.held + l.lines.intake.now.more
