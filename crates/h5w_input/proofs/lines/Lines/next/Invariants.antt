use Rattle.std.proofs.Common.{◌≡◌, ◌+◌, length}
use Rattle.h5w_input.specs.LinesAhead.{lines_ahead}
use Rattle.h5w_input.proofs.LineLemmas.{Before}
use Rattle.h5w_input.proofs.lines.Lines.next.Given as goal

abbrev pub invariant-loop-line : goal.invariant-loop-line
invariant-loop-line g l = record {
  before : Before l.line (lines_ahead (g.S.Source.view l.fn.self.source.now) l.fn.self.intake.now) (lines_ahead (g.S.Source.view l.self.source.now) l.self.intake.now);
  same_reference : l.self.source.ghost_name ≡ l.fn.self.source.ghost_name;
  same_intake : l.self.intake.ghost_name ≡ l.fn.self.intake.ghost_name;
}

abbrev pub decreases-loop-line : goal.decreases-loop-line
decreases-loop-line g l = length l.self.intake.now.held + l.self.intake.now.more
