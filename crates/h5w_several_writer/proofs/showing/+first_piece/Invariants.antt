use Rattle.std.proofs.Common.{length}
use Rattle.h5w_several_writer.proofs.showing.+first_piece.Given as goal

abbrev pub decreases-first_piece : goal.decreases-first_piece
decreases-first_piece l = length l.parts.now
