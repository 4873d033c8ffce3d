use Rattle.std.proofs.Common.{length}
use Rattle.h5w_several_writer.proofs.showing.+show_piece.Given as goal

abbrev pub decreases-show_piece : goal.decreases-show_piece
decreases-show_piece l = length l.parts.now
