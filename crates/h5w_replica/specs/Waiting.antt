-- Pieces that wait between two images, as a journal has them.
use Rattle.h5w_image.specs.declared.journal.Entry.{Entry}
use Rattle.h5w_replica.specs.declared.pieces.Spot.{Spot}

-- the spot of a piece, as an entry of a journal
abbrev pub entry_of : Spot → Entry
entry_of s = record { at = s.at; from = s.from; len = s.len }
