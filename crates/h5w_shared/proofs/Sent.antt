-- Seats and notes may go to another thread, and threads may share an image.
use denote.Param.Send.{IsSend, IsSync, sendable}
use Rattle.std.proofs.Crossing.{crosses, frees}
use Rattle.atomic_table.proofs.shared.Shared.TheSendSync as shelf
use Rattle.atomic_table.proofs.shared.Seat.TheSendSync as seat
use Rattle.atomic_table.proofs.send_lease.SendLease.TheSendSync as lease
use Rattle.h5w_shared.specs.contracts.seats.Note.{the_row as note_row}
use Rattle.h5w_shared.specs.contracts.seats.ReaderSeat.{the_row as reader_row}
use Rattle.h5w_shared.specs.contracts.seats.WriterSeat.{the_row as writer_row}
use Rattle.h5w_shared.specs.contracts.worn.Worn.{the_row as worn_row}
use Rattle.h5w_shared.specs.contracts.image.SharedImage.{the_row as image_row}

pub note_is_sent : IsSend note_row
note_is_sent = search (seat.the_send, crosses, sendable) depth 40

pub reader_is_sent : IsSend reader_row
reader_is_sent = search (seat.the_send, crosses, sendable) depth 40

pub writer_is_sent : IsSend writer_row
writer_is_sent = search (seat.the_send, crosses, sendable) depth 40

pub worn_is_sent : IsSend worn_row
worn_is_sent = search (seat.the_send, crosses, sendable) depth 40

pub image_is_shared : IsSync image_row
image_is_shared = search (shelf.the_sync, lease.the_sync, frees, crosses, sendable) depth 40

-- for a search of what a thread's closure and its result ask
pub ruleset sent = (note_is_sent, reader_is_sent, writer_is_sent, worn_is_sent, image_is_shared, crosses, sendable)
