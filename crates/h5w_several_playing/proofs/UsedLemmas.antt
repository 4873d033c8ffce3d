-- A line but `use I` leaves the dataset in use.
use Rattle.std.proofs.Common.{◌≡◌, ℕ, ℤ, List, refl}
use Rattle.h5w_model.specs.Lawful.{Line, adds, flushes, shows_up_to, ends, opens, refreshes, reads, looks}
use Rattle.h5w_model.specs.declared.reply.Reply.{Reply}
use Rattle.h5w_model.specs.declared.reply.Reply.TheVariants as replies
use Rattle.h5w_several_script_laws.specs.Scripts.{FileReply, FileState, asks, flushing_each, goes_on, next_all, says, took_over, using}

after_append : (F : FileState) (vs : List ℤ) (reply : Reply) → (next_all F (asks (adds vs)) (says reply)).used ≡ F.used
after_append F vs (replies.Appended rows pending) = refl
after_append F vs (replies.Flushing pieces) = refl
after_append F vs (replies.Written pieces pending) = refl
after_append F vs (replies.Busy pending) = refl
after_append F vs replies.Stopped = refl
after_append F vs (replies.OutOfRange index value) = refl
after_append F vs (replies.FullChunks chunks limit) = refl
after_append F vs (replies.FullSpace at size limit) = refl
after_append F vs replies.Deep = refl
after_append F vs (replies.Opening reader) = refl
after_append F vs (replies.Refreshing reader) = refl
after_append F vs (replies.Reading reader) = refl
after_append F vs (replies.Rows reader rows) = refl
after_append F vs (replies.Values reader values) = refl
after_append F vs (replies.Again reader attempts) = refl
after_append F vs (replies.Looking reader) = refl
after_append F vs (replies.Idle reader) = refl
after_append F vs (replies.ReaderBusy reader) = refl
after_append F vs (replies.NoReader reader) = refl
after_append F vs (replies.ReaderExists reader) = refl
after_append F vs (replies.OutOfRows reader from count rows) = refl

after_pieces : (F : FileState) (k : ℕ) (reply : Reply) → (next_all F (asks (shows_up_to k)) (says reply)).used ≡ F.used
after_pieces F k (replies.Appended rows pending) = refl
after_pieces F k (replies.Flushing pieces) = refl
after_pieces F k (replies.Written pieces pending) = refl
after_pieces F k (replies.Busy pending) = refl
after_pieces F k replies.Stopped = refl
after_pieces F k (replies.OutOfRange index value) = refl
after_pieces F k (replies.FullChunks chunks limit) = refl
after_pieces F k (replies.FullSpace at size limit) = refl
after_pieces F k replies.Deep = refl
after_pieces F k (replies.Opening reader) = refl
after_pieces F k (replies.Refreshing reader) = refl
after_pieces F k (replies.Reading reader) = refl
after_pieces F k (replies.Rows reader rows) = refl
after_pieces F k (replies.Values reader values) = refl
after_pieces F k (replies.Again reader attempts) = refl
after_pieces F k (replies.Looking reader) = refl
after_pieces F k (replies.Idle reader) = refl
after_pieces F k (replies.ReaderBusy reader) = refl
after_pieces F k (replies.NoReader reader) = refl
after_pieces F k (replies.ReaderExists reader) = refl
after_pieces F k (replies.OutOfRows reader from count rows) = refl

after_end : (F : FileState) (reply : Reply) → (next_all F (asks ends) (says reply)).used ≡ F.used
after_end F (replies.Appended rows pending) = refl
after_end F (replies.Flushing pieces) = refl
after_end F (replies.Written pieces pending) = refl
after_end F (replies.Busy pending) = refl
after_end F replies.Stopped = refl
after_end F (replies.OutOfRange index value) = refl
after_end F (replies.FullChunks chunks limit) = refl
after_end F (replies.FullSpace at size limit) = refl
after_end F replies.Deep = refl
after_end F (replies.Opening reader) = refl
after_end F (replies.Refreshing reader) = refl
after_end F (replies.Reading reader) = refl
after_end F (replies.Rows reader rows) = refl
after_end F (replies.Values reader values) = refl
after_end F (replies.Again reader attempts) = refl
after_end F (replies.Looking reader) = refl
after_end F (replies.Idle reader) = refl
after_end F (replies.ReaderBusy reader) = refl
after_end F (replies.NoReader reader) = refl
after_end F (replies.ReaderExists reader) = refl
after_end F (replies.OutOfRows reader from count rows) = refl

pub keeps_used : (F : FileState) (line : Line) (reply : FileReply) → (next_all F (asks line) reply).used ≡ F.used
keeps_used F (adds vs) (says reply) = after_append F vs reply
keeps_used F (shows_up_to k) (says reply) = after_pieces F k reply
keeps_used F ends (says reply) = after_end F reply
keeps_used F flushes (says reply) = refl
keeps_used F (opens r) (says reply) = refl
keeps_used F (refreshes r) (says reply) = refl
keeps_used F (reads r from count) (says reply) = refl
keeps_used F (looks r k) (says reply) = refl
keeps_used F (adds vs) (using i) = refl
keeps_used F (adds vs) (flushing_each counts) = refl
keeps_used F (adds vs) goes_on = refl
keeps_used F (adds vs) (took_over rows) = refl
keeps_used F flushes (using i) = refl
keeps_used F flushes (flushing_each counts) = refl
keeps_used F flushes goes_on = refl
keeps_used F flushes (took_over rows) = refl
keeps_used F (shows_up_to k) (using i) = refl
keeps_used F (shows_up_to k) (flushing_each counts) = refl
keeps_used F (shows_up_to k) goes_on = refl
keeps_used F (shows_up_to k) (took_over rows) = refl
keeps_used F ends (using i) = refl
keeps_used F ends (flushing_each counts) = refl
keeps_used F ends goes_on = refl
keeps_used F ends (took_over rows) = refl
keeps_used F (opens r) (using i) = refl
keeps_used F (opens r) (flushing_each counts) = refl
keeps_used F (opens r) goes_on = refl
keeps_used F (opens r) (took_over rows) = refl
keeps_used F (refreshes r) (using i) = refl
keeps_used F (refreshes r) (flushing_each counts) = refl
keeps_used F (refreshes r) goes_on = refl
keeps_used F (refreshes r) (took_over rows) = refl
keeps_used F (reads r from count) (using i) = refl
keeps_used F (reads r from count) (flushing_each counts) = refl
keeps_used F (reads r from count) goes_on = refl
keeps_used F (reads r from count) (took_over rows) = refl
keeps_used F (looks r k) (using i) = refl
keeps_used F (looks r k) (flushing_each counts) = refl
keeps_used F (looks r k) goes_on = refl
keeps_used F (looks r k) (took_over rows) = refl
