-- What a call of the writer makes of a session of several datasets and of a script's state: its reply is lawful, and
-- both fit again.
use Rattle.std.specs.Prelude.{◌≡◌, ℕ, ◌+◌, ◌*◌, ◌/◌, ◌<◌, false, List, [], length, ℤ, None, Some, slice_get}
use Rattle.h5w_model.specs.Lawful.{adds, ends, flushes, shows_up_to}
use Rattle.h5w_model.specs.declared.piece.Write.{Write}
use Rattle.h5w_model.specs.declared.reply.Reply.TheVariants as replies
use Rattle.h5w_writer.specs.Refusals.{append_refusal}
use Rattle.h5w_writer.specs.Sessions.{AreRows, Session, rows_of}
use Rattle.h5w_several_writer_laws.specs.Sessions.{AfterPieceOf, AppendsTo, FlushesAll, SameButHeld, Sessions, all_pending, counts_of, stopped_all}
use Rattle.h5w_several_script_laws.specs.Scripts.{FileLine, FileReply, FileState, AllowedAll, asks, flushing_each, next_all, says, using, uses}
use Rattle.h5w_several_script_laws.specs.Polled.{Places}
use Rattle.h5w_several_world_laws.specs.Worlds.{HaveOneFileLog}

-- the line may be given this reply, and the state after it fits the session that is left
pub record StepsTo (attempts : ℕ) (ps : Places) (F : FileState) (line : FileLine) (reply : FileReply) (new : Sessions) : Type 0 where
  pub allowed : AllowedAll F line reply
  pub fits : HaveOneFileLog new attempts ps (next_all F line reply)

pub record StepLaws : Type 0 where
  -- the oldest piece became visible: it is told how many are left
  pub shown : (old new : Sessions) (attempts : ℕ) (ps : Places) (F : FileState) (w : Write) → HaveOneFileLog old attempts ps F → AfterPieceOf w old new
      → StepsTo attempts ps F (asks (shows_up_to 1)) (says (replies.Written 1 (length (all_pending new.parts)))) new
  -- no piece is pending
  pub shown_none : (S : Sessions) (attempts : ℕ) (ps : Places) (F : FileState) → HaveOneFileLog S attempts ps F → all_pending S.parts ≡ []
      → StepsTo attempts ps F (asks (shows_up_to 1)) (says (replies.Written 0 0)) S
  -- the writer stops
  pub stopped : (S : Sessions) (attempts : ℕ) (ps : Places) (F : FileState) → HaveOneFileLog S attempts ps F → StepsTo attempts ps F (asks ends) (says replies.Stopped) (stopped_all S)
  -- another dataset is in use
  pub used : (S : Sessions) (attempts : ℕ) (ps : Places) (F : FileState) (i : ℕ) → HaveOneFileLog S attempts ps F → 0 < i → i < length S.parts + 1 → StepsTo attempts ps F (uses i) (using i) S

-- values are appended to the dataset in use; no row is written before its flush
pub record AppendStep : Type 0 where
  pub appended : (old new : Sessions) (attempts : ℕ) (ps : Places) (F : FileState) (values : List ℤ) → HaveOneFileLog old attempts ps F → old.stopped ≡ false → all_pending old.parts ≡ []
      → (x : AppendsTo F.used values old new) → AreRows x.part values → append_refusal x.part values ≡ None
      → StepsTo attempts ps F (asks (adds values)) (says (replies.Appended (rows_of x.part + length values / x.part.dataset.shape.cols) 0)) new

-- A flush. It has pieces for each dataset with rows that wait, no more than the loads of all together.
pub record FlushStep : Type 0 where
  pub flushed : (old new : Sessions) (attempts : ℕ) (ps : Places) (F : FileState) → HaveOneFileLog old attempts ps F → old.stopped ≡ false → all_pending old.parts ≡ [] → FlushesAll old new
      → StepsTo attempts ps F (asks flushes) (flushing_each (counts_of new.parts)) new
