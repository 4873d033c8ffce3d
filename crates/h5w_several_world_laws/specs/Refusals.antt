-- Lines that the session refuses: the reply is lawful, and all stays.
use Rattle.std.specs.Prelude.{◌≡◌, ◌≢◌, ◌/◌, ◌<◌, ℕ, true, false, List, [], length, ℤ, None, Some, slice_get}
use Rattle.h5w_model.specs.Lawful.{adds, first_outside, flushes}
use Rattle.h5w_model.specs.declared.reply.Reply.TheVariants as replies
use Rattle.h5w_space.specs.declared.Full.{Full}
use Rattle.h5w_writer.specs.Sessions.{AreRows, Session, chunk_limit, chunks_with}
use Rattle.h5w_several_writer_laws.specs.Sessions.{SameButHeld, Sessions, all_pending}
use Rattle.h5w_several_writer.specs.Refusals.{NoPlaceAll}
use Rattle.h5w_several_script_laws.specs.Scripts.{FileState, asks, says}
use Rattle.h5w_several_script_laws.specs.Polled.{Places}
use Rattle.h5w_several_world_laws.specs.Worlds.{HaveOneFileLog}
use Rattle.h5w_several_world_laws.specs.Steps.{StepsTo}

-- The first that applies: the session was stopped, pieces are pending of any dataset, a value is outside the type of the
-- dataset in use, its rows would need too many chunks.
pub record RefusedSteps (S : Sessions) (attempts : ℕ) (ps : Places) (F : FileState) : Type 0 where
  pub append_stopped : (values : List ℤ) → S.stopped ≡ true → StepsTo attempts ps F (asks (adds values)) (says replies.Stopped) S
  pub append_busy : (values : List ℤ) → S.stopped ≡ false → all_pending S.parts ≢ [] → StepsTo attempts ps F (asks (adds values)) (says (replies.Busy (length (all_pending S.parts)))) S
  pub append_outside : (values : List ℤ) (part : Session) (x : ℕ × ℤ) → S.stopped ≡ false → all_pending S.parts ≡ [] → slice_get S.parts F.used ≡ Some part
      → first_outside part.dataset.int_type 0 values ≡ Some x → StepsTo attempts ps F (asks (adds values)) (says (replies.OutOfRange x.0 x.1)) S
  pub append_full : (values : List ℤ) (part : Session) → S.stopped ≡ false → all_pending S.parts ≡ [] → slice_get S.parts F.used ≡ Some part → AreRows part values
      → first_outside part.dataset.int_type 0 values ≡ None → chunk_limit part < chunks_with part (length values / part.dataset.shape.cols)
      → StepsTo attempts ps F (asks (adds values)) (says (replies.FullChunks (chunks_with part (length values / part.dataset.shape.cols)) (chunk_limit part))) S
  pub flush_stopped : S.stopped ≡ true → StepsTo attempts ps F (asks flushes) (says replies.Stopped) S
  pub flush_busy : S.stopped ≡ false → all_pending S.parts ≢ [] → StepsTo attempts ps F (asks flushes) (says (replies.Busy (length (all_pending S.parts)))) S

abbrev pub AllRefusedSteps : Type 0
AllRefusedSteps = (S : Sessions) (attempts : ℕ) (ps : Places) (F : FileState) → HaveOneFileLog S attempts ps F → RefusedSteps S attempts ps F

-- a flush that was refused may leave places held in an index: the same states fit
abbrev pub HeldStep : Type 0
HeldStep = (old new : Sessions) (attempts : ℕ) (ps : Places) (F : FileState) → HaveOneFileLog old attempts ps F → old.stopped ≡ false → all_pending old.parts ≡ [] → SameButHeld old new
    → HaveOneFileLog new attempts ps F

-- The file has no place for one of the parts: the flush is told which range has none, and the same states fit what it
-- leaves.
abbrev pub FullStep : Type 0
FullStep = (old new : Sessions) (attempts : ℕ) (ps : Places) (F : FileState) (full : Full) → (h : HaveOneFileLog old attempts ps F) → old.stopped ≡ false → all_pending old.parts ≡ [] → NoPlaceAll old h.log full → SameButHeld old new
    → StepsTo attempts ps F (asks flushes) (says (replies.FullSpace full.at full.size full.limit)) new
