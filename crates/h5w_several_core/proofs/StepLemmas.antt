-- The reply to an event, from that of the call that did it.
use Rattle.std.proofs.Common.{◌≡◌, Result, Ok, Err, subst}
use Rattle.std.specs.Result.{IfOk}
use Rattle.h5w_model.specs.Several.{FileLog}
use Rattle.h5w_model.specs.declared.memory.OutOfMemory.{OutOfMemory}
use Rattle.h5w_space.specs.declared.Full.{Full}
use Rattle.h5w_several_writer.specs.Refusals.{IsFullAmong}
use Rattle.h5w_several_script_laws.specs.Scripts.{AllowedAll, FileState, next_all}
use Rattle.h5w_core.specs.Worlds.{full_reply}
use Rattle.h5w_several_core.specs.Worlds.{FileSteps, HaveFileLog, IsUsedBy, SeveralView, StandsForFile, line_of, logged_in, reply_of}
use Rattle.h5w_several_core.specs.declared.events.FileEvent.{FileEvent}
use Rattle.h5w_several_core.specs.declared.events.FileReply.{FileReply}
use Rattle.h5w_several_core.specs.declared.events.FileReply.TheVariants.{Says}
use Rattle.h5w_several_core.proofs.FlushLemmas.{ok_of}

-- what a step says of a reply
abbrev pub IsLawful : SeveralView → FileEvent → SeveralView → FileReply → Type 0
IsLawful old event new reply = (F : FileState) → HaveFileLog old F → IsUsedBy event F → AllowedAll F (line_of event) (reply_of reply) × HaveFileLog new (next_all F (line_of event) (reply_of reply))

abbrev pub IsLogged : SeveralView → FileEvent → SeveralView → FileReply → Type 0
IsLogged old event new reply = (log : FileLog) → StandsForFile old log → StandsForFile new (logged_in old event (reply_of reply) log)

pub step_lawful : (old new : SeveralView) (event done : FileEvent) (reply : FileReply) → done ≡ event → FileSteps old done (reply_of reply) new → IsLawful old event new reply
step_lawful old new event done reply is steps = subst (λ (e : FileEvent). IsLawful old e new reply) is steps.lawful

pub step_logged : (old new : SeveralView) (event done : FileEvent) (reply : FileReply) → done ≡ event → FileSteps old done (reply_of reply) new → IsLogged old event new reply
step_logged old new event done reply is steps = subst (λ (e : FileEvent). IsLogged old e new reply) is steps.logged

pub lawful_if_ok : (old new : SeveralView) (event done : FileEvent) (r : Result FileReply OutOfMemory) → done ≡ event → IfOk r (λ reply. FileSteps old done (reply_of reply) new) → IfOk r (λ reply. IsLawful old event new reply)
lawful_if_ok old new event done (Ok reply) is steps = step_lawful old new event done reply is steps
lawful_if_ok old new event done (Err e) is steps = tt

pub logged_if_ok : (old new : SeveralView) (event done : FileEvent) (r : Result FileReply OutOfMemory) → done ≡ event → IfOk r (λ reply. FileSteps old done (reply_of reply) new) → IfOk r (λ reply. IsLogged old event new reply)
logged_if_ok old new event done (Ok reply) is steps = step_logged old new event done reply is steps
logged_if_ok old new event done (Err e) is steps = tt

-- ---- No place

abbrev IsFullIn : SeveralView → Full → Type 0
IsFullIn w full = IsFullAmong w.session.root w.session.places w.session.parts full

-- a call that never tells that the file has no place
pub never_full : (w : SeveralView) (r : Result FileReply OutOfMemory) → ((full : Full) → r ≡ Ok (Says (full_reply full)) → ⊥) → (full : Full) → r ≡ Ok (Says (full_reply full)) → IsFullIn w full
never_full w r never full told = absurd (never full told)

pub reply_never_full : (w : SeveralView) (r : FileReply) → ((full : Full) → r ≡ Says (full_reply full) → ⊥) → (full : Full) → ok_of r ≡ Ok (Says (full_reply full)) → IsFullIn w full
reply_never_full w r never full told = let same : r ≡ Says (full_reply full) = cc in absurd (never full same)
