-- The reply to an event, from that of the call that did it.
use Rattle.std.proofs.Common.{◌≡◌, Result, Ok, Err, subst}
use Rattle.std.specs.Result.{IfOk}
use Rattle.h5w_model.specs.Lawful.{ScriptState, Allowed, line_of, next_state}
use Rattle.h5w_model.specs.declared.event.Event.{Event}
use Rattle.h5w_model.specs.declared.reply.Reply.{Reply}
use Rattle.h5w_model.specs.declared.memory.OutOfMemory.{OutOfMemory}
use Rattle.h5w_writer.specs.Refusals.{IsFullFor}
use Rattle.h5w_writer.specs.Sessions.{Session}
use Rattle.h5w_space.specs.declared.Full.{Full}
use Rattle.h5w_core.specs.Worlds.{WorldView, HaveOneLog, Steps, full_reply, rules_of}

-- what a step says of a reply
abbrev pub IsLawful : WorldView → Event → WorldView → Reply → Type 0
IsLawful old event new reply = (s : ScriptState) → HaveOneLog old s → Allowed (rules_of old) s (line_of event) reply × HaveOneLog new (next_state (rules_of old) s (line_of event) reply)

pub step_lawful : (old new : WorldView) (event done : Event) (reply : Reply) → done ≡ event → Steps old done reply new → IsLawful old event new reply
step_lawful old new event done reply is steps = subst (λ (e : Event). IsLawful old e new reply) is steps.lawful

pub lawful_if_ok : {E : Type 0} (old new : WorldView) (event done : Event) (r : Result Reply E) → done ≡ event → IfOk r (λ reply. Steps old done reply new) → IfOk r (λ reply. IsLawful old event new reply)
lawful_if_ok old new event done (Ok reply) is steps = step_lawful old new event done reply is steps
lawful_if_ok old new event done (Err e) is steps = tt

-- ---- No place

abbrev ok_reply : Reply → Result Reply OutOfMemory
ok_reply r = Ok r

-- a call that never tells that the file has no place
pub never_full : (s : Session) (r : Result Reply OutOfMemory) → ((full : Full) → r ≡ Ok (full_reply full) → ⊥) → (full : Full) → r ≡ Ok (full_reply full) → IsFullFor s full
never_full s r never full told = absurd (never full told)

pub reply_never_full : (s : Session) (r : Reply) → ((full : Full) → r ≡ full_reply full → ⊥) → (full : Full) → ok_reply r ≡ Ok (full_reply full) → IsFullFor s full
reply_never_full s r never full told = let same : r ≡ full_reply full = cc in absurd (never full same)
