use Rattle.std.proofs.Common.{subst}
use Rattle.h5w_running.specs.Runs.{Refuses}
use Rattle.h5w_running.specs.declared.refusal.Refusal.{Refusal}
use Rattle.h5w_running.proofs.EndLemmas.{error_ends, image_breaks, image_ends}
use Rattle.h5w_running.proofs.running.refuse.Goals as goal

pub returns-in-Error : goal.returns-in-Error
returns-in-Error g c = λ a s t h. error_ends a c.in-Error.error c.tell.result (subst (λ (e : Refusal). Refuses a s t e) c.in-Error.is h) c.tell.ensures

pub returns-in-Sink : goal.returns-in-Sink
returns-in-Sink g c = λ a s t h. image_breaks a c.in-Image.worn c.say_line.result (subst (λ (e : Refusal). Refuses a s t e) c.in-Image.is h) c.in-Sink.is c.say_line.ensures

pub returns-in_default : goal.returns-in_default
returns-in_default g c = λ a s t h. image_ends a c.in-Image.worn c.say_line.result (subst (λ (e : Refusal). Refuses a s t e) c.in-Image.is h) c.in_default.not-Sink c.say_line.ensures
