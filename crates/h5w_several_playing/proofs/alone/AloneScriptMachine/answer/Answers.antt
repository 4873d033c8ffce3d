use Rattle.std.proofs.Common.{◌≡◌, ℕ, List, None, Ok, Err, ap, subst, sym}
use Rattle.std.specs.Prelude.{OnOk}
use Rattle.h5w_input.specs.LinesAhead.{IsLine}
use Rattle.h5w_playing.specs.Lines.{file_line_of}
use Rattle.h5w_playing.specs.Machines.{GivesReply}
use Rattle.h5w_playing.specs.declared.machine.Refusal.TheVariants.{Line}
use Rattle.h5w_several_playing.specs.Alone.{FitsOne, spelling_by}
use Rattle.h5w_several_playing.specs.declared.alone.AloneScript.{AloneScript}
use Rattle.h5w_several_playing.specs.declared.alone.AloneScript.TheVariants.{Own, Taken}
use Rattle.h5w_several_playing.proofs.AloneLemmas.{taken_alone}
use Rattle.h5w_several_playing.proofs.alone.AloneScriptMachine.answer.Goals as goal

pub returns-in-Taken-clause-answers : goal.returns-in-Taken-clause-answers
returns-in-Taken-clause-answers c =
    subst (λ (a : AloneScript). OnOk c.answer.result ((bytes : List ℕ) → IsLine c.args.line.now bytes → GivesReply (spelling_by a) bytes (FitsOne a) (FitsOne (Taken c.answer.new.self)) c.args.text.now.items c.answer.new.text.items))
    (sym c.in-Taken.is) c.answer.ensures.answers

pub returns-in-Taken-clause-refused : goal.returns-in-Taken-clause-refused
returns-in-Taken-clause-refused c =
    subst (λ (a : AloneScript). c.answer.result ≡ Err Line → (bytes : List ℕ) → IsLine c.args.line.now bytes → file_line_of (spelling_by a) bytes ≡ None) (sym c.in-Taken.is) c.answer.ensures.refused

pub returns-in-Said-clause-answers : goal.returns-in-Said-clause-answers
returns-in-Said-clause-answers c =
    subst (λ (a : AloneScript). (bytes : List ℕ) → IsLine c.args.line.now bytes → GivesReply (spelling_by a) bytes (FitsOne a) (FitsOne (Own c.answer_own.new.world)) c.args.text.now.items c.answer_own.new.text.items) (sym c.in-Own.is)
    (c.in_ok-outcome-in-Own.ensures.said (ap Ok c.in-Said.is))

pub returns-in_ok-take_over-in-TakesOver-clause-answers : goal.returns-in_ok-take_over-in-TakesOver-clause-answers
returns-in_ok-take_over-in-TakesOver-clause-answers c = λ bytes given.
    let asks = c.in_ok-outcome-in-Own.ensures.takes (ap Ok c.in-TakesOver.is) in
    subst (λ (a : AloneScript). GivesReply (spelling_by a) bytes (FitsOne a) (FitsOne c.take_over.new.self) c.args.text.now.items c.take_over.new.text.items) (sym c.in-Own.is)
    (taken_alone c.in-Own.world c.answer_own.new.world c.take_over.new.self c.args.line.now bytes c.args.text.now.items c.answer_own.new.text.items c.take_over.new.text.items asks given c.in_ok-take_over-in-TakesOver.ensures)
