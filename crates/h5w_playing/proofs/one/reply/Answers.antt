use Rattle.std.proofs.Common.{subst, sym}
use Rattle.h5w_input.specs.Words.{line_of_script}
use Rattle.h5w_input.specs.declared.script.ScriptLine.{ScriptLine}
use Rattle.h5w_playing.specs.Answers.{Answers}
use Rattle.h5w_playing.proofs.one.reply.Goals as goal

pub returns-in_ok-step-in-Append : goal.returns-in_ok-step-in-Append
returns-in_ok-step-in-Append c =
    subst (λ (l : ScriptLine). Answers c.args.world.now (line_of_script l) c.in_ok-step-in-Append.field-0 c.step.new.self) (sym c.in-Append.is)
    (record { rules = c.step.ensures.rules; lawful = c.in_ok-step-in-Append.ensures.lawful })

pub returns-in_ok-step-in-Flush : goal.returns-in_ok-step-in-Flush
returns-in_ok-step-in-Flush c =
    subst (λ (l : ScriptLine). Answers c.args.world.now (line_of_script l) c.in_ok-step-in-Flush.field-0 c.step-in-Flush.new.self) (sym c.in-Flush.is)
    (record { rules = c.step-in-Flush.ensures.rules; lawful = c.in_ok-step-in-Flush.ensures.lawful })

pub returns-in_ok-step-in-Stop : goal.returns-in_ok-step-in-Stop
returns-in_ok-step-in-Stop c =
    subst (λ (l : ScriptLine). Answers c.args.world.now (line_of_script l) c.in_ok-step-in-Stop.field-0 c.step-in-Stop.new.self) (sym c.in-Stop.is)
    (record { rules = c.step-in-Stop.ensures.rules; lawful = c.in_ok-step-in-Stop.ensures.lawful })

pub returns-in_ok-step-in-Open : goal.returns-in_ok-step-in-Open
returns-in_ok-step-in-Open c =
    subst (λ (l : ScriptLine). Answers c.args.world.now (line_of_script l) c.in_ok-step-in-Open.field-0 c.step-in-Open.new.self) (sym c.in-Open.is)
    (record { rules = c.step-in-Open.ensures.rules; lawful = c.in_ok-step-in-Open.ensures.lawful })

pub returns-in_ok-step-in-Refresh : goal.returns-in_ok-step-in-Refresh
returns-in_ok-step-in-Refresh c =
    subst (λ (l : ScriptLine). Answers c.args.world.now (line_of_script l) c.in_ok-step-in-Refresh.field-0 c.step-in-Refresh.new.self) (sym c.in-Refresh.is)
    (record { rules = c.step-in-Refresh.ensures.rules; lawful = c.in_ok-step-in-Refresh.ensures.lawful })

pub returns-in_ok-step-in-Read : goal.returns-in_ok-step-in-Read
returns-in_ok-step-in-Read c =
    subst (λ (l : ScriptLine). Answers c.args.world.now (line_of_script l) c.in_ok-step-in-Read.field-0 c.step-in-Read.new.self) (sym c.in-Read.is)
    (record { rules = c.step-in-Read.ensures.rules; lawful = c.in_ok-step-in-Read.ensures.lawful })
