use Rattle.std.proofs.Common.{refl, subst, sym}
use Rattle.std.specs.Prelude.{IfOk}
use Rattle.h5w_model.specs.Lawful.{adds, ends, flushes, opens, reads, refreshes}
use Rattle.h5w_input.specs.Words.{line_of_script}
use Rattle.h5w_input.specs.declared.script.ScriptLine.{ScriptLine}
use Rattle.h5w_several_core.specs.Worlds.{reply_of}
use Rattle.h5w_several_core.specs.declared.events.FileEvent.TheVariants as events
use Rattle.h5w_several_playing.specs.Sets.{AnswersIn}
use Rattle.h5w_several_playing.proofs.AnswerLemmas.{stepped}
use Rattle.h5w_several_playing.proofs.script.reply.Goals as goal

pub returns-in-Append-clause-answers : goal.returns-in-Append-clause-answers
returns-in-Append-clause-answers c =
    subst (λ (l : ScriptLine). IfOk c.step.result (λ reply. AnswersIn c.args.dataset c.args.world.now (line_of_script l) (reply_of reply) c.step.new.self)) (sym c.in-Append.is)
    (stepped c.args.dataset c.args.world.now c.step.new.self (events.Append c.args.dataset c.in-Append.values) (adds c.in-Append.values) c.step.result refl c.step.ensures.rules (λ F used. used) c.step.ensures.lawful)

pub returns-in-Flush-clause-answers : goal.returns-in-Flush-clause-answers
returns-in-Flush-clause-answers c =
    subst (λ (l : ScriptLine). IfOk c.step-in-Flush.result (λ reply. AnswersIn c.args.dataset c.args.world.now (line_of_script l) (reply_of reply) c.step-in-Flush.new.self)) (sym c.in-Flush.is)
    (stepped c.args.dataset c.args.world.now c.step-in-Flush.new.self events.Flush flushes c.step-in-Flush.result refl c.step-in-Flush.ensures.rules (λ F used. tt) c.step-in-Flush.ensures.lawful)

pub returns-in-Write-clause-answers : goal.returns-in-Write-clause-answers
returns-in-Write-clause-answers c =
    subst (λ (l : ScriptLine). IfOk c.show.result (λ reply. AnswersIn c.args.dataset c.args.world.now (line_of_script l) (reply_of reply) c.show.new.world)) (sym c.in-Write.is) (c.show.ensures.answers c.args.dataset)

pub returns-in-Stop-clause-answers : goal.returns-in-Stop-clause-answers
returns-in-Stop-clause-answers c =
    subst (λ (l : ScriptLine). IfOk c.step-in-Stop.result (λ reply. AnswersIn c.args.dataset c.args.world.now (line_of_script l) (reply_of reply) c.step-in-Stop.new.self)) (sym c.in-Stop.is)
    (stepped c.args.dataset c.args.world.now c.step-in-Stop.new.self events.Stop ends c.step-in-Stop.result refl c.step-in-Stop.ensures.rules (λ F used. tt) c.step-in-Stop.ensures.lawful)

pub returns-in-Open-clause-answers : goal.returns-in-Open-clause-answers
returns-in-Open-clause-answers c =
    subst (λ (l : ScriptLine). IfOk c.step-in-Open.result (λ reply. AnswersIn c.args.dataset c.args.world.now (line_of_script l) (reply_of reply) c.step-in-Open.new.self)) (sym c.in-Open.is)
    (stepped c.args.dataset c.args.world.now c.step-in-Open.new.self (events.Open c.in-Open.reader c.args.dataset) (opens c.in-Open.reader) c.step-in-Open.result refl c.step-in-Open.ensures.rules (λ F used. used) c.step-in-Open.ensures.lawful)

pub returns-in-Refresh-clause-answers : goal.returns-in-Refresh-clause-answers
returns-in-Refresh-clause-answers c =
    subst (λ (l : ScriptLine). IfOk c.step-in-Refresh.result (λ reply. AnswersIn c.args.dataset c.args.world.now (line_of_script l) (reply_of reply) c.step-in-Refresh.new.self)) (sym c.in-Refresh.is)
    (stepped c.args.dataset c.args.world.now c.step-in-Refresh.new.self (events.Refresh c.in-Refresh.reader) (refreshes c.in-Refresh.reader) c.step-in-Refresh.result refl c.step-in-Refresh.ensures.rules (λ F used. tt) c.step-in-Refresh.ensures.lawful)

pub returns-in-Read-clause-answers : goal.returns-in-Read-clause-answers
returns-in-Read-clause-answers c =
    let e = c.in-Read in
    subst (λ (l : ScriptLine). IfOk c.step-in-Read.result (λ reply. AnswersIn c.args.dataset c.args.world.now (line_of_script l) (reply_of reply) c.step-in-Read.new.self)) (sym e.is)
    (stepped c.args.dataset c.args.world.now c.step-in-Read.new.self (events.Read e.reader e.from e.count) (reads e.reader e.from e.count) c.step-in-Read.result refl c.step-in-Read.ensures.rules (λ F used. tt) c.step-in-Read.ensures.lawful)

pub returns-in-Look-clause-answers : goal.returns-in-Look-clause-answers
returns-in-Look-clause-answers c =
    subst (λ (l : ScriptLine). IfOk c.look.result (λ reply. AnswersIn c.args.dataset c.args.world.now (line_of_script l) (reply_of reply) c.look.new.world)) (sym c.in-Look.is) (c.look.ensures.answers c.args.dataset)
