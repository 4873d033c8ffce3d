use Rattle.h5w_several_core.specs.Worlds.{rules_of}
use Rattle.h5w_several_playing.proofs.AnswerLemmas.{script_stays, taken}
use Rattle.h5w_several_playing.proofs.script.SeveralScript.take_over.Goals as goal

pub invariant_of-self : goal.invariant_of-self
invariant_of-self c =
    let i = c.self.inside in
    script_stays (rules_of i.world) (rules_of c.step.new.self) i.used i.columns c.step.ensures.rules c.self.invariant

pub returns-clause-took : goal.returns-clause-took
returns-clause-took c =
    let i = c.self.inside in
    taken i.world c.step.new.self i.used i.columns c.args.self.now c.in_ok-reply.reply c.args.text.now.items c.write.new.text.items c.write.result c.self.view_is c.in_ok-reply.ensures.lawful c.write.ensures
