use Rattle.h5w_input.specs.Words.{line_of_script}
use Rattle.h5w_several_core.specs.Worlds.{rules_of}
use Rattle.h5w_several_playing.proofs.AnswerLemmas.{heard_in, said, script_stays}
use Rattle.h5w_several_playing.proofs.script.SeveralScript.say_reply.Goals as goal

pub reply-requires : goal.reply-requires
reply-requires c =
    let i = c.self.inside in
    heard_in i.world i.used i.columns c.args.self.now (line_of_script c.args.line) c.self.view_is c.self.invariant c.requires

pub invariant_of-self : goal.invariant_of-self
invariant_of-self c =
    let i = c.self.inside in
    script_stays (rules_of i.world) (rules_of c.reply.new.world) i.used i.columns c.reply.ensures.rules c.self.invariant

pub returns-clause-says : goal.returns-clause-says
returns-clause-says c =
    let i = c.self.inside in
    said i.world c.reply.new.world i.used i.columns c.args.self.now (line_of_script c.args.line) c.in_ok-reply.reply c.args.text.now.items c.write.new.text.items c.write.result c.self.view_is c.in_ok-reply.ensures.answers c.write.ensures
