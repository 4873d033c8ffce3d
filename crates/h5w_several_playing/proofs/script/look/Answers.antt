use Rattle.std.proofs.Common.{ℕ, suc, ◌+◌, ◌-◌, ◌≡◌, ◌∙◌, ap, subst, arith}
use Rattle.h5w_model.specs.declared.reply.Reply.TheVariants as replies
use Rattle.h5w_several_core.specs.Worlds.{reply_of}
use Rattle.h5w_several_core.specs.declared.events.FileReply.{FileReply}
use Rattle.h5w_several_core.specs.declared.events.FileReply.TheVariants as answers
use Rattle.h5w_several_playing.proofs.ScriptLemmas.{Looked, LooksOnce, answer_looked, ends_other, last_looked, line_looked, more_looked, none_looked}
use Rattle.h5w_several_playing.proofs.script.look.Goals as goal

pub loop-init : goal.loop-init
loop-init c = none_looked c.args.world.now c.args.reader

pub loop-preserved : goal.loop-preserved
loop-preserved c =
    let is : c.in_ok-answer.answer ≡ answers.Says (replies.Looking c.in-Looking.reader) = c.in-Says.is ∙ ap answers.Says c.in-Looking.is in
    let one : suc (c.loop.counter - 1) ≡ c.loop.counter + 1 - 1 = omega arith in
    subst (λ (j : ℕ). Looked c.args.world.now c.step.new.self c.args.reader j) one
    (more_looked c.args.world.now c.loop.world c.step.new.self c.args.reader (c.loop.counter - 1) c.in-Looking.reader c.loop.invariant c.step.ensures.rules
    (subst (λ (a : FileReply). LooksOnce c.loop.world c.step.new.self c.args.reader (reply_of a)) is c.in_ok-answer.ensures.lawful))

pub returns-in_default-reply : goal.returns-in_default-reply
returns-in_default-reply c = record {
  rules = c.step.ensures.rules ∙ c.loop.invariant.rules;
  answers = λ used.
      line_looked used c.args.world.now c.loop.world c.step.new.self c.args.reader (c.loop.counter - 1) c.args.most c.in-Says.reply c.loop.invariant c.step.ensures.rules
      (subst (λ (a : FileReply). LooksOnce c.loop.world c.step.new.self c.args.reader (reply_of a)) c.in-Says.is c.in_ok-answer.ensures.lawful)
      (record { within = omega arith; looking = λ reader e. absurd (c.in_default-reply.not-Looking reader e) });
}

pub returns-in_default-clause-answers : goal.returns-in_default-clause-answers
returns-in_default-clause-answers c = λ used.
    answer_looked used c.args.world.now c.loop.world c.step.new.self c.args.reader (c.loop.counter - 1) c.args.most c.in_ok-answer.answer c.loop.invariant c.step.ensures.rules c.in_ok-answer.ensures.lawful
    (ends_other c.in_ok-answer.answer c.args.most (c.loop.counter - 1 + 1) (omega arith) (λ reader e. c.in_default.not-Says (replies.Looking reader) e))

pub returns-clause-answers : goal.returns-clause-answers
returns-clause-answers c = λ used.
    last_looked used c.args.world.now c.loop.world c.step-2.new.self c.args.reader (c.loop.counter - 1) c.args.most c.step-2.result c.loop.invariant c.step-2.ensures.rules c.step-2.ensures.lawful (omega arith)
