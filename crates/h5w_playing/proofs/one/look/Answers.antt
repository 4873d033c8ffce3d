use Rattle.std.proofs.Common.{ℕ, suc, ◌+◌, ◌-◌, ◌≡◌, subst, arith}
use Rattle.h5w_model.specs.declared.reply.Reply.{Reply}
use Rattle.h5w_playing.proofs.LookLemmas.{Looked, LooksOnce, last_looked, line_looked, more_looked}
use Rattle.h5w_playing.proofs.one.look.Goals as goal

pub returns-in_default : goal.returns-in_default
returns-in_default c =
    line_looked c.args.world.now c.loop.world c.step.new.self c.args.reader (c.loop.counter - 1) c.args.most c.in_ok-answer.answer c.loop.invariant c.step.ensures.rules c.in_ok-answer.ensures.lawful
    (record { within = omega arith; looking = λ reader e. absurd (c.in_default.not-Looking reader e) })

pub loop-preserved : goal.loop-preserved
loop-preserved c =
    let one : suc (c.loop.counter - 1) ≡ c.loop.counter + 1 - 1 = omega arith in
    subst (λ (j : ℕ). Looked c.args.world.now c.step.new.self c.args.reader j) one
    (more_looked c.args.world.now c.loop.world c.step.new.self c.args.reader (c.loop.counter - 1) c.in-Looking.reader c.loop.invariant c.step.ensures.rules
    (subst (λ (a : Reply). LooksOnce c.loop.world c.step.new.self c.args.reader a) c.in-Looking.is c.in_ok-answer.ensures.lawful))

pub returns : goal.returns
returns c =
    last_looked c.args.world.now c.loop.world c.step-2.new.self c.args.reader (c.loop.counter - 1) c.args.most c.step-2.result c.loop.invariant c.step-2.ensures.rules c.step-2.ensures.lawful (omega arith)
