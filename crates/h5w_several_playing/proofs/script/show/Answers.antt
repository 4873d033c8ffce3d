use Rattle.std.proofs.Common.{ℕ, ◌≡◌, min, subst, arith}
use Rattle.h5w_several_core.specs.Worlds.{reply_of}
use Rattle.h5w_several_playing.proofs.ScriptLemmas.{Shown, line_shown, more_shown, none_shown}
use Rattle.h5w_several_playing.proofs.script.show.Goals as goal

pub loop-init : goal.loop-init
loop-init c = none_shown c.args.world.now

pub loop-preserved : goal.loop-preserved
loop-preserved c = more_shown c.args.world.now c.loop.world c.step.new.self c.loop.counter (reply_of c.in_ok-step.field-0) c.loop.invariant (omega arith) c.step.ensures.rules c.in_ok-step.ensures.lawful

pub returns-clause-answers : goal.returns-clause-answers
returns-clause-answers c = λ used.
    let all : c.loop.counter ≡ c.min-pieces.result = omega arith in
    let least : c.min-pieces.result ≡ min c.args.most c.pending-pending.result = omega arith in
    line_shown used c.args.world.now c.loop.world c.args.most c.min-pieces.result c.pending-pending.result (subst (λ (j : ℕ). Shown c.args.world.now c.loop.world j) all c.loop.invariant) c.pending-pending.ensures.pending least
