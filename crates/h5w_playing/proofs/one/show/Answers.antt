use Rattle.std.proofs.Common.{ℕ, ◌-◌, ◌≡◌, length, min, subst, sym, arith}
use Rattle.h5w_model.specs.Lawful.{shows_up_to}
use Rattle.h5w_model.specs.declared.reply.Reply.TheVariants.{Written}
use Rattle.h5w_playing.specs.Answers.{Answers}
use Rattle.h5w_playing.proofs.ShowLemmas.{Shown, line_shown, more_shown, none_shown}
use Rattle.h5w_playing.proofs.one.show.Goals as goal

pub loop-init : goal.loop-init
loop-init c = none_shown c.args.world.now

pub loop-preserved : goal.loop-preserved
loop-preserved c =
    more_shown c.args.world.now c.loop.world c.step.new.self c.loop.counter c.in_ok-step.field-0 c.loop.invariant
    (omega arith) c.step.ensures.rules c.in_ok-step.ensures.lawful

pub returns : goal.returns
returns c =
    let all : c.loop.counter ≡ c.min-pieces.result = omega arith in
    let least : c.min-pieces.result ≡ min c.args.most (length c.args.world.now.session.pending) = omega arith in
    subst (λ (q : ℕ). Answers c.args.world.now (shows_up_to c.args.most) (Written c.min-pieces.result (q - c.min-pieces.result)) c.loop.world) (sym c.pending-pending.ensures.pending)
    (line_shown c.args.world.now c.loop.world c.args.most c.min-pieces.result (subst (λ (j : ℕ). Shown c.args.world.now c.loop.world j) all c.loop.invariant) least)
