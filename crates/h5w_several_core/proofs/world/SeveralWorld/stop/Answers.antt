use Rattle.std.proofs.Common.{◌∙◌, ap, subst}
use Rattle.h5w_model.specs.declared.reply.Reply.TheVariants as replies
use Rattle.h5w_several_script_laws.specs.Scripts.{says}
use Rattle.h5w_several_core.specs.Worlds.{FileSteps, SeveralView, pollings_of}
use Rattle.h5w_several_core.specs.declared.events.FileEvent.TheVariants as events
use Rattle.h5w_several_core.proofs.KeptLemmas.{kept_by}
use Rattle.h5w_several_core.proofs.MachineLemmas.{world_of}
use Rattle.h5w_several_core.proofs.ShowLemmas.{stop_hold, stop_polls, stop_steps}
use Rattle.h5w_several_core.proofs.world.SeveralWorld.stop.Goals as goal

pub invariant_of-self : goal.invariant_of-self
invariant_of-self c =
    let i = c.self.inside in
    let e = c.stop.ensures in
    let polls = stop_polls i.session c.stop.new.self i.image i.attempts i.places.items e.session e.stands in (
      stop_hold i.session c.stop.new.self i.image i.attempts i.places.items e.session e.stands c.self.invariant.0,
      kept_by i.session c.stop.new.self i.image i.image i.attempts i.places.items i.places.items c.self.invariant.0 polls c.self.invariant.1,
    )

pub returns-clause-steps : goal.returns-clause-steps
returns-clause-steps c =
    let i = c.self.inside in
    let e = c.stop.ensures in
    subst (λ (w : SeveralView). FileSteps w events.Stop (says replies.Stopped) (world_of c.stop.new.self i.image i.attempts i.places.items)) c.self.view_is
    (stop_steps i.session c.stop.new.self i.image i.attempts i.places.items e.session e.stands)

pub returns-clause-polls : goal.returns-clause-polls
returns-clause-polls c =
    let i = c.self.inside in
    let e = c.stop.ensures in
    stop_polls i.session c.stop.new.self i.image i.attempts i.places.items e.session e.stands ∙ ap pollings_of c.self.view_is
