use Rattle.std.proofs.Common.{ap, slice_set, subst}
use Rattle.h5w_several_script_laws.specs.Scripts.{says}
use Rattle.h5w_several_core.specs.Worlds.{FileSteps, SeveralView, pollings_of}
use Rattle.h5w_several_core.specs.declared.events.FileEvent.TheVariants as events
use Rattle.h5w_several_core.proofs.MachineLemmas.{world_of}
use Rattle.h5w_several_core.proofs.ReaderLemmas.{refresh_hold, refresh_steps, with_reader}
use Rattle.h5w_several_core.proofs.world.SeveralWorld.refresh.Goals as goal

pub invariant_of-self : goal.invariant_of-self
invariant_of-self c =
    let i = c.self.inside in
    let place = c.index_mut-place.result.now in (
      refresh_hold i.session i.image i.attempts c.args.reader i.places.items c.self.invariant.0 c.requires place c.index_mut-place.ensures.value c.refresh.new.place c.refresh.result c.refresh.ensures.gives,
      c.self.invariant.1,
    )

pub returns-clause-steps : goal.returns-clause-steps
returns-clause-steps c =
    let i = c.self.inside in
    let place = c.index_mut-place.result.now in
    subst (λ (w : SeveralView). FileSteps w (events.Refresh c.args.reader) (says c.refresh.result) (world_of i.session i.image i.attempts (slice_set i.places.items c.args.reader (with_reader place c.refresh.new.place)))) c.self.view_is
    (refresh_steps i.session i.image i.attempts c.args.reader i.places.items c.self.invariant.0 c.requires place c.index_mut-place.ensures.value c.refresh.new.place c.refresh.result c.refresh.ensures.gives)

pub returns-clause-polls : goal.returns-clause-polls
returns-clause-polls c = ap pollings_of c.self.view_is
