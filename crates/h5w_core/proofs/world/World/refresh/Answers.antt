use Rattle.h5w_core.proofs.ReaderLemmas.{refresh_answers, refresh_hold}
use Rattle.h5w_core.proofs.world.World.refresh.Goals as goal

pub invariant_of-self : goal.invariant_of-self
invariant_of-self c =
    let i = c.self.inside in (
      refresh_hold i.session i.image i.attempts c.args.reader i.readers.items c.self.invariant.0 c.requires c.index_mut.result.now c.refresh.new.place c.index_mut.ensures.value c.refresh.result c.refresh.ensures.gives,
      c.self.invariant.1,
    )

pub returns-clause-steps : goal.returns-clause-steps
returns-clause-steps c =
    let i = c.self.inside in
    refresh_answers i.session i.image i.attempts c.args.reader i.readers.items c.self.invariant.0 c.requires c.index_mut.result.now c.refresh.new.place c.index_mut.ensures.value c.args.self.now c.refresh.result c.self.view_is c.refresh.ensures.gives
