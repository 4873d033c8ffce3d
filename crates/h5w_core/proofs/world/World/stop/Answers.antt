use Rattle.std.proofs.Common.{◌∙◌, ap}
use Rattle.h5w_writer.specs.Sessions.{Session}
use Rattle.h5w_core.specs.Worlds.{WorldView}
use Rattle.h5w_core.proofs.HoldLemmas.{stop_hold, stop_logs, stop_steps}
use Rattle.h5w_core.proofs.WritingLemmas.{stop_writing}
use Rattle.h5w_core.proofs.world.World.stop.Goals as goal

pub invariant_of-self : goal.invariant_of-self
invariant_of-self c =
    let i = c.self.inside in (
      stop_hold i.session c.stop.new.self i.image i.attempts i.readers.items c.self.invariant.0 c.stop.ensures.session c.stop.ensures.stands,
      stop_writing i.session c.stop.new.self i.image c.stop.ensures.session c.self.invariant.1,
    )

pub returns-clause-steps : goal.returns-clause-steps
returns-clause-steps c =
    let i = c.self.inside in
    stop_steps i.session c.stop.new.self i.image i.attempts i.readers.items c.args.self.now c.self.view_is c.stop.ensures.session c.stop.ensures.stands

pub returns-clause-logged : goal.returns-clause-logged
returns-clause-logged c =
    let i = c.self.inside in
    stop_logs i.session c.stop.new.self i.image i.attempts i.readers.items c.args.self.now c.self.view_is c.stop.ensures.stands

pub returns-clause-named : goal.returns-clause-named
returns-clause-named c = ap (λ (x : Session). x.name) c.stop.ensures.session ∙ ap (λ (x : WorldView). x.session.name) c.self.view_is
