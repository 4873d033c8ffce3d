use Rattle.std.proofs.Common.{ap, ◌∙◌}
use Rattle.h5w_core.specs.Worlds.{WorldView}
use Rattle.h5w_core.proofs.world.World.is_stopped.Goals as goal

pub returns : goal.returns
returns c = c.is_stopped.ensures ∙ ap (λ (x : WorldView). x.session.stopped) c.self.view_is
