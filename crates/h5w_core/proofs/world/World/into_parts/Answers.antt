use Rattle.std.proofs.Common.{refl, subst}
use Rattle.h5w_core.specs.Parts.{IsApart}
use Rattle.h5w_core.specs.Worlds.{WorldView}
use Rattle.h5w_core.specs.declared.parts.WorldParts.{WorldParts}
use Rattle.h5w_core.proofs.world.World.into_parts.Goals as goal

pub returns-clause-parts : goal.returns-clause-parts
returns-clause-parts c =
    let i = c.self.inside in
    let parts : WorldParts = record { session = i.session; image = i.image; attempts = i.attempts; readers = i.readers } in
    subst (λ (w : WorldView). IsApart w parts) c.self.view_is (record {
      session = refl;
      bytes = refl;
      journal = refl;
      attempts = refl;
      readers = refl;
      places = c.self.invariant.0.places;
      allowed = c.self.invariant.1.allowed;
    })
