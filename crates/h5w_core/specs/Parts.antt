-- The parts of a world that was taken apart.
use Rattle.std.specs.Prelude.{◌≡◌, length}
use Rattle.h5w_core.specs.Worlds.{IsBudget, WorldView}
use Rattle.h5w_core.specs.declared.parts.WorldParts.{WorldParts}

-- They are those of this world; the budget is one that a session may have, and readers 0 to 16 have a place.
pub record IsApart (w : WorldView) (p : WorldParts) : Type 0 where
  pub session : p.session ≡ w.session
  pub bytes : p.image.bytes ≡ w.bytes
  pub journal : p.image.history ≡ w.journal
  pub attempts : p.attempts ≡ w.attempts
  pub readers : p.readers.items ≡ w.readers
  pub places : length w.readers ≡ 17
  pub allowed : IsBudget w.session.budget
