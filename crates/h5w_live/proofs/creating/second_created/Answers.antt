use Rattle.std.proofs.Common.{List, sym, ◌∙◌, subst}
use Rattle.h5w_model.specs.declared.piece.Write.{Write}
use Rattle.h5w_shared.specs.Turns.{StartsWith}
use Rattle.h5w_shared.proofs.Beginnings.{starts_nothing}
use Rattle.h5w_live.proofs.creating.second_created.Goals as goal

pub returns-in-Ok-caught_up-clause-has : goal.returns-in-Ok-caught_up-clause-has
returns-in-Ok-caught_up-clause-has g c =
    let journal = c.in-Ok.copied.1 in
    c.in-Ok-caught_up.ensures.has (subst (λ (ws : List Write). StartsWith journal.writes ws) (sym c.requires.none) (starts_nothing journal.writes)) ∙ c.in-Ok.ensures.journal
