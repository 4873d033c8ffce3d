use Rattle.std.proofs.Common.{rules, ap, sym, ◌∙◌, ℕ, List, ◌∷◌, Some}
use Rattle.std.specs.Prelude.{Option}
use Rattle.h5w_image.specs.Memory.{MemView}
use Rattle.atomic_table.specs.Table.{rest}
use Rattle.h5w_shared.specs.Turns.{Sat}
use Rattle.h5w_shared.proofs.place.Place.turn.Goals as goal

pub exchange-requires : goal.exchange-requires
exchange-requires g c =
    let x = c.wait.ensures.served.0 in
    let now = ap (λ (m : Sat). m.1) c.wait.ensures.served.2 in (search rules, (Some x, now ∙ ap (λ (l : List (ℕ × Option MemView)). (0, Some x) ∷ rest l) (sym now)))
