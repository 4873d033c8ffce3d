use Rattle.std.proofs.Common.{rules, ap, ◌∙◌, ◌∷◌, Some}
use Rattle.atomic_table.specs.Table.{rest}
use Rattle.h5w_shared.proofs.TurnLemmas.{ends_as, sat}
use Rattle.h5w_shared.proofs.place.Place.end.Goals as goal

pub fetch_add-requires : goal.fetch_add-requires
fetch_add-requires c =
    let now = c.exchange.ensures.3 ∙ ap (λ l. sat c.args.self.now.seat.me.0 ((0, Some c.args.store) ∷ rest l)) c.requires.out in
    (search rules, search rules, ends_as _ _ _ _ _ _ _ now (search rules) c.requires.there c.requires.served.1 c.requires.store)
