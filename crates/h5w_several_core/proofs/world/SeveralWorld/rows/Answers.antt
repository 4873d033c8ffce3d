use Rattle.h5w_several_core.proofs.RuleLemmas.{rows_told, set_inside}
use Rattle.h5w_several_core.proofs.world.SeveralWorld.rows.Goals as goal

pub rows-requires : goal.rows-requires
rows-requires c =
    let i = c.self.inside in
    set_inside i.session i.image i.attempts i.places.items c.args.self.now c.args.d c.self.view_is c.requires

pub returns : goal.returns
returns c =
    let i = c.self.inside in
    rows_told i.session i.image i.attempts i.places.items c.args.self.now c.args.d c.self.view_is c.rows.result c.rows.ensures
