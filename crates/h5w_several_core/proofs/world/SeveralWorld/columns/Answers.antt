use Rattle.h5w_several_core.proofs.RuleLemmas.{columns_told, set_inside}
use Rattle.h5w_several_core.proofs.world.SeveralWorld.columns.Goals as goal

pub columns-requires : goal.columns-requires
columns-requires c =
    let i = c.self.inside in
    set_inside i.session i.image i.attempts i.places.items c.args.self.now c.args.d c.self.view_is c.requires

pub returns-clause-value : goal.returns-clause-value
returns-clause-value c =
    let i = c.self.inside in
    columns_told i.session i.image i.attempts i.places.items c.args.self.now c.args.d c.self.view_is c.columns.result c.columns.ensures.value
