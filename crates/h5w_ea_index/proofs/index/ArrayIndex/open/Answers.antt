use Rattle.h5w_ea_index.proofs.OpenedLemmas.{looks_alone}
use Rattle.h5w_ea_index.specs.Opened.{IsDamaged}
use Rattle.h5w_ea_index.proofs.index.ArrayIndex.open.Goals as goal

pub returns-in-Some-clause-loads : goal.returns-in-Some-clause-loads
returns-in-Some-clause-loads g c = looks_alone (λ img a f. IsDamaged img c.args.header c.args.first a f) _ c.open.ensures.loads.looked

pub returns-in-None-clause-loads : goal.returns-in-None-clause-loads
returns-in-None-clause-loads g c = looks_alone (λ img a f. IsDamaged img c.args.header c.args.first a f) _ c.open.ensures.loads.looked
