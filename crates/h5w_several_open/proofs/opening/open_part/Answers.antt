use Rattle.h5w_opening.specs.Views.{opened_of}
use Rattle.h5w_several_open.proofs.OpenLemmas.{begun_with, part_step}
use Rattle.h5w_several_open.proofs.opening.open_part.Goals as goal

pub returns-clause-step : goal.returns-clause-step
returns-clause-step g c =
    let a = c.args in
    let f = c.in_ok-found in
    part_step a.root a.place a.name.now a.limit a.budget f.found f.index c.begin_over.result f.ensures.step c.begin_over.ensures.step

pub returns-clause-begun : goal.returns-clause-begun
returns-clause-begun g c =
    let a = c.args in
    let b = c.begin_over in
    begun_with a.limit a.budget (opened_of c.in_ok-found.found).root a.root a.name.now b.result c.in_ok-found.ensures.root b.ensures.begun b.ensures.root b.ensures.places b.ensures.reads b.ensures.long
