use Rattle.h5w_several_handles.proofs.ListLemmas.{removed}
use Rattle.h5w_several_handles.proofs.showing.show_first.Goals as goal

pub returns-clause-first : goal.returns-clause-first
returns-clause-first c = λ w ws is. removed c.args.state.now.first.items c.remove.new.self.items w ws is c.remove.ensures.by_index.2
