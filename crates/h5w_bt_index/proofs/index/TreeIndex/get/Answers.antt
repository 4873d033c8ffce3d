use Rattle.std.proofs.Common.{ap, ◌∙◌, Option, ℕ}
use Rattle.std.specs.Option.{unwrap_or}
use Rattle.h5w_model.specs.Numbers.{undefined}
use Rattle.h5w_bt_index.specs.Held.{view_of}
use Rattle.h5w_bt_index.specs.Index.{defined}
use Rattle.h5w_bt_index.proofs.Laws.{address-found}
use Rattle.h5w_bt_index.proofs.index.TreeIndex.get.Goals as goal

pub returns-clause-found : goal.returns-clause-found
returns-clause-found c = c.given.ensures ∙ ap (λ (o : Option ℕ). defined (unwrap_or o undefined)) c.find.ensures

pub returns-clause-exact : goal.returns-clause-exact
returns-clause-exact c i =
    c.given.ensures ∙ ap (λ (o : Option ℕ). defined (unwrap_or o undefined)) c.find.ensures
    ∙ ap defined (address-found (view_of c.args.self.now) c.args.key i)
