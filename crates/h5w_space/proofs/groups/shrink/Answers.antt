use Rattle.std.proofs.Common.{◌∙◌, ap, sym, rules}
use Rattle.std.proofs.lemmas.List.{get_or_default, get_or_read}
use Rattle.h5w_space.specs.declared.groups.Group.{Group}
use Rattle.h5w_space.specs.Groups.{laid, laid_less}
use Rattle.h5w_space.proofs.Edits.{empty, laid-remove, laid-set}
use Rattle.h5w_space.proofs.groups.shrink.Goals as goal

pub returns-then-index-eq1-clause-laid : goal.returns-then-index-eq1-clause-laid
returns-then-index-eq1-clause-laid c = λ d.
    let gs = c.args.groups.now.items in
    let here = get_or_read gs c.args.index c.index.result.now (search rules) c.index.ensures empty in
    ap laid c.remove.ensures.items
    ∙ laid-remove gs c.args.index (search rules) (ap (λ (g : Group). g.count) (sym here) ∙ c.if-index-eq1.true)
    ∙ ap (laid_less gs c.args.index) (get_or_default gs c.args.index empty d (search rules))

pub returns-else-index-eq1-clause-laid : goal.returns-else-index-eq1-clause-laid
returns-else-index-eq1-clause-laid c = λ d.
    let gs = c.args.groups.now.items in
    laid-set gs c.args.index _ (search rules)
    ∙ ap (laid_less gs c.args.index) (get_or_read gs c.args.index c.index_mut.result.now (search rules) c.index_mut.ensures.value d)
