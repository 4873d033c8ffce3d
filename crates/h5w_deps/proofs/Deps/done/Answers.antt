use Rattle.std.proofs.Common.{◌==◌, not, Bool, List, subst, ap, ◌∙◌, rules}
use Rattle.std.specs.List.{Contains, filter}
use Rattle.std.proofs.lemmas.Fn.{filter_same}
use Rattle.h5w_deps.specs.declared.Edge.{Edge}
use Rattle.h5w_deps.proofs.Paths.{Contains-filter, IsAcyclic-fewer}
use Rattle.h5w_deps.proofs.Deps.done.Goals as goal

pub returns-clause-ended : goal.returns-clause-ended
returns-clause-ended c =
    let other : Edge → Bool = λ e. not (e.child == c.args.id) in
    filter_same _ _ _ (λ x b f' k. search rules) _ _ c.retain.ensures.filtered ∙ ap (filter other) c.self.view_is

pub returns-clause-acyclic : goal.returns-clause-acyclic
returns-clause-acyclic c = λ h.
    let other : Edge → Bool = λ e. not (e.child == c.args.id) in
    IsAcyclic-fewer c.retain.new.self.items c.args.self.now (λ e m. Contains-filter other c.args.self.now e (subst (λ (l : List Edge). Contains l e) (returns-clause-ended c) m)) h
