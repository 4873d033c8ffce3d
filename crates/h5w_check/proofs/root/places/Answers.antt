use Rattle.std.proofs.Common.{◌≡◌, ◌∙◌, [], Some, None, sym, ap}
use Rattle.h5w_dataset.specs.Founds.{founds}
use Rattle.h5w_check.specs.Roots.{met_again}
use Rattle.h5w_check.proofs.RootLemmas.{links_met, links_lost, links_all, none_met}
use Rattle.h5w_check.proofs.root.places.Goals as goal

pub returns-in-Some : goal.returns-in-Some
returns-in-Some c =
    let l = c.in_ok-linked.linked in
    let met : Some c.in-Some.at ≡ met_again [] l.places.items = sym c.in-Some.is ∙ c.met_again.ensures ∙ ap (met_again []) c.deref.ensures.value in
    record { exact = links_met c.args.root c.args.names.now (founds c.args.found.items) l.places.items l.refused c.in-Some.at c.in_ok-linked.ensures.exact met; quiet = λ h. absurd cc }

pub returns-in-Some-refused : goal.returns-in-Some-refused
returns-in-Some-refused c =
    let l = c.in_ok-linked.linked in
    let met : None ≡ met_again [] l.places.items = none_met _ _ c.in_default.not-Some (c.met_again.ensures ∙ ap (met_again []) c.deref.ensures.value) in
    let are = ap (λ r. (l.places.items, r)) (sym c.in-Some-refused.is) ∙ c.in_ok-linked.ensures.exact in
    record { exact = links_lost c.args.root c.args.names.now (founds c.args.found.items) l.places.items c.in-Some-refused.field-0 are met; quiet = λ h. absurd cc }

pub returns-in-None : goal.returns-in-None
returns-in-None c =
    let l = c.in_ok-linked.linked in
    let met : None ≡ met_again [] l.places.items = none_met _ _ c.in_default.not-Some (c.met_again.ensures ∙ ap (met_again []) c.deref.ensures.value) in
    let are = ap (λ r. (l.places.items, r)) (sym c.in-None.is) ∙ c.in_ok-linked.ensures.exact in
    record { exact = links_all c.args.root c.args.names.now (founds c.args.found.items) l.places.items are met; quiet = λ h. absurd cc }
