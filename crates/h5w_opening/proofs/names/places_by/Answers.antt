use Rattle.std.proofs.Common.{◌≡◌, ◌∙◌, Some, None, sym, ap}
use Rattle.h5w_model.specs.Datasets.{same_link}
use Rattle.h5w_dataset.specs.Founds.{founds}
use Rattle.h5w_opening.proofs.NameLemmas.{none_of, places_count, places_refused, places_unlike}
use Rattle.h5w_opening.proofs.names.places_by.Goals as goal

pub returns-in-Some-clause-told : goal.returns-in-Some-clause-told
returns-in-Some-clause-told c =
    let l = c.in_ok-linked.linked in
    let are = ap (λ r. (l.places.items, r)) (sym c.in-Some.is) ∙ c.in_ok-linked.ensures.exact in
    record { exact = places_refused c.args.names.now (founds c.args.found.items) l.places.items c.in-Some.refusal are; quiet = λ h. absurd cc }

pub returns-in-Some-same_link-clause-told : goal.returns-in-Some-same_link-clause-told
returns-in-Some-same_link-clause-told c =
    let l = c.in_ok-linked.linked in
    let are = ap (λ r. (l.places.items, r)) (sym (none_of _ c.in_default.not-Some)) ∙ c.in_ok-linked.ensures.exact in
    let same : same_link l.places.items ≡ Some (c.in-Some-same_link.first, c.in-Some-same_link.second) = ap same_link (sym c.deref.ensures.value) ∙ sym c.same_link.ensures ∙ c.in-Some-same_link.is in
    record { exact = places_unlike c.args.names.now (founds c.args.found.items) l.places.items (Some (c.in-Some-same_link.first, c.in-Some-same_link.second)) are same; quiet = λ h. absurd cc }

pub returns-clause-told : goal.returns-clause-told
returns-clause-told c =
    let l = c.in_ok-linked.linked in
    let are = ap (λ r. (l.places.items, r)) (sym (none_of _ c.in_default.not-Some)) ∙ c.in_ok-linked.ensures.exact in
    let none : same_link l.places.items ≡ None = ap same_link (sym c.deref.ensures.value) ∙ sym c.same_link.ensures ∙ none_of _ c.in_default-same_link.not-Some in
    record { exact = places_unlike c.args.names.now (founds c.args.found.items) l.places.items None are none; quiet = λ h. absurd cc }

pub returns-clause-len : goal.returns-clause-len
returns-clause-len c =
    let l = c.in_ok-linked.linked in
    places_count c.args.names.now (founds c.args.found.items) l.places.items (ap (λ r. (l.places.items, r)) (sym (none_of _ c.in_default.not-Some)) ∙ c.in_ok-linked.ensures.exact)
