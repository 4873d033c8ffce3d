use Rattle.std.proofs.Common.{◌+◌, ◌-◌, ◌∷◌, [], ◌∙◌, ap, subst, sym, length, take, drop, set, arith, length-append, IsPermutation}
use Rattle.std.proofs.lemmas.List.{take_rest, take_at, get_or_read}
use Rattle.std.proofs.lemmas.List.Sorted.{IsPermutation-trans, IsPermutation-sym, IsPermutation-to_front}
use Rattle.h5w_space.proofs.Laid.{length-sizes, length_laid-take, length_laid-take_more}
use Rattle.h5w_space.proofs.Edits.{empty, IsAt-group, joined_rest, joined_all, IsGrouped-more, IsGrouped-new}
use Rattle.h5w_space.specs.declared.groups.Group.{Group}
use Rattle.h5w_space.specs.Groups.{laid, sizes, IsGroup, IsGrouped}
use Rattle.h5w_space.proofs.groups.put.Goals as goal

pub to_front-requires-clause-inside : goal.to_front-requires-clause-inside
to_front-requires-clause-inside c =
    let g = subst (λ l. IsGroup l c.args.place.size c.in-Some.spot.index c.in-Some.spot.end) c.deref.ensures.value c.in-Some.ensures.found in
    let a = IsAt-group _ _ _ _ _ c.requires.grouped g in
    omega (arith, a.high, ap length (c.deref_mut.ensures.value ∙ c.push_reserved.ensures.items), length-append c.args.places.now.items (c.args.place ∷ []))

pub to_front-requires-clause-grouped : goal.to_front-requires-clause-grouped
to_front-requires-clause-grouped c =
    let g = subst (λ l. IsGroup l c.args.place.size c.in-Some.spot.index c.in-Some.spot.end) c.deref.ensures.value c.in-Some.ensures.found in
    let gs = c.args.groups.now.items in
    ap (λ l. drop c.in-Some.spot.end (take (length l - 1) (sizes l))) (c.deref_mut.ensures.value ∙ c.push_reserved.ensures.items)
    ∙ joined_rest gs c.args.places.now.items c.args.place c.args.place.size c.in-Some.spot.index c.in-Some.spot.end c.requires.grouped g
    ∙ sym (ap laid (take_rest c.deref-in-Some.result.now (c.in-Some.spot.index + 1) ∙ ap (drop (c.in-Some.spot.index + 1)) c.deref-in-Some.ensures.value))

pub overflow_add-index_mut : goal.overflow_add-index_mut
overflow_add-index_mut c =
    let g = subst (λ l. IsGroup l c.args.place.size c.in-Some.spot.index c.in-Some.spot.end) c.deref.ensures.value c.in-Some.ensures.found in
    let gs = c.args.groups.now.items in
    let here = get_or_read gs c.in-Some.spot.index c.index_mut.result.now g.inside c.index_mut.ensures.value empty in
    omega (arith, ap (λ (x : Group). x.count) here, length_laid-take_more gs c.in-Some.spot.index empty g.inside, length_laid-take gs (c.in-Some.spot.index + 1), ap length c.requires.grouped.by_size, length-sizes c.args.places.now.items)

pub returns-in-Some-clause-order : goal.returns-in-Some-clause-order
returns-in-Some-clause-order c =
    let pushed = c.deref_mut.ensures.value ∙ c.push_reserved.ensures.items in
    let new = c.to_front.new.places in
    let whole = sym (take_at new (drop (length new) c.push_reserved.new.self.items) c.push_reserved.new.self.len (omega (arith, c.to_front.auto.places, c.deref_mut.ensures.len))) in
    subst (λ l. IsPermutation (c.args.place ∷ c.args.places.now.items) l) whole
    (IsPermutation-trans _ _ _ (IsPermutation-sym _ _ (IsPermutation-to_front c.args.places.now.items c.args.place)) (subst (λ l. IsPermutation l new) pushed c.to_front.ensures.order))

pub returns-in-Some-clause-grouped : goal.returns-in-Some-clause-grouped
returns-in-Some-clause-grouped c =
    let g = subst (λ l. IsGroup l c.args.place.size c.in-Some.spot.index c.in-Some.spot.end) c.deref.ensures.value c.in-Some.ensures.found in
    let gs = c.args.groups.now.items in
    let old = c.args.places.now.items in
    let i = c.in-Some.spot.index in
    let new = c.to_front.new.places in
    let whole = sym (take_at new (drop (length new) c.push_reserved.new.self.items) c.push_reserved.new.self.len (omega (arith, c.to_front.auto.places, c.deref_mut.ensures.len))) in
    let here = sym (get_or_read gs i c.index_mut.result.now g.inside c.index_mut.ensures.value empty) in
    let moved = joined_all gs c.deref-in-Some.result.now old c.deref_mut.result.now new c.args.place c.args.place.size i c.in-Some.spot.end c.requires.grouped g c.deref-in-Some.ensures.value (c.deref_mut.ensures.value ∙ c.push_reserved.ensures.items) c.to_front.ensures.moved in
    subst (λ l. IsGrouped (set gs i (record { size = c.index_mut.result.now.size; count = c.index_mut.result.now.count + 1 })) l) whole
    (IsGrouped-more gs old new c.args.place.size i c.in-Some.spot.end _ c.requires.grouped g.inside moved (g.is empty) (ap (λ (x : Group). x.size) (sym here) ∙ g.is empty) (ap (λ (x : Group). x.count + 1) (sym here)))

pub returns-in-None-clause-order : goal.returns-in-None-clause-order
returns-in-None-clause-order c =
    subst (λ l. IsPermutation (c.args.place ∷ c.args.places.now.items) l) (sym c.push_reserved.ensures.items) (IsPermutation-sym _ _ (IsPermutation-to_front c.args.places.now.items c.args.place))

pub returns-in-None-clause-grouped : goal.returns-in-None-clause-grouped
returns-in-None-clause-grouped c =
    rw (c.push_reserved-in-None.ensures.items, c.push_reserved.ensures.items) (IsGrouped-new _ _ c.args.place c.requires.grouped)
