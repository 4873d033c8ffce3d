use Rattle.std.proofs.Common.{◌+◌, ◌-◌, ◌∙◌, ap, subst, sym, length, take, drop, arith, rules, IsPermutation}
use Rattle.std.proofs.lemmas.List.{take_rest, take_at}
use Rattle.h5w_space.proofs.Edits.{IsAt-group, pulled_rest, pulled_sizes, popped, popped_sizes, pulled_less, empty}
use Rattle.h5w_space.specs.Groups.{laid, sizes}
use Rattle.h5w_space.proofs.groups.pull.Goals as goal

pub overflow_sub-spot : goal.overflow_sub-spot
overflow_sub-spot c = (IsAt-group _ _ _ _ _ c.requires.grouped c.requires.here).low

pub to_back-requires-clause-inside : goal.to_back-requires-clause-inside
to_back-requires-clause-inside c =
    let a = IsAt-group _ _ _ _ _ c.requires.grouped c.requires.here in
    omega (arith, a.low, a.high, ap length c.deref_mut.ensures.value)

pub to_back-requires-clause-grouped : goal.to_back-requires-clause-grouped
to_back-requires-clause-grouped c =
    let a = IsAt-group _ _ _ _ _ c.requires.grouped c.requires.here in
    ap (λ l. drop (c.args.spot.end - 1 + 1) (sizes l)) c.deref_mut.ensures.value
    ∙ pulled_rest _ _ _ _ _ a
    ∙ ap laid (sym (take_rest c.args.groups.now.items (c.args.spot.index + 1)) ∙ ap (λ l. take (length l - (c.args.spot.index + 1)) (drop (c.args.spot.index + 1) l)) (sym c.deref.ensures.value))

pub returns-clause-taken : goal.returns-clause-taken
returns-clause-taken c =
    let a = IsAt-group _ _ _ _ _ c.requires.grouped c.requires.here in
    let old = c.args.places.now.items in
    let moved = pulled_sizes _ _ _ _ c.to_back.new.places _ _ _ a c.deref.ensures.value c.deref_mut.ensures.value c.to_back.ensures.moved in
    let whole = sym (take_at c.to_back.new.places (drop (length c.to_back.new.places) old) c.args.places.now.len (omega (arith, c.to_back.auto.places, c.deref_mut.ensures.len))) in
    let order = subst (λ l. IsPermutation l c.to_back.new.places) c.deref_mut.ensures.value c.to_back.ensures.order in
    popped old c.to_back.new.places c.pop.new.self.items _ _ c.pop.result (search rules) (whole ∙ c.pop.ensures.items) moved order

pub returns-clause-grouped : goal.returns-clause-grouped
returns-clause-grouped c =
    let a = IsAt-group _ _ _ _ _ c.requires.grouped c.requires.here in
    let old = c.args.places.now.items in
    let moved = pulled_sizes _ _ _ _ c.to_back.new.places _ _ _ a c.deref.ensures.value c.deref_mut.ensures.value c.to_back.ensures.moved in
    let whole = sym (take_at c.to_back.new.places (drop (length c.to_back.new.places) old) c.args.places.now.len (omega (arith, c.to_back.auto.places, c.deref_mut.ensures.len))) in
    record {
      by_size = popped_sizes c.to_back.new.places c.pop.new.self.items _ _ c.pop.result (search rules) (whole ∙ c.pop.ensures.items) moved
          ∙ pulled_less _ _ _ _ _ a ∙ sym (c.shrink.ensures.laid empty);
      filled = c.shrink.ensures.filled;
    }
