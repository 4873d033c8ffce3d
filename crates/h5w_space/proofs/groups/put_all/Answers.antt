use Rattle.std.proofs.Common.{◌∷◌, ◌++◌, [], take, get_or, ap, sym, subst, ◌∙◌, append_assoc, arith}
use Rattle.std.proofs.lemmas.List.{take_more}
use Rattle.std.proofs.lemmas.List.Sorted.{IsPermutation-push_more}
use Rattle.std.specs.List.Sorted.{IsPermutation}
use Rattle.h5w_space.specs.declared.Extent.{Extent}
use Rattle.h5w_space.proofs.groups.put_all.Goals as goal

pub loop-place-preserved : goal.loop-place-preserved
loop-place-preserved c =
    let old = c.args.places.now.items in
    let more = c.args.more.now in
    let i = c.loop-place.place-index in
    let d : Extent = record { at = 0; size = 0 } in
    let l = c.loop-place.invariant in
    let p = c.put.ensures in
    let all = append_assoc old (take i more) (get_or more i d ∷ []) ∙ ap (λ l. old ++ l) (sym (take_more more i d c.loop-place-test.true)) in
    record {
      order = subst (λ l. IsPermutation l c.put.new.places.items) all (IsPermutation-push_more (old ++ take i more) c.loop-place.places.items c.put.new.places.items (get_or more i d) l.order p.order);
      grouped = p.grouped;
      groups_len = omega (arith, p.groups_len, l.groups_len);
      len = omega (arith, p.len, l.len);
      groups_capacity = p.groups_capacity ∙ l.groups_capacity;
      capacity = p.capacity ∙ l.capacity;
    }
