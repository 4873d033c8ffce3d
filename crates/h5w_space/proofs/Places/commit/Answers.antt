use Rattle.std.proofs.Common.{◌++◌, sym, subst, arith}
use Rattle.std.specs.List.Sorted.{IsPermutation}
use Rattle.h5w_space.specs.Groups.{IsSound}
use Rattle.std.specs.List.{All}
use Rattle.std.proofs.lemmas.List.Elements.{All-nil}
use Rattle.h5w_space.specs.Space.{IsLive, Apart}
use Rattle.h5w_space.proofs.Sound.{committed_sound, committed_off}
use Rattle.h5w_space.proofs.Places.commit.Goals as goal

pub invariant_of-self : goal.invariant_of-self
invariant_of-self c =
    let i = c.self.invariant in
    let p = c.put_all.ensures in
    let x = c.clear.ensures in
    let s = c.self.inside in (
      p.grouped,
      subst (λ l. IsSound s.end (c.put_all.new.places.items ++ l)) (sym x.items)
          (committed_sound s.end s.free.items s.retired.items c.put_all.new.places.items i.1 (subst (λ l. IsPermutation (s.free.items ++ l) c.put_all.new.places.items) c.deref.ensures.value p.order)),
      record {
        among_groups = omega (arith, i.2.among_groups, p.groups_len, p.groups_capacity, x.len, c.deref.ensures.len);
        among_free = omega (arith, i.2.among_free, p.len, p.capacity, x.len, c.deref.ensures.len);
        among_retired = omega (arith, i.2.among_retired, x.len, x.capacity);
      },
    )

pub returns-clause-stays_live : goal.returns-clause-stays_live
returns-clause-stays_live c = λ r l.
    let s = c.self.inside in
    let live = subst (λ s. IsLive s r) (sym c.self.view_is) l in
    let order = subst (λ l. IsPermutation (s.free.items ++ l) c.put_all.new.places.items) c.deref.ensures.value c.put_all.ensures.order in
    record {
      within = live.within;
      off_free = committed_off r s.free.items s.retired.items c.put_all.new.places.items live.off_free live.off_retired order;
      off_retired = subst (λ l. All (Apart r) l) (sym c.clear.ensures.items) (All-nil (Apart r));
    }
