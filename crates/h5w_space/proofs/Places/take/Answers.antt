use Rattle.std.proofs.Common.{◌≡◌, ◌+◌, arith, sym, subst, ap, false, not, ◌&&◌, nat_lt}
use Rattle.std.specs.List.{All}
use Rattle.h5w_space.specs.Space.{Space, IsLive, extent, Apart, has_size}
use Rattle.h5w_space.proofs.Sound.{IsTaken, taken_sound, taken_off_retired, taken_off_free, taken_within, taken_off_live, taken_stays, taken_has, end_off}
use Rattle.h5w_space.proofs.Places.take.Goals as goal

pub invariant_of-self : goal.invariant_of-self
invariant_of-self c =
    let i = c.self.invariant in
    let t = c.in-Some.ensures in
    let k : IsTaken c.self.inside.end c.args.size c.in-Some.place c.self.inside.free.items c.take.new.places.items c.self.inside.retired.items = record { sized = t.taken.0; order = t.taken.1; sound = i.1 } in (
      t.grouped,
      taken_sound _ _ _ _ _ _ k,
      record {
        among_groups = omega (arith, i.2.among_groups, t.groups_len, t.groups_capacity);
        among_free = omega (arith, i.2.among_free, t.len, t.capacity);
        among_retired = i.2.among_retired;
      },
    )

pub returns-in-Some-clause-off_live : goal.returns-in-Some-clause-off_live
returns-in-Some-clause-off_live c = λ r l.
    let t = c.in-Some.ensures in
    let k : IsTaken c.self.inside.end c.args.size c.in-Some.place c.self.inside.free.items c.take.new.places.items c.self.inside.retired.items = record { sized = t.taken.0; order = t.taken.1; sound = c.self.invariant.1 } in
    let live = subst (λ s. IsLive s r) (sym c.self.view_is) l in
    taken_off_live _ _ _ _ _ _ r k live.off_free

pub returns-in-Some-clause-off_retired : goal.returns-in-Some-clause-off_retired
returns-in-Some-clause-off_retired c =
    let t = c.in-Some.ensures in
    let k : IsTaken c.self.inside.end c.args.size c.in-Some.place c.self.inside.free.items c.take.new.places.items c.self.inside.retired.items = record { sized = t.taken.0; order = t.taken.1; sound = c.self.invariant.1 } in
    subst (λ (s : Space). All (Apart (extent c.in-Some.place.at c.args.size)) s.retired) c.self.view_is (taken_off_retired _ _ _ _ _ _ k)

pub returns-in-Some-clause-live : goal.returns-in-Some-clause-live
returns-in-Some-clause-live c =
    let t = c.in-Some.ensures in
    let k : IsTaken c.self.inside.end c.args.size c.in-Some.place c.self.inside.free.items c.take.new.places.items c.self.inside.retired.items = record { sized = t.taken.0; order = t.taken.1; sound = c.self.invariant.1 } in
    record { within = taken_within _ _ _ _ _ _ k; off_free = taken_off_free _ _ _ _ _ _ k; off_retired = taken_off_retired _ _ _ _ _ _ k }

pub returns-in-Some-clause-stays_live : goal.returns-in-Some-clause-stays_live
returns-in-Some-clause-stays_live c = λ r l.
    let t = c.in-Some.ensures in
    let k : IsTaken c.self.inside.end c.args.size c.in-Some.place c.self.inside.free.items c.take.new.places.items c.self.inside.retired.items = record { sized = t.taken.0; order = t.taken.1; sound = c.self.invariant.1 } in
    let live = subst (λ s. IsLive s r) (sym c.self.view_is) l in
    record { within = live.within; off_free = taken_stays _ _ _ _ _ _ r k live.off_free; off_retired = live.off_retired }

pub returns-in-Some-clause-refused : goal.returns-in-Some-clause-refused
returns-in-Some-clause-refused c =
    let t = c.in-Some.ensures in
    let k : IsTaken c.self.inside.end c.args.size c.in-Some.place c.self.inside.free.items c.take.new.places.items c.self.inside.retired.items = record { sized = t.taken.0; order = t.taken.1; sound = c.self.invariant.1 } in
    let P : Space → Type 0 = λ s. false ≡ not (has_size c.args.size s.free) && nat_lt s.limit (s.end + c.args.size) in
    subst P c.self.view_is (ap (λ b. not b && nat_lt c.self.inside.limit (c.self.inside.end + c.args.size)) (sym (taken_has _ _ _ _ _ _ k)))

pub returns-in-Some-checked_add-clause-off_retired : goal.returns-in-Some-checked_add-clause-off_retired
returns-in-Some-checked_add-clause-off_retired c =
    let i = c.self.inside in
    subst (λ (s : Space). All (Apart (extent i.end c.args.size)) s.retired) c.self.view_is (end_off i.end c.args.size i.free.items i.retired.items c.self.invariant.1).1

pub returns-in-Some-checked_add-clause-live : goal.returns-in-Some-checked_add-clause-live
returns-in-Some-checked_add-clause-live c =
    let i = c.self.inside in
    let off = end_off i.end c.args.size i.free.items i.retired.items c.self.invariant.1 in
    record {
      within = omega (arith, c.in-Some-checked_add.ensures);
      off_free = subst (λ l. All (Apart (extent i.end c.args.size)) l) (sym c.in_default.ensures.left) off.0;
      off_retired = off.1;
    }
