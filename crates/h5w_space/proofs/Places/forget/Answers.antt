use Rattle.std.proofs.Common.{◌++◌, sym, subst, ap, arith, append-nil, length}
use Rattle.std.specs.List.{All}
use Rattle.std.proofs.lemmas.List.Elements.{All-nil}
use Rattle.h5w_space.specs.Groups.{IsSound}
use Rattle.h5w_space.specs.Space.{Apart, IsLive, Space}
use Rattle.h5w_space.proofs.Sound.{front_sound, forgotten_live}
use Rattle.h5w_space.proofs.Places.forget.Goals as goal

pub invariant_of-self : goal.invariant_of-self
invariant_of-self c =
    let i = c.self.invariant in
    let x = c.clear.ensures in
    let s = c.self.inside in (
      i.0,
      subst (λ l. IsSound s.end (s.free.items ++ l)) (sym x.items) (subst (λ l. IsSound s.end l) (sym (append-nil s.free.items)) (front_sound s.end s.free.items s.retired.items i.1)),
      record {
        among_groups = omega (arith, i.2.among_groups, x.len);
        among_free = omega (arith, i.2.among_free, x.len);
        among_retired = omega (arith, i.2.among_retired, x.len, x.capacity);
      },
    )

pub returns-clause-kept_out : goal.returns-clause-kept_out
returns-clause-kept_out c =
    let s = c.self.inside in
    let v : Space = record { end = s.end; limit = s.limit; free = s.free.items; retired = s.retired.items; spare = s.spare } in
    subst (λ (q : Space). All (IsLive (record v { retired = c.clear.new.self.items })) q.retired) c.self.view_is
    (subst (λ l. All (IsLive (record v { retired = l })) v.retired) (sym c.clear.ensures.items) (forgotten_live v c.self.invariant.1))

pub returns-clause-stays_live : goal.returns-clause-stays_live
returns-clause-stays_live c = λ r l.
    let live = subst (λ s. IsLive s r) (sym c.self.view_is) l in
    record {
      within = live.within;
      off_free = live.off_free;
      off_retired = subst (λ l. All (Apart r) l) (sym c.clear.ensures.items) (All-nil (Apart r));
    }
