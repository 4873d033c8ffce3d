use Rattle.std.proofs.Common.{◌++◌, sym, subst, arith, ap}
use Rattle.h5w_space.specs.Space.{Space, IsLive, extent}
use Rattle.h5w_space.specs.Groups.{IsSound}
use Rattle.h5w_space.proofs.Sound.{retired_sound}
use Rattle.h5w_space.proofs.Places.retire.Goals as goal

pub invariant_of-self : goal.invariant_of-self
invariant_of-self c =
    let i = c.self.invariant in
    let l = subst (λ s. IsLive s (extent c.args.at c.args.size)) (sym c.self.view_is) c.requires.live in
    let p = c.push_reserved.ensures in
    let room = ap (λ (s : Space). s.spare) c.self.view_is in (
      i.0,
      subst (λ r. IsSound c.self.inside.end (c.self.inside.free.items ++ r)) (sym p.items) (retired_sound c.self.inside.end (extent c.args.at c.args.size) c.self.inside.free.items c.self.inside.retired.items i.1 l.within l.off_free l.off_retired),
      record {
        among_groups = omega (arith, i.2.among_groups, p.len, room, c.requires.room);
        among_free = omega (arith, i.2.among_free, p.len, room, c.requires.room);
        among_retired = omega (arith, i.2.among_retired, p.len, p.capacity, room, c.requires.room);
      },
    )
