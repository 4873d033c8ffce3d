use Rattle.std.proofs.Common.{◌≡◌, ◌≤◌, length, arith, rules, sym}
use Rattle.std.proofs.lemmas.List.{length-take}
use Rattle.h5w_ohdr.proofs.Capped.{capped_more, capped_full}
use Rattle.h5w_ohdr.proofs.conts.Conts.add.Goals as goal

pub returns-then-self-lt-MOST : goal.returns-then-self-lt-MOST
returns-then-self-lt-MOST c =
    let full : length c.self.inside.list ≡ 33 = search rules in
    capped_more 33 c.self.inside.len c.self.inside.list c.args.self.now (c.args.address, c.args.length) c.if-self-lt-MOST.true full (sym c.self.view_is)

pub returns-else-self-lt-MOST : goal.returns-else-self-lt-MOST
returns-else-self-lt-MOST c =
    let full : length c.self.inside.list ≡ 33 = search rules in
    let inv : c.self.inside.len ≤ 33 = c.self.invariant in
    capped_full 33 c.args.self.now (c.args.address, c.args.length) (rw (← c.self.view_is) (omega (arith, length-take c.self.inside.len c.self.inside.list)))
