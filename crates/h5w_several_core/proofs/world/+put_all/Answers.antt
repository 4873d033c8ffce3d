use Rattle.std.proofs.Common.{◌≤◌, ap, arith, length, rules, subst}
use Rattle.h5w_writer.specs.Sessions.{AllEndBy}
use Rattle.h5w_writer.proofs.PastLemmas.{ends_later}
use Rattle.h5w_several_core.specs.Creation.{AllSome}
use Rattle.h5w_several_core.proofs.world.+put_all.Goals as goal

pub put_all-requires : goal.put_all-requires
put_all-requires t c =
    let end = c.args.image.now.end in
    let one = c.in-Some.ensures.cases.0 in
    let count = ap length one in
    let few : length c.in-Some.rest.now ≤ c.put.new.self.pieces = omega (arith, count, c.requires.pieces, c.put.ensures.pieces) in
    let ends = ends_later end c.put.new.self.end c.in-Some.rest.now (omega (arith, c.put.ensures.end)) (subst (AllEndBy end) one c.requires.ends).1 in
    (search rules, (few, (ends, (subst AllSome one c.requires.some).1)))
