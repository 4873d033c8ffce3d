use Rattle.h5w_laws.proofs.ResultLemmas.{map_ok}
use Rattle.h5w_repack.proofs.CopyLemmas.{done_after, on_err, some_after}
use Rattle.h5w_repack.proofs.copying.copy.Goals as goal

pub returns-clause-copied : goal.returns-clause-copied
returns-clause-copied g c =
    let u = g.P.Pair.view c.args.pair.now in
    let v = g.P.Pair.view c.make_room.new.pair in
    let w = g.P.Pair.view c.do_all.new.pair in
    map_ok c.do_all.result (λ p. done_after {u = u} {v = v} {w = w} c.args.packing.now.left c.make_room.ensures.kept p) c.do_all.ensures.done

pub returns-clause-partly : goal.returns-clause-partly
returns-clause-partly g c =
    let u = g.P.Pair.view c.args.pair.now in
    let v = g.P.Pair.view c.make_room.new.pair in
    let w = g.P.Pair.view c.do_all.new.pair in
    on_err c.do_all.result (λ p. some_after {u = u} {v = v} {w = w} c.make_room.ensures.kept p) c.do_all.ensures.partly
