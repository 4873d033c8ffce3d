use Rattle.std.proofs.Common.{[]}
use Rattle.h5w_repack.proofs.CarryLemmas.{carries_more, carries_nothing}
use Rattle.h5w_repack.proofs.CopyLemmas.{chunk_done}
use Rattle.h5w_repack.proofs.copying.copy_piece.Goals as goal

pub returns-in-Ok-write-clause-done : goal.returns-in-Ok-write-clause-done
returns-in-Ok-write-clause-done g c =
    let u = g.P.Pair.view c.args.pair.now in
    let v = g.P.Pair.view c.look.new.self in
    let w = g.P.Pair.view c.write.new.self in
    chunk_done {u = u} {v = v} {w = w} c.args.from c.args.to c.args.n c.look.new.out c.padded.result c.look.ensures.looked c.look.ensures.name c.look.ensures.to c.in-Ok.ensures.shows c.padded.ensures.len c.padded.ensures.whole
    c.write.ensures.looked c.write.ensures.name c.in-Ok-write.ensures.wrote

pub returns-in-Err-write-clause-kept : goal.returns-in-Err-write-clause-kept
returns-in-Err-write-clause-kept g c =
    let u = g.P.Pair.view c.args.pair.now in
    let v = g.P.Pair.view c.look.new.self in
    let w = g.P.Pair.view c.write.new.self in
    carries_more {u = u} {v = v} {w = w} [] [] (carries_nothing {u = u} {v = v} c.look.ensures.looked c.look.ensures.name c.look.ensures.to)
    (carries_nothing {u = v} {v = w} c.write.ensures.looked c.write.ensures.name c.in-Err-write.ensures.same)
