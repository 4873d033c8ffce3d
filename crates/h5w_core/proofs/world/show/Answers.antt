use Rattle.std.proofs.Common.{drop}
use Rattle.h5w_writer.proofs.LawLemmas.{room_stays}
use Rattle.h5w_steady.specs.Steady.{steady}
use Rattle.h5w_writer.proofs.StateLemmas.{oldest}
use Rattle.h5w_core.proofs.world.show.Goals as goal

pub returns-clause-room : goal.returns-clause-room
returns-clause-room c =
    let s = c.args.session.now in
    let piece = c.in-Some.w.now in
    let pieces = drop 1 s.pending in
    let pending = oldest piece s.pending c.in-Some.ensures.oldest in
    room_stays s c.written.new.self piece pieces (steady c.args.image.now) (steady c.put.new.self) pending c.requires (c.written.ensures.piece piece pieces pending) c.put.ensures
