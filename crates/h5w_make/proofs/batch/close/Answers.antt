use Rattle.std.proofs.Common.{rules}
use Rattle.h5w_make.proofs.BatchLemmas.{closed_after}
use Rattle.h5w_make.proofs.batch.close.Goals as goal

pub returns : goal.returns
returns c = λ bs h.
    closed_after bs c.args.session.now c.close.new.self c.show_all.new.session c.args.image.now c.make_room.new.self c.show_all.new.image h c.make_room.ensures.same
    (search rules) (search rules)
    c.show_all.ensures.session c.show_all.ensures.image c.show_all.ensures.stands
