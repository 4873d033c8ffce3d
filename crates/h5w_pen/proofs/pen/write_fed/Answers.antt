use Rattle.h5w_pen.proofs.PenLemmas.{short_put}
use Rattle.h5w_pen.proofs.pen.write_fed.Goals as goal

pub returns-clause-short : goal.returns-clause-short
returns-clause-short g c = λ h. short_put c.args.feed.now c.put_fed.new.feed c.args.w.now c.in_ok-put_fed.ensures.wrote c.len-len.ensures.bound h
