use Rattle.h5w_reader.proofs.AbsorbLemmas.{behind_goes, behind_same}
use Rattle.h5w_reader.proofs.stage.Stage.absorb.Goals as goal

pub returns-in-Behind-clause-more : goal.returns-in-Behind-clause-more
returns-in-Behind-clause-more c = λ ok most name known.
    behind_goes most name known c.args.self.now c.in-Behind.field-0 c.in-Behind.behind c.absorb.new.self c.args.piece.now c.in-Behind.is (c.absorb.ensures.more ok)

pub returns-in-Behind-clause-same : goal.returns-in-Behind-clause-same
returns-in-Behind-clause-same c = λ ok most name known.
    behind_same most name known c.args.self.now c.in-Behind.field-0 c.in-Behind.behind c.absorb.new.self c.in-Behind.is (c.absorb.ensures.same ok)
