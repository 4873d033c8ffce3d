use Rattle.h5w_stopping.proofs.WritingLemmas.{follows_new}
use Rattle.h5w_stopping.proofs.writing.begin.Goals as goal

pub returns : goal.returns
returns c = follows_new c.args.options.now c.new.result c.new.ensures.new c.new.ensures.fits c.new.ensures.rules
