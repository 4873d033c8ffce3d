use Rattle.h5w_appending.proofs.ShutLemmas.{shut_by}
use Rattle.h5w_appending.proofs.appending.shut.Goals as goal

pub returns : goal.returns
returns g c = shut_by _ _ c.args.target.faults c.args.target.file.now c.args.session.now c.close.new.session c.put_all.new.session c.put_all.result c.requires.idle c.close.ensures.closed c.close.ensures.reads c.close.ensures.stands c.put_all.ensures
