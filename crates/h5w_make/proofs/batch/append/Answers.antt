use Rattle.h5w_make.proofs.BatchLemmas.{early_shown}
use Rattle.h5w_make.proofs.batch.append.Goals as goal

pub returns-in-Ok : goal.returns-in-Ok
returns-in-Ok c =
    let e = c.in-Ok.ensures in
    let shown = c.show_early.ensures in
    early_shown c.args.session.now c.append.new.self c.show_early.new.session c.args.image.now c.append.new.image c.show_early.new.image c.args.values.now e.added e.image e.stands shown.session shown.image shown.stands
