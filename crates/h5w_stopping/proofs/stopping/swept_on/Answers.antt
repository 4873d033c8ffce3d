use Rattle.h5w_stopping.proofs.ReportLemmas.{swept_whole}
use Rattle.h5w_stopping.proofs.stopping.swept_on.Goals as goal

pub told-requires : goal.told-requires
told-requires g c =
    let o = c.requires in
    let r = c.in-Ok.ensures.done o.0 o.1 in (o.0, r.script, r.follows, o.2)

pub returns-in-Err-clause-refused : goal.returns-in-Err-clause-refused
returns-in-Err-clause-refused g c = λ o follows. c.in-Err.ensures.refused o follows

pub returns-in-Ok-told-clause-sweeps : goal.returns-in-Ok-told-clause-sweeps
returns-in-Ok-told-clause-sweeps g c = λ o follows named.
    let r = c.in-Ok.ensures.done o follows in
    swept_whole o c.script.new.world c.in-Ok-told.text.items r (c.in-Ok-told.ensures o r.script r.follows named)
