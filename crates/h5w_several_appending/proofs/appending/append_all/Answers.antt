use Rattle.std.proofs.Common.{refl, inl, sym}
use Rattle.h5w_several_appending.proofs.EndLemmas.{several_finishes}
use Rattle.h5w_several_appending.proofs.appending.append_all.Goals as goal

pub returns-in-Err-clause-finishes : goal.returns-in-Err-clause-finishes
returns-in-Err-clause-finishes g c = inl (record { unopened = c.in-Err.ensures; unread = refl; unwritten = refl })

pub returns-clause-finishes : goal.returns-clause-finishes
returns-clause-finishes g c =
    several_finishes _ _ _ _ _ _ _ c.args.terms.file.now c.args.names.now c.args.terms.limit c.in-Ok.session c.take_all-taken.new.session c.take_all-taken.result c.settle-settled.result c.faults.result c.in-Ok.ensures.0 (sym c.faults.ensures)
    (c.take_all-taken.ensures.takes (g.D.Disk.view c.args.disk.now) (sym c.faults.ensures) c.in-Ok.ensures.2) c.take_all-taken.ensures.text c.settle-settled.ensures.taken c.settle-settled.ensures.settles
