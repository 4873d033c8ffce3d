use Rattle.std.proofs.Common.{List, sym, subst}
use Rattle.h5w_model.specs.declared.piece.Write.{Write}
use Rattle.h5w_creation_laws.specs.CreationLaws.{WritesEndBy}
use Rattle.h5w_appending.proofs.CreateLemmas.{ends_higher}
use Rattle.h5w_appending.proofs.creating.fill_all.Goals as goal

pub put_all-requires-clause-ends : goal.put_all-requires-clause-ends
put_all-requires-clause-ends g c =
    let end = (g.D.Disk.view c.reserve.new.self).end c.args.file.now in
    subst (λ (ws : List Write). WritesEndBy end ws) (sym c.deref.ensures.value) (ends_higher c.args.new.now.end end c.args.new.now.writes.items c.in-Ok.ensures.end c.requires.ends)
