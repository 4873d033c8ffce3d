use Rattle.h5w_shared.proofs.CallLemmas.{returns_written}
use Rattle.h5w_shared.proofs.place.Place.write.Goals as goal

pub end-requires-clause-store : goal.end-requires-clause-store
end-requires-clause-store g c = returns_written _ _ _ _ _ c.in_ok-store.ensures.turn c.requires.writes c.write-written.ensures.after
