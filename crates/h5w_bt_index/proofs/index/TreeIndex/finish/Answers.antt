use Rattle.std.proofs.Common.{sym, subst}
use Rattle.h5w_bt_index.specs.Index.{IsIndex, IsShaped, KeepsShares}
use Rattle.h5w_bt_index.specs.Held.{header_place, view_of}
use Rattle.h5w_bt_index.specs.Plans.{news}
use Rattle.h5w_bt_index.proofs.Placed.{planned_index, planned_shaped, planned_shares}
use Rattle.h5w_bt_index.proofs.Started.{planned_by}
use Rattle.h5w_bt_index.proofs.index.TreeIndex.finish.Goals as goal

pub returns-clause-planned : goal.returns-clause-planned
returns-clause-planned c s t told =
    planned_by (header_place c.args.self.now) (view_of c.args.self.now) s c.args.begun _ _ _ _ t told
    c.finish.ensures.moves c.finish.ensures.copies c.finish.ensures.in_place c.finish.ensures.planned

pub returns-clause-shape : goal.returns-clause-shape
returns-clause-shape c = subst IsShaped (sym c.finish.ensures.planned) (planned_shaped (news c.args.begun.moves) (view_of c.args.self.now) c.requires.shape)

pub returns-clause-index : goal.returns-clause-index
returns-clause-index c i = subst IsIndex (sym c.finish.ensures.planned) (planned_index (news c.args.begun.moves) (view_of c.args.self.now) i)

pub returns-clause-shares : goal.returns-clause-shares
returns-clause-shares c = subst (KeepsShares (view_of c.args.self.now)) (sym c.finish.ensures.planned) (planned_shares (news c.args.begun.moves) (view_of c.args.self.now))
