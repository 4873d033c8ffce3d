use Rattle.std.proofs.Common.{rules}
use Rattle.std.specs.Prelude.{IsTrue}
use Rattle.h5w_bt_index.specs.Held.{view_of}
use Rattle.h5w_bt_index.specs.Index.{IsBlocked}
use Rattle.h5w_bt_index.proofs.Laws.{blocked_deep, deep_blocked}
use Rattle.h5w_bt_index.proofs.index.TreeIndex.is_deep.Goals as goal

pub returns-clause-deep : goal.returns-clause-deep
returns-clause-deep c i =
    let v = view_of c.args.self.now in
    let blocked : (IsTrue c.is_none.result → IsBlocked v c.args.key) × (IsBlocked v c.args.key → IsTrue c.is_none.result) = search rules in
    (λ h. blocked_deep v c.args.key i (blocked.0 h), λ d. blocked.1 (deep_blocked v c.args.key i d))
