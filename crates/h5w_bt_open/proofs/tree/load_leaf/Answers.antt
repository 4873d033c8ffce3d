use Rattle.std.proofs.lemmas.Result.{IfOk-weaker}
use Rattle.h5w_bt.specs.Parts.{child_of}
use Rattle.h5w_bt_nodes.specs.Typed.{leaf_of}
use Rattle.h5w_bt_open.proofs.HeldLemmas.{counted_held, counted_opened}
use Rattle.h5w_bt_open.proofs.tree.load_leaf.Goals as goal

pub returns-clause-held : goal.returns-clause-held
returns-clause-held g c = IfOk-weaker c.load.result _ _ (λ t held. counted_held 0 (child_of c.args.child) (leaf_of t) held) c.load.ensures.held

pub returns-clause-opened : goal.returns-clause-opened
returns-clause-opened g c = IfOk-weaker c.load.result _ _ (λ t opened img still. counted_opened img 0 (child_of c.args.child) c.args.span (leaf_of t) (opened img still)) c.load.ensures.opened
