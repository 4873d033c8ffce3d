use Rattle.std.proofs.Common.{◌≤◌, ◌∙◌, ap, sym, subst, length, ℕ}
use Rattle.h5w_bt_index.specs.declared.root.Root.{Root}
use Rattle.h5w_bt_nodes.specs.Nodes.{Tree}
use Rattle.h5w_bt_index.specs.Index.{Index, index_of}
use Rattle.h5w_bt_nodes.specs.Blocks.{changes, news}
use Rattle.h5w_bt_index.specs.Plans.{planned}
use Rattle.h5w_bt_index.proofs.root.Root.settle.Goals as goal

abbrev of_root : (d : ℕ) → Tree d → Index
of_root d t = record { depth = d; root = t }

pub settle-requires : goal.settle-requires
settle-requires c = subst (λ (r : Root). changes (index_of r).depth (index_of r).root ≤ length c.args.moves.now) c.in-Zero.is c.requires

pub returns-in-Zero : goal.returns-in-Zero
returns-in-Zero c = ap (of_root 0) c.settle.ensures.placed ∙ ap (λ (r : Root). planned (news c.args.moves.now) (index_of r)) (sym c.in-Zero.is)

pub settle-requires-in-One : goal.settle-requires-in-One
settle-requires-in-One c = subst (λ (r : Root). changes (index_of r).depth (index_of r).root ≤ length c.args.moves.now) c.in-One.is c.requires

pub returns-in-One : goal.returns-in-One
returns-in-One c = ap (of_root 1) c.settle-in-One.ensures.placed ∙ ap (λ (r : Root). planned (news c.args.moves.now) (index_of r)) (sym c.in-One.is)

pub settle-requires-in-Two : goal.settle-requires-in-Two
settle-requires-in-Two c = subst (λ (r : Root). changes (index_of r).depth (index_of r).root ≤ length c.args.moves.now) c.in-Two.is c.requires

pub returns-in-Two : goal.returns-in-Two
returns-in-Two c = ap (of_root 2) c.settle-in-Two.ensures.placed ∙ ap (λ (r : Root). planned (news c.args.moves.now) (index_of r)) (sym c.in-Two.is)

pub settle-requires-in-Three : goal.settle-requires-in-Three
settle-requires-in-Three c = subst (λ (r : Root). changes (index_of r).depth (index_of r).root ≤ length c.args.moves.now) c.in-Three.is c.requires

pub returns-in-Three : goal.returns-in-Three
returns-in-Three c = ap (of_root 3) c.settle-in-Three.ensures.placed ∙ ap (λ (r : Root). planned (news c.args.moves.now) (index_of r)) (sym c.in-Three.is)
