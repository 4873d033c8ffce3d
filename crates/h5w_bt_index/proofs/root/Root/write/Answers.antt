use Rattle.std.proofs.Common.{◌≡◌, ◌≤◌, ◌++◌, sym, subst, length, IfOk, OnOk}
use Rattle.h5w_bt.specs.Parts.{child_of}
use Rattle.h5w_bt_index.specs.declared.root.Root.{Root}
use Rattle.h5w_bt_index.specs.Index.{IsShaped, index_of}
use Rattle.h5w_bt_nodes.specs.Blocks.{AllRead, changes, news, placed, pointer_of, writes_of, written}
use Rattle.h5w_bt_index.proofs.root.Root.write.Goals as goal

pub write-requires-clause-shape : goal.write-requires-clause-shape
write-requires-clause-shape c = (subst (λ (r : Root). IsShaped (index_of r)) c.in-Zero.is c.requires.shape).shape

pub write-requires-clause-enough : goal.write-requires-clause-enough
write-requires-clause-enough c = subst (λ (r : Root). changes (index_of r).depth (index_of r).root ≤ length c.args.moves.now) c.in-Zero.is c.requires.enough

pub returns-in-Zero-clause-pointer : goal.returns-in-Zero-clause-pointer
returns-in-Zero-clause-pointer c = subst (λ (r : Root). IfOk c.write.result (λ p. child_of p.1 ≡ pointer_of (index_of r).depth (placed (index_of r).depth (news c.args.moves.now) (index_of r).root))) (sym c.in-Zero.is) c.write.ensures.pointer

pub returns-in-Zero-clause-written : goal.returns-in-Zero-clause-written
returns-in-Zero-clause-written c = subst (λ (r : Root). OnOk c.write.result (c.write.new.out.items ≡ c.args.out.now.items ++ writes_of (written (index_of r).depth (news c.args.moves.now) (index_of r).root))) (sym c.in-Zero.is) c.write.ensures.written

pub returns-in-Zero-clause-reads : goal.returns-in-Zero-clause-reads
returns-in-Zero-clause-reads c = subst (λ (r : Root). OnOk c.write.result (AllRead (index_of r).depth (news c.args.moves.now) (index_of r).root)) (sym c.in-Zero.is) c.write.ensures.reads

pub write-requires-in-One-clause-shape : goal.write-requires-in-One-clause-shape
write-requires-in-One-clause-shape c = (subst (λ (r : Root). IsShaped (index_of r)) c.in-One.is c.requires.shape).shape

pub write-requires-in-One-clause-enough : goal.write-requires-in-One-clause-enough
write-requires-in-One-clause-enough c = subst (λ (r : Root). changes (index_of r).depth (index_of r).root ≤ length c.args.moves.now) c.in-One.is c.requires.enough

pub returns-in-One-clause-pointer : goal.returns-in-One-clause-pointer
returns-in-One-clause-pointer c = subst (λ (r : Root). IfOk c.write-in-One.result (λ p. child_of p.1 ≡ pointer_of (index_of r).depth (placed (index_of r).depth (news c.args.moves.now) (index_of r).root))) (sym c.in-One.is) c.write-in-One.ensures.pointer

pub returns-in-One-clause-written : goal.returns-in-One-clause-written
returns-in-One-clause-written c = subst (λ (r : Root). OnOk c.write-in-One.result (c.write-in-One.new.out.items ≡ c.args.out.now.items ++ writes_of (written (index_of r).depth (news c.args.moves.now) (index_of r).root))) (sym c.in-One.is) c.write-in-One.ensures.written

pub returns-in-One-clause-reads : goal.returns-in-One-clause-reads
returns-in-One-clause-reads c = subst (λ (r : Root). OnOk c.write-in-One.result (AllRead (index_of r).depth (news c.args.moves.now) (index_of r).root)) (sym c.in-One.is) c.write-in-One.ensures.reads

pub write-requires-in-Two-clause-shape : goal.write-requires-in-Two-clause-shape
write-requires-in-Two-clause-shape c = (subst (λ (r : Root). IsShaped (index_of r)) c.in-Two.is c.requires.shape).shape

pub write-requires-in-Two-clause-enough : goal.write-requires-in-Two-clause-enough
write-requires-in-Two-clause-enough c = subst (λ (r : Root). changes (index_of r).depth (index_of r).root ≤ length c.args.moves.now) c.in-Two.is c.requires.enough

pub returns-in-Two-clause-pointer : goal.returns-in-Two-clause-pointer
returns-in-Two-clause-pointer c = subst (λ (r : Root). IfOk c.write-in-Two.result (λ p. child_of p.1 ≡ pointer_of (index_of r).depth (placed (index_of r).depth (news c.args.moves.now) (index_of r).root))) (sym c.in-Two.is) c.write-in-Two.ensures.pointer

pub returns-in-Two-clause-written : goal.returns-in-Two-clause-written
returns-in-Two-clause-written c = subst (λ (r : Root). OnOk c.write-in-Two.result (c.write-in-Two.new.out.items ≡ c.args.out.now.items ++ writes_of (written (index_of r).depth (news c.args.moves.now) (index_of r).root))) (sym c.in-Two.is) c.write-in-Two.ensures.written

pub returns-in-Two-clause-reads : goal.returns-in-Two-clause-reads
returns-in-Two-clause-reads c = subst (λ (r : Root). OnOk c.write-in-Two.result (AllRead (index_of r).depth (news c.args.moves.now) (index_of r).root)) (sym c.in-Two.is) c.write-in-Two.ensures.reads

pub write-requires-in-Three-clause-shape : goal.write-requires-in-Three-clause-shape
write-requires-in-Three-clause-shape c = (subst (λ (r : Root). IsShaped (index_of r)) c.in-Three.is c.requires.shape).shape

pub write-requires-in-Three-clause-enough : goal.write-requires-in-Three-clause-enough
write-requires-in-Three-clause-enough c = subst (λ (r : Root). changes (index_of r).depth (index_of r).root ≤ length c.args.moves.now) c.in-Three.is c.requires.enough

pub returns-in-Three-clause-pointer : goal.returns-in-Three-clause-pointer
returns-in-Three-clause-pointer c = subst (λ (r : Root). IfOk c.write-in-Three.result (λ p. child_of p.1 ≡ pointer_of (index_of r).depth (placed (index_of r).depth (news c.args.moves.now) (index_of r).root))) (sym c.in-Three.is) c.write-in-Three.ensures.pointer

pub returns-in-Three-clause-written : goal.returns-in-Three-clause-written
returns-in-Three-clause-written c = subst (λ (r : Root). OnOk c.write-in-Three.result (c.write-in-Three.new.out.items ≡ c.args.out.now.items ++ writes_of (written (index_of r).depth (news c.args.moves.now) (index_of r).root))) (sym c.in-Three.is) c.write-in-Three.ensures.written

pub returns-in-Three-clause-reads : goal.returns-in-Three-clause-reads
returns-in-Three-clause-reads c = subst (λ (r : Root). OnOk c.write-in-Three.result (AllRead (index_of r).depth (news c.args.moves.now) (index_of r).root)) (sym c.in-Three.is) c.write-in-Three.ensures.reads
