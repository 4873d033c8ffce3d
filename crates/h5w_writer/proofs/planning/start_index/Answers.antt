use Rattle.std.proofs.Common.{sym, subst}
use Rattle.h5w_model.specs.declared.cell.IndexKind.{IndexKind}
use Rattle.h5w_writer.specs.Refusals.{IsUnplaced}
use Rattle.h5w_writer.proofs.IndexStarts.{begun_unnamed}
use Rattle.h5w_writer.proofs.planning.start_index.Goals as goal

pub returns-in-Array-clause-full : goal.returns-in-Array-clause-full
returns-in-Array-clause-full c full is = subst (λ (k : IndexKind). IsUnplaced k c.args.address c.args.places.now full) (sym c.in-Array.is) (c.start_array.ensures.full full is)

pub returns-in_ok-start_tree-in-Tree-clause-started : goal.returns-in_ok-start_tree-in-Tree-clause-started
returns-in_ok-start_tree-in-Tree-clause-started c = begun_unnamed c.args.address _ _ _ _ (c.requires.tree c.in-Tree.is) c.in_ok-start_tree-in-Tree.ensures.started
