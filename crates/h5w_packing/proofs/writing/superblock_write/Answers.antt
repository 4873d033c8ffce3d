use Rattle.std.proofs.Common.{ℕ, List, ◌∙◌, ap}
use Rattle.h5w_model.specs.Superblock.{super_bytes}
use Rattle.h5w_model.specs.declared.piece.Write.{Write}
use Rattle.h5w_model.specs.declared.root.Super.{Super}
use Rattle.h5w_packing.proofs.writing.superblock_write.Goals as goal

pub returns : goal.returns
returns c = ap (λ (b : List ℕ). let w : Write = record { at = 0; piece = b } in w) (c.of.ensures ∙ c.encode.ensures.spelled ∙ ap (λ (s : Super). super_bytes s) c.superblock.ensures)
