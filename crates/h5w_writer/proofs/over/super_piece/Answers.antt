use Rattle.std.proofs.Common.{ap, sym, ◌∙◌, inr}
use Rattle.h5w_model.specs.Superblock.{super_at}
use Rattle.h5w_writer.proofs.over.super_piece.Goals as goal

pub encode-requires : goal.encode-requires
encode-requires c = inr c.requires

pub returns-clause-reads : goal.returns-clause-reads
returns-clause-reads c = ap super_at (sym c.encode.ensures.spelled) ∙ c.encode.ensures.reads_back
