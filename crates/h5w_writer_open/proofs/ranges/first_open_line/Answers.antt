use Rattle.std.proofs.Common.{arith, ◌∙◌, sym}
use Rattle.h5w_chunks.proofs.KeyLemmas.{array_line, tree_line}
use Rattle.h5w_dataset.specs.Described.{described_of}
use Rattle.h5w_writer_open.specs.OpenRanges.{first_open}
use Rattle.h5w_writer_open.proofs.OpenLineLemmas.{open_chunks_are, open_small}
use Rattle.h5w_writer_open.proofs.ranges.first_open_line.Goals as goal

pub overflow_mul-result : goal.overflow_mul-result
overflow_mul-result c =
    let d = described_of c.args.d.now in
    omega (arith, open_chunks_are d c.first_open-band.result c.across.result c.first_open-band.ensures c.across.ensures, open_small d c.args.d.now.tall c.requires.few)

pub returns-in-Array : goal.returns-in-Array
returns-in-Array c =
    let d = described_of c.args.d.now in
    open_chunks_are d c.first_open-band.result c.across.result c.first_open-band.ensures c.across.ensures ∙ sym (array_line d (first_open d) c.in-Array.is)

pub returns-in-Tree : goal.returns-in-Tree
returns-in-Tree c =
    let d = described_of c.args.d.now in
    c.first_open-band.ensures ∙ sym (tree_line d (first_open d) c.in-Tree.is)
