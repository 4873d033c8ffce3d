use Rattle.std.proofs.Common.{arith, ◌≡◌, ◌+◌, ◌*◌, ◌/◌, ◌%◌, ◌∙◌, ap, sym, ℕ}
use Rattle.h5w_model.specs.Logs.{div_up}
use Rattle.h5w_model.specs.Tables.{chunks_across}
use Rattle.h5w_chunks.specs.Grids.{dataset_of}
use Rattle.h5w_chunks.specs.Shares.{touched_key}
use Rattle.h5w_chunks.proofs.Geometry.{key_of_number}
use Rattle.h5w_chunks.proofs.KeyLemmas.{array_key, array_line, key_at, touched_number, tree_key}
use Rattle.h5w_chunks.proofs.grid.Grid.touched_key.Goals as goal

pub overflow_add-result : goal.overflow_add-result
overflow_add-result c =
    let d = dataset_of c.args.self.now in
    let band = c.args.from / c.args.self.now.layout.chunk.0 in
    let n = touched_number d c.args.from c.args.to c.args.k c.requires.known in
    let line = array_line d (div_up c.args.to d.layout.chunk_rows) c.in-Array.is in
    let same : band * c.across-across.result ≡ band * chunks_across d = ap (λ (a : ℕ). band * a) c.across-across.ensures in
    omega (arith, same, n.high, line, c.requires.lines)

pub returns-in-Array-clause-cells : goal.returns-in-Array-clause-cells
returns-in-Array-clause-cells c = λ row column band is.
    let d = dataset_of c.args.self.now in
    let first = c.args.from / c.args.self.now.layout.chunk.0 in
    ap (λ (a : ℕ). key_at (first * a + c.args.k) 0) c.across-across.ensures
    ∙ sym (array_key d (first * chunks_across d + c.args.k) c.in-Array.is)
    ∙ ap (λ (k : ℕ). touched_key d c.args.from k) is
    ∙ key_of_number d c.args.from row column band

pub returns-in-Tree-clause-exact : goal.returns-in-Tree-clause-exact
returns-in-Tree-clause-exact c =
    let d = dataset_of c.args.self.now in
    let n = touched_number d c.args.from c.args.to c.args.k c.requires.known in
    ap (λ (a : ℕ). key_at (c.args.from / c.args.self.now.layout.chunk.0 + c.args.k / a) (c.args.k % a)) c.across-across.ensures
    ∙ sym (tree_key d c.args.from c.args.k c.in-Tree.is n.some)

pub returns-in-Tree-clause-cells : goal.returns-in-Tree-clause-cells
returns-in-Tree-clause-cells c = λ row column band is.
    let d = dataset_of c.args.self.now in
    returns-in-Tree-clause-exact c ∙ ap (λ (k : ℕ). touched_key d c.args.from k) is ∙ key_of_number d c.args.from row column band
