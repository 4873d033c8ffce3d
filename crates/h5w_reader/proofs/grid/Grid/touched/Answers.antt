use Rattle.std.proofs.Common.{◌≡◌, ◌<◌, ◌+◌, ◌*◌, arith}
use Rattle.h5w_reader.proofs.BandLemmas.{band_begins, band_ends, band_next}
use Rattle.h5w_reader.proofs.grid.Grid.touched.Goals.{then-self-start, else-self-start}
use Rattle.h5w_reader.proofs.grid.Grid.touched.Goals as goal

pub overflow_sub-result-2 : goal.overflow_sub-result-2
overflow_sub-result-2 c =
    let s = c.args.self.now in
    let rows = s.dataset.layout.chunk.0 in
    let less : s.from < s.to = s.some in
    let ends : s.from < (c.args.band + 1) * rows = band_ends c.args.band rows s.from s.dataset.tall c.requires.low in
    let next : (c.args.band + 1) * rows ≡ c.args.band * rows + rows = band_next c.args.band rows in
    let begins : c.args.band * rows < s.to = band_begins c.args.band rows s.to s.dataset.tall (omega arith) c.requires.high in
    let some : 0 < rows = s.dataset.tall in
    elim c.if-self-start.branch [
      | then-self-start w ↦ omega (arith, c.max-first.ensures, w.last-is, ends, next, begins, less, some)
      | else-self-start w ↦ omega (arith, c.max-first.ensures, w.last-is, ends, next, begins, less, some)
    ]
