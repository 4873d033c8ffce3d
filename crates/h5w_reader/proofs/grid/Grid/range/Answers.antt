use Rattle.std.proofs.Common.{ℕ, ◌<◌, ◌+◌, ◌-◌, ◌*◌, ◌^◌, ◌∙◌, [], ap, sym, subst, arith}
use Rattle.h5w_model.specs.Calls.{first_in_band, last_in_band, last_column}
use Rattle.h5w_dataset.specs.Described.{described_of}
use Rattle.h5w_reader.proofs.SideLemmas.{grid_side, reading_at, range_starts, range_len, range_fits}
use Rattle.h5w_reader.proofs.grid.Grid.range.Goals as goal

pub overflow_mul-result-3 : goal.overflow_mul-result-3
overflow_mul-result-3 c =
    let s = c.args.self.now in
    let wide = s.dataset.layout.chunk.1 in
    let before = c.touched-before.result.0 in
    let count = c.touched-before.result.1 in
    let small : before * wide * c.from-size.result + ((count - 1) * wide + c.width.result) * c.from-size.result < 2 ^ 32 =
    subst (λ z. before * wide * z + ((count - 1) * wide + c.width.result) * z < 2 ^ 32) (sym c.from-size.ensures)
    (range_fits before count s.dataset.layout.chunk.0 wide c.width.result s.dataset.int_type.size c.touched-before.ensures.some c.touched-before.ensures.inside c.width.ensures.inside s.dataset.small) in
    omega arith

pub returns-clause-start : goal.returns-clause-start
returns-clause-start c =
    let s = c.args.self.now in
    let wide = s.dataset.layout.chunk.1 in
    ap (λ m. m * wide * c.from-size.result) c.touched-before.ensures.before
    ∙ ap (λ z. (first_in_band (described_of s.dataset) c.args.band s.from - c.args.band * s.dataset.layout.chunk.0) * wide * z) c.from-size.ensures
    ∙ sym (range_starts (reading_at 0 [] s) s.from s.to c.args.band c.args.column (grid_side 0 [] s c.args.band c.requires.low c.requires.high))

pub returns-clause-len : goal.returns-clause-len
returns-clause-len c =
    let s = c.args.self.now in
    let d = described_of s.dataset in
    let wide = s.dataset.layout.chunk.1 in
    let rows : ℕ = last_in_band d c.args.band s.to - first_in_band d c.args.band s.from in
    let width : ℕ = last_column d c.args.column - c.args.column * wide in
    ap (λ n. ((n - 1) * wide + c.width.result) * c.from-size.result) c.touched-before.ensures.count
    ∙ ap (λ m. ((rows - 1) * wide + m) * c.from-size.result) c.width.ensures.exact
    ∙ ap (λ z. ((rows - 1) * wide + width) * z) c.from-size.ensures
    ∙ sym (range_len (reading_at 0 [] s) s.from s.to c.args.band c.args.column (grid_side 0 [] s c.args.band c.requires.low c.requires.high) c.requires.beside)

pub returns-clause-small : goal.returns-clause-small
returns-clause-small c =
    let s = c.args.self.now in
    let wide = s.dataset.layout.chunk.1 in
    let before = c.touched-before.result.0 in
    let count = c.touched-before.result.1 in
    subst (λ z. before * wide * z + ((count - 1) * wide + c.width.result) * z < 2 ^ 32) (sym c.from-size.ensures)
    (range_fits before count s.dataset.layout.chunk.0 wide c.width.result s.dataset.int_type.size c.touched-before.ensures.some c.touched-before.ensures.inside c.width.ensures.inside s.dataset.small)
