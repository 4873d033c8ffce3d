use Rattle.std.proofs.Common.{◌≡◌, ◌<◌, ◌≤◌, ◌+◌, ◌*◌, ◌^◌, ◌∙◌, ◌++◌, Some, length, take, drop, ap, sym, subst, arith}
use Rattle.h5w_model.specs.Calls.{first_in_band}
use Rattle.h5w_types.specs.Fields.{int_type_of}
use Rattle.h5w_reader.specs.Bands.{reading_with}
use Rattle.h5w_dataset.specs.Described.{described_of}
use Rattle.h5w_reader.specs.Grids.{row_values}
use Rattle.h5w_reader.proofs.ReadLemmas.{some_size}
use Rattle.h5w_reader.proofs.SideLemmas.{grid_side, row_inside, row_small, row_places, none_columns, some_columns, part_cells}
use Rattle.h5w_reader.proofs.grid.Grid.put_columns.Goals as goal

pub returns-in-None : goal.returns-in-None
returns-in-None c = λ k os e.
    let s = c.args.self.now in
    let r = reading_with k s.dataset in
    let at = first_in_band (described_of s.dataset) c.args.band s.from + c.args.row in
    c.in_ok-put_fill-in-None.ensures
    ∙ ap (λ xs. c.args.out.now.items ++ xs) (none_columns r s.from at c.args.column c.width-width.result os s.dataset.wide c.width-width.ensures.inside (e ∙ c.in-None.is)
    ∙ ap (row_values r s.from os at (c.args.column * s.dataset.layout.chunk.1)) c.width-width.ensures.exact)

pub part-cells-requires : goal.part-cells-requires
part-cells-requires c =
    let s = c.args.self.now in
    let b = c.as_slice-bytes.result.now in
    let said : c.args.range.now ≡ Some b = c.in-Some.is ∙ ap Some (sym c.as_slice-bytes.ensures) in
    let fits = row_inside s c.args.band c.args.row c.args.column c.width-width.result b c.requires.low c.requires.high c.requires.inside c.requires.beside (c.requires.enough b said) c.width-width.ensures.exact in
    subst (λ z. c.args.row * s.dataset.layout.chunk.1 * z + c.width-width.result * z ≤ length b) (sym c.from-size.ensures) fits

pub returns : goal.returns
returns c = λ k os e.
    let s = c.args.self.now in
    let d = described_of s.dataset in
    let r = reading_with k s.dataset in
    let t = int_type_of s.dataset.int_type in
    let size = s.dataset.int_type.size in
    let b = c.as_slice-bytes.result.now in
    let n = c.width-width.result in
    let row = c.args.row in
    let wide = s.dataset.layout.chunk.1 in
    let at = first_in_band d c.args.band s.from + row in
    let said : c.args.range.now ≡ Some b = c.in-Some.is ∙ ap Some (sym c.as_slice-bytes.ensures) in
    let fits = row_inside s c.args.band row c.args.column n b c.requires.low c.requires.high c.requires.inside c.requires.beside (c.requires.enough b said) c.width-width.ensures.exact in
    let is : c.part-cells.result.now ≡ take (n * size) (drop (row * wide * size) b) = subst (λ z. c.part-cells.result.now ≡ take (n * z) (drop (row * wide * z) b)) c.from-size.ensures c.part-cells.ensures in
    let side = grid_side k.place k.table.items s c.args.band c.requires.low c.requires.high in
    c.in_ok-put_cells.ensures
    ∙ ap (λ xs. c.args.out.now.items ++ xs) (part_cells t n b c.part-cells.result.now (row * wide * size) (some_size s.dataset) fits is
    ∙ some_columns r s.from s.to c.args.band row c.args.column n os b side c.requires.beside c.requires.inside c.width-width.ensures.inside (e ∙ said)
    ∙ ap (row_values r s.from os at (c.args.column * wide)) c.width-width.ensures.exact)

pub overflow_mul-start : goal.overflow_mul-start
overflow_mul-start c =
    let places = row_places c.args.self.now c.args.band c.args.row c.width-width.result c.requires.low c.requires.high c.requires.inside c.width-width.ensures.inside in
    omega (arith, places)

pub overflow_mul-start-2 : goal.overflow_mul-start-2
overflow_mul-start-2 c =
    let s = c.args.self.now in
    let small : c.args.row * s.dataset.layout.chunk.1 * c.from-size.result + c.width-width.result * c.from-size.result < 2 ^ 32 =
    subst (λ z. c.args.row * s.dataset.layout.chunk.1 * z + c.width-width.result * z < 2 ^ 32) (sym c.from-size.ensures) (row_small s c.args.band c.args.row c.width-width.result c.requires.low c.requires.high c.requires.inside c.width-width.ensures.inside) in
    omega (arith, small)

pub overflow_mul-width : goal.overflow_mul-width
overflow_mul-width c =
    let s = c.args.self.now in
    let small : c.args.row * s.dataset.layout.chunk.1 * c.from-size.result + c.width-width.result * c.from-size.result < 2 ^ 32 =
    subst (λ z. c.args.row * s.dataset.layout.chunk.1 * z + c.width-width.result * z < 2 ^ 32) (sym c.from-size.ensures) (row_small s c.args.band c.args.row c.width-width.result c.requires.low c.requires.high c.requires.inside c.width-width.ensures.inside) in
    omega (arith, small)
