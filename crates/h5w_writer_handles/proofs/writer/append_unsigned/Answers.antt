use Rattle.std.proofs.Common.{rules, ◌≡◌, ◌%◌, ◌∙◌, ap, length, map, pos}
use Rattle.std.proofs.lemmas.List.{length-map}
use Rattle.h5w_writer_handles.proofs.RowsLemmas.{rows_of_whole}
use Rattle.h5w_writer_handles.proofs.writer.append_unsigned.Goals as goal

pub append_rows-requires : goal.append_rows-requires
append_rows-requires c =
    let numbers = c.args.numbers.now in
    let values : c.deref.result.now ≡ map pos numbers = c.deref.ensures.value ∙ c.in-Ok.ensures in
    let whole : length numbers % c.args.core.now.dataset.shape.cols ≡ 0 = search rules in
    rows_of_whole c.args.core.now c.deref.result.now (length numbers) (ap length values ∙ length-map numbers pos) whole
