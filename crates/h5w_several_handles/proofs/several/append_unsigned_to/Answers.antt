use Rattle.std.proofs.Common.{rules, ◌≡◌, ◌%◌, ◌∙◌, ap, length, map, pos}
use Rattle.std.proofs.lemmas.List.{length-map}
use Rattle.h5w_writer_handles.proofs.RowsLemmas.{rows_of_whole}
use Rattle.h5w_several_handles.proofs.several.append_unsigned_to.Goals as goal

pub append_rows-requires-clause-rows : goal.append_rows-requires-clause-rows
append_rows-requires-clause-rows c = λ part is.
    let numbers = c.args.numbers.now in
    let values : c.deref.result.now ≡ map pos numbers = c.deref.ensures.value ∙ c.in-Ok.ensures in
    let whole : length numbers % part.dataset.shape.cols ≡ 0 = search (rules, is) in
    rows_of_whole part c.deref.result.now (length numbers) (ap length values ∙ length-map numbers pos) whole
