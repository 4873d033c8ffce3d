use Rattle.std.proofs.Common.{rules, ◌≡◌, ◌%◌, ◌∙◌, ap, length}
use Rattle.h5w_writer_handles.proofs.RowsLemmas.{rows_of_whole}
use Rattle.h5w_several_handles.proofs.several.append_to.Goals as goal

pub append_rows-requires-clause-rows : goal.append_rows-requires-clause-rows
append_rows-requires-clause-rows c = λ part is.
    let numbers = c.args.numbers.now in
    let values : c.deref.result.now ≡ numbers = c.deref.ensures.value ∙ c.in-Ok.ensures in
    let whole : length numbers % part.dataset.shape.cols ≡ 0 = search (rules, is) in
    rows_of_whole part c.deref.result.now (length numbers) (ap length values) whole
