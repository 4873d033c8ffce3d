use Rattle.std.proofs.Common.{◌≡◌, length, drop, arith, ap, ◌∙◌}
use Rattle.h5w_model.specs.Headers.{header_length, with_number}
use Rattle.h5w_model.proofs.HeaderLemmas.{drop-with_number, length-with_number}
use Rattle.h5w_ohdr.proofs.rows.put_rows.Goals as goal

pub returns-in-Some-clause-behind : goal.returns-in-Some-clause-behind
returns-in-Some-clause-behind c =
    let b = c.args.chunk.now in
    let end = header_length b in
    let rows_inside = rw (c.unwrap-rows_at.ensures) at c.rows_in_header.ensures.inside in
    let index_inside = rw (c.unwrap-index_at.ensures) at c.index_in_header.ensures.inside in
    let long = c.requires.whole in
    let sized = with_number b c.unwrap-rows_at.result c.args.rows in
    let same : length sized ≡ length b = length-with_number b c.unwrap-rows_at.result c.args.rows (omega arith) in
    ap (drop end) c.put-in-Some-2.ensures.written
    ∙ ap (λ xs. drop end (with_number xs c.unwrap-index_at.result c.in-Some.address)) c.put-in-Some.ensures.written
    ∙ drop-with_number sized c.unwrap-index_at.result c.in-Some.address end (omega arith) (omega arith)
    ∙ drop-with_number b c.unwrap-rows_at.result c.args.rows end (omega arith) (omega arith)
