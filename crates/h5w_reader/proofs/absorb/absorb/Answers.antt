use Rattle.std.proofs.Common.{◌≡◌, Some}
use Rattle.h5w_reader.specs.declared.call.Call.TheVariants as calls
use Rattle.h5w_reader.proofs.AbsorbLemmas.{rows_more, rows_same, values_more, values_same}
use Rattle.h5w_reader.proofs.absorb.absorb.Goals as goal

pub returns-in-Some-Rows-clause-more : goal.returns-in-Some-Rows-clause-more
returns-in-Some-Rows-clause-more c = λ ok most name known.
    let here = c.in-Some-Rows in
    let call : c.args.call.now ≡ Some (calls.Rows here.stage) = cc (here.is, here.field-0-is) in
    rows_more most name known c.args.call.now here.stage c.absorb.new.self c.args.piece.now call (c.absorb.ensures.more ok)

pub returns-in-Some-Rows-clause-same : goal.returns-in-Some-Rows-clause-same
returns-in-Some-Rows-clause-same c = λ ok most name known.
    let here = c.in-Some-Rows in
    let call : c.args.call.now ≡ Some (calls.Rows here.stage) = cc (here.is, here.field-0-is) in
    rows_same most name known c.args.call.now here.stage c.absorb.new.self call (c.absorb.ensures.same ok)

pub returns-in-Some-Values-clause-more : goal.returns-in-Some-Values-clause-more
returns-in-Some-Values-clause-more c = λ ok most name known.
    let here = c.in-Some-Values in
    let call : c.args.call.now ≡ Some (calls.Values here.reads) = cc (here.is, here.field-0-is) in
    let took = c.absorb-in-Some-Values in
    values_more most name known c.args.call.now here.reads took.new.self c.args.piece.now call (took.ensures.more ok)

pub returns-in-Some-Values-clause-same : goal.returns-in-Some-Values-clause-same
returns-in-Some-Values-clause-same c = λ ok most name known.
    let here = c.in-Some-Values in
    let call : c.args.call.now ≡ Some (calls.Values here.reads) = cc (here.is, here.field-0-is) in
    let took = c.absorb-in-Some-Values in
    values_same most name known c.args.call.now here.reads took.new.self call (took.ensures.same ok)
