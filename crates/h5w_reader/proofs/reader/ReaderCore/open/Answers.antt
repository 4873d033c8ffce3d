use Rattle.std.proofs.Common.{◌∙◌, sym, subst, None}
use Rattle.h5w_model.specs.Asked.{Asked, beginning, no_asks}
use Rattle.h5w_model.specs.Unfinished.{Reader, rows_left, rows_program}
use Rattle.h5w_reader.specs.Readers.{reader_rules}
use Rattle.h5w_reader.proofs.CoreLemmas.{opened}
use Rattle.h5w_reader.proofs.StageLemmas.{rows_want}
use Rattle.h5w_reader.proofs.AskedLemmas.{asked_new}
use Rattle.h5w_reader.proofs.reader.ReaderCore.open.Goals as goal

pub returns-clause-begun : goal.returns-clause-begun
returns-clause-begun c = opened c.args.attempts c.from_vec-name.result c.args.name.now c.open.result (c.from_vec-name.ensures ∙ c.in_ok-from_slice.ensures.items) c.open.ensures

pub returns-clause-wanting : goal.returns-clause-wanting
returns-clause-wanting c = rows_want c.args.attempts c.from_vec-name.result None c.open.result

pub returns-clause-asked : goal.returns-clause-asked
returns-clause-asked c =
    let e = opened c.args.attempts c.from_vec-name.result c.args.name.now c.open.result (c.from_vec-name.ensures ∙ c.in_ok-from_slice.ensures.items) c.open.ensures in
    let g = reader_rules c.args.name.now c.args.attempts in
    subst (λ (r : Reader). Asked r (beginning (rows_left (rows_program g None)) no_asks)) (sym e) (asked_new g)
