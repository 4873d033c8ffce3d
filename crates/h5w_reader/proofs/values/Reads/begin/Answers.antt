use Rattle.std.proofs.Common.{◌<◌, ◌+◌, ◌/◌, ◌∙◌, List, Result, Ok, ap, sym, arith}
use Rattle.std.specs.Prelude.{ℤ}
use Rattle.h5w_model.specs.Programs.{Prog, ret}
use Rattle.h5w_model.specs.Calls.{values_call}
use Rattle.h5w_model.specs.declared.refusal.ReadError.{ReadError}
use Rattle.h5w_lookup.specs.Attempts.{reading_of}
use Rattle.h5w_reader.specs.Values.{goes, rows_rest}
use Rattle.h5w_reader.specs.Grids.{bands_rest}
use Rattle.h5w_lookup.proofs.PieceLemmas.{along}
use Rattle.h5w_reader.proofs.ValueLemmas.{call_line, call_none}
use Rattle.h5w_reader.proofs.GridLemmas.{call_grid}
use Rattle.h5w_reader.proofs.ReadLemmas.{span_line, none_beside}
use Rattle.h5w_reader.proofs.values.Reads.begin.Goals as goal

pub returns-then-dataset-eq1 : goal.returns-then-dataset-eq1
returns-then-dataset-eq1 c =
    let k = c.args.known.now in
    let r = reading_of k in
    let from = c.args.from in
    let some : 0 < c.args.count = omega arith in
    along (goes k) c.go_on.result _ (values_call r from c.args.count) c.go_on.ensures
    (ap (rows_rest r from (from + c.args.count) (from / k.dataset.layout.chunk.0)) (c.reserve.ensures.items ∙ c.new-values.ensures.items)
    ∙ sym (call_line r from c.args.count (span_line k.dataset c.if-dataset-eq1.true) some))

pub returns-then-dataset-eq0 : goal.returns-then-dataset-eq0
returns-then-dataset-eq0 c =
    let k = c.args.known.now in
    let r = reading_of k in
    ap (λ (vs : List ℤ). let p : Prog (Result (List ℤ) ReadError) = ret (Ok vs) in p) (c.from_vec.ensures ∙ (c.reserve.ensures.items ∙ c.new-values.ensures.items))
    ∙ sym (call_none r c.args.from c.args.count (none_beside k.dataset c.if-dataset-eq0.true) c.if-dataset-eq0.true)

pub returns : goal.returns
returns c =
    let k = c.args.known.now in
    let r = reading_of k in
    let from = c.args.from in
    let some : 0 < c.args.count = omega arith in
    let cols : 0 < k.dataset.shape.cols = omega arith in
    along (goes k) c.go_on-2.result _ (values_call r from c.args.count) c.go_on-2.ensures
    (ap (bands_rest r from (from + c.args.count) (from / k.dataset.layout.chunk.0)) (c.reserve.ensures.items ∙ c.new-values.ensures.items)
    ∙ sym (call_grid r from c.args.count (record { cols = cols; chunk_rows = k.dataset.tall; chunk_cols = k.dataset.wide }) some))
