use Rattle.std.proofs.Common.{◌≡◌, ◌∙◌, ◌<◌, ◌/◌, ◌++◌, ◌∷◌, List, [], length, ap, arith, rules, to_z, of_z}
use Rattle.std.specs.Int.{w128}
use Rattle.std.specs.Prelude.{ℤ}
use Rattle.h5w_types.specs.Fields.{int_type_of}
use Rattle.h5w_model.proofs.IntegerLemmas.{some_cell}
use Rattle.h5w_reader.specs.Cells.{cell_values}
use Rattle.h5w_reader.proofs.CellLemmas.{cells_count, cells_step, cells_end}
use Rattle.h5w_reader.proofs.cells.put_run.Goals as goal

pub push_reserved-requires : goal.push_reserved-requires
push_reserved-requires c =
    let steps = c.in-Some.ensures.steps in
    let kept = c.loop-cell.invariant in
    let some : 0 < c.args.t.now.size = omega (arith, c.loop-cell.iterator.0, kept.size) in
    let more = cells_count c.args.t.now.size c.loop-cell.cell-iterator.rest.now c.in-Some.cell.now c.next.new.self.rest.now some steps.1.0 (steps.1.1 ∙ kept.size) in
    omega (arith, kept.room, more)

pub extended-requires-clause-inside : goal.extended-requires-clause-inside
extended-requires-clause-inside c =
    let v = c.value_of.result in
    let is : to_z w128 (of_z w128 v) ≡ v = search rules in
    rw is (some_cell v (int_type_of c.args.t.now) c.in-Some.cell.now c.value_of.ensures.back).0

pub loop-cell-preserved : goal.loop-cell-preserved
loop-cell-preserved c =
    let t = int_type_of c.args.t.now in
    let steps = c.in-Some.ensures.steps in
    let kept = c.loop-cell.invariant in
    let all = c.replace-values.result.items ++ cell_values t (length c.args.bytes.now / t.size) c.args.bytes.now in
    let some : 0 < c.args.t.now.size = omega (arith, c.loop-cell.iterator.0, kept.size) in
    let v = c.extended.result in
    let is : to_z w128 (of_z w128 v) ≡ v = search rules in
    let was : to_z w128 (of_z w128 c.value_of.result) ≡ c.value_of.result = search rules in
    let put = c.push_reserved.ensures in
    let added = put.items ∙ ap (λ (v : ℤ). c.loop-cell.values.items ++ v ∷ []) (is ∙ c.extended.ensures ∙ was ∙ c.value_of.ensures.exact) in
    let more = cells_count c.args.t.now.size c.loop-cell.cell-iterator.rest.now c.in-Some.cell.now c.next.new.self.rest.now some steps.1.0 (steps.1.1 ∙ kept.size) in
    record {
      size = steps.0 ∙ kept.size;
      goes = rw added (cells_step t c.loop-cell.values.items all c.loop-cell.cell-iterator.rest.now c.in-Some.cell.now c.next.new.self.rest.now some steps.1.0 (steps.1.1 ∙ kept.size) kept.goes);
      room = omega (arith, kept.room, more, put.len, put.capacity);
    }

pub returns : goal.returns
returns c =
    let t = int_type_of c.args.t.now in
    let kept = c.loop-cell.invariant in
    let all = c.replace-values.result.items ++ cell_values t (length c.args.bytes.now / t.size) c.args.bytes.now in
    let short : length c.loop-cell.cell-iterator.rest.now < c.args.t.now.size = omega (arith, c.in-None.ensures.steps.1.0, kept.size) in
    cells_end t c.loop-cell.values.items all c.loop-cell.cell-iterator.rest.now short kept.goes
    ∙ ap (λ (vs : List ℤ). vs ++ cell_values t (length c.args.bytes.now / t.size) c.args.bytes.now) (rw c.replace-values.ensures.value c.reserve.ensures.items)
