use Rattle.std.proofs.Common.{arith, rules, to_z, of_z, ◌≡◌, ◌+◌, ◌++◌, length, get_or, take, pos, ◌∙◌, ap, ℤ}
use Rattle.std.specs.Int.{w128}
use Rattle.std.specs.Vec.{vec_len}
use Rattle.h5w_model.proofs.IntegerLemmas.{length-cell_bytes_of}
use Rattle.h5w_types.specs.Integers.{is_in_span, span_of, unsigned_of}
use Rattle.h5w_types.specs.Fields.{int_type_of}
use Rattle.h5w_types.specs.Runs.{run_bytes}
use Rattle.h5w_types.proofs.RunLemmas.{cell_put, in_span_each, one_less, run_all, run_more}
use Rattle.h5w_types.proofs.run.put_run.Goals as goal

pub number_of-requires-clause-inside : goal.number_of-requires-clause-inside
number_of-requires-clause-inside c =
    let values = c.args.values.now in
    let t = int_type_of c.args.t.now in
    let v = get_or values c.loop-v.v-index (pos 0) in
    let is : to_z w128 (of_z w128 v) ≡ v = search rules in
    ap (λ (x : ℤ). is_in_span t.signed (span_of t) x) is ∙ in_span_each t values c.requires.fit c.loop-v.v-index c.loop-v-test.true

pub loop-v-preserved : goal.loop-v-preserved
loop-v-preserved c =
    let values = c.args.values.now in
    let t = int_type_of c.args.t.now in
    let i = c.loop-v.v-index in
    let v = get_or values i (pos 0) in
    let is : to_z w128 (of_z w128 v) ≡ v = search rules in
    let inside = in_span_each t values c.requires.fit i c.loop-v-test.true in
    let number = c.number_of.ensures.exact ∙ ap (λ (x : ℤ). unsigned_of (span_of t) x) is in
    let cell = cell_put t v c.number_of.result c.cell-cell.result inside number c.cell-cell.ensures in
    let added : c.extend_from_slice.new.self.items ≡ c.loop-v.out.items ++ take t.size c.cell-cell.result.bytes = search rules in
    let long : length (take t.size c.cell-cell.result.bytes) ≡ t.size = length-cell_bytes_of v t (take t.size c.cell-cell.result.bytes) cell in
    let len : vec_len c.extend_from_slice.new.self ≡ vec_len c.loop-v.out + length (take t.size c.cell-cell.result.bytes) = search rules in
    let less = one_less (length values) i t.size c.loop-v-test.true in
    record {
      goes = run_more t c.loop-v.out.items c.extend_from_slice.new.self.items (c.args.out.now.items ++ run_bytes t values) (take t.size c.cell-cell.result.bytes) values i c.loop-v-test.true cell added c.loop-v.invariant.goes;
      room = omega (arith, c.loop-v.invariant.room, less, long, len, c.extend_from_slice.ensures.capacity);
      capacity = omega (arith, c.loop-v.invariant.capacity, c.extend_from_slice.ensures.capacity);
    }

pub returns-clause-added : goal.returns-clause-added
returns-clause-added c =
    let values = c.args.values.now in
    let t = int_type_of c.args.t.now in
    run_all t c.loop-v.out.items (c.args.out.now.items ++ run_bytes t values) values c.loop-v.v-index (omega arith) c.loop-v.invariant.goes
