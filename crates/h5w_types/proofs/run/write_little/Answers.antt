use Rattle.std.proofs.Common.{rules, ◌≡◌, ◌∙◌, ◌+◌, ◌*◌, ◌++◌, get_or, take, drop, ap, pos, to_z, of_z, ℤ, Some, arith}
use Rattle.std.specs.Int.{w128}
use Rattle.h5w_model.specs.Integers.{cell_bytes_of, in_order, is_in_span, span_of, unsigned_of}
use Rattle.h5w_model.proofs.NumberLemmas.{length-le}
use Rattle.h5w_types.specs.Numbers.{le}
use Rattle.h5w_types.specs.Fields.{int_type_of}
use Rattle.h5w_types.specs.Runs.{run_bytes}
use Rattle.h5w_types.proofs.RunLemmas.{cell_of_number, in_span_each, write_all, write_more}
use Rattle.h5w_types.proofs.run.write_little.Goals as goal

pub number_of-requires-clause-inside : goal.number_of-requires-clause-inside
number_of-requires-clause-inside c =
    let values = c.args.values.now in
    let t = int_type_of c.args.t.now in
    let v = get_or values c.loop-i.i (pos 0) in
    let is : to_z w128 (of_z w128 v) ≡ v = search rules in
    ap (λ (x : ℤ). is_in_span t.signed (span_of t) x) is ∙ in_span_each t values c.requires.fit c.loop-i.i c.loop-i-test.true

pub loop-i-preserved : goal.loop-i-preserved
loop-i-preserved c =
    let values = c.args.values.now in
    let t = int_type_of c.args.t.now in
    let i = c.loop-i.i in
    let n = c.number_of.result in
    let v = get_or values i (pos 0) in
    let is : to_z w128 (of_z w128 v) ≡ v = search rules in
    let inside = in_span_each t values c.requires.fit i c.loop-i-test.true in
    let number = c.number_of.ensures.exact ∙ ap (λ (x : ℤ). unsigned_of (span_of t) x) is in
    let cell : cell_bytes_of v t ≡ Some (le t.size n) = cell_of_number t v n inside number ∙ (λ j. Some (in_order (c.requires.little j) (le t.size n))) in
    let long = length-le t.size n in
    let written : c.put.new.b ≡ (take (i * t.size) c.loop-i.out ++ le t.size n) ++ drop (i * t.size + t.size) c.loop-i.out = search rules in
    record {
      goes = write_more t c.loop-i.out c.put.new.b (run_bytes t values) (le t.size n) values i c.loop-i-test.true c.loop-i.invariant.sized long cell written c.loop-i.invariant.goes;
      sized = search rules;
    }

pub returns : goal.returns
returns c =
    let values = c.args.values.now in
    let t = int_type_of c.args.t.now in
    write_all t c.loop-i.out (run_bytes t values) values c.loop-i.i (omega arith) (omega arith) c.loop-i.invariant.sized c.loop-i.invariant.goes
