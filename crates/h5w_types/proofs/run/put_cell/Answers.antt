use Rattle.std.proofs.Common.{rules, ◌≡◌, ◌∙◌, ◌+◌, ◌++◌, [], ◌∷◌, length, take, ap, to_z, of_z, ℤ, List, ℕ, arith}
use Rattle.std.specs.Int.{w128}
use Rattle.std.proofs.Math.Seq.{take-append-add}
use Rattle.h5w_model.specs.Integers.{is_in_span, span_of, unsigned_of}
use Rattle.h5w_types.specs.Fields.{int_type_of}
use Rattle.h5w_types.proofs.RunLemmas.{cell_put, in_span_each, run-one}
use Rattle.h5w_types.proofs.run.put_cell.Goals as goal

pub number_of-requires-clause-inside : goal.number_of-requires-clause-inside
number_of-requires-clause-inside c =
    let t = int_type_of c.args.t.now in
    let is : to_z w128 (of_z w128 c.args.v) ≡ c.args.v = search rules in
    ap (λ (x : ℤ). is_in_span t.signed (span_of t) x) is ∙ in_span_each t (c.args.v ∷ []) c.requires.fit 0 (omega arith)

pub returns-clause-added : goal.returns-clause-added
returns-clause-added c =
    let t = int_type_of c.args.t.now in
    let v = c.args.v in
    let out = c.args.out.now in
    let bytes = c.cell-cell.result.bytes in
    let is : to_z w128 (of_z w128 v) ≡ v = search rules in
    let inside = in_span_each t (v ∷ []) c.requires.fit 0 (omega arith) in
    let number = c.number_of.ensures.exact ∙ ap (λ (x : ℤ). unsigned_of (span_of t) x) is in
    let cell = cell_put t v c.number_of.result c.cell-cell.result inside number c.cell-cell.ensures in
    let added : c.extend_from_slice.new.self.items ≡ out.items ++ bytes = search rules in
    let kept : c.truncate.new.self.items ≡ take (length out.items + t.size) c.extend_from_slice.new.self.items = search rules in
    kept ∙ ap (take (length out.items + t.size)) added ∙ take-append-add out.items bytes t.size
    ∙ ap (λ (b : List ℕ). out.items ++ b) (run-one t v (take t.size bytes) cell)
