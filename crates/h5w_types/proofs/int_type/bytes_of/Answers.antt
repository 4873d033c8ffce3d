use Rattle.std.proofs.Common.{◌≡◌, sym, ◌∙◌, ap, subst, true, Some, None, List, ℕ}
use Rattle.std.specs.Int.{w128}
use Rattle.std.proofs.lemmas.Bool.{cond-true}
use Rattle.std.proofs.lemmas.Int.{to_z-of_z}
use Rattle.h5w_model.proofs.IntegerLemmas.{value_at-cell_bytes_of, cell_bytes-cell_of}
use Rattle.h5w_types.specs.Numbers.{le}
use Rattle.h5w_types.specs.Integers.{cell_bytes, cell_bytes_of, in_order, unsigned_of, is_in_span, span_of, value_at}
use Rattle.h5w_types.specs.Fields.{int_type_of}
use Rattle.h5w_types.proofs.int_type.bytes_of.Goals as goal

pub returns-clause-back : goal.returns-clause-back
unfolding cell_bytes_of
returns-clause-back c =
    let t = int_type_of c.args.t.now in
    let bytes = in_order t.big (le t.size c.number_of.result) in
    let same : cell_bytes c.cell.result ≡ bytes = ap cell_bytes c.cell.ensures ∙ cell_bytes-cell_of bytes in
    let passed = to_z-of_z w128 c.args.v c.ranges.v in
    let inside : is_in_span t.signed (span_of t) c.args.v ≡ true =
    ap (is_in_span t.signed (span_of t)) (sym passed) ∙ (sym c.contains.ensures ∙ c.if-not-contains.false) in
    let number : c.number_of.result ≡ unsigned_of (span_of t) c.args.v = c.number_of.ensures.exact ∙ ap (unsigned_of (span_of t)) passed in
    let found : cell_bytes_of c.args.v t ≡ Some bytes =
    cond-true (is_in_span t.signed (span_of t) c.args.v) (Some (in_order t.big (le t.size (unsigned_of (span_of t) c.args.v)))) None inside
    ∙ ap (λ (n : ℕ). Some (in_order t.big (le t.size n))) (sym number) in
    subst (λ (b : List ℕ). value_at b t ≡ c.args.v) (sym same) (value_at-cell_bytes_of c.args.v t bytes c.requires found)
