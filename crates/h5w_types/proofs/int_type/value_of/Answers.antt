use Rattle.std.proofs.Common.{◌≡◌, sym, ◌∙◌, ap, subst, Some, arith, rules, SFits, to_z, of_z}
use Rattle.std.specs.Int.{w128}
use Rattle.std.specs.Prelude.{ℤ}
use Rattle.std.proofs.lemmas.Int.{to_z-of_z}
use Rattle.h5w_model.proofs.IntegerLemmas.{AreBytes-each, cell_bytes_of-value_at}
use Rattle.h5w_types.specs.Integers.{cell_bytes_of, signed_of, span_of, value_at}
use Rattle.h5w_types.specs.Fields.{int_type_of}
use Rattle.h5w_types.proofs.int_type.value_of.Goals as goal

pub returns-clause-back : goal.returns-clause-back
unfolding value_at
returns-clause-back c =
    let t = int_type_of c.args.t.now in
    let fits : SFits w128 c.value.result = search rules in
    let read : to_z w128 (of_z w128 c.value.result) ≡ value_at c.args.bytes.now t =
    to_z-of_z w128 c.value.result fits ∙ c.value.ensures ∙ ap (signed_of t.signed (span_of t)) c.unsigned.ensures in
    subst (λ (v : ℤ). cell_bytes_of v t ≡ Some c.args.bytes.now) (sym read)
    (cell_bytes_of-value_at c.args.bytes.now t c.requires.typed (AreBytes-each c.args.bytes.now (λ k. omega (arith, c.type_inv.bytes k))) c.requires.sized)
