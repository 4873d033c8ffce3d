use Rattle.std.proofs.Common.{◌∙◌, ap, rules, SFits, ℤ}
use Rattle.std.specs.Int.{w128}
use Rattle.std.specs.Option.{option_map}
use Rattle.std.proofs.lemmas.Int.{to_z-of_z}
use Rattle.h5w_model.specs.Integers.{cell_bytes_of, cell_of}
use Rattle.h5w_types.specs.Fields.{int_type_of}
use Rattle.h5w_creation.proofs.OptionLemmas.{some_fill}
use Rattle.h5w_creation.proofs.options.fill_of.Goals as goal

pub returns-in-Some : goal.returns-in-Some
returns-in-Some c =
    let o = c.args.options.now in
    let v = c.in-Some.v in
    let fits : SFits w128 v = search rules in
    some_fill o v c.bytes_of.result (c.bytes_of.ensures.exact ∙ ap (λ (z : ℤ). option_map cell_of (cell_bytes_of z (int_type_of o.int_type))) (to_z-of_z w128 v fits)) c.in-Some.is
