use Rattle.std.proofs.Common.{◌≡◌, ◌∙◌, ◌≤◌, rules, sym, subst, arith, to_z, of_z}
use Rattle.std.specs.Int.{w128}
use Rattle.h5w_options.specs.Options.{HasValue}
use Rattle.h5w_types.specs.Fields.{int_type_of}
use Rattle.h5w_words.specs.Types.{greatest}
use Rattle.h5w_words.proofs.FillLemmas.{has_value}
use Rattle.h5w_words.proofs.types.fill_given.Goals as goal

pub returns-in_ok-value-in-Some-clause-fits : goal.returns-in_ok-value-in-Some-clause-fits
returns-in_ok-value-in-Some-clause-fits c =
    let t = int_type_of c.args.int_type.now in
    let n = c.in_ok-value-in-Some.value in
    let most : n ≤ greatest t = omega (arith, c.in_ok-value-in-Some.ensures.bounds.1, c.greatest.ensures) in
    let same : to_z w128 (of_z w128 c.from.result) ≡ c.from.result = search rules in
    subst (HasValue t) (sym (same ∙ c.from.ensures)) (has_value t n c.requires most)
