use Rattle.std.proofs.Common.{◌≡◌, ◌-◌, inl, inr, ap, sym, ◌∙◌, arith}
use Rattle.std.proofs.lemmas.Bool.{cases_eq}
use Rattle.h5w_model.specs.Numbers.{undefined}
use Rattle.h5w_array_laws.specs.ArrayStores.{map_of}
use Rattle.h5w_ea_index.proofs.address.last_set.Goals as goal

pub loop-step-preserved : goal.loop-step-preserved
loop-step-preserved c =
    let none : c.address.result ≡ undefined = omega (arith, c.if-address.false) in
    record {
      count = omega (arith, c.loop-step.invariant.count, c.loop-step-test.true);
      above = λ j from below. elim (cases_eq j (c.loop-step.last - 1)) [
        | inl e ↦ ap (map_of c.args.cache.now) e ∙ sym c.address.ensures ∙ none
        | inr ne ↦ c.loop-step.invariant.above j (omega (arith, from, ne)) below
      ];
    }
