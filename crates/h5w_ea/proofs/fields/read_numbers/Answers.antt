use Rattle.std.proofs.Common.{◌∷◌, ◌++◌, [], sym, ap, ◌∙◌, arith, rules}
use Rattle.std.proofs.lemmas.List.{take_more_set}
use Rattle.h5w_model.specs.Arrays.{numbers_in}
use Rattle.h5w_model.proofs.ArrayLemmas.{numbers_in-more}
use Rattle.h5w_ea.proofs.fields.read_numbers.Goals as goal

pub loop-i-init : goal.loop-i-init
unfolding numbers_in
loop-i-init c = search rules

pub loop-i-preserved : goal.loop-i-preserved
loop-i-preserved c =
    let numbers = c.loop-i.numbers in
    let i = c.loop-i.i in
    take_more_set numbers i c.number.result (omega arith)
    ∙ ap (λ l. l ++ c.number.result ∷ []) c.loop-i.invariant
    ∙ ap (λ v. numbers_in c.args.b.now i c.args.at ++ v ∷ []) c.number.ensures
    ∙ sym (numbers_in-more c.args.b.now i c.args.at)
