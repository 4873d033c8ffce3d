use Rattle.std.proofs.Common.{◌≡◌, ◌∙◌, refl, false, arith}
use Rattle.std.proofs.lemmas.Bool.Decides.{nat_tests}
use Rattle.h5w_model.specs.Checksum.{stored_sum, computed_sum, is_sealed}
use Rattle.h5w_model.proofs.ChecksumLemmas.{field-stored_sum}
use Rattle.h5w_sum.proofs.front.sealed_with.Goals as goal

pub returns-else-sums : goal.returns-else-sums
returns-else-sums c =
    let b = c.args.b.now in
    let stored : c.word.result ≡ stored_sum b = c.word.ensures ∙ field-stored_sum b (omega (arith, c.requires)) in
    let computed : c.sum_with-computed.result.0 ≡ computed_sum b = c.sum_with-computed.ensures in
    let differ : is_sealed b ≡ false = grind (arith, nat_tests, c.if-sums.false) in
    record { exact = rw (stored, computed, differ) refl }
