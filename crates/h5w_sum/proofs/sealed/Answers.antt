use Rattle.std.proofs.Common.{◌≡◌, ◌∙◌, sym, refl, true, false, eq-eqb, arith}
use Rattle.std.proofs.lemmas.Bool.Decides.{nat_tests}
use Rattle.h5w_model.specs.Checksum.{stored_sum, computed_sum, is_sealed}
use Rattle.h5w_model.proofs.ChecksumLemmas.{field-stored_sum}
use Rattle.h5w_sum.proofs.sealed.Goals as goal

pub returns-then-sums : goal.returns-then-sums
returns-then-sums c =
    let b = c.args.b.now in
    let stored : c.word.result ≡ stored_sum b = c.word.ensures ∙ field-stored_sum b c.requires in
    let computed : c.lookup3.result ≡ computed_sum b = c.lookup3.ensures in
    let agree : is_sealed b ≡ true = eq-eqb (stored_sum b) (computed_sum b) (sym stored ∙ c.if-sums.true ∙ computed) in
    record { exact = rw agree refl }

pub returns-else-sums : goal.returns-else-sums
returns-else-sums c =
    let b = c.args.b.now in
    let stored : c.word.result ≡ stored_sum b = c.word.ensures ∙ field-stored_sum b c.requires in
    let computed : c.lookup3.result ≡ computed_sum b = c.lookup3.ensures in
    let differ : is_sealed b ≡ false = grind (arith, nat_tests, c.if-sums.false) in
    record { exact = rw (stored, computed, differ) refl }
