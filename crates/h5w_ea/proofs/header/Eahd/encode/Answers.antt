use Rattle.std.proofs.Common.{◌≡◌, ℕ, ◌+◌, ◌*◌, ◌∷◌, ◌++◌, [], List, ap, ◌∙◌, drop, length, length-append, arith, codes}
use Rattle.h5w_model.specs.Numbers.{le}
use Rattle.h5w_model.specs.Arrays.{number_bytes}
use Rattle.h5w_model.proofs.NumberLemmas.{length-le}
use Rattle.h5w_model.proofs.ArrayLemmas.{length-number_bytes}
use Rattle.h5w_model.proofs.PutLemmas.{put-next, put-sealed}
use Rattle.h5w_model.proofs.ArrayLaws.{eahd_at-eahd_bytes}
use Rattle.h5w_ea.specs.Fields.{eahd_of}
use Rattle.h5w_ea.proofs.header.Eahd.encode.Goals as goal

pub returns-clause-spelled : goal.returns-clause-spelled
returns-clause-spelled c =
    let old = c.args.out.now in
    let e = c.args.self.now in
    let head : List ℕ = codes "EAHD" ++ 0 ∷ 0 ∷ 8 ∷ 32 ∷ 4 ∷ 16 ∷ 4 ∷ 10 ∷ [] in
    let count : length e.numbers ≡ 6 = omega arith in
    let n1 : length (head ++ number_bytes e.numbers) ≡ 60 = omega (arith, length-append head (number_bytes e.numbers), length-number_bytes e.numbers) in
    let n2 : length ((head ++ number_bytes e.numbers) ++ le 8 e.block) ≡ 68 = omega (arith, length-append (head ++ number_bytes e.numbers) (le 8 e.block), length-le 8 e.block) in
    let m : 12 + 8 * length e.numbers ≡ 60 = omega arith in
    let s1 = c.put_numbers.ensures.written ∙ put-next old c.put_head.new.out head (number_bytes e.numbers) 12 (8 * length e.numbers) c.put_head.ensures (let k : length head ≡ 12 = omega arith in k) ∙ ap (λ k. (head ++ number_bytes e.numbers) ++ drop k old) m in
    let s2 = c.put.ensures.written ∙ put-next old c.put_numbers.new.out (head ++ number_bytes e.numbers) (le 8 e.block) 60 8 s1 n1 in
    c.seal_front.ensures ∙ put-sealed old c.put.new.b ((head ++ number_bytes e.numbers) ++ le 8 e.block) 68 s2 n2

pub returns-clause-reads_back : goal.returns-clause-reads_back
returns-clause-reads_back c = λ place. eahd_at-eahd_bytes (eahd_of c.args.self.now) place (omega arith) c.put_numbers.ensures.below (omega arith)
