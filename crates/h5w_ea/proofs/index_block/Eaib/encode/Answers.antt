use Rattle.std.proofs.Common.{◌≡◌, ℕ, ◌∷◌, ◌++◌, [], List, ◌∙◌, length, length-append, arith, codes}
use Rattle.h5w_model.specs.Numbers.{le}
use Rattle.h5w_model.specs.Arrays.{number_bytes}
use Rattle.h5w_model.proofs.NumberLemmas.{length-le}
use Rattle.h5w_model.proofs.ArrayLemmas.{length-number_bytes}
use Rattle.h5w_model.proofs.PutLemmas.{put-next, put-sealed}
use Rattle.h5w_model.proofs.ArrayLaws.{eaib_at-eaib_bytes}
use Rattle.h5w_ea.specs.Fields.{eaib_of}
use Rattle.h5w_ea.proofs.Fixed.{put-numbers}
use Rattle.h5w_ea.proofs.index_block.Eaib.encode.Goals as goal

pub returns-clause-spelled : goal.returns-clause-spelled
returns-clause-spelled c =
    let old = c.args.out.now in
    let e = c.args.self.now in
    let head : List ℕ = codes "EAIB" ++ 0 ∷ 0 ∷ [] in
    let b1 : List ℕ = head ++ le 8 e.header in
    let b2 : List ℕ = b1 ++ number_bytes e.slots in
    let b3 : List ℕ = b2 ++ number_bytes e.first in
    let b4 : List ℕ = b3 ++ number_bytes e.second in
    let n1 : length b1 ≡ 14 = omega (arith, length-append head (le 8 e.header), length-le 8 e.header) in
    let n2 : length b2 ≡ 46 = omega (arith, length-append b1 (number_bytes e.slots), length-number_bytes e.slots) in
    let n3 : length b3 ≡ 94 = omega (arith, length-append b2 (number_bytes e.first), length-number_bytes e.first) in
    let n4 : length b4 ≡ 294 = omega (arith, length-append b3 (number_bytes e.second), length-number_bytes e.second) in
    let s1 = c.put.ensures.written ∙ put-next old c.put_head.new.out head (le 8 e.header) 6 8 c.put_head.ensures (let k : length head ≡ 6 = omega arith in k) in
    let s2 = c.put_numbers.ensures.written ∙ put-numbers old c.put.new.b b1 e.slots 14 46 s1 n1 (omega arith) in
    let s3 = c.put_numbers-2.ensures.written ∙ put-numbers old c.put_numbers.new.out b2 e.first 46 94 s2 n2 (omega arith) in
    let s4 = c.put_numbers-3.ensures.written ∙ put-numbers old c.put_numbers-2.new.out b3 e.second 94 294 s3 n3 (omega arith) in
    c.seal_front.ensures ∙ put-sealed old c.put_numbers-3.new.out b4 294 s4 n4

pub returns-clause-reads_back : goal.returns-clause-reads_back
returns-clause-reads_back c = λ place.
    eaib_at-eaib_bytes (eaib_of c.args.self.now) place (omega arith) (omega arith) c.put_numbers.ensures.below (omega arith) c.put_numbers-2.ensures.below (omega arith) c.put_numbers-3.ensures.below
