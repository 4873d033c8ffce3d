use Rattle.std.proofs.Common.{◌≡◌, arith, rules, to_z, of_z}
use Rattle.std.specs.Int.{w128}
use Rattle.std.proofs.lemmas.Grind.{common_steps}
use Rattle.h5w_input.proofs.WordLemmas.{first_alone, first_of_more}
use Rattle.h5w_input.proofs.words.Words.next_short.Goals as goal

pub returns-then-len-line : goal.returns-then-len-line
returns-then-len-line c = let is : to_z w128 (of_z w128 c.in_ok-len.v) ≡ c.in_ok-len.v = search rules in
    rw is (first_alone c.args.self.now c.in_ok-line.line.now c.in_ok-len.len c.in_ok-len.v (first_of (search rules, grind (arith, common_steps), cc)) c.in_ok-len.ensures (omega arith))

pub returns : goal.returns
returns c = let is : to_z w128 (of_z w128 c.in_ok-len.v) ≡ c.in_ok-len.v = search rules in
    rw is (first_of_more c.args.self.now c.in_ok-line.line.now c.in_ok-len.len c.in_ok-len.v (first_of (search rules, grind (arith, common_steps), cc)) c.in_ok-len.ensures (omega (arith, c.in_ok-len.ensures.within)))
