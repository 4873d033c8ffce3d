use Rattle.std.proofs.Common.{rules, arith}
use Rattle.std.proofs.lemmas.Grind.{common_steps}
use Rattle.h5w_input.proofs.WordLemmas.{words_next}
use Rattle.h5w_input.proofs.words.Words.next.Goals as goal

pub returns-clause-words : goal.returns-clause-words
returns-clause-words c = words_next c.args.self.now c.in_ok-line.line.now c.first_place-place.result (first_of (search rules, grind (arith, common_steps), cc)) c.first_place-place.ensures.lacks (c.first_place-place.ensures.found (omega arith))
