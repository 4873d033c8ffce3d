use Rattle.std.proofs.Common.{rules, arith, ap, refl, Some}
use Rattle.std.proofs.lemmas.Grind.{common_steps}
use Rattle.h5w_text.proofs.StreamLemmas.{front_and_rest}
use Rattle.h5w_text.proofs.memory.MemSourceSource.read.Goals as goal

pub returns-clause-took : goal.returns-clause-took
returns-clause-took c = rw (← c.self.view_is) (record {
  left = ap Some (front_and_rest c.self.inside.at c.copy_front-n.result c.self.inside.bytes.items c.copy_front-n.new.out (first_of (search rules, grind (arith, common_steps))));
  faults = c.call.ensures.rises;
  through = refl;
})
