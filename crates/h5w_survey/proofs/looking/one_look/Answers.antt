use Rattle.std.proofs.Common.{◌<◌, List, ℕ, None, subst, sym}
use Rattle.h5w_model.specs.Numbers.{AreBytes}
use Rattle.h5w_laws.specs.MostLooks.{most_looks}
use Rattle.h5w_laws.proofs.MostLooks.{most_fed}
use Rattle.h5w_lookup.specs.Attempts.{looking_up, rules_of}
use Rattle.h5w_survey.proofs.looking.one_look.Goals as goal

pub returns-clause-fewer : goal.returns-clause-fewer
returns-clause-fewer g c =
    let rules = rules_of c.args.rules.now None in
    let p = looking_up rules c.args.lookup in
    let bytes : List ℕ = c.look.new.out in
    let are : AreBytes bytes = subst (λ (b : List ℕ). AreBytes b) c.as_slice.ensures.value c.are_bytes.ensures in
    subst (λ q. most_looks q < most_looks p) (sym c.in_ok-next.ensures) (most_fed p c.want-look.result.at c.want-look.result.len bytes (c.want-look.ensures.next rules) are c.in_ok-look.ensures.bound)
