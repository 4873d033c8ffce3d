use Rattle.std.proofs.Common.{◌≡◌, ◌∙◌, sym, subst}
use Rattle.h5w_space.specs.Space.{Space}
use Rattle.h5w_writer.specs.Lent.{IsFurther}
use Rattle.h5w_writer.proofs.CarriedLemmas.{same_error}
use Rattle.h5w_writer.proofs.LentLemmas.{half_further}
use Rattle.h5w_several_writer.proofs.TurnLemmas.{half_root}
use Rattle.h5w_several_writer.proofs.planning.plan_part.Goals as goal

pub returns-in-Ok-behind-clause-planned : goal.returns-in-Ok-behind-clause-planned
returns-in-Ok-behind-clause-planned c =
    let old = c.args.part.now in
    let mid = c.plan_rows.new.self in
    let half = c.in-Ok.ensures.half in
    let then = c.in-Ok-behind.ensures.places in
    let root : c.root.result ≡ old.root = c.root.ensures ∙ half_root old mid c.in-Ok.planned half in
    record {
      half = half;
      root_is = λ i. record (root i) { end = c.end.ensures i };
      places_are = then;
      further = subst (λ (t : Space). IsFurther old.places t) (sym then) (half_further old mid c.in-Ok.planned half);
      count = c.in-Ok-behind.ensures.pieces;
    }

pub returns-in-Err-clause-full : goal.returns-in-Err-clause-full
returns-in-Err-clause-full c full same = c.in-Err.ensures.full full (same_error _ _ same)
