use Rattle.std.proofs.Common.{List, ℕ, refl, subst, arith}
use Rattle.h5w_model.specs.Numbers.{AreBytes}
use Rattle.h5w_image.proofs.ViewLemmas.{looked_twice}
use Rattle.h5w_reader.specs.Cores as cores
use Rattle.h5w_answers.proofs.AnsweringLemmas.{asking_answers, asking_exact, asking_more}
use Rattle.h5w_answers.proofs.EndLemmas.{fewer_left}
use Rattle.h5w_answers.proofs.call.answer.Goals as goal

pub returns-in_default-give : goal.returns-in_default-give
returns-in_default-give g c = record {
  looked = looked_twice c.loop-look.invariant.asking.looked c.look.ensures.looked;
  cause = tt;
  ended = λ e. c.in_default-give.not-More e;
  answers = asking_answers (cores.reader c.give.new.self) c.look.new.out c.give.result c.loop-look.invariant.asking (λ e. c.in_default-give.not-More e) c.give.ensures.told;
  exact =
      asking_exact (cores.reader c.give.new.self) c.in-Some.look.at c.in-Some.look.len c.look.new.out c.give.result c.loop-look.invariant.asking c.look.ensures.looked c.in-Some.ensures.next c.in_ok-look.ensures.shows
      (λ e. c.in_default-give.not-More e) c.give.ensures.told;
  fewer = let fewer = c.loop-look.invariant.fewer in omega (arith, fewer);
}

pub returns-in_err-look-clause-looked : goal.returns-in_err-look-clause-looked
returns-in_err-look-clause-looked g c = looked_twice c.loop-look.invariant.asking.looked c.look.ensures.looked

pub loop-look-preserved : goal.loop-look-preserved
loop-look-preserved g c = record {
  asking =
      asking_more c.in-Some.look.at c.in-Some.look.len c.look.new.out c.loop-look.invariant.asking c.look.ensures.looked c.in-Some.ensures.next c.in_ok-look.ensures.shows c.in-More.ensures.told
      (c.in-More.ensures.wanting refl);
  fewer = let fewer = c.loop-look.invariant.fewer in omega (arith, fewer);
}

pub loop-look-smaller : goal.loop-look-smaller
loop-look-smaller g c =
    let bytes : List ℕ = c.look.new.out in
    let are : AreBytes bytes = subst (λ (b : List ℕ). AreBytes b) c.as_slice.ensures.value c.are_bytes.ensures in
    fewer_left (cores.reader c.loop-look.reader) (cores.reader c.give.new.self) c.in-Some.look.at c.in-Some.look.len bytes c.in-Some.ensures.next are c.in_ok-look.ensures.bound c.in-More.ensures.told
