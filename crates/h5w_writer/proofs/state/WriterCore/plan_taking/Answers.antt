use Rattle.std.proofs.Common.{◌≡◌, ◌⊎◌, Err, refl, sym, ap, inl, inr}
use Rattle.h5w_writer.specs.Refusals.{IsSpace}
use Rattle.h5w_writer.specs.declared.refusal.FlushError.{FlushError}
use Rattle.h5w_writer.specs.declared.refusal.FlushError.TheVariants.{Deep, OutOfMemory, Space}
use Rattle.h5w_writer.proofs.ExitLemmas.{no_value, of_error, told_error}
use Rattle.h5w_writer.proofs.HalfLemmas.{same_kept}
use Rattle.h5w_writer.proofs.RefusalLemmas.{not_deep, start_causes}
use Rattle.h5w_writer.proofs.TakingLemmas.{on_err}
use Rattle.h5w_writer.proofs.state.WriterCore.plan_taking.Goals as goal

abbrev causes_of : FlushError → Type 0
causes_of e = IsSpace e ⊎ ((e ≡ Deep) ⊎ (e ≡ OutOfMemory))

pub returns-in_err-taking : goal.returns-in_err-taking
returns-in_err-taking c =
    let r = c.from_residual.result in
    let gone = c.from_residual.ensures.1 in
    record {
      half = no_value _ _ r gone;
      kept = on_err r (same_kept c.args.self.now c.is_unmade-unmade.ensures.session);
      full = λ full told. absurd (let clash : OutOfMemory ≡ Space full = told_error r OutOfMemory (Space full) gone told in cc);
      deep = λ told. absurd (let clash : OutOfMemory ≡ Deep = told_error r OutOfMemory Deep gone told in cc);
      causes = of_error causes_of r OutOfMemory gone (inr (inr refl));
    }

pub plan_starting-requires : goal.plan_starting-requires
plan_starting-requires c = record {
  unmade = c.is_unmade-unmade.ensures.yes c.if-unmade.true;
  waits = c.requires.waits;
  places = c.in_ok-taking.ensures.places;
  no_chunks = c.in_ok-taking.ensures.chunks;
  none_added = c.in_ok-taking.ensures.added;
}

pub returns-in_err-plan_starting : goal.returns-in_err-plan_starting
returns-in_err-plan_starting c =
    let r = c.from_residual-in_err-plan_starting.result in
    let gone = c.from_residual-in_err-plan_starting.ensures.1 in
    let e = c.in_err-plan_starting.field-0.0 in
    let x = c.in_err-plan_starting.ensures in
    record {
      half = no_value _ _ r gone;
      kept = on_err r (same_kept c.args.self.now c.is_unmade-unmade.ensures.session);
      full = λ full told. inr (c.is_unmade-unmade.ensures.yes c.if-unmade.true, x.full full (ap (λ y. Err y) (told_error r e (Space full) gone told)));
      deep = λ told. absurd (not_deep e x.causes (told_error r e Deep gone told));
      causes = of_error causes_of r e gone (start_causes e x.causes);
    }

pub returns-then-unmade : goal.returns-then-unmade
returns-then-unmade c = record {
  half = (refl, c.in_ok-plan_starting.ensures.start);
  kept = tt;
  full = λ full told. absurd cc;
  deep = λ told. absurd cc;
  causes = tt;
}

pub plan_growing-requires : goal.plan_growing-requires
plan_growing-requires c = record {
  there = c.is_unmade-unmade.ensures.no c.if-unmade.false;
  waits = c.requires.waits;
  idle = c.requires.idle;
  places = c.in_ok-taking.ensures.places;
  no_chunks = c.in_ok-taking.ensures.chunks;
  none_added = c.in_ok-taking.ensures.added;
}

pub returns-in_err-plan_growing : goal.returns-in_err-plan_growing
returns-in_err-plan_growing c =
    let r = c.from_residual-in_err-plan_growing.result in
    let gone = c.from_residual-in_err-plan_growing.ensures.1 in
    let e = c.in_err-plan_growing.field-0.0 in
    let x = c.in_err-plan_growing.ensures in
    let there = c.is_unmade-unmade.ensures.no c.if-unmade.false in
    record {
      half = no_value _ _ r gone;
      kept = on_err r x.kept;
      full = λ full told. inl (there, x.full full (ap (λ y. Err y) (told_error r e (Space full) gone told)));
      deep = λ told. (there, x.deep (ap (λ y. Err y) (told_error r e Deep gone told)));
      causes = of_error causes_of r e gone x.causes;
    }

pub returns : goal.returns
returns c = record {
  half = c.in_ok-plan_growing.ensures.growth;
  kept = tt;
  full = λ full told. absurd cc;
  deep = λ told. absurd cc;
  causes = tt;
}
