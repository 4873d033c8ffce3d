use Rattle.std.proofs.Common.{◌≡◌, ◌⊎◌, Err, refl, sym, ap, inl, inr, arith}
use Rattle.h5w_writer.specs.Halves.{WasHalf}
use Rattle.h5w_writer.specs.Refusals.{IsSpace}
use Rattle.h5w_writer.specs.declared.refusal.FlushError.{FlushError}
use Rattle.h5w_writer.specs.declared.refusal.FlushError.TheVariants.{Deep, Failed, OutOfMemory, Space}
use Rattle.h5w_writer.proofs.ExitLemmas.{no_value, of_error, told_error}
use Rattle.h5w_writer.proofs.RefusalLemmas.{no_image_deep, no_image_space, not_failed, plan_or_image}
use Rattle.h5w_writer.proofs.TakingLemmas.{on_err}
use Rattle.h5w_image.proofs.ViewLemmas.{same_itself}
use Rattle.h5w_writer.proofs.state.WriterCore.flush_planned.Goals as goal

abbrev causes_of : FlushError → Type 0
causes_of e = IsSpace e ⊎ ((e ≡ Deep) ⊎ ((e ≡ Failed) ⊎ (e ≡ OutOfMemory)))

pub plan_taking-requires : goal.plan_taking-requires
plan_taking-requires g c = c.requires

pub returns-in_err-planned : goal.returns-in_err-planned
returns-in_err-planned g c =
    let r = c.from_residual.result in
    let gone = c.from_residual.ensures.1 in
    let e = c.in_err-planned.field-0.0 in
    let x = c.in_err-planned.ensures in
    record {
      flushed = no_value _ _ r gone;
      pieces = no_value _ _ r gone;
      ends = no_value _ _ r gone;
      kept = on_err r x.kept;
      full = λ full told. x.full full (ap (λ y. Err y) (told_error r e (Space full) gone told));
      deep = λ told. x.deep (ap (λ y. Err y) (told_error r e Deep gone told));
      causes = of_error causes_of r e gone (plan_or_image e x.causes);
      fault = λ told. absurd (not_failed e x.causes (told_error r e Failed gone told));
      image = same_itself (g.W.PieceRead.view c.args.image.now);
      room = no_value _ _ r gone;
    }

pub carry_out-requires : goal.carry_out-requires
carry_out-requires g c = record { half = record { old = c.args.self.now; half = c.in_ok-planned.ensures.half } }

pub returns-in-Ok : goal.returns-in-Ok
returns-in-Ok g c =
    let x = c.carry_out.ensures in
    let need = c.needs-rows.ensures in
    let room = c.in-Ok.ensures in
    record {
      flushed = x.flushed c.args.self.now c.in_ok-planned.ensures.half;
      pieces = x.pieces;
      ends = x.ends;
      kept = tt;
      full = λ full told. absurd cc;
      deep = λ told. absurd cc;
      causes = tt;
      fault = λ told. absurd cc;
      image = c.make_room.ensures.image;
      room = record { pieces = omega (arith, x.few, need.pieces, room.pieces); end = omega (arith, x.end, need.end, room.end) };
    }

pub give_up-requires : goal.give_up-requires
give_up-requires g c = record { half = record { old = c.args.self.now; half = c.in_ok-planned.ensures.half } }

pub returns-in-Err : goal.returns-in-Err
returns-in-Err g c =
    let e = c.in-Err.e in
    let x = c.in-Err.ensures in
    record {
      flushed = tt;
      pieces = tt;
      ends = tt;
      kept = c.give_up.ensures.kept c.args.self.now c.in_ok-planned.ensures.half;
      full = λ full told. absurd (no_image_space e full x.causes (let same : e ≡ Space full = cc in same));
      deep = λ told. absurd (no_image_deep e x.causes (let same : e ≡ Deep = cc in same));
      causes = inr (inr x.causes);
      fault = λ told. x.fault (let same : e ≡ Failed = cc in ap (λ y. Err y) same);
      image = c.make_room.ensures.image;
      room = tt;
    }
