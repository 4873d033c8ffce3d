use Rattle.std.proofs.Common.{◌≡◌, ◌⊎◌, ◌<◌, ◌∙◌, Some, None, Ok, Err, refl, ap, subst, sym, inl, inr, arith, length}
use Rattle.std.proofs.lemmas.Result.{IfErr-weaker}
use Rattle.h5w_image.proofs.ViewLemmas.{same_itself}
use Rattle.h5w_writer.specs.Refusals.{IsSpace, flush_fault, flush_refusal}
use Rattle.h5w_writer.specs.Sessions.{IsSession, Session}
use Rattle.h5w_writer.specs.declared.refusal.FlushError.{FlushError}
use Rattle.h5w_writer.specs.declared.refusal.FlushError.TheVariants.{Deep, Failed, OutOfMemory, Space}
use Rattle.h5w_writer.proofs.ExitLemmas.{is_error, no_value, of_error, told_error}
use Rattle.h5w_writer.proofs.FlushCalls.{is_idle, some_waits, takes_none, told_bound, told_bounds, told_left, told_rows, told_shallow, told_some, told_stands}
use Rattle.h5w_writer.proofs.FlushStands.{nothing_stands}
use Rattle.h5w_writer.proofs.HalfLemmas.{same_kept}
use Rattle.h5w_writer.proofs.ReachedLemmas.{told_reached}
use Rattle.h5w_writer.proofs.RefusalLemmas.{fault_deep, fault_space, flush_failed, flush_faults, is_unready, refused_alike, some_refused}
use Rattle.h5w_writer.proofs.StateLemmas.{none_refused}
use Rattle.h5w_writer.proofs.TakingLemmas.{on_err}
use Rattle.h5w_writer.proofs.state.WriterCore.flush.Goals as goal

abbrev causes_of : Session → FlushError → Type 0
causes_of s e = (flush_refusal s ≡ Some e) ⊎ (IsSpace e ⊎ ((e ≡ Deep) ⊎ ((e ≡ Failed) ⊎ (e ≡ OutOfMemory))))

pub returns-in_err-ready : goal.returns-in_err-ready
returns-in_err-ready g c =
    let s = c.args.self.now in
    let r = c.from_residual.result in
    let gone = c.from_residual.ensures.1 in
    let e = c.in_err-ready.field-0.0 in
    let by = some_refused (flush_refusal s) e c.in_err-ready.ensures in
    let u = is_unready s e by in
    record {
      flushed = no_value _ _ r gone;
      planned = λ some. no_value _ _ r gone;
      pieces = no_value _ _ r gone;
      some = λ some. no_value _ _ r gone;
      nothing = λ none. no_value _ _ r gone;
      reached = λ some. no_value _ _ r gone;
      stands = no_value _ _ r gone;
      bound = no_value _ _ r gone;
      refused = λ f told. refused_alike (flush_refusal s) r e f by (is_error r e gone) told;
      causes = of_error (causes_of s) r e gone (inl by);
      full = λ full told. absurd (u.space full (told_error r e (Space full) gone told));
      deep = λ told. absurd (u.deep (told_error r e Deep gone told));
      shallow = λ log stands new told. u.deep (told_error r e Deep gone told);
      bounds = λ full told. absurd (u.space full (told_error r e (Space full) gone told));
      fault = λ told. absurd (u.failed (told_error r e Failed gone told));
      kept = on_err r (same_kept s (subst IsSession c.self.view_is c.self.invariant.0));
      left = on_err r (λ log stands. stands);
      image = same_itself (g.W.PieceRead.view c.args.image.now);
      room = no_value _ _ r gone;
    }

pub returns-in_err-reserve : goal.returns-in_err-reserve
returns-in_err-reserve g c =
    let s = c.args.self.now in
    let r = c.from_residual-in_err-reserve.result in
    let f = c.in_err-reserve.field-0.0 in
    let gone = c.from_residual-in_err-reserve.ensures.1 in
    let none = none_refused (flush_refusal s) (Ok tt) c.in_ok-ready.ensures refl in
    record {
      flushed = no_value _ _ r gone;
      planned = λ some. no_value _ _ r gone;
      pieces = no_value _ _ r gone;
      some = λ some. no_value _ _ r gone;
      nothing = λ none. no_value _ _ r gone;
      reached = λ some. no_value _ _ r gone;
      stands = no_value _ _ r gone;
      bound = no_value _ _ r gone;
      refused = λ x told. let clash : None ≡ Some x = sym none ∙ told in absurd cc;
      causes = of_error (causes_of s) r (flush_fault f) gone (inr (inr (inr (flush_faults f))));
      full = λ full told. absurd (fault_space f full (told_error r (flush_fault f) (Space full) gone told));
      deep = λ told. absurd (fault_deep f (told_error r (flush_fault f) Deep gone told));
      shallow = λ log stands new told. fault_deep f (told_error r (flush_fault f) Deep gone told);
      bounds = λ full told. absurd (fault_space f full (told_error r (flush_fault f) (Space full) gone told));
      fault = λ told. c.reserve.ensures.cause (c.in_err-reserve.was ∙ ap (λ x. Err x) (flush_failed f (told_error r (flush_fault f) Failed gone told)));
      kept = on_err r (same_kept s (subst IsSession c.self.view_is c.self.invariant.0));
      left = on_err r (λ log stands. stands);
      image = c.reserve.ensures.same;
      room = no_value _ _ r gone;
    }

pub returns-then-self-eq0 : goal.returns-then-self-eq0
returns-then-self-eq0 g c =
    let s = c.args.self.now in
    let i = is_idle s c.ready.result c.ready.ensures c.in_ok-ready.was in
    let no_refusal = none_refused (flush_refusal s) (Ok tt) c.in_ok-ready.ensures refl in
    let none : s.waits ≡ 0 = sym (ap (λ (t : Session). t.waits) c.self.view_is) ∙ c.if-self-eq0.true in
    let never : 0 < s.waits → ⊥ = λ some. omega (arith, some, none) in
    let idle = ap length i.idle in
    let places : c.end.result ≡ s.places.end = c.end.ensures ∙ ap (λ (t : Session). t.places.end) c.self.view_is in
    let pieces = c.in_ok-reserve.ensures.pieces in
    let end = c.in_ok-reserve.ensures.end in
    record {
      flushed = takes_none s (subst IsSession c.self.view_is c.self.invariant.0) none;
      planned = λ some. absurd (never some);
      pieces = sym idle;
      some = λ some. absurd (never some);
      nothing = λ none. refl;
      reached = λ some. absurd (never some);
      stands = λ log stands. nothing_stands s log i.running i.idle none stands;
      bound = λ log stands. omega arith;
      refused = λ x told. let clash : None ≡ Some x = sym no_refusal ∙ told in absurd cc;
      causes = tt;
      full = λ full told. absurd cc;
      deep = λ told. absurd cc;
      shallow = λ log stands new told. cc;
      bounds = λ full told. absurd cc;
      fault = λ told. absurd cc;
      kept = tt;
      left = tt;
      image = c.reserve.ensures.same;
      room = record { pieces = omega (arith, idle, pieces); end = omega (arith, places, end) };
    }

pub returns : goal.returns
returns g c =
    let s = c.args.self.now in
    let t = c.flush_rows.new.self in
    let r = c.flush_rows.result in
    let x = c.flush_rows.ensures in
    let i = is_idle s c.ready.result c.ready.ensures c.in_ok-ready.was in
    let no_refusal = none_refused (flush_refusal s) (Ok tt) c.in_ok-ready.ensures refl in
    let same : c.self.inside.backlog.waits ≡ s.waits = ap (λ (t : Session). t.waits) c.self.view_is in
    let waits : 0 < s.waits = some_waits s.waits (λ none. c.if-self-eq0.false (same ∙ none)) in
    record {
      flushed = told_rows s t r x.flushed;
      planned = λ some. x.flushed;
      pieces = x.pieces;
      some = λ some. told_some s t r x.flushed x.pieces;
      nothing = λ none. absurd (omega (arith, none, waits));
      reached = λ some. told_reached s t r x.flushed;
      stands = told_stands s t r i x.flushed x.ends x.pieces;
      bound = told_bound s t r i x.flushed x.pieces;
      refused = λ f told. let clash : None ≡ Some f = sym no_refusal ∙ told in absurd cc;
      causes = IfErr-weaker r _ (causes_of s) (λ e h. inr h) x.causes;
      full = x.full;
      deep = x.deep;
      shallow = told_shallow s r x.deep;
      bounds = told_bounds s r i waits x.full;
      fault = x.fault;
      kept = x.kept;
      left = told_left s t r i x.kept;
      image = x.image;
      room = x.room;
    }
