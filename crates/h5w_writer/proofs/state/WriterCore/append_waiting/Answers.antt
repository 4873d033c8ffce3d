use Rattle.std.proofs.Common.{arith, List, Some, None, Ok, Err, refl, ◌≡◌, ◌≢◌, ◌≤◌, ◌<◌, ◌+◌, ◌/◌, ℕ, take, [], ap, sym, subst, ◌∙◌, inl, inr, length}
use Rattle.h5w_image.proofs.ViewLemmas.{same_itself}
use Rattle.h5w_model.specs.Messages.{IsIntType, IsLayout}
use Rattle.h5w_model.proofs.IntegerLemmas.{int_size_bounds}
use Rattle.h5w_writer.specs.Early.{WrittenEarly, dirty_of}
use Rattle.h5w_writer.specs.Refusals.{append_refusal}
use Rattle.h5w_writer.specs.Sessions.{Session, IsSession, with_values}
use Rattle.h5w_writer.specs.declared.refusal.AppendError.TheVariants.{Failed, OutOfMemory}
use Rattle.h5w_writer.proofs.AppendStands.{adds_unplanned, adds_values, append_few, append_over, append_stands, taken_back}
use Rattle.h5w_writer.proofs.ExitLemmas.{is_error, no_value, of_error, told_error}
use Rattle.h5w_writer.proofs.RefusalLemmas.{AppendCauses, fault_causes, fault_failed, no_failed_append, refused_alike, some_refused}
use Rattle.h5w_writer.proofs.SessionFields.{session_of}
use Rattle.h5w_writer.proofs.StateLemmas.{accepted, counts, none_refused, values_is, waits_is, with_values_is}
use Rattle.h5w_writer.proofs.TakingLemmas.{on_err}
use Rattle.h5w_writer.proofs.state.WriterCore.append_waiting.Goals as goal

pub overflow_add-self : goal.overflow_add-self
overflow_add-self g c =
    let s = c.args.self.now in
    let values = c.args.values.now in
    let by = accepted s values (Ok tt) c.in_ok-check.ensures refl in
    let is = subst IsSession c.self.view_is c.self.invariant.0 in
    let then = values_is s values is c.requires.rows by in
    let layout = subst (λ (t : Session). IsLayout t.dataset.layout t.dataset.shape t.dataset.int_type) c.self.view_is c.self.invariant.1.chunked in
    let some = subst (λ (t : Session). 1 ≤ t.dataset.int_type.size) c.self.view_is (int_size_bounds c.self.inside.grid.int_type.size c.self.invariant.1.typed).0 in
    let n = counts (with_values s values) then layout some in
    let same : c.self.inside.backlog.waits + length values / c.self.inside.grid.shape.cols ≡ s.waits + length values / s.dataset.shape.cols = ap (λ (t : Session). t.waits + length values / t.dataset.shape.cols) c.self.view_is in
    omega (arith, same, n.rows)

pub invariant_of-self-2 : goal.invariant_of-self-2
invariant_of-self-2 g c =
    let s = c.args.self.now in
    let values = c.args.values.now in
    let by = accepted s values (Ok tt) c.in_ok-check.ensures refl in
    let is = subst IsSession c.self.view_is c.self.invariant.0 in
    let then = values_is s values is c.requires.rows by in
    (waits_is _ s values c.put.new.self c.self.view_is c.in_ok-put.ensures.added then, c.self.invariant.1, c.self.invariant.2, c.self.invariant.3, c.self.invariant.4)

pub invariant_of-self-in-Err : goal.invariant_of-self-in-Err
invariant_of-self-in-Err g c =
    let v = session_of c.self.inside in
    let more = length c.args.values.now / c.self.inside.grid.shape.cols in
    let u : Session = record v { waiting = c.put.new.self; waits = v.waits + more } in
    let long : c.len-bytes.result ≡ length c.self.inside.backlog.waiting = c.len-bytes.ensures in
    let back = taken_back u v _ c.put.new.self c.truncate.new.self more refl c.in_ok-put.ensures.added (c.truncate.ensures ∙ ap (λ (n : ℕ). take n c.put.new.self) long) in
    (subst IsSession (sym back) c.self.invariant.0, c.self.invariant.1, c.self.invariant.2, c.self.invariant.3, c.self.invariant.4)

pub returns-in_err-check : goal.returns-in_err-check
returns-in_err-check g c =
    let s = c.args.self.now in
    let values = c.args.values.now in
    let r = c.from_residual.result in
    let gone = c.from_residual.ensures.1 in
    let e = c.in_err-check.field-0.0 in
    let by = some_refused (append_refusal s values) e c.in_err-check.ensures in
    record {
      added = no_value _ _ r gone;
      is = no_value _ _ r gone;
      within = no_value _ _ r gone;
      rows = no_value _ _ r gone;
      refused = λ f told. refused_alike (append_refusal s values) r e f by (is_error r e gone) told;
      causes = of_error (AppendCauses s values) r e gone (inl by);
      fault = λ told. absurd (no_failed_append s values (by ∙ ap (λ x. Some x) (told_error r e Failed gone told)));
      kept = on_err r refl;
      image = same_itself (g.W.PieceRead.view c.args.image.now);
      room = no_value _ _ r gone;
    }

pub returns-in_err-put : goal.returns-in_err-put
returns-in_err-put g c =
    let s = c.args.self.now in
    let values = c.args.values.now in
    let r = c.from_residual-in_err-put.result in
    let gone = c.from_residual-in_err-put.ensures.1 in
    let none = none_refused (append_refusal s values) (Ok tt) c.in_ok-check.ensures refl in
    record {
      added = no_value _ _ r gone;
      is = no_value _ _ r gone;
      within = no_value _ _ r gone;
      rows = no_value _ _ r gone;
      refused = λ f told. let clash : None ≡ Some f = sym none ∙ told in absurd cc;
      causes = of_error (AppendCauses s values) r OutOfMemory gone (inr (inr refl));
      fault = λ told. let clash : OutOfMemory ≡ Failed = told_error r OutOfMemory Failed gone told in absurd cc;
      kept = on_err r (ap (λ (bs : List ℕ). record (session_of c.self.inside) { waiting = bs }) c.in_err-put.ensures.kept ∙ c.self.view_is);
      image = same_itself (g.W.PieceRead.view c.args.image.now);
      room = no_value _ _ r gone;
    }

pub returns-in-Ok : goal.returns-in-Ok
returns-in-Ok g c =
    let s = c.args.self.now in
    let values = c.args.values.now in
    let none = none_refused (append_refusal s values) (Ok tt) c.in_ok-check.ensures refl in
    record {
      added = with_values_is _ s values c.put.new.self c.self.view_is c.in_ok-put.ensures.added;
      is = c.in-Ok.ensures.is;
      within = c.in-Ok.ensures.within;
      rows = c.rows.ensures.value;
      refused = λ f told. let clash : None ≡ Some f = sym none ∙ told in absurd cc;
      causes = tt;
      fault = λ told. absurd cc;
      kept = tt;
      image = c.stay_within.ensures.image;
      room = c.in-Ok.ensures.room;
    }

pub returns-in-Err : goal.returns-in-Err
returns-in-Err g c =
    let s = c.args.self.now in
    let values = c.args.values.now in
    let v = session_of c.self.inside in
    let more = length values / c.self.inside.grid.shape.cols in
    let u : Session = record v { waiting = c.put.new.self; waits = v.waits + more } in
    let f = c.in-Err.e in
    let e = c.from.result in
    let none = none_refused (append_refusal s values) (Ok tt) c.in_ok-check.ensures refl in
    let long : c.len-bytes.result ≡ length c.self.inside.backlog.waiting = c.len-bytes.ensures in
    let back = taken_back u v _ c.put.new.self c.truncate.new.self more refl c.in_ok-put.ensures.added (c.truncate.ensures ∙ ap (λ (n : ℕ). take n c.put.new.self) long) in
    record {
      added = tt;
      is = tt;
      within = tt;
      rows = tt;
      refused = λ x told. let clash : None ≡ Some x = sym none ∙ told in absurd cc;
      causes = fault_causes s values f e c.from.ensures;
      fault = λ told. c.in-Err.ensures.fault (ap (λ x. Err x) (fault_failed f (let same : e ≡ Failed = cc in sym c.from.ensures ∙ same)));
      kept = back ∙ c.self.view_is;
      image = c.stay_within.ensures.image;
      room = tt;
    }
