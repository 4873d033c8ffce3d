use Rattle.std.proofs.Common.{◌≡◌, ◌∙◌, ◌<◌, List, [], ◌∷◌, length, sym, ap, subst, inl, inr, arith}
use Rattle.h5w_writer.specs.Sessions.{Session}
use Rattle.h5w_several_writer_laws.specs.Sessions.{AreFlushing, AreShown, all_pending}
use Rattle.h5w_several_writer.proofs.ShownLemmas.{behind_flushing, behind_none, last_here, left_here, more_here, shown_here}
use Rattle.h5w_several_writer.proofs.showing.+show_piece.Goals as goal

pub returns-then-pending-eq0-clause-more : goal.returns-then-pending-eq0-clause-more
returns-then-pending-eq0-clause-more t c so =
    let s = c.in-Some.part.now in
    let none : length s.pending ≡ 0 = omega (arith, c.pending.ensures, c.if-pending-eq0.true) in
    elim (c.show_piece.ensures.more so) [
      | inl left ↦ inl (λ e. left (behind_none s.pending (all_pending c.show_piece.new.parts) [] none e))
      | inr calm ↦ inr (λ f. calm (behind_flushing s c.in-Some.rest.now none (subst AreFlushing c.in-Some.ensures.cases.0 f)))
    ]

pub returns-else-pending-eq0-clause-shown : goal.returns-else-pending-eq0-clause-shown
returns-else-pending-eq0-clause-shown t c w ws same =
    let e = c.in-Some.ensures.cases.0 in
    let s = c.in-Some.part.now in
    let some : 0 < length s.pending = omega (arith, c.pending.ensures, c.if-pending-eq0.false) in
    subst (λ (ss : List Session). AreShown w ss (c.written.new.self ∷ c.in-Some.rest.now)) (sym e)
    (shown_here s c.written.new.self c.in-Some.rest.now some c.written.ensures.piece w ws (ap all_pending (sym e) ∙ same))

pub returns-else-pending-eq0-clause-left : goal.returns-else-pending-eq0-clause-left
returns-else-pending-eq0-clause-left t c w ws same =
    let e = c.in-Some.ensures.cases.0 in
    let s = c.in-Some.part.now in
    let some : 0 < length s.pending = omega (arith, c.pending.ensures, c.if-pending-eq0.false) in
    left_here s c.written.new.self c.in-Some.rest.now some c.written.ensures.piece w ws (ap all_pending (sym e) ∙ same)

pub returns-else-pending-eq0-clause-last : goal.returns-else-pending-eq0-clause-last
returns-else-pending-eq0-clause-last t c so =
    let s = c.in-Some.part.now in
    let some : 0 < length s.pending = omega (arith, c.pending.ensures, c.if-pending-eq0.false) in
    let x = last_here s c.written.new.self c.in-Some.rest.now some c.written.ensures.piece (c.is_last-last.ensures.yes so) in
    (subst AreFlushing (sym c.in-Some.ensures.cases.0) x.0, x.1)

pub returns-else-pending-eq0-clause-more : goal.returns-else-pending-eq0-clause-more
returns-else-pending-eq0-clause-more t c so =
    let s = c.in-Some.part.now in
    let some : 0 < length s.pending = omega (arith, c.pending.ensures, c.if-pending-eq0.false) in
    elim (more_here s c.written.new.self c.in-Some.rest.now some c.written.ensures.piece (c.is_last-last.ensures.no so)) [
      | inl left ↦ inl left
      | inr calm ↦ inr (λ f. calm (subst AreFlushing c.in-Some.ensures.cases.0 f))
    ]
