use Rattle.std.proofs.Common.{◌≤◌, ◌-◌, List, [], length, Some, ap, sym, refl, subst, ◌∙◌, append-nil, arith, inl, inr}
use Rattle.std.specs.Prelude.{drop}
use Rattle.rtrb.specs.Ring.{received}
use Rattle.h5w_model.specs.declared.piece.Write.{Write}
use Rattle.h5w_shared.specs.Seats.{SeatView}
use Rattle.h5w_replica.specs.Batches.{PortionView}
use Rattle.h5w_replica.specs.Putting.{HasPut}
use Rattle.h5w_replica.proofs.FollowLemmas.{began, followed, lacks, stepped}
use Rattle.h5w_replica.proofs.follow.Follow.step.Goals as goal

pub invariant_of-self : goal.invariant_of-self
invariant_of-self g c =
    let p = c.in-Some.portion in
    let b = began c.args.self.now c.next.new.self _ p c.self.view_is c.next.ensures.same c.in-Some.ensures.taken in
    let rest = lacks p c.portion.inside.first c.seen-have.result c.portion.inside.pieces.writes c.self.inside.second.seen c.seen-have.ensures c.portion.view_is in
    let begins : p.first ≤ length c.self.inside.second.seen = omega (arith, c.if-portion-have.false, c.seen-have.ensures, ap (λ (q : PortionView). q.first) c.portion.view_is) in
    followed c.self.inside.seat c.self.inside.second c.put_pieces.new.seat (received c.self.inside.consumer) c.self.inside.kept c.self.inside.kept p (drop (c.seen-have.result - c.portion.inside.first) c.portion.inside.pieces.writes) []
    c.self.invariant b.part b.takes.some (inl refl) begins (sym rest ∙ sym (append-nil (drop (c.seen-have.result - c.portion.inside.first) c.portion.inside.pieces.writes))) (ap (λ (s : SeatView). s.seen) c.in-Ok.ensures.put.same)

pub invariant_of-self-in-Err : goal.invariant_of-self-in-Err
invariant_of-self-in-Err g c =
    let p = c.in-Some.portion in
    let b = began c.args.self.now c.next.new.self _ p c.self.view_is c.next.ensures.same c.in-Some.ensures.taken in
    let rest = lacks p c.portion.inside.first c.seen-have.result c.portion.inside.pieces.writes c.self.inside.second.seen c.seen-have.ensures c.portion.view_is in
    let begins : p.first ≤ length c.self.inside.second.seen = omega (arith, c.if-portion-have.false, c.seen-have.ensures, ap (λ (q : PortionView). q.first) c.portion.view_is) in
    let some = c.in-Err.ensures.some in
    followed c.self.inside.seat c.self.inside.second c.put_pieces.new.seat (received c.self.inside.consumer) c.self.inside.kept (Some p) p some.done some.left
    c.self.invariant b.part b.takes.some (inr refl) begins (sym rest ∙ some.split) (ap (λ (s : SeatView). s.seen) some.same)

pub returns-in-Ok-clause-took : goal.returns-in-Ok-clause-took
returns-in-Ok-clause-took g c =
    let p = c.in-Some.portion in
    let b = began c.args.self.now c.next.new.self _ p c.self.view_is c.next.ensures.same c.in-Some.ensures.taken in
    let rest = lacks p c.portion.inside.first c.seen-have.result c.portion.inside.pieces.writes c.self.inside.second.seen c.seen-have.ensures c.portion.view_is in
    let begins : p.first ≤ length c.self.inside.second.seen = omega (arith, c.if-portion-have.false, c.seen-have.ensures, ap (λ (q : PortionView). q.first) c.portion.view_is) in
    inr (stepped c.args.self.now _ c.put_pieces.new.seat p c.spare.result b c.self.invariant.mirrored begins (subst (λ (ws : List Write). HasPut ws c.self.inside.second c.put_pieces.new.seat) rest c.in-Ok.ensures.put)
    c.spare.ensures)

pub returns-in-Ok-clause-mirrored : goal.returns-in-Ok-clause-mirrored
returns-in-Ok-clause-mirrored g c = (invariant_of-self g c).mirrored

pub returns-in-Err-clause-mirrored : goal.returns-in-Err-clause-mirrored
returns-in-Err-clause-mirrored g c = (invariant_of-self-in-Err g c).mirrored
