use Rattle.std.proofs.Common.{ap, sym, subst, append-nil, []}
use Rattle.std.specs.Prelude.{drop}
use Rattle.rtrb.specs.Ring.{received}
use Rattle.h5w_shared.specs.Seats.{SeatView}
use Rattle.h5w_shared.specs.Turns.{StartsWith}
use Rattle.h5w_replica.proofs.FollowLemmas.{caught_up, caught_whole}
use Rattle.h5w_replica.proofs.follow.Follow.catch_up.Goals as goal

pub invariant_of-self : goal.invariant_of-self
invariant_of-self g c =
    let some = c.in_err-put_from.ensures.some in
    caught_up c.self.inside.seat c.meet.new.self c.self.inside.second c.put_from.new.seat (received c.self.inside.consumer) c.self.inside.kept c.args.journal.now.writes c.seen-have.result some.done some.left
    c.self.invariant (ap (λ (s : SeatView). s.image) c.meet.ensures.same) c.meet.ensures.own (subst (StartsWith c.meet.new.self.seen) (sym c.requires.list) c.meet.ensures.note) c.seen-have.ensures some.split (ap (λ (s : SeatView). s.seen) some.same)

pub returns-in_err-put_from-clause-mirrored : goal.returns-in_err-put_from-clause-mirrored
returns-in_err-put_from-clause-mirrored g c =
    let some = c.in_err-put_from.ensures.some in
    (caught_up c.self.inside.seat c.meet.new.self c.self.inside.second c.put_from.new.seat (received c.self.inside.consumer) c.self.inside.kept c.args.journal.now.writes c.seen-have.result some.done some.left
    c.self.invariant (ap (λ (s : SeatView). s.image) c.meet.ensures.same) c.meet.ensures.own (subst (StartsWith c.meet.new.self.seen) (sym c.requires.list) c.meet.ensures.note) c.seen-have.ensures some.split (ap (λ (s : SeatView). s.seen) some.same)).mirrored

pub invariant_of-self-2 : goal.invariant_of-self-2
invariant_of-self-2 g c =
    let put = c.in_ok-put_from.ensures.put in
    let all = drop c.seen-have.result c.args.journal.now.writes in
    caught_up c.self.inside.seat c.meet.new.self c.self.inside.second c.put_from.new.seat (received c.self.inside.consumer) c.self.inside.kept c.args.journal.now.writes c.seen-have.result all []
    c.self.invariant (ap (λ (s : SeatView). s.image) c.meet.ensures.same) c.meet.ensures.own (subst (StartsWith c.meet.new.self.seen) (sym c.requires.list) c.meet.ensures.note) c.seen-have.ensures (sym (append-nil all)) (ap (λ (s : SeatView). s.seen) put.same)

pub returns-clause-whole : goal.returns-clause-whole
returns-clause-whole g c =
    caught_whole c.self.inside.seat c.meet.new.self c.self.inside.second c.put_from.new.seat c.args.journal.now.writes c.seen-have.result
    c.self.invariant.mirrored c.meet.ensures.own (subst (StartsWith c.meet.new.self.seen) (sym c.requires.list) c.meet.ensures.note) c.seen-have.ensures (ap (λ (s : SeatView). s.seen) c.in_ok-put_from.ensures.put.same)

pub returns-clause-mirrored : goal.returns-clause-mirrored
returns-clause-mirrored g c =
    let put = c.in_ok-put_from.ensures.put in
    let all = drop c.seen-have.result c.args.journal.now.writes in
    (caught_up c.self.inside.seat c.meet.new.self c.self.inside.second c.put_from.new.seat (received c.self.inside.consumer) c.self.inside.kept c.args.journal.now.writes c.seen-have.result all []
    c.self.invariant (ap (λ (s : SeatView). s.image) c.meet.ensures.same) c.meet.ensures.own (subst (StartsWith c.meet.new.self.seen) (sym c.requires.list) c.meet.ensures.note) c.seen-have.ensures (sym (append-nil all)) (ap (λ (s : SeatView). s.seen) put.same)).mirrored
