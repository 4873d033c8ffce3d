use Rattle.std.proofs.Common.{rules, ◌≡◌, ◌≤◌, [], length, refl, None, arith, ap, sym, subst, ◌∙◌}
use Rattle.rtrb.specs.Ring.{known_free, sent}
use Rattle.h5w_shared.specs.Seats.{NoteView, SeatView}
use Rattle.h5w_replica.specs.Feeds.{FeedView, IsFeed}
use Rattle.h5w_replica.specs.Batches.{AreShort, batches_in, end_to_end}
use Rattle.h5w_replica.proofs.FeedLemmas.{goes, has_taken, last_part, nothing_back, offered, sent_all, short_behind, taken_both}
use Rattle.h5w_replica.proofs.feed.Feed.send.Goals as goal

whole : (c : goal.Joined-self-offer) → IsFeed c.note-note.new.self (sent c.offer.new.producer) c.offer.result c.swap.new.x.writes
whole c =
    let none : c.self-2.inside.back ≡ None = search rules in
    let all : c.swap.new.y.writes ≡ c.self-2.inside.unsent.writes = search rules in
    let empty : c.swap.new.x.writes ≡ [] = search rules in
    let some : 1 ≤ length c.self-2.inside.unsent.writes = search rules in
    let seen : c.seen.result ≡ length c.self-2.inside.seat.seen = search rules in
    let count : c.len-2.result ≡ length c.self-2.inside.unsent.writes = search rules in
    let behind = goes c.self-2.inside.seat (sent c.self-2.inside.producer) c.self-2.inside.back _ c.self-2.inside.unsent.writes c.seen.result c.len-2.result c.self-2.invariant.0 none seen count refl all (ap (λ (n : NoteView). n.image) c.note-note.ensures.note) some in
    let o = offered (sent c.self-2.inside.producer) (sent c.offer.new.producer) c.offer.result _ (known_free c.self-2.inside.producer) (known_free c.offer.new.producer) c.offer.ensures.taken c.offer.ensures.back in
    subst (λ (s : SeatView). IsFeed s (sent c.offer.new.producer) c.offer.result c.swap.new.x.writes) (sym c.note-note.ensures.same)
    (sent_all c.self-2.inside.seat _ _ c.self-2.inside.back c.offer.result _ _ _ c.self-2.inside.unsent.writes c.swap.new.x.writes c.self-2.invariant.0 none empty all behind o)

pub invariant_of-self-2 : goal.invariant_of-self-2
invariant_of-self-2 c =
    let seat = c.note-note.ensures.same in (
      whole c,
      record {
        image = omega (arith, ap (λ (s : SeatView). s.pieces) seat, c.self-2.invariant.1.image);
        unsent = search rules;
      },
    )

pub returns-clause-taken : goal.returns-clause-taken
returns-clause-taken c =
    let o = offered (sent c.self-2.inside.producer) (sent c.offer.new.producer) c.offer.result _ (known_free c.self-2.inside.producer) (known_free c.offer.new.producer) c.offer.ensures.taken c.offer.ensures.back in
    taken_both c.args.self.now c.resend.new.self _ c.resend.ensures.taken
    (has_taken c.self-2.inside.seat.image _ _ c.offer.result _ _ _ c.self-2.invariant.0.leads o c.resend.new.self _ (ap (λ (f : FeedView). f.took) c.self-2.view_is) (ap (λ (f : FeedView). f.free) c.self-2.view_is) refl refl)

pub returns-clause-fed : goal.returns-clause-fed
returns-clause-fed c = record { list = (whole c).list }

pub invariant_of-batch : goal.invariant_of-batch
invariant_of-batch c =
    let none : c.self-2.inside.back ≡ None = search rules in
    let all : c.swap.new.y.writes ≡ c.self-2.inside.unsent.writes = search rules in
    subst AreShort (sym all)
    (short_behind (end_to_end (batches_in (sent c.self-2.inside.producer))) c.self-2.inside.unsent.writes c.self-2.inside.seat.seen
    (nothing_back c.self-2.inside.seat (sent c.self-2.inside.producer) c.self-2.inside.back c.self-2.inside.unsent.writes c.self-2.invariant.0 none)
    c.self-2.invariant.0.short)

pub invariant_of-batch-2 : goal.invariant_of-batch-2
invariant_of-batch-2 c =
    let none : c.self-2.inside.back ≡ None = search rules in
    let all : c.swap.new.y.writes ≡ c.self-2.inside.unsent.writes = search rules in
    let list = nothing_back c.self-2.inside.seat (sent c.self-2.inside.producer) c.self-2.inside.back c.self-2.inside.unsent.writes c.self-2.invariant.0 none in
    let seen : c.seen.result ≡ length c.self-2.inside.seat.seen = search rules in
    let count : c.len-2.result ≡ length c.self-2.inside.unsent.writes = search rules in
    last_part (end_to_end (batches_in (sent c.self-2.inside.producer))) c.self-2.inside.unsent.writes c.note-note.result.seen c.swap.new.y.writes c.seen.result c.len-2.result
    (ap (λ (n : NoteView). n.seen) c.note-note.ensures.note ∙ list) all (seen ∙ ap length list) count
