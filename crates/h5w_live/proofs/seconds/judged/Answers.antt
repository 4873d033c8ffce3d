use Rattle.std.proofs.Common.{Err, ap, ◌∙◌, subst}
use Rattle.h5w_replica.specs.Follows.{FollowView}
use Rattle.h5w_shared.specs.Turns.{StartsWith}
use Rattle.h5w_shared.proofs.Beginnings.{starts_both}
use Rattle.h5w_live.proofs.JoinLemmas.{agree, begin_all, images, none_strays, seats_told, stray_image}
use Rattle.h5w_live.proofs.seconds.judged.Goals as goal

pub meet_all-requires-clause-notes : goal.meet_all-requires-clause-notes
meet_all-requires-clause-notes c =
    let j = c.requires.joined in
    images c.args.second.now j.0 j.1 j.2 c.args.ended j.3 c.in-Ok.field-0 c.in-Ok.is

pub meet-requires-clause-note : goal.meet-requires-clause-note
meet-requires-clause-note c =
    let j = c.requires.joined in
    stray_image c.args.second.now j.0 j.1 j.2 c.args.ended j.3 c.in-Err-Stray.note (c.in-Err-Stray.is ∙ ap Err c.in-Err-Stray.field-0-is)

pub unreachable-requires : goal.unreachable-requires
unreachable-requires c =
    let j = c.requires.joined in
    none_strays c.args.second.now j.0 j.1 j.2 c.args.ended j.3 c.in-Err-Stray.note (c.in-Err-Stray.is ∙ ap Err c.in-Err-Stray.field-0-is)
    (starts_both j.1.seen c.args.follow.now.second.seen c.in-Err-Stray.note.seen j.4 (subst (λ (f : FollowView). StartsWith f.second.seen c.in-Err-Stray.note.seen) c.meet.ensures.same c.meet.ensures.begins))

pub returns-in-Ok-clause-agrees : goal.returns-in-Ok-clause-agrees
returns-in-Ok-clause-agrees c = λ s v fs j begins.
    agree c.args.second.now s v fs c.args.ended j c.in-Ok.field-0 c.in-Ok.is (begin_all v.seen c.args.follow.now.second.seen c.in-Ok.field-0.notes.items begins c.meet_all.ensures.begins)

pub returns-in-Ok-clause-seats : goal.returns-in-Ok-clause-seats
returns-in-Ok-clause-seats c = λ s v fs j begins.
    seats_told c.args.second.now s v fs c.args.ended j c.in-Ok.field-0 c.in-Ok.is (begin_all v.seen c.args.follow.now.second.seen c.in-Ok.field-0.notes.items begins c.meet_all.ensures.begins)
