use Rattle.std.proofs.Common.{◌≡◌, rules, refl, ◌∙◌, subst}
use Rattle.std.specs.Prelude.{◌++◌, ◌∷◌, []}
use Rattle.h5w_replica.specs.Follows.{FollowView}
use Rattle.h5w_shared.specs.Seats.{NoteView}
use Rattle.h5w_shared.specs.Turns.{StartsWith}
use Rattle.h5w_live_reading.proofs.ActorLemmas.{all_front}
use Rattle.h5w_live.proofs.MeetLemmas.{meets_done, meets_first, meets_next}
use Rattle.h5w_live.proofs.seconds.meet_all.Goals as goal

pub loop-note-init : goal.loop-note-init
loop-note-init c = record { same = refl; images = c.requires.notes; meeting = meets_first c.args.follow.now.second c.args.notes.items }

pub loop-note-preserved : goal.loop-note-preserved
loop-note-preserved c =
    let is : c.loop-note.notes.items ≡ c.pop.new.self.items ++ c.in-Some.note ∷ [] = c.in-Some.ensures.items in
    let same : c.meet.new.self ≡ c.args.follow.now = c.meet.ensures.same ∙ c.loop-note.invariant.same in
    record {
      same = same;
      images = all_front (λ (n : NoteView). n.image ≡ c.args.second.now) c.loop-note.notes.items c.pop.new.self.items c.in-Some.note is c.loop-note.invariant.images;
      meeting =
          meets_next c.args.follow.now.second c.args.notes.items c.loop-note.notes.items c.pop.new.self.items c.in-Some.note c.loop-note.invariant.meeting is
          (subst (λ (f : FollowView). StartsWith f.second.seen c.in-Some.note.seen) same c.meet.ensures.begins);
    }

pub returns-clause-begins : goal.returns-clause-begins
returns-clause-begins c = meets_done c.args.follow.now.second c.args.notes.items c.loop-note.notes.items c.loop-note.invariant.meeting (search (rules, c.in_default.ensures.cases))
