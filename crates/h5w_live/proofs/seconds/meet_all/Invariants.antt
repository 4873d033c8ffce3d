use Rattle.std.proofs.Common.{◌≡◌, All, vec_len}
use Rattle.h5w_shared.specs.Seats.{NoteView}
use Rattle.h5w_live.proofs.MeetLemmas.{Meeting}
use Rattle.h5w_live.proofs.seconds.meet_all.Given as goal

abbrev pub invariant-loop-note : goal.invariant-loop-note
invariant-loop-note l = record {
  same : l.follow ≡ l.initial.follow;
  images : All (λ (n : NoteView). n.image ≡ l.second) l.notes.items;
  meeting : Meeting l.initial.follow.second l.initial.notes.items l.notes.items;
}

abbrev pub decreases-loop-note : goal.decreases-loop-note
decreases-loop-note l = vec_len l.notes
