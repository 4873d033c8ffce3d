use Rattle.std.proofs.Common.{◌≡◌, All, vec_len}
use Rattle.h5w_shared.specs.Seats.{NoteView}
use Rattle.h5w_live.proofs.MeetLemmas.{Meeting}
use Rattle.h5w_live.proofs.joining.meet_all.Given as goal

abbrev pub invariant-loop-note : goal.invariant-loop-note
invariant-loop-note l = record {
  same : l.seat ≡ l.initial.seat;
  images : All (λ (n : NoteView). n.image ≡ l.image) l.notes.items;
  meeting : Meeting l.initial.seat l.initial.notes.items l.notes.items;
}

abbrev pub decreases-loop-note : goal.decreases-loop-note
decreases-loop-note l = vec_len l.notes
