-- A second image that was brought up to a list of the first.
use Rattle.std.proofs.Common.{◌≡◌, ℕ, List, ◌++◌, length, sym, refl, ap, ◌∙◌, subst}
use Rattle.std.specs.Prelude.{Result, drop}
use Rattle.std.proofs.lemmas.List.{drop_at}
use Rattle.h5w_model.specs.Unfinished.{ReaderRules}
use Rattle.h5w_model.specs.declared.piece.Write.{Write}
use Rattle.h5w_replica.specs.Follows.{FollowView}
use Rattle.h5w_replica.specs.Mirrors.{Mirrored}
use Rattle.h5w_shared.specs.Seats.{ImageId, NoteView, SeatView, note_of}
use Rattle.h5w_shared.specs.Turns.{StartsWith}
use Rattle.h5w_shared.proofs.Beginnings.{starts_both}
use Rattle.h5w_live_reading.specs.Ends.{ReadersEnd}
use Rattle.h5w_live_reading.specs.declared.actors.AllEnded.{AllEnded}
use Rattle.h5w_live_reading.specs.declared.actors.Cut.{Cut}

-- what it lacked came behind what it had
pub has_all : (old new journal : List Write) → StartsWith journal old → new ≡ old ++ drop (length old) journal → new ≡ journal
has_all old new journal begins is =
    is
    ∙ (ap (λ (l : List Write). old ++ drop (length old) l) begins.1
    ∙ (ap (λ (l : List Write). old ++ l) (drop_at old begins.0 (length old) refl) ∙ sym begins.1))

-- once the first image's writer took in a note of what was followed, the second image's pieces begin its own
pub followed_begins : (v w : SeatView) (f h : FollowView) (note : NoteView) → w ≡ v → h ≡ f → note ≡ note_of f.seat → StartsWith w.seen note.seen → Mirrored h.seat.seen h.second.seen → StartsWith v.seen h.second.seen
followed_begins v w f h note same kept told begins mirrored =
    let seen : StartsWith v.seen f.seat.seen = subst (λ (ws : List Write). StartsWith v.seen ws) (ap (λ (n : NoteView). n.seen) told) (subst (λ (s : SeatView). StartsWith s.seen note.seen) same begins) in
    starts_both v.seen h.seat.seen h.second.seen (subst (λ (x : FollowView). StartsWith v.seen x.seat.seen) (sym kept) seen) mirrored

-- what came of readers, by other words for their numbers
pub readers_there : (g : ReaderRules) (i : ImageId) (before n calls readers m : ℕ) (seen : List Write) (r : Result AllEnded Cut) → ReadersEnd g i before calls readers seen r → before ≡ n → readers ≡ m → ReadersEnd g i n calls m seen r
readers_there g i before n calls readers m seen r ends first count =
    subst (λ k. ReadersEnd g i n calls k seen r) count (subst (λ k. ReadersEnd g i k calls readers seen r) first ends)
