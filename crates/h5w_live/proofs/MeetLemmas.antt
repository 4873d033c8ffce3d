-- The notes of readers, which the writer's seat meets one after another.
use Rattle.std.proofs.Common.{◌≡◌, zero, suc, List, [], ◌∷◌, ◌++◌, length, sym, refl, ap, ◌∙◌, subst, arith, append_assoc, append-nil}
use Rattle.std.specs.Prelude.{All}
use Rattle.h5w_shared.specs.Seats.{NoteView, SeatView}
use Rattle.h5w_shared.specs.Turns.{StartsWith}

none_left : {A : Type 0} (P : A → Type 0) → All P []
none_left P = λ k d less. absurd (omega (arith, less))

all_more : {A : Type 0} (P : A → Type 0) (x : A) (xs : List A) → P x → All P xs → All P (x ∷ xs)
all_more P x xs p h zero d less = p
all_more P x xs p h (suc k) d less = h k d (omega (arith, less))

-- so many notes are left to be met, and what the others tell begins what the seat has seen
pub record Meeting (v : SeatView) (all left : List NoteView) : Type 0 where
  pub met : List NoteView
  pub split : all ≡ left ++ met
  pub begins : All (λ (n : NoteView). StartsWith v.seen n.seen) met

pub meets_first : (v : SeatView) (all : List NoteView) → Meeting v all all
meets_first v all = record { met = []; split = sym (append-nil all); begins = none_left (λ (n : NoteView). StartsWith v.seen n.seen) }

pub meets_next : (v : SeatView) (all left new : List NoteView) (note : NoteView) → Meeting v all left → left ≡ new ++ note ∷ [] → StartsWith v.seen note.seen → Meeting v all new
meets_next v all left new note h is begins = record {
  met = note ∷ h.met;
  split = h.split ∙ ap (λ (ns : List NoteView). ns ++ h.met) is ∙ append_assoc new (note ∷ []) h.met;
  begins = all_more (λ (n : NoteView). StartsWith v.seen n.seen) note h.met begins h.begins;
}

no_notes : (ns : List NoteView) → length ns ≡ 0 → ns ≡ []
no_notes [] none = refl
no_notes (n ∷ ns) none = absurd (omega (arith, none))

pub meets_done : (v : SeatView) (all left : List NoteView) → Meeting v all left → length left ≡ 0 → All (λ (n : NoteView). StartsWith v.seen n.seen) all
meets_done v all left h none =
    subst (λ (ns : List NoteView). All (λ (n : NoteView). StartsWith v.seen n.seen) ns) (sym (h.split ∙ ap (λ (ns : List NoteView). ns ++ h.met) (no_notes left none))) h.begins
