-- What comes of readers, one behind another.
use Rattle.std.proofs.Common.{◌≡◌, ℕ, zero, suc, ◌+◌, ◌*◌, ◌<◌, List, [], ◌∷◌, ◌++◌, length, take, Result, Ok, Err, sym, refl, ap, ◌∙◌, subst, arith, length-append}
use Rattle.std.specs.Prelude.{All, IfOk, drop, get_or}
use Rattle.h5w_model.specs.Unfinished.{ReaderRules}
use Rattle.h5w_model.specs.declared.piece.Write.{Write}
use Rattle.h5w_model.specs.declared.report.PollLine.{PollLine}
use Rattle.h5w_shared.specs.Seats.{ImageId, NoteView, SeatView}
use Rattle.h5w_laws.proofs.ResultLemmas.{err_is}
use Rattle.h5w_live_reading.specs.Ends.{EndWith, EndsWith, ReaderEnds, ReadersEnd, StraysWith}
use Rattle.h5w_live_reading.specs.Seats.{ReadersLeave}
use Rattle.h5w_live_reading.specs.declared.actors.AllEnded.{AllEnded}
use Rattle.h5w_live_reading.specs.declared.actors.Calls.{Calls}
use Rattle.h5w_live_reading.specs.declared.actors.Cut.{Cut}
use Rattle.h5w_live_reading.specs.declared.actors.Cut.TheVariants as cuts
use Rattle.h5w_live_reading.specs.declared.actors.Ended.{Ended}
use Rattle.h5w_live_reading.specs.declared.actors.Seated.{Seated}
use Rattle.h5w_live_reading.proofs.PartLemmas.{parts_more}

get_front : {A : Type 0} (xs : List A) (x d : A) (k : ℕ) → k < length xs → get_or (xs ++ x ∷ []) k d ≡ get_or xs k d
get_front [] x d k less = absurd (omega (arith, less))
get_front (y ∷ ys) x d zero less = refl
get_front (y ∷ ys) x d (suc k) less = get_front ys x d k (omega (arith, less))

get_last : {A : Type 0} (xs : List A) (x d : A) (k : ℕ) → length xs ≡ k → get_or (xs ++ x ∷ []) k d ≡ x
get_last [] x d zero count = refl
get_last [] x d (suc k) count = absurd (omega (arith, count))
get_last (y ∷ ys) x d zero count = absurd (omega (arith, count))
get_last (y ∷ ys) x d (suc k) count = get_last ys x d k (omega (arith, count))

-- one reader more
pub end_more : (g : ReaderRules) (i : ImageId) (before calls readers : ℕ) (seen : List Write) (notes : List NoteView) (lines more : List PollLine) (note : NoteView) → EndWith g i before calls readers seen notes lines
    → length more ≡ calls → EndsWith g i (before + readers + 1) seen note more → EndWith g i before calls (readers + 1) seen (notes ++ note ∷ []) (lines ++ more)
end_more g i before calls readers seen notes lines more note h count ends = record {
  notes_count = omega (arith, h.notes_count, length-append notes (note ∷ []));
  lines_count = omega (arith, h.lines_count, length-append lines more, count);
  each = λ k d less.
      parts_more (λ j ls. EndsWith g i (before + j + 1) seen (get_or (notes ++ note ∷ []) j d) ls) calls readers lines more h.lines_count count
      (λ j below. subst (λ (n : NoteView). EndsWith g i (before + j + 1) seen n (take calls (drop (j * calls) lines))) (sym (get_front notes note d j (omega (arith, below, h.notes_count)))) (h.each j d below))
      (subst (λ (n : NoteView). EndsWith g i (before + readers + 1) seen n more) (sym (get_last notes note d readers h.notes_count)) ends)
      k less;
}

-- ---- Outcomes

pub all_ok : (g : ReaderRules) (i : ImageId) (before calls readers : ℕ) (seen : List Write) (e : AllEnded) → EndWith g i before calls readers seen e.notes.items e.lines.items → ReadersEnd g i before calls readers seen (Ok e)
all_ok g i before calls readers seen e h = record { end = h; stray = λ note same. absurd cc }

pub all_err : (g : ReaderRules) (i : ImageId) (before calls readers : ℕ) (seen : List Write) (e : Cut) → ((note : NoteView) → e ≡ cuts.Stray note → StraysWith g i seen note) → ReadersEnd g i before calls readers seen (Err e)
all_err g i before calls readers seen e h = record { end = tt; stray = λ note same. h note (err_is e (cuts.Stray note) same) }

-- what came of the other readers is handed on
pub err_before : (g : ReaderRules) (i : ImageId) (before calls readers : ℕ) (seen : List Write) (others : Result AllEnded Cut) (e : Cut) → others ≡ Err e → ReadersEnd g i before calls readers seen others
    → ReadersEnd g i before calls (readers + 1) seen (Err e)
err_before g i before calls readers seen others e is h = all_err g i before calls (readers + 1) seen e (λ note same. h.stray note (is ∙ ap Err same))

pub err_last : (g : ReaderRules) (i : ImageId) (before calls readers : ℕ) (seen : List Write) (last : Result Ended Cut) (e : Cut) → last ≡ Err e → ReaderEnds g i calls (before + readers + 1) seen last
    → ReadersEnd g i before calls (readers + 1) seen (Err e)
err_last g i before calls readers seen last e is h = all_err g i before calls (readers + 1) seen e (λ note same. h.stray note (is ∙ ap Err same))

pub ok_both : (g : ReaderRules) (i : ImageId) (before calls readers : ℕ) (seen : List Write) (others : Result AllEnded Cut) (last : Result Ended Cut) (all : AllEnded) (one : Ended) (new : AllEnded) → others ≡ Ok all → last ≡ Ok one
    → new.lines.items ≡ all.lines.items ++ one.lines.items → new.notes.items ≡ all.notes.items ++ one.note ∷ [] → ReadersEnd g i before calls readers seen others → ReaderEnds g i calls (before + readers + 1) seen last
    → ReadersEnd g i before calls (readers + 1) seen (Ok new)
ok_both g i before calls readers seen others last all one new others_is last_is lines notes h k =
    let first : EndWith g i before calls readers seen all.notes.items all.lines.items =
    subst (λ (x : Result AllEnded Cut). IfOk x (λ (e : AllEnded). EndWith g i before calls readers seen e.notes.items e.lines.items)) others_is h.end in
    let count : length one.lines.items ≡ calls = subst (λ (x : Result Ended Cut). IfOk x (λ (e : Ended). length e.lines.items ≡ calls)) last_is k.count in
    let ends : EndsWith g i (before + readers + 1) seen one.note one.lines.items = subst (λ (x : Result Ended Cut). IfOk x (λ (e : Ended). EndsWith g i (before + readers + 1) seen e.note e.lines.items)) last_is k.ends in
    all_ok g i before calls (readers + 1) seen new
    (subst (λ (ns : List NoteView). EndWith g i before calls (readers + 1) seen ns new.lines.items) (sym notes)
    (subst (λ (ls : List PollLine). EndWith g i before calls (readers + 1) seen (all.notes.items ++ one.note ∷ []) ls) (sym lines)
    (end_more g i before calls readers seen all.notes.items all.lines.items one.lines.items one.note first count ends)))

-- ---- Seats

pub all_front : {A : Type 0} (P : A → Type 0) (all front : List A) (x : A) → all ≡ front ++ x ∷ [] → All P all → All P front
all_front P all front x is h = λ k d less.
    subst P (ap (λ (ys : List _). get_or ys k d) is ∙ get_front front x d k less) (h k d (omega (arith, less, ap length is, length-append front (x ∷ []))))

pub all_last : {A : Type 0} (P : A → Type 0) (all front : List A) (x : A) → all ≡ front ++ x ∷ [] → All P all → P x
all_last P all front x is h =
    subst P (ap (λ (ys : List _). get_or ys (length front) x) is ∙ get_last front x x (length front) refl) (h (length front) x (omega (arith, ap length is, length-append front (x ∷ []))))

-- what comes of the readers that have these seats, of which the last is this one
pub read_more : (g : ReaderRules) (i : ImageId) (before calls : ℕ) (all front : List SeatView) (x : SeatView) (n m reader : ℕ) (seen : List Write) (others : Result AllEnded Cut) (last : Result Ended Cut) (r : Result AllEnded Cut)
    → all ≡ front ++ x ∷ [] → All (λ (s : SeatView). s.seen ≡ seen) all → n ≡ m + 1 → reader ≡ before + m + 1 → ReaderEnds g i calls reader x.seen last
    → ((seen : List Write) → All (λ (s : SeatView). s.seen ≡ seen) front → ReadersEnd g i before calls m seen others)
    → ((g : ReaderRules) (i : ImageId) (before calls readers : ℕ) (seen : List Write) → ReadersEnd g i before calls readers seen others → ReaderEnds g i calls (before + readers + 1) seen last → ReadersEnd g i before calls (readers + 1) seen r)
    → ReadersEnd g i before calls n seen r
read_more g i before calls all front x n m reader seen others last r is h count number one rest both =
    let P : SeatView → Type 0 = λ (s : SeatView). s.seen ≡ seen in
    subst (λ k. ReadersEnd g i before calls k seen r) (sym count)
    (both g i before calls m seen (rest seen (all_front P all front x is h))
    (subst (λ (ws : List Write). ReaderEnds g i calls (before + m + 1) ws last) (all_last P all front x is h) (subst (λ k. ReaderEnds g i calls k x.seen last) number one)))

-- the same of equal calls and readers
pub leave_at : (k l : Calls) (r s : Seated) (ended : Result AllEnded Cut) → k ≡ l → r ≡ s → ReadersLeave k r ended → ReadersLeave l s ended
leave_at k l r s ended calls readers h = subst (λ (x : Calls). ReadersLeave x s ended) calls (subst (λ (x : Seated). ReadersLeave k x ended) readers h)
