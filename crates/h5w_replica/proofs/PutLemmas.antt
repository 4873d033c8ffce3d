-- Pieces that are written one behind another.
use Rattle.std.proofs.Common.{◌≡◌, ℕ, zero, suc, ◌+◌, ◌-◌, ◌<◌, ◌≤◌, List, [], ◌∷◌, ◌++◌, length, Some, None, sym, refl, ap, ◌∙◌, subst, arith, append_assoc, append-nil}
use Rattle.std.specs.Prelude.{drop, slice_get, take}
use Rattle.std.proofs.lemmas.List.{take-append-drop}
use Rattle.h5w_image.specs.declared.fault.ImageError.{ImageError}
use Rattle.h5w_image.specs.declared.fault.ImageError.TheVariants.{Failed, OutOfMemory}
use Rattle.h5w_model.specs.Causes.{Rose}
use Rattle.h5w_model.specs.declared.piece.Write.{Write}
use Rattle.h5w_shared.specs.Seats.{SeatView}
use Rattle.h5w_replica.specs.Putting.{Counts, HasPut, HasPutSome}

-- a seat in words of what changes of it
abbrev moved : SeatView → SeatView → List Write → SeatView
moved s t seen = record s { seen = seen; pieces = t.pieces; end = t.end }

-- pieces, then more
put_both : (xs ys : List Write) (a b c : SeatView) → HasPut xs a b → HasPut ys b c → HasPut (xs ++ ys) a c
put_both xs ys a b c h n = record {
  same = n.same ∙ (ap (λ (s : SeatView). moved s c (s.seen ++ ys)) h.same ∙ ap (λ (l : List Write). moved a c l) (append_assoc a.seen xs ys));
}

-- the pieces up to one that is there
take_one : (xs : List Write) (k : ℕ) (x : Write) → slice_get xs k ≡ Some x → take (suc k) xs ≡ take k xs ++ x ∷ []
take_one [] k x e = absurd cc
take_one (y ∷ xs) zero x e = let same : y ≡ x = cc e in ap (λ (z : Write). z ∷ []) same
take_one (y ∷ xs) (suc k) x e = ap (λ (zs : List Write). y ∷ zs) (take_one xs k x e)

-- one piece more
pub put_next : (ws : List Write) (k : ℕ) (w : Write) (a b c : SeatView) → slice_get ws k ≡ Some w → HasPut (take k ws) a b → HasPut (w ∷ []) b c → HasPut (take (k + 1) ws) a c
put_next ws k w a b c at h n =
    let same : suc k ≡ k + 1 = omega arith in
    subst (λ (l : List Write). HasPut l a c) (sym (take_one ws k w at) ∙ ap (λ m. take m ws) same) (put_both (take k ws) (w ∷ []) a b c h n)

-- a seat in words of what changes of it where a call was cut off
abbrev cut : SeatView → SeatView → List Write → SeatView
cut s t seen = record s { seen = seen; faults = t.faults; worn = t.worn; pieces = t.pieces; end = t.end }

-- a beginning of nothing is nothing
pub no_front : (xs ys : List Write) → [] ≡ xs ++ ys → xs ≡ []
no_front [] ys e = refl
no_front (x ∷ xs) ys e = absurd cc

-- a fault is counted from before the pieces that were written
counts_after : (e : ImageError) (ws : List Write) (a b c : SeatView) → HasPut ws a b → Counts e b c → Counts e a c
counts_after Failed ws a b c h n =
    let faults = ap (λ (s : SeatView). s.faults) h.same in
    (subst (λ k. Rose k c.faults) faults n.0, subst (λ k. k ≤ c.faults) faults n.1, n.2)
counts_after OutOfMemory ws a b c h n = (n.0 ∙ ap (λ (s : SeatView). s.faults) h.same, n.1 ∙ ap (λ (s : SeatView). s.worn) h.same)

-- the pieces before this one were written, and this one was not
pub put_first : (ws : List Write) (k : ℕ) (e : ImageError) (a b c : SeatView) → HasPut (take k ws) a b → HasPutSome [] e b c → HasPutSome ws e a c
put_first ws k e a b c h n =
    let none : n.done ≡ [] = no_front n.done n.left n.split in record {
      done = take k ws;
      left = drop k ws;
      split = sym (take-append-drop k ws);
      same = n.same ∙ (ap (λ (s : SeatView). cut s c (s.seen ++ n.done)) h.same ∙ ap (λ (l : List Write). cut a c l) (ap (λ (l : List Write). (a.seen ++ take k ws) ++ l) none ∙ append-nil (a.seen ++ take k ws)));
      counts = counts_after e (take k ws) a b c h n.counts;
    }

-- the piece at a place, counted from another
get_behind : (ws : List Write) (f k : ℕ) → f ≤ k → slice_get (drop f ws) (k - f) ≡ slice_get ws k
get_behind ws zero k le = ap (slice_get ws) (let e : k - zero ≡ k = omega arith in e)
get_behind [] (suc f) k le = refl
get_behind (x ∷ ws) (suc f) zero le = absurd (omega (arith, le))
get_behind (x ∷ ws) (suc f) (suc k) le = ap (slice_get (drop f ws)) (let e : suc k - suc f ≡ k - f = omega arith in e) ∙ get_behind ws f k (omega (arith, le))

-- one piece more of those from a place on
pub put_next_from : (ws : List Write) (f k : ℕ) (w : Write) (a b c : SeatView) → f ≤ k → slice_get ws k ≡ Some w → HasPut (take (k - f) (drop f ws)) a b → HasPut (w ∷ []) b c → HasPut (take (k + 1 - f) (drop f ws)) a c
put_next_from ws f k w a b c le at h n =
    let same : k - f + 1 ≡ k + 1 - f = omega (arith, le) in
    subst (λ m. HasPut (take m (drop f ws)) a c) same (put_next (drop f ws) (k - f) w a b c (get_behind ws f k le ∙ at) h n)

-- a piece below the length is there
pub nothing_past : (ws : List Write) (k : ℕ) → slice_get ws k ≡ None → k < length ws → ⊥
nothing_past [] k e below = absurd (omega (arith, below))
nothing_past (x ∷ ws) zero e below = absurd cc
nothing_past (x ∷ ws) (suc k) e below = nothing_past ws k e (omega (arith, below))
