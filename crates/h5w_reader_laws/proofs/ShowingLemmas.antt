-- The events before a position, where pieces became visible one after another.
use Rattle.std.proofs.Common.{◌≡◌, ℕ, zero, suc, ◌+◌, ◌≤◌, List, [], ◌∷◌, ◌++◌, length, take, ℤ, sym, refl, ap, ◌∙◌, arith, append_assoc, append-nil}
use Rattle.h5w_model.specs.Logs.{Happening, appended_in, events_at, flushed_in, hist, shown, shows}
use Rattle.h5w_model.specs.declared.piece.Write.{Write}
use Rattle.h5w_laws.proofs.LogLemmas.{events_at_earlier, events_at_now}
use Rattle.h5w_reader_laws.specs.Showing.{showing}

pub shown_showing : (ws : List Write) (es : List Happening) → shown (showing ws es) ≡ shown es + length ws
shown_showing [] es = omega arith
shown_showing (w ∷ ws) es = omega (arith, shown_showing ws (shows w ∷ es))

pub hist_showing : (ws : List Write) (es : List Happening) → hist (showing ws es) ≡ hist es ++ ws
hist_showing [] es = sym (append-nil (hist es))
hist_showing (w ∷ ws) es = hist_showing ws (shows w ∷ es) ∙ append_assoc (hist es) (w ∷ []) ws

pub appended_showing : (ws : List Write) (es : List Happening) → appended_in (showing ws es) ≡ appended_in es
appended_showing [] es = refl
appended_showing (w ∷ ws) es = appended_showing ws (shows w ∷ es)

-- behind no more pieces than were shown before
pub events_before : (p : ℕ) (ws : List Write) (es : List Happening) → p ≤ shown es → events_at p (showing ws es) ≡ events_at p es
events_before p [] es low = refl
events_before p (w ∷ ws) es low = events_before p ws (shows w ∷ es) (omega (arith, low)) ∙ events_at_earlier p (shows w) es (omega (arith, low))

-- behind so many of the pieces
pub events_among : (i : ℕ) (ws : List Write) (es : List Happening) → i ≤ length ws → events_at (shown es + i) (showing ws es) ≡ showing (take i ws) es
events_among zero ws es low = events_before (shown es + 0) ws es (omega arith) ∙ events_at_now (shown es + 0) es (omega arith)
events_among (suc i) [] es low = absurd (omega (arith, low))
events_among (suc i) (w ∷ ws) es low =
    let e : shown es + suc i ≡ shown es + 1 + i = omega arith in
    ap (λ p. events_at p (showing ws (shows w ∷ es))) e ∙ events_among i ws (shows w ∷ es) (omega (arith, low))

pub flushed_showing : (j : ℕ) (base : List ℤ) (ws : List Write) (es : List Happening) → flushed_in j base (showing ws es) ≡ flushed_in (j + length ws) base es
flushed_showing j base [] es = ap (λ n. flushed_in n base es) (let e : j ≡ j + 0 = omega arith in e)
flushed_showing j base (w ∷ ws) es =
    flushed_showing j base ws (shows w ∷ es) ∙ ap (λ n. flushed_in n base es) (let e : j + length ws + 1 ≡ j + length (w ∷ ws) = omega arith in e)
