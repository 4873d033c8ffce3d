-- One more event of a log.
use Rattle.std.proofs.Common.{◌≡◌, ℕ, zero, suc, ◌+◌, ◌<◌, ◌≤◌, List, [], ◌∷◌, ◌++◌, length, refl, sym, ◌∙◌, subst, inl, inr, arith}
use Rattle.std.specs.Prelude.{slice_get}
use Rattle.std.proofs.lemmas.Bool.{cases_lt}
use Rattle.h5w_model.specs.Logs.{Log, Happening, appends, plans, shows, hist, shown, and_now}
use Rattle.h5w_model.specs.Tables.{Shows, format_limits}
use Rattle.h5w_model.specs.Prefixed.{image_at, EachReads, Stays, MissesBehind, StillAt, Still}
use Rattle.h5w_model.specs.declared.piece.Write.{Write}
use Rattle.h5w_laws.specs.Logs.{EventLaws}
use Rattle.h5w_laws.proofs.LogLemmas.{length_hist, image_earlier}

-- what is said of earlier events is said of them in a longer log
pub each_kept : (name : List ℕ) (e : Happening) (log : Log) (es : List Happening) → EachReads name log es → EachReads name (and_now e log) es
each_kept name e log [] h = h
each_kept name e log (x ∷ es) h = (h.0, each_kept name e log es h.1)

-- a piece of two logs, with the same images up to behind it
pub still_alike : (name : List ℕ) (old new : Log) (k : ℕ) → old.first ≡ new.first → ((p : ℕ) → p ≤ k + 1 → image_at new p ≡ image_at old p)
    → slice_get (hist new.events) k ≡ slice_get (hist old.events) k → StillAt name old k → StillAt name new k
still_alike name old new k first same piece still = record {
  steps = λ r s shows_r shows_s.
      let here = same k (omega arith) in
      let there = same (k + 1) (omega arith) in
      let stays = still.steps r s (subst (λ (i : List ℕ). Shows format_limits i name r) here shows_r) (subst (λ (i : List ℕ). Shows format_limits i name s) there shows_s) in
      subst (λ (i : List ℕ). Stays i r (image_at new (k + 1)) s) (sym here) (subst (λ (i : List ℕ). Stays (image_at old k) r i s) (sym there) stays);
  misses = λ w p r s is begun below shows_r shows_s rows.
      let at_p = same p (omega arith) in
      let here = same k (omega arith) in
      subst (λ (i : List ℕ). MissesBehind w i r) (sym at_p)
      (still.misses w p r s (sym piece ∙ is) (omega arith) below (subst (λ (i : List ℕ). Shows format_limits i name r) at_p shows_r)
      (subst (λ (i : List ℕ). Shows format_limits i name s) here shows_s) rows);
}

pub still_more : (name : List ℕ) (e : Happening) (log : Log) → shown (e ∷ log.events) ≡ shown log.events → Still name log → Still name (and_now e log)
still_more name (appends vs) log same still k begun below = still_alike name log (and_now (appends vs) log) k refl (λ p h. refl) refl (still k begun below)
still_more name (plans n) log same still k begun below = still_alike name log (and_now (plans n) log) k refl (λ p h. refl) refl (still k begun below)
still_more name (shows w) log same still k begun below = absurd (omega arith)

pub slice_before : (ws : List Write) (w : Write) (k : ℕ) → k < length ws → slice_get (ws ++ w ∷ []) k ≡ slice_get ws k
slice_before [] w k h = absurd (omega arith)
slice_before (x ∷ ws) w zero h = refl
slice_before (x ∷ ws) w (suc k) h = slice_before ws w k (omega arith)

pub still_piece : (name : List ℕ) (w : Write) (log : Log) → Still name log → (log.first ≤ shown log.events → StillAt name (and_now (shows w) log) (shown log.events))
    → Still name (and_now (shows w) log)
still_piece name w log still last k begun below =
    let count : length (hist log.events) ≡ shown log.events = length_hist log.events in
    elim (cases_lt k (shown log.events)) [
      | inl earlier ↦
          still_alike name log (and_now (shows w) log) k refl (λ p h. image_earlier (shows w) log p (omega arith)) (slice_before (hist log.events) w k (omega arith))
          (still k begun (omega arith))
      | inr now ↦
          let e : shown log.events ≡ k = omega (arith, length_hist (shows w ∷ log.events)) in
          subst (λ n. StillAt name (and_now (shows w) log) n) e (last (omega arith))
    ]

pub event_laws : EventLaws
event_laws = record {
  prefixed = λ name e log h now. (now, each_kept name e log log.events h);
  still = still_more;
  still_piece = still_piece;
}
