-- What a takeover leaves of a log.
use Rattle.std.proofs.Common.{◌≡◌, ℕ, ◌+◌, ◌/◌, ◌≤◌, Bool, true, false, List, [], ◌∷◌, ◌++◌, length, take, Some, refl, sym, ◌∙◌, ap, subst, arith, append-nil}
use Rattle.std.specs.Prelude.{nat_le, if◌then◌else◌, slice_get, ℤ}
use Rattle.std.proofs.lemmas.Bool.{cond_both, cond-true, cond-false, le-leb, leb-true, leb-false}
use Rattle.h5w_model.specs.Images.{image}
use Rattle.h5w_model.specs.Logs.{Log, Happening, appends, plans, shows, hist, shown, appended_in, flushed_in, events_at}
use Rattle.h5w_model.specs.Tables.{Reads, Shows, format_limits}
use Rattle.h5w_model.specs.Findings.{Valid}
use Rattle.h5w_model.specs.Prefixed.{image_at, EachReads, MissesBehind, ReadsNow, Stays, Still, StillAt}
use Rattle.h5w_model.specs.declared.piece.Write.{Write}
use Rattle.h5w_laws.proofs.LogLemmas.{events_at_now}
use Rattle.h5w_step_laws.specs.Moments.{Represents}
use Rattle.h5w_step_laws.specs.Logs.{image_now}
use Rattle.h5w_step_laws.proofs.GoesLemmas.{moved_past}
use Rattle.h5w_step_laws.proofs.SessionLaws.{lt-leb-false}
use Rattle.h5w_model.specs.Several.{settled, settled_log}
use Rattle.h5w_several_laws.specs.Settled.{SettledGoes, SettledLaws}

-- ---- Pieces

pub settled_pieces : (n : ℕ) (es : List Happening) → hist (settled n es) ≡ hist es
settled_pieces n [] = refl
settled_pieces n (appends vs ∷ es) = settled_pieces n es
settled_pieces n (plans k ∷ es) = cond_both (nat_le k n) (plans k ∷ es) (settled n es) (λ (xs : List Happening). hist xs ≡ hist es) (λ t. refl) (λ t. settled_pieces n es)
settled_pieces n (shows w ∷ es) = ap (λ (ws : List Write). ws ++ w ∷ []) (settled_pieces (n + 1) es)

pub settled_shown : (n : ℕ) (es : List Happening) → shown (settled n es) ≡ shown es
settled_shown n [] = refl
settled_shown n (appends vs ∷ es) = settled_shown n es
settled_shown n (plans k ∷ es) = cond_both (nat_le k n) (plans k ∷ es) (settled n es) (λ (xs : List Happening). shown xs ≡ shown es) (λ t. refl) (λ t. settled_shown n es)
settled_shown n (shows w ∷ es) = ap (λ (k : ℕ). k + 1) (settled_shown (n + 1) es)

-- ---- Rows

appended_choice : (b : Bool) (k n : ℕ) (base : List ℤ) (es : List Happening) → base ++ appended_in (settled n es) ≡ flushed_in n base es
    → base ++ appended_in (if b then plans k ∷ es else settled n es) ≡ (if b then base ++ appended_in es else flushed_in n base es)
appended_choice true k n base es h = refl
appended_choice false k n base es h = h

settled_appended : (n : ℕ) (base : List ℤ) (es : List Happening) → base ++ appended_in (settled n es) ≡ flushed_in n base es
settled_appended n base [] = append-nil base
settled_appended n base (appends vs ∷ es) = settled_appended n base es
settled_appended n base (plans k ∷ es) = appended_choice (nat_le k n) k n base es (settled_appended n base es)
settled_appended n base (shows w ∷ es) = settled_appended (n + 1) base es

-- with fewer pieces behind it than now, the same
pub settled_fewer : (m n : ℕ) (base : List ℤ) (es : List Happening) → m ≤ n → flushed_in m base (settled n es) ≡ flushed_in m base es
settled_fewer m n base [] h = refl
settled_fewer m n base (appends vs ∷ es) h = settled_fewer m n base es h
settled_fewer m n base (plans k ∷ es) h =
    cond_both (nat_le k n) (plans k ∷ es) (settled n es) (λ (xs : List Happening). flushed_in m base xs ≡ flushed_in m base (plans k ∷ es)) (λ t. refl)
    (λ t. settled_fewer m n base es h ∙ sym (cond-false (nat_le k m) (base ++ appended_in es) (flushed_in m base es) (lt-leb-false k m (omega (arith, h, leb-false k n t)))))
settled_fewer m n base (shows w ∷ es) h = settled_fewer (m + 1) (n + 1) base es (omega (arith, h))

-- with more, what was flushed at the takeover
pub settled_later : (m n : ℕ) (base : List ℤ) (es : List Happening) → n ≤ m → flushed_in m base (settled n es) ≡ flushed_in n base es
settled_later m n base [] h = refl
settled_later m n base (appends vs ∷ es) h = settled_later m n base es h
settled_later m n base (plans k ∷ es) h =
    cond_both (nat_le k n) (plans k ∷ es) (settled n es) (λ (xs : List Happening). flushed_in m base xs ≡ flushed_in n base (plans k ∷ es))
    (λ t.
    cond-true (nat_le k m) (base ++ appended_in es) (flushed_in m base es) (le-leb k m (omega (arith, h, leb-true k n t)))
    ∙ sym (cond-true (nat_le k n) (base ++ appended_in es) (flushed_in n base es) t))
    (λ t. settled_later m n base es h ∙ sym (cond-false (nat_le k n) (base ++ appended_in es) (flushed_in n base es) t))
settled_later m n base (shows w ∷ es) h = settled_later (m + 1) (n + 1) base es (omega (arith, h))

-- ---- Positions

at_choice : (c b : Bool) (w : Write) (p n : ℕ) (base : List ℤ) (es : List Happening) → c ≡ b → flushed_in 1 base (settled (n + 1) es) ≡ flushed_in 1 base es
    → flushed_in 0 base (events_at p (settled (n + 1) es)) ≡ flushed_in 0 base (events_at p es)
    → flushed_in 0 base (if c then shows w ∷ settled (n + 1) es else events_at p (settled (n + 1) es)) ≡ flushed_in 0 base (if b then shows w ∷ es else events_at p es)
at_choice true true w p n base es e now before = now
at_choice false false w p n base es e now before = before
at_choice true false w p n base es e now before = absurd cc
at_choice false true w p n base es e now before = absurd cc

pub settled_at : (p n : ℕ) (base : List ℤ) (es : List Happening) → flushed_in 0 base (events_at p (settled n es)) ≡ flushed_in 0 base (events_at p es)
settled_at p n base [] = refl
settled_at p n base (appends vs ∷ es) =
    cond_both (nat_le (shown es) p) (appends vs ∷ es) (events_at p es) (λ (xs : List Happening). flushed_in 0 base (events_at p (settled n es)) ≡ flushed_in 0 base xs)
    (λ t. ap (flushed_in 0 base) (events_at_now p (settled n es) (omega (arith, settled_shown n es, leb-true (shown es) p t))) ∙ settled_fewer 0 n base es (omega arith))
    (λ t. settled_at p n base es)
settled_at p n base (plans k ∷ es) =
    cond_both (nat_le k n) (plans k ∷ es) (settled n es) (λ (ys : List Happening). flushed_in 0 base (events_at p ys) ≡ flushed_in 0 base (events_at p (plans k ∷ es))) (λ t. refl)
    (λ t.
    cond_both (nat_le (shown es) p) (plans k ∷ es) (events_at p es) (λ (xs : List Happening). flushed_in 0 base (events_at p (settled n es)) ≡ flushed_in 0 base xs)
    (λ s.
    ap (flushed_in 0 base) (events_at_now p (settled n es) (omega (arith, settled_shown n es, leb-true (shown es) p s)))
    ∙ settled_fewer 0 n base es (omega arith)
    ∙ sym (cond-false (nat_le k 0) (base ++ appended_in es) (flushed_in 0 base es) (lt-leb-false k 0 (omega (arith, leb-false k n t)))))
    (λ s. settled_at p n base es))
settled_at p n base (shows w ∷ es) =
    at_choice (nat_le (shown (settled (n + 1) es) + 1) p) (nat_le (shown es + 1) p) w p n base es (ap (λ (k : ℕ). nat_le (k + 1) p) (settled_shown (n + 1) es)) (settled_fewer 1 (n + 1) base es (omega arith))
    (settled_at p (n + 1) base es)

pub settled_laws : SettledLaws
settled_laws = record {
  pieces = settled_pieces;
  appended = settled_appended;
  later = settled_later;
  positions = λ log p. settled_at p 0 log.values log.events;
}

-- ---- What holds after each event

reads_moved : (name : List ℕ) (log : Log) (es fs : List Happening) → hist fs ≡ hist es → flushed_in 0 log.values fs ≡ flushed_in 0 log.values es → ReadsNow name (record log { events = es }) → ReadsNow name (record log { events = fs })
reads_moved name log es fs same values r = record {
  summary = r.summary;
  valid = subst (λ (h : List Write). Valid (image log.start h) name r.summary) (sym same) r.valid;
  reads =
      subst (λ (vs : List ℤ). Reads (image log.start (hist fs)) name (length vs / log.columns) log.columns vs) (sym values)
      (subst (λ (h : List Write). Reads (image log.start h) name (length (flushed_in 0 log.values es) / log.columns) log.columns (flushed_in 0 log.values es)) (sym same) r.reads);
}

settled_reads : (name : List ℕ) (log : Log) (n : ℕ) (es : List Happening) → EachReads name log es → EachReads name log (settled n es)
settled_reads name log n [] h = h
settled_reads name log n (appends vs ∷ es) h = settled_reads name log n es h.1
settled_reads name log n (plans k ∷ es) h = cond_both (nat_le k n) (plans k ∷ es) (settled n es) (λ (xs : List Happening). EachReads name log xs) (λ t. h) (λ t. settled_reads name log n es h.1)
settled_reads name log n (shows w ∷ es) h = (
  λ low.
      reads_moved name log (shows w ∷ es) (shows w ∷ settled (n + 1) es) (ap (λ (ws : List Write). ws ++ w ∷ []) (settled_pieces (n + 1) es)) (settled_fewer 1 (n + 1) log.values es (omega arith))
      (h.0 (omega (arith, low, settled_shown (n + 1) es))),
  settled_reads name log (n + 1) es h.1,
)

-- ---- What holds of pieces

module _ (name : List ℕ) (log : Log) where
  images : (p : ℕ) → image_at (settled_log log) p ≡ image_at log p
  images p = ap (λ (h : List Write). image log.start (take p h)) (settled_pieces 0 log.events)

  settled_still_at : (k : ℕ) → StillAt name log k → StillAt name (settled_log log) k
  settled_still_at k st = record {
    steps = λ r s a b.
        subst (λ (i : List ℕ). Stays i r (image_at (settled_log log) (k + 1)) s) (sym (images k))
        (subst (λ (i : List ℕ). Stays (image_at log k) r i s) (sym (images (k + 1)))
        (st.steps r s (subst (λ (i : List ℕ). Shows format_limits i name r) (images k) a) (subst (λ (i : List ℕ). Shows format_limits i name s) (images (k + 1)) b)));
    misses = λ w p r s found begun low a b rows.
        subst (λ (i : List ℕ). MissesBehind w i r) (sym (images p))
        (st.misses w p r s (subst (λ (h : List Write). slice_get h k ≡ Some w) (settled_pieces 0 log.events) found) begun low
        (subst (λ (i : List ℕ). Shows format_limits i name r) (images p) a) (subst (λ (i : List ℕ). Shows format_limits i name s) (images k) b) rows);
  }

  settled_still : Still name log → Still name (settled_log log)
  settled_still st k first low = settled_still_at k (st k first (omega (arith, low, ap length (settled_pieces 0 log.events))))

  now_same : image_now (settled_log log) ≡ image_now log
  now_same = ap (λ (h : List Write). image log.start h) (settled_pieces 0 log.events)

pub settled_goes : SettledGoes
settled_goes name log m held g =
    let begun = g.begun in
    record {
      goes = record {
        begun = omega (arith, begun, settled_shown 0 log.events);
        now = subst (λ (i : List ℕ). Represents i name m) (sym (now_same name log)) g.now;
        values = g.values ∙ sym (settled_later 0 0 log.values log.events (omega arith));
        some_columns = g.some_columns;
        columns = g.columns;
        reaches = g.reaches;
        past = λ p r low high shows_r.
            let past = g.past p r low (omega (arith, high, settled_shown 0 log.events)) (subst (λ (i : List ℕ). Shows format_limits i name r) (images name log p) shows_r) in
            moved_past (settled_log log) p m held r (image_at log p) (images name log p) past.rows past.reached;
        off_front = g.off_front;
        ends = g.ends;
        some = g.some;
        clear = g.clear;
        prefixed = settled_reads name log 0 log.events g.prefixed;
        still = settled_still name log g.still;
      };
      flushed = λ k. settled_later k 0 log.values log.events (omega arith) ∙ sym g.values;
    }
