-- What holds of every log.
use Rattle.std.proofs.Common.{◌≡◌, ℕ, zero, suc, ◌+◌, ◌*◌, ◌/◌, ◌<◌, ◌≤◌, min, cond, List, [], ◌∷◌, ◌++◌, length, take, refl, sym, ◌∙◌, ap, subst, arith, length-take}
use Rattle.std.specs.Prelude.{ℤ, nat_le}
use Rattle.std.proofs.Math.Nat.{div-zero, div-mul-le_self}
use Rattle.std.proofs.lemmas.Nat.{le-div}
use Rattle.std.proofs.lemmas.Bool.{cond_both, cond-true, cond-false, leb-true, leb-false, le-leb, lt-leb}
use Rattle.std.proofs.lemmas.List.{append_assoc, take_all, take_at, take-append-le, length_push}
use Rattle.h5w_model.specs.Images.{image}
use Rattle.h5w_model.specs.Logs.{Log, Happening, appends, plans, shows, hist, shown, appended_in, flushed_in, events_at, appended, flushed, flushed_at, first_rows, at_position, and_now}
use Rattle.h5w_model.specs.Prefixed.{image_at, ReadsNow, EachReads}
use Rattle.h5w_model.specs.Tables.{Reads}
use Rattle.h5w_model.specs.Findings.{Valid}
use Rattle.h5w_laws.specs.Logs.{PositionLaws, FlushedLaws, EachGivesPrefixed}

-- ---- Positions

pub length_hist : (es : List Happening) → length (hist es) ≡ shown es
length_hist [] = refl
length_hist (appends vs ∷ es) = length_hist es
length_hist (plans k ∷ es) = length_hist es
length_hist (shows w ∷ es) = length_push (hist es) w ∙ ap (λ n. n + 1) (length_hist es)

pub take_nil : {A : Type 0} (n : ℕ) → ◌≡◌ {A = List A} (take n []) []
take_nil zero = refl
take_nil (suc n) = refl

-- an event after the next piece adds none of the first ones
pub hist_before : (p : ℕ) (e : Happening) (es : List Happening) → p < shown (e ∷ es) → take p (hist (e ∷ es)) ≡ take p (hist es)
hist_before p (appends vs) es h = refl
hist_before p (plans k) es h = refl
hist_before p (shows w) es h = take-append-le p (hist es) (w ∷ []) (omega (arith, length_hist es))

pub hist_events_at : (p : ℕ) (es : List Happening) → hist (events_at p es) ≡ take p (hist es)
hist_events_at p [] = sym (take_nil p)
hist_events_at p (e ∷ es) =
    cond_both (nat_le (shown (e ∷ es)) p) (e ∷ es) (events_at p es) (λ (xs : List Happening). hist xs ≡ take p (hist (e ∷ es)))
    (λ t. sym (take_all p (hist (e ∷ es)) (omega (arith, length_hist (e ∷ es), leb-true (shown (e ∷ es)) p t))))
    (λ t. hist_events_at p es ∙ sym (hist_before p e es (leb-false (shown (e ∷ es)) p t)))

pub shown_events_at : (p : ℕ) (es : List Happening) → shown (events_at p es) ≡ min p (shown es)
shown_events_at p es =
    sym (length_hist (events_at p es)) ∙ ap length (hist_events_at p es) ∙ length-take p (hist es) ∙ ap (min p) (length_hist es)

pub events_at_now : (p : ℕ) (es : List Happening) → shown es ≤ p → events_at p es ≡ es
events_at_now p [] h = refl
events_at_now p (e ∷ es) h = cond-true (nat_le (shown (e ∷ es)) p) (e ∷ es) (events_at p es) (le-leb (shown (e ∷ es)) p h)

pub events_at_earlier : (p : ℕ) (e : Happening) (es : List Happening) → p < shown (e ∷ es) → events_at p (e ∷ es) ≡ events_at p es
events_at_earlier p e es h = cond-false (nat_le (shown (e ∷ es)) p) (e ∷ es) (events_at p es) (lt-leb (shown (e ∷ es)) p h)

pub image_earlier : (e : Happening) (log : Log) (p : ℕ) → p ≤ shown log.events → image_at (and_now e log) p ≡ image_at log p
image_earlier (appends vs) log p h = refl
image_earlier (plans k) log p h = refl
image_earlier (shows w) log p h =
    ap (image log.start) (take-append-le p (hist log.events) (w ∷ []) (omega (arith, length_hist log.events)))

pub position_laws : PositionLaws
position_laws = record {
  counted = length_hist;
  pieces = λ log p. hist_events_at p log.events;
  now = λ log p h. ap (λ (es : List Happening). record log { events = es }) (events_at_now p log.events h);
  earlier = λ e log p h. ap (λ (es : List Happening). record log { events = es }) (events_at_earlier p e log.events h);
  images = image_earlier;
}

-- ---- What is flushed

-- a list that begins another begins what goes on with it
pub begins_longer : {A : Type 0} (front all more : List A) → take (length front) all ≡ front → take (length front) (all ++ more) ≡ front
begins_longer front all more h =
    let l : min (length front) (length all) ≡ length front = sym (length-take (length front) all) ∙ ap length h in
    take-append-le (length front) all more (omega arith) ∙ h

pub begins_within : {A : Type 0} (front all : List A) → take (length front) all ≡ front → length front ≤ length all
begins_within front all h =
    let l : min (length front) (length all) ≡ length front = sym (length-take (length front) all) ∙ ap length h in
    omega arith

pub flushed_begins : (n : ℕ) (base : List ℤ) (es : List Happening) → take (length (flushed_in n base es)) (base ++ appended_in es) ≡ flushed_in n base es
flushed_begins n base [] = take_at base [] (length base) refl
flushed_begins n base (appends vs ∷ es) =
    ap (take (length (flushed_in n base es))) (sym (append_assoc base (appended_in es) vs))
    ∙ begins_longer (flushed_in n base es) (base ++ appended_in es) vs (flushed_begins n base es)
flushed_begins n base (plans k ∷ es) =
    cond_both (nat_le k n) (base ++ appended_in es) (flushed_in n base es) (λ (xs : List ℤ). take (length xs) (base ++ appended_in es) ≡ xs)
    (λ t. take_all (length (base ++ appended_in es)) (base ++ appended_in es) (omega arith))
    (λ t. flushed_begins n base es)
flushed_begins n base (shows w ∷ es) = flushed_begins (n + 1) base es

-- what begins what some events append begins what these and one more append
pub begins_more : (front base : List ℤ) (e : Happening) (es : List Happening) → take (length front) (base ++ appended_in es) ≡ front → take (length front) (base ++ appended_in (e ∷ es)) ≡ front
begins_more front base (appends vs) es h =
    ap (take (length front)) (sym (append_assoc base (appended_in es) vs)) ∙ begins_longer front (base ++ appended_in es) vs h
begins_more front base (plans k) es h = h
begins_more front base (shows w) es h = h

pub flushed_begins_at : (p : ℕ) (base : List ℤ) (es : List Happening)
    → take (length (flushed_in 0 base (events_at p es))) (base ++ appended_in es) ≡ flushed_in 0 base (events_at p es)
flushed_begins_at p base [] = flushed_begins 0 base []
flushed_begins_at p base (e ∷ es) =
    cond_both (nat_le (shown (e ∷ es)) p) (e ∷ es) (events_at p es)
    (λ (xs : List Happening). take (length (flushed_in 0 base xs)) (base ++ appended_in (e ∷ es)) ≡ flushed_in 0 base xs)
    (λ t. flushed_begins 0 base (e ∷ es))
    (λ t. begins_more (flushed_in 0 base (events_at p es)) base e es (flushed_begins_at p base es))

-- with more pieces behind it no flush is less complete
pub rises_behind : (n m : ℕ) (base : List ℤ) (es : List Happening) → n ≤ m → length (flushed_in n base es) ≤ length (flushed_in m base es)
rises_behind n m base [] h = omega arith
rises_behind n m base (appends vs ∷ es) h = rises_behind n m base es h
rises_behind n m base (plans k ∷ es) h =
    let all : List ℤ = base ++ appended_in es in
    let under : length (flushed_in n base es) ≤ length all = begins_within (flushed_in n base es) all (flushed_begins n base es) in
    cond_both (nat_le k n) all (flushed_in n base es) (λ (xs : List ℤ). length xs ≤ length (cond (nat_le k m) all (flushed_in m base es)))
    (λ t.
    let e : cond (nat_le k m) all (flushed_in m base es) ≡ all = cond-true (nat_le k m) all (flushed_in m base es) (le-leb k m (omega (arith, leb-true k n t))) in
    omega (arith, ap length e))
    (λ t.
    cond_both (nat_le k m) all (flushed_in m base es) (λ (xs : List ℤ). length (flushed_in n base es) ≤ length xs)
    (λ s. under)
    (λ s. rises_behind n m base es h))
rises_behind n m base (shows w ∷ es) h = rises_behind (n + 1) (m + 1) base es (omega arith)

pub flushed_grows : (base : List ℤ) (e : Happening) (es : List Happening) → length (flushed_in 0 base es) ≤ length (flushed_in 0 base (e ∷ es))
flushed_grows base (appends vs) es = omega arith
flushed_grows base (plans k) es =
    cond_both (nat_le k 0) (base ++ appended_in es) (flushed_in 0 base es) (λ (xs : List ℤ). length (flushed_in 0 base es) ≤ length xs)
    (λ t. begins_within (flushed_in 0 base es) (base ++ appended_in es) (flushed_begins 0 base es))
    (λ t. omega arith)
flushed_grows base (shows w) es = rises_behind 0 1 base es (omega arith)

pub flushed_under : (p : ℕ) (base : List ℤ) (es : List Happening) → length (flushed_in 0 base (events_at p es)) ≤ length (flushed_in 0 base es)
flushed_under p base [] = omega arith
flushed_under p base (e ∷ es) =
    cond_both (nat_le (shown (e ∷ es)) p) (e ∷ es) (events_at p es) (λ (xs : List Happening). length (flushed_in 0 base xs) ≤ length (flushed_in 0 base (e ∷ es)))
    (λ t. omega arith)
    (λ t. omega (arith, flushed_under p base es, flushed_grows base e es))

pub flushed_rises : (p q : ℕ) (base : List ℤ) (es : List Happening) → p ≤ q → length (flushed_in 0 base (events_at p es)) ≤ length (flushed_in 0 base (events_at q es))
flushed_rises p q base [] h = omega arith
flushed_rises p q base (e ∷ es) h =
    cond_both (nat_le (shown (e ∷ es)) q) (e ∷ es) (events_at q es) (λ (xs : List Happening). length (flushed_in 0 base (events_at p (e ∷ es))) ≤ length (flushed_in 0 base xs))
    (λ t. flushed_under p base (e ∷ es))
    (λ t.
    let earlier : events_at p (e ∷ es) ≡ events_at p es = events_at_earlier p e es (omega (arith, leb-false (shown (e ∷ es)) q t)) in
    omega (arith, ap (λ (xs : List Happening). length (flushed_in 0 base xs)) earlier, flushed_rises p q base es h))

-- more values are not fewer rows
pub div_rises : (c m n : ℕ) → m ≤ n → m / c ≤ n / c
div_rises zero m n h = omega (arith, div-zero m)
div_rises (suc c) m n h = le-div (m / suc c) n (suc c) (omega arith) (omega (arith, div-mul-le_self m (suc c)))

pub flushed_laws : FlushedLaws
flushed_laws = record {
  begins = λ log. flushed_begins 0 log.values log.events;
  begins_at = λ log p. flushed_begins_at p log.values log.events;
  longer = λ log p q h. flushed_rises p q log.values log.events h;
  rises = λ log p q h.
      div_rises log.columns (length (flushed (at_position log p))) (length (flushed (at_position log q))) (flushed_rises p q log.values log.events h);
  grows = λ e log. flushed_grows log.values e log.events;
}

-- ---- From events to positions

pub each_at : (name : List ℕ) (log : Log) (p : ℕ) (es : List Happening) → EachReads name log es → log.first ≤ shown (events_at p es) → ReadsNow name (record log { events = events_at p es })
each_at name log p [] h reached = h reached
each_at name log p (e ∷ es) h reached =
    cond_both (nat_le (shown (e ∷ es)) p) (e ∷ es) (events_at p es) (λ (xs : List Happening). log.first ≤ shown xs → ReadsNow name (record log { events = xs }))
    (λ t. h.0)
    (λ t. each_at name log p es h.1)
    reached

-- where an image reads as the flushed values, these are the first rows, as many as are flushed
pub rows_begin : {img name : List ℕ} (log : Log) (p : ℕ) → Reads img name (flushed_at log p) log.columns (flushed (at_position log p))
    → first_rows log (flushed_at log p) ≡ flushed (at_position log p)
rows_begin log p reads =
    let whole : length (flushed (at_position log p)) ≡ flushed_at log p * log.columns =
    reads.count ∙ ap (λ n. n * reads.shown.dataset.shape.cols) reads.rows_are ∙ ap (λ n. flushed_at log p * n) reads.columns_are in
    ap (λ n. take n (appended log)) (sym whole) ∙ flushed_begins_at p log.values log.events

pub each_gives_prefixed : EachGivesPrefixed
each_gives_prefixed name log h p position =
    let there : log.first ≤ shown (events_at p log.events) = omega (arith, position.begun, position.reached, shown_events_at p log.events, length_hist log.events) in
    let now = each_at name log p log.events h there in
    let i : image log.start (hist (events_at p log.events)) ≡ image_at log p = ap (image log.start) (hist_events_at p log.events) in
    record {
      summary = now.summary;
      valid = subst (λ (img : List ℕ). Valid img name now.summary) i now.valid;
      reads = subst (λ (vs : List ℤ). Reads (image_at log p) name (flushed_at log p) log.columns vs) (sym (rows_begin log p now.reads))
          (subst (λ (img : List ℕ). Reads img name (flushed_at log p) log.columns (flushed (at_position log p))) i now.reads);
    }
