-- What is flushed at the positions of a batch's pieces.
use Rattle.std.proofs.Common.{◌≡◌, ◌⊎◌, ℕ, ◌+◌, ◌-◌, ◌/◌, ◌<◌, ◌≤◌, List, [], ◌∷◌, ◌++◌, length, take, ℤ, sym, refl, ap, ◌∙◌, arith, inl, inr}
use Rattle.std.specs.Prelude.{nat_le}
use Rattle.std.proofs.lemmas.Bool.{cases_lt, cond-false, lt-leb, cond-true, le-leb}
use Rattle.std.proofs.lemmas.List.{length-take}
use Rattle.h5w_model.specs.Agrees.{FlushesAgree, rows_after}
use Rattle.h5w_model.specs.Logs.{Happening, Log, appended, appended_in, appends, events_at, flushed, flushed_at, flushed_in, hist, plans, rows_in, shown}
use Rattle.h5w_model.specs.declared.piece.Write.{Write}
use Rattle.h5w_model.specs.declared.report.FlushLine.{FlushLine}
use Rattle.h5w_laws.proofs.LogLemmas.{events_at_earlier, flushed_begins, length_hist, rises_behind}
use Rattle.h5w_live_laws.specs.Lines.{pieces_in, rows_told}
use Rattle.h5w_reader_laws.specs.Showing.{showing}
use Rattle.h5w_reader_laws.proofs.ShowingLemmas.{events_among, events_before, flushed_showing, shown_showing}

-- ---- Rows

-- where all values are flushed they are so behind more pieces
pub flushed_level : (j : ℕ) (base : List ℤ) (es : List Happening) (n : ℕ) → length (flushed_in 0 base es) ≡ n → length (base ++ appended_in es) ≡ n → length (flushed_in j base es) ≡ n
flushed_level j base es n low high =
    let under : length (flushed_in j base es) ≤ length (base ++ appended_in es) =
    (let l = length-take (length (flushed_in j base es)) (base ++ appended_in es) in omega (arith, l, ap length (flushed_begins j base es))) in
    omega (arith, rises_behind 0 j base es (omega arith), low, high, under)

-- where all of it is flushed that was appended before some values, which a plan takes behind what was written of them early
module _ (log : Log) (early ws : List Write) (vs : List ℤ) (n r : ℕ) (rows : n / log.columns ≡ r) (low : length (flushed log) ≡ n) (high : length (appended log) ≡ n) where
  -- behind the early pieces, and behind all
  abbrev pub behind : List Happening
  behind = showing early (appends vs ∷ log.events)

  abbrev pub whole : List Happening
  whole = showing ws (plans (length ws) ∷ behind)

  abbrev pub after_all : Log
  after_all = record log { events = whole }

  shown_behind : shown behind ≡ shown log.events + length early
  shown_behind = shown_showing early (appends vs ∷ log.events)

  rows_are : (es : List Happening) (i : ℕ) → flushed_in 0 log.values es ≡ flushed_in i log.values log.events → rows_in log (flushed_in 0 log.values es) ≡ r
  rows_are es i e = ap (λ k. k / log.columns) (ap length e ∙ flushed_level i log.values log.events n low high) ∙ rows

  -- among the pieces of the plan, but for the last
  among : (i : ℕ) → i < length ws → flushed_at after_all (shown behind + i) ≡ r
  among i less =
      let there : events_at (shown behind + i) whole ≡ showing (take i ws) (plans (length ws) ∷ behind) = events_among i ws (plans (length ws) ∷ behind) (omega (arith, less)) in
      let k : 0 + length (take i ws) ≡ i = (let l = length-take i ws in omega (arith, l, less)) in
      let skip : flushed_in i log.values (plans (length ws) ∷ behind) ≡ flushed_in i log.values behind =
      cond-false (nat_le (length ws) i) (log.values ++ appended_in behind) (flushed_in i log.values behind) (lt-leb (length ws) i less) in
      rows_are (events_at (shown behind + i) whole) (i + length early)
      (ap (flushed_in 0 log.values) there ∙ flushed_showing 0 log.values (take i ws) (plans (length ws) ∷ behind)
      ∙ ap (λ m. flushed_in m log.values (plans (length ws) ∷ behind)) k ∙ skip ∙ flushed_showing i log.values early (appends vs ∷ log.events))

  -- before them
  before_plan : (p : ℕ) → p < shown behind → events_at p whole ≡ events_at p behind
  before_plan p less = events_before p ws (plans (length ws) ∷ behind) (omega (arith, less)) ∙ events_at_earlier p (plans (length ws)) behind less

  -- among the early pieces
  among_early : (i : ℕ) → i < length early → flushed_at after_all (shown log.events + i) ≡ r
  among_early i less =
      let there : events_at (shown log.events + i) behind ≡ showing (take i early) (appends vs ∷ log.events) = events_among i early (appends vs ∷ log.events) (omega (arith, less)) in
      rows_are (events_at (shown log.events + i) whole) (0 + length (take i early))
      (ap (flushed_in 0 log.values) (before_plan (shown log.events + i) (omega (arith, less, shown_behind)) ∙ there)
      ∙ flushed_showing 0 log.values (take i early) (appends vs ∷ log.events))

  -- before these
  earlier : (p : ℕ) → p < shown log.events → flushed_at after_all p ≡ flushed_at log p
  earlier p less =
      ap (λ es. rows_in log (flushed_in 0 log.values es))
      (before_plan p (omega (arith, less, shown_behind))
      ∙ events_before p early (appends vs ∷ log.events) (omega (arith, less))
      ∙ events_at_earlier p (appends vs) log.events less)

-- ---- Lines

-- pieces rise from line to line
pub pieces_rise : (columns pieces rows : ℕ) (bs : List (List ℤ)) (fs : List FlushLine) → FlushesAgree columns pieces rows bs fs → pieces ≤ pieces_in pieces fs
pieces_rise columns pieces rows [] [] h = omega arith
pieces_rise columns pieces rows [] (f ∷ fs) h = absurd h
pieces_rise columns pieces rows ([] ∷ bs) fs h = pieces_rise columns pieces rows bs fs h
pieces_rise columns pieces rows ((v ∷ vs) ∷ bs) [] h = omega arith
pieces_rise columns pieces rows ((v ∷ vs) ∷ bs) (f ∷ fs) h = omega (arith, h.0, pieces_rise columns f.pieces f.rows bs fs h.2)

-- behind the last line all rows are told
pub rows_all : (columns pieces rows before p : ℕ) (bs : List (List ℤ)) (fs : List FlushLine) → FlushesAgree columns pieces rows bs fs → pieces_in pieces fs ≤ p → rows_after before p fs ≡ rows_told before fs
rows_all columns pieces rows before p [] [] h low = refl
rows_all columns pieces rows before p [] (f ∷ fs) h low = absurd h
rows_all columns pieces rows before p ([] ∷ bs) fs h low = rows_all columns pieces rows before p bs fs h low
rows_all columns pieces rows before p ((v ∷ vs) ∷ bs) [] h low = refl
rows_all columns pieces rows before p ((v ∷ vs) ∷ bs) (f ∷ fs) h low =
    let here : f.pieces ≤ p = omega (arith, pieces_rise columns f.pieces f.rows bs fs h.2, low) in
    ap (λ b. rows_after b p fs) (cond-true (nat_le f.pieces p) f.rows before (le-leb f.pieces p here)) ∙ rows_all columns f.pieces f.rows f.rows p bs fs h.2 low

pub pieces_last : (before : ℕ) (fs : List FlushLine) (f : FlushLine) → pieces_in before (fs ++ f ∷ []) ≡ f.pieces
pieces_last before [] f = refl
pieces_last before (g ∷ gs) f = pieces_last g.pieces gs f

pub rows_last : (before : ℕ) (fs : List FlushLine) (f : FlushLine) → rows_told before (fs ++ f ∷ []) ≡ f.rows
rows_last before [] f = refl
rows_last before (g ∷ gs) f = rows_last g.rows gs f

-- ---- All positions before the last piece

pub before_last : (log : Log) (early ws : List Write) (vs : List ℤ) (n r : ℕ) (fs : List FlushLine) → n / log.columns ≡ r → length (flushed log) ≡ n → length (appended log) ≡ n
    → ((p : ℕ) → p ≤ length (hist log.events) → flushed_at log p ≡ rows_after 0 p fs) → ((p : ℕ) → length (hist log.events) ≤ p → rows_after 0 p fs ≡ r)
    → (p : ℕ) → p < length (hist log.events) + (length early + length ws)
    → flushed_at (record log { events = showing ws (plans (length ws) ∷ showing early (appends vs ∷ log.events)) }) p ≡ rows_after 0 p fs
before_last log early ws vs n r fs rows low high tells told p less = go (cases_lt p (shown log.events)) (cases_lt p (shown (showing early (appends vs ∷ log.events)))) where
  new : Log
  new = record log { events = showing ws (plans (length ws) ∷ showing early (appends vs ∷ log.events)) }

  count : length (hist log.events) ≡ shown log.events
  count = length_hist log.events

  more : shown (showing early (appends vs ∷ log.events)) ≡ shown log.events + length early
  more = shown_behind log early ws vs n r rows low high

  go : (p < shown log.events) ⊎ (shown log.events ≤ p) → (p < shown (showing early (appends vs ∷ log.events))) ⊎ (shown (showing early (appends vs ∷ log.events)) ≤ p) → flushed_at new p ≡ rows_after 0 p fs
  go (inl x) y = earlier log early ws vs n r rows low high p x ∙ tells p (omega (arith, count, x))
  go (inr x) (inl y) =
      let i : ℕ = p - shown log.events in
      let e : p ≡ shown log.events + i = omega (arith, x) in
      ap (flushed_at new) e ∙ among_early log early ws vs n r rows low high i (omega (arith, x, y, more)) ∙ sym (told p (omega (arith, count, x)))
  go (inr x) (inr y) =
      let i : ℕ = p - shown (showing early (appends vs ∷ log.events)) in
      let e : p ≡ shown (showing early (appends vs ∷ log.events)) + i = omega (arith, y) in
      ap (flushed_at new) e ∙ among log early ws vs n r rows low high i (omega (arith, less, count, more, y)) ∙ sym (told p (omega (arith, count, x)))
