-- The runs of the log of a writer's lines.
use Rattle.std.proofs.Common.{◌≡◌, ◌≢◌, ◌⊎◌, ℕ, ◌+◌, ◌-◌, ◌<◌, ◌≤◌, ◌/◌, cond, List, [], ◌∷◌, ◌++◌, length, take, ℤ, sym, refl, ap, ◌∙◌, subst, inl, inr, arith, append_assoc, append-nil, length-append}
use Rattle.std.specs.Prelude.{map, nat_le, nat_lt, ◌==◌}
use Rattle.std.proofs.lemmas.Bool.{cases_lt, cond-false, cond-true, le-leb, lt-leb, lt-ltb, le-ltb, eq-eqb, ne_eqb}
use Rattle.std.proofs.lemmas.List.{length-take, map-append}
use Rattle.h5w_model.specs.Lawful.{Line, adds, flushes, Rules, rows_in, shows_up_to, ends, opens, refreshes, reads, looks}
use Rattle.h5w_model.specs.Logs.{Happening, Log, appended_in, appends, events_at, flushed_at, flushed_in, plans, shown}
use Rattle.h5w_model.specs.Logs as logs
use Rattle.h5w_model.specs.declared.piece.Write.{Write}
use Rattle.h5w_laws.proofs.LogLemmas.{div_rises, events_at_earlier, flushed_begins, take_nil}
use Rattle.h5w_stop.specs.Outcomes.{AreRuns}
use Rattle.h5w_stop.specs.Sweeps.{Appends, DoAll, Does, Flushes, Rest, flush_counts, found_at, line_counts, no_rows, outcome_of_run, rest_after}
use Rattle.h5w_reader_laws.specs.Showing.{showing}
use Rattle.h5w_stop.specs.declared.outcome.Outcome.{Outcome}
use Rattle.h5w_stop.specs.declared.outcome.Outcome.TheVariants.{NoFile, Rows}
use Rattle.h5w_stop.specs.declared.report.Run.{Run}
use Rattle.h5w_stop.proofs.RunLemmas.{begins_one, runs_longer, runs_same}
use Rattle.h5w_reader_laws.proofs.ShowingLemmas.{appended_showing, events_among, events_before, flushed_showing, shown_showing}

rows_one : (m n : ℕ) → ◌≡◌ {A = Outcome} (Rows m) (Rows n) → m ≡ n
rows_one m n e = cc

module _ (g : Rules) (log : Log) (none : log.values ≡ []) (columns : log.columns ≡ g.cutting.columns) where
  abbrev pub behind : List Happening → Log
  behind es = record log { events = es }

  abbrev pub found : List Happening → ℕ → Outcome
  found es = found_at (behind es)

  abbrev rows_flushed : ℕ → List Happening → ℕ
  rows_flushed j es = logs.rows_in log (flushed_in j log.values es)

  -- Behind these events the writer rests: all flushes are whole, so more pieces would bring no more rows.
  pub record AtRest (r : Rest) (es : List Happening) : Type 0 where
    pub appended : appended_in es ≡ r.appended
    pub flushed : (j : ℕ) → rows_flushed j es ≡ r.flushed
    pub begun : log.first ≤ shown es
    pub level : r.flushed ≤ rows_in g r.appended

  found_rows : (es : List Happening) (p n : ℕ) → log.first ≤ p → flushed_at (behind es) p ≡ n → found es p ≡ Rows n
  found_rows es p n begun is = cond-false (nat_lt p log.first) NoFile (Rows (flushed_at (behind es) p)) (le-ltb p log.first begun) ∙ ap Rows is

  rows_all : (es : List Happening) (vs : List ℤ) → appended_in es ≡ vs → logs.rows_in log (log.values ++ appended_in es) ≡ rows_in g vs
  rows_all es vs is = ap (λ (base : List ℤ). logs.rows_in log (base ++ appended_in es)) none ∙ ap (logs.rows_in log) is ∙ ap (λ c. length vs / c) columns

  -- ---- One line

  -- at rest
  found_now : (r : Rest) (es : List Happening) → AtRest r es → found es (shown es) ≡ Rows r.flushed
  found_now r es a = found_rows es (shown es) r.flushed a.begun (ap (λ (x : List Happening). rows_flushed 0 x) (events_now es) ∙ a.flushed 0)
    where
      events_now : (xs : List Happening) → events_at (shown xs) xs ≡ xs
      events_now xs = let e : shown xs ≡ shown xs + 0 = omega arith in ap (λ p. events_at p xs) e ∙ events_among 0 [] xs (omega arith)

  -- where an event and its pieces come behind others
  module _ (r : Rest) (es : List Happening) (rest : AtRest r es) (e : Happening) (same : shown (e ∷ es) ≡ shown es) (ws : List Write) where
    abbrev after : List Happening
    after = showing ws (e ∷ es)

    earlier : (p : ℕ) → p < shown es → found after p ≡ found es p
    earlier p less =
        ap (λ (xs : List Happening). cond (nat_lt p log.first) NoFile (Rows (rows_flushed 0 xs)))
        (events_before p ws (e ∷ es) (omega (arith, same, less)) ∙ events_at_earlier p e es (omega (arith, same, less)))

    among : (i n : ℕ) → i ≤ length ws → rows_flushed i (e ∷ es) ≡ n → found after (shown es + i) ≡ Rows n
    among i n low is =
        let place : shown es + i ≡ shown (e ∷ es) + i = omega (arith, same) in
        let there : events_at (shown es + i) after ≡ showing (take i ws) (e ∷ es) = ap (λ p. events_at p after) place ∙ events_among i ws (e ∷ es) low in
        let count : 0 + length (take i ws) ≡ i = (let l = length-take i ws in omega (arith, l, low)) in
        found_rows after (shown es + i) n (omega (arith, rest.begun))
        (ap (rows_flushed 0) there ∙ ap (logs.rows_in log) (flushed_showing 0 log.values (take i ws) (e ∷ es)) ∙ ap (λ j. rows_flushed j (e ∷ es)) count ∙ is)

    -- the last run goes on over the pieces that bring no row
    level : (k : ℕ) → k ≤ length ws → ((i : ℕ) → i ≤ k → rows_flushed i (e ∷ es) ≡ r.flushed) → (rs : List Run) (x : Run) → x.outcome ≡ Rows r.flushed
        → AreRuns (found es) 0 (shown es + 1) (rs ++ x ∷ []) → (s : Run) × (s.outcome ≡ x.outcome) × AreRuns (found after) 0 (shown es + 1 + k) (rs ++ s ∷ [])
    level k within flat rs x is runs =
        runs_longer (found after) k 0 (shown es + 1) rs x more (runs_same (found es) (found after) 0 (shown es + 1) (rs ++ x ∷ []) (λ q low high. now q (cases_lt q (shown es)) high) runs)
      where
        now : (q : ℕ) → (q < shown es) ⊎ (shown es ≤ q) → q < shown es + 1 → found es q ≡ found after q
        now q (inl before) high = sym (earlier q before)
        now q (inr behind_all) high =
            let here : q ≡ shown es = omega (arith, behind_all, high) in
            let here2 : shown es + 0 ≡ q = omega (arith, here) in
            ap (found es) here ∙ found_now r es rest ∙ sym (among 0 r.flushed (omega arith) (flat 0 (omega arith))) ∙ ap (found after) here2

        more : (q : ℕ) → shown es + 1 ≤ q → q < shown es + 1 + k → found after q ≡ x.outcome
        more q low high =
            let i : ℕ = q - shown es in
            let here : q ≡ shown es + i = omega (arith, low) in
            ap (found after) here ∙ among i r.flushed (omega (arith, low, high, within)) (flat i (omega (arith, low, high))) ∙ sym is

  -- ---- Rests

  rest_begun : (es : List Happening) → appended_in es ≡ [] → log.first ≤ shown es → AtRest no_rows es
  rest_begun es empty begun = record {
    appended = empty;
    flushed = λ j. nothing j;
    begun = begun;
    level = omega arith;
  }
    where
      nothing : (j : ℕ) → rows_flushed j es ≡ 0
      nothing j =
          let all : log.values ++ appended_in es ≡ [] = ap (λ (base : List ℤ). base ++ appended_in es) none ∙ empty in
          let is : flushed_in j log.values es ≡ [] =
          sym (flushed_begins j log.values es) ∙ ap (take (length (flushed_in j log.values es))) all ∙ take_nil (length (flushed_in j log.values es)) in
          let zero_rows : logs.rows_in log (flushed_in j log.values es) ≤ 0 = (let h = div_rises log.columns 0 0 (omega arith) in omega (arith, ap (logs.rows_in log) is)) in
          omega (arith, zero_rows)

  rest_adds : (r : Rest) (vs : List ℤ) (es : List Happening) (ws : List Write) → AtRest r es → AtRest (rest_after g r (adds vs)) (showing ws (appends vs ∷ es))
  rest_adds r vs es ws a = record {
    appended = appended_showing ws (appends vs ∷ es) ∙ ap (λ (xs : List ℤ). xs ++ vs) a.appended;
    flushed = λ j. ap (logs.rows_in log) (flushed_showing j log.values ws (appends vs ∷ es)) ∙ a.flushed (j + length ws);
    begun = omega (arith, a.begun, shown_showing ws (appends vs ∷ es));
    level = let more : length r.appended ≤ length (r.appended ++ vs) = omega (arith, length-append r.appended vs) in omega (arith, a.level, div_rises g.cutting.columns (length r.appended) (length (r.appended ++ vs)) more);
  }

  flushed_by : (r : Rest) (es : List Happening) (n i : ℕ) → AtRest r es → n ≤ i → rows_flushed i (plans n ∷ es) ≡ rows_in g r.appended
  flushed_by r es n i a low =
      ap (logs.rows_in log) (cond-true (nat_le n i) (log.values ++ appended_in es) (flushed_in i log.values es) (le-leb n i low)) ∙ rows_all es r.appended a.appended

  flushed_not : (r : Rest) (es : List Happening) (n i : ℕ) → AtRest r es → i < n → rows_flushed i (plans n ∷ es) ≡ r.flushed
  flushed_not r es n i a less =
      ap (logs.rows_in log) (cond-false (nat_le n i) (log.values ++ appended_in es) (flushed_in i log.values es) (lt-leb n i less)) ∙ a.flushed i

  rest_flushes : (r : Rest) (es : List Happening) (ws : List Write) → AtRest r es → AtRest (rest_after g r flushes) (showing ws (plans (length ws) ∷ es))
  rest_flushes r es ws a = record {
    appended = appended_showing ws (plans (length ws) ∷ es) ∙ a.appended;
    flushed = λ j. ap (logs.rows_in log) (flushed_showing j log.values ws (plans (length ws) ∷ es)) ∙ flushed_by r es (length ws) (j + length ws) a (omega arith);
    begun = omega (arith, a.begun, shown_showing ws (plans (length ws) ∷ es));
    level = omega arith;
  }

  -- ---- Lines

  -- The runs up to these events: the last one finds the rows that are flushed.
  pub record HasRuns (r : Rest) (es : List Happening) (counts : List Outcome) : Type 0 where
    pub closed : List Run
    pub last : Run
    pub runs : AreRuns (found es) 0 (shown es + 1) (closed ++ last ∷ [])
    pub now : last.outcome ≡ Rows r.flushed
    pub outcomes : map outcome_of_run (closed ++ last ∷ []) ≡ counts

  pushed : (rs : List Run) (x : Run) → map outcome_of_run (rs ++ x ∷ []) ≡ map outcome_of_run rs ++ x.outcome ∷ []
  pushed rs x = map-append outcome_of_run rs (x ∷ [])

  alike : (rs : List Run) (x s : Run) → s.outcome ≡ x.outcome → map outcome_of_run (rs ++ s ∷ []) ≡ map outcome_of_run (rs ++ x ∷ [])
  alike rs x s same = pushed rs s ∙ ap (λ o. map outcome_of_run rs ++ o ∷ []) same ∙ sym (pushed rs x)

  runs_adds : (r : Rest) (vs : List ℤ) (es after : List Happening) (counts : List Outcome) → AtRest r es → HasRuns r es counts → Appends vs es after
      → AtRest (rest_after g r (adds vs)) after × HasRuns (rest_after g r (adds vs)) after counts
  runs_adds r vs es after counts a h d =
      let ws = d.pieces in
      let long = level r es a (appends vs) refl ws (length ws) (omega arith) (λ i low. a.flushed i) h.closed h.last h.now h.runs in
      let end : shown es + 1 + length ws ≡ shown (showing ws (appends vs ∷ es)) + 1 = omega (arith, shown_showing ws (appends vs ∷ es)) in
      let new : HasRuns (rest_after g r (adds vs)) (showing ws (appends vs ∷ es)) counts = record {
        closed = h.closed;
        last = long.0;
        runs = subst (λ n. AreRuns (found (showing ws (appends vs ∷ es))) 0 n (h.closed ++ long.0 ∷ [])) end long.2;
        now = long.1 ∙ h.now;
        outcomes = alike h.closed h.last long.0 long.1 ∙ h.outcomes;
      } in
      subst (λ (xs : List Happening). AtRest (rest_after g r (adds vs)) xs × HasRuns (rest_after g r (adds vs)) xs counts) (sym d.is) (rest_adds r vs es ws a, new)

  -- a flush that adds no row
  runs_idle : (r : Rest) (es after : List Happening) (counts : List Outcome) → AtRest r es → HasRuns r es counts → Flushes g r es after → r.flushed ≡ rows_in g r.appended
      → HasRuns (rest_after g r flushes) after counts
  runs_idle r es after counts a h d equal =
      let is : after ≡ plans 0 ∷ es = d.is ∙ ap (λ (ws : List Write). showing ws (plans (length ws) ∷ es)) (d.none equal) in
      let long = level r es a (plans 0) refl [] 0 (omega arith) (λ i low. flushed_by r es 0 i a (omega arith) ∙ sym equal) h.closed h.last h.now h.runs in
      let end : shown es + 1 + 0 ≡ shown es + 1 = omega arith in
      subst (λ (xs : List Happening). HasRuns (rest_after g r flushes) xs counts) (sym is) (record {
        closed = h.closed;
        last = long.0;
        runs = subst (λ n. AreRuns (found (plans 0 ∷ es)) 0 n (h.closed ++ long.0 ∷ [])) end long.2;
        now = long.1 ∙ h.now ∙ ap Rows equal;
        outcomes = alike h.closed h.last long.0 long.1 ∙ h.outcomes;
      })

  -- a flush that adds rows
  runs_rising : (r : Rest) (es after : List Happening) (counts : List Outcome) → AtRest r es → HasRuns r es counts → Flushes g r es after → r.flushed < rows_in g r.appended
      → HasRuns (rest_after g r flushes) after (counts ++ Rows (rows_in g r.appended) ∷ [])
  runs_rising r es after counts a h d less =
      let ws = d.pieces in
      let some = d.some less in
      let k : ℕ = length ws - 1 in
      let all : List Happening = showing ws (plans (length ws) ∷ es) in
      let long = level r es a (plans (length ws)) refl ws k (omega arith) (λ i low. flushed_not r es (length ws) i a (omega (arith, low, some))) h.closed h.last h.now h.runs in
      let rows : ℕ = rows_in g r.appended in
      let at_last : ℕ = shown es + 1 + k in
      let place : shown es + length ws ≡ at_last = omega (arith, some) in
      let here : found all at_last ≡ Rows rows =
      ap (found all) (sym place) ∙ among r es a (plans (length ws)) refl ws (length ws) rows (omega arith) (flushed_by r es (length ws) (length ws) a (omega arith)) in
      let other : long.0.outcome ≢ Rows rows = λ same. (let e : r.flushed ≡ rows = rows_one r.flushed rows (sym h.now ∙ sym long.1 ∙ same) in omega (arith, e, less)) in
      let run : Run = record { outcome = Rows rows; first = at_last; last = at_last } in
      let more = begins_one (found all) 0 at_last h.closed long.0 (Rows rows) here other long.2 in
      let end : at_last + 1 ≡ shown all + 1 = omega (arith, some, shown_showing ws (plans (length ws) ∷ es)) in
      subst (λ (xs : List Happening). HasRuns (rest_after g r flushes) xs (counts ++ Rows rows ∷ [])) (sym d.is) (record {
        closed = h.closed ++ long.0 ∷ [];
        last = run;
        runs = subst (λ n. AreRuns (found all) 0 n ((h.closed ++ long.0 ∷ []) ++ run ∷ [])) end more;
        now = refl;
        outcomes = pushed (h.closed ++ long.0 ∷ []) run ∙ ap (λ (xs : List Outcome). xs ++ Rows rows ∷ []) (alike h.closed h.last long.0 long.1 ∙ h.outcomes);
      })

  runs_flushes : (r : Rest) (es after : List Happening) (counts : List Outcome) → AtRest r es → HasRuns r es counts → Flushes g r es after
      → AtRest (rest_after g r flushes) after × HasRuns (rest_after g r flushes) after (counts ++ map Rows (line_counts g r flushes))
  runs_flushes r es after counts a h d = (
    subst (λ (xs : List Happening). AtRest (rest_after g r flushes) xs) (sym d.is) (rest_flushes r es d.pieces a),
    go (cases_lt r.flushed (rows_in g r.appended)),
  )
    where
      go : (r.flushed < rows_in g r.appended) ⊎ (rows_in g r.appended ≤ r.flushed) → HasRuns (rest_after g r flushes) after (counts ++ map Rows (line_counts g r flushes))
      go (inl less) =
          let other : rows_in g r.appended ≢ r.flushed = λ e. omega (arith, e, less) in
          subst (λ (ns : List ℕ). HasRuns (rest_after g r flushes) after (counts ++ map Rows ns))
          (sym (cond-false (rows_in g r.appended == r.flushed) [] (rows_in g r.appended ∷ []) (ne_eqb (rows_in g r.appended) r.flushed other)))
          (runs_rising r es after counts a h d less)
      go (inr high) =
          let equal : r.flushed ≡ rows_in g r.appended = omega (arith, high, a.level) in
          subst (λ (ns : List ℕ). HasRuns (rest_after g r flushes) after (counts ++ map Rows ns))
          (sym (cond-true (rows_in g r.appended == r.flushed) [] (rows_in g r.appended ∷ []) (eq-eqb (rows_in g r.appended) r.flushed (sym equal))))
          (subst (HasRuns (rest_after g r flushes) after) (sym (append-nil counts)) (runs_idle r es after counts a h d equal))

  runs_line : (r : Rest) (line : Line) (es after : List Happening) (counts : List Outcome) → AtRest r es → HasRuns r es counts → Does g r line es after
      → AtRest (rest_after g r line) after × HasRuns (rest_after g r line) after (counts ++ map Rows (line_counts g r line))
  runs_line r (adds vs) es ending counts a h d =
      let x = runs_adds r vs es ending counts a h d in (x.0, subst (HasRuns (rest_after g r (adds vs)) ending) (sym (append-nil counts)) x.1)
  runs_line r flushes es ending counts a h d = runs_flushes r es ending counts a h d
  runs_line r (shows_up_to k) es ending counts a h d = absurd d
  runs_line r ends es ending counts a h d = absurd d
  runs_line r (opens n) es ending counts a h d = absurd d
  runs_line r (refreshes n) es ending counts a h d = absurd d
  runs_line r (reads n from count) es ending counts a h d = absurd d
  runs_line r (looks n k) es ending counts a h d = absurd d

  -- The runs behind some lines, one after another.
  pub record Counted (es : List Happening) (counts : List Outcome) : Type 0 where
    pub report : List Run
    pub runs : AreRuns (found es) 0 (shown es + 1) report
    pub outcomes : map outcome_of_run report ≡ counts

  runs_lines : (r : Rest) (lines : List Line) (es after : List Happening) (counts : List Outcome) → AtRest r es → HasRuns r es counts → DoAll g r lines es after
      → Counted after (counts ++ map Rows (flush_counts g r lines))
  runs_lines r [] es ending counts a h d =
      subst (λ (xs : List Happening). Counted xs (counts ++ [])) (sym d) (record { report = h.closed ++ h.last ∷ []; runs = h.runs; outcomes = h.outcomes ∙ sym (append-nil counts) })
  runs_lines r (line ∷ lines) es ending counts a h d =
      let x = runs_line r line es d.0 counts a h d.1 in
      let y = runs_lines (rest_after g r line) lines d.0 ending (counts ++ map Rows (line_counts g r line)) x.0 x.1 d.2 in
      let e : (counts ++ map Rows (line_counts g r line)) ++ map Rows (flush_counts g (rest_after g r line) lines) ≡ counts ++ map Rows (flush_counts g r (line ∷ lines)) =
      append_assoc counts (map Rows (line_counts g r line)) (map Rows (flush_counts g (rest_after g r line) lines))
      ∙ ap (λ (xs : List Outcome). counts ++ xs) (sym (map-append Rows (line_counts g r line) (flush_counts g (rest_after g r line) lines))) in
      subst (Counted ending) e y

  -- ---- From the creation on

  module _ (es : List Happening) (empty : appended_in es ≡ []) (there : shown es ≡ log.first) (some : 1 ≤ log.first) where
    before : (p : ℕ) → p < log.first → found es p ≡ NoFile
    before p less = cond-true (nat_lt p log.first) NoFile (Rows (flushed_at (behind es) p)) (lt-ltb p log.first less)

    created_runs : HasRuns no_rows es (NoFile ∷ Rows 0 ∷ [])
    created_runs =
        let a = rest_begun es empty (omega (arith, there)) in
        let first : Run = record { outcome = NoFile; first = 0; last = log.first - 1 } in
        let second : Run = record { outcome = Rows 0; first = log.first; last = log.first } in
        let now : found es log.first ≡ Rows 0 = ap (found es) (sym there) ∙ found_now no_rows es a in
        let follows : log.first - 1 + 1 ≡ log.first = omega (arith, some) in
        record {
          closed = first ∷ [];
          last = second;
          runs = (
            record { begins = refl; some = omega arith; same = λ p low high. before p (omega (arith, high, some)) },
            (λ same. cc),
            (
              record {
                begins = sym follows;
                some = omega (arith, follows);
                same = λ p low high. (let here : p ≡ log.first = omega (arith, low, high, follows) in ap (found es) here ∙ now);
              },
              tt,
              (omega (arith, there)),
            ),
          );
          now = refl;
          outcomes = refl;
        }

    pub counted : (lines : List Line) (after : List Happening) → DoAll g no_rows lines es after → Counted after (NoFile ∷ Rows 0 ∷ map Rows (flush_counts g no_rows lines))
    counted lines after d = runs_lines no_rows lines es after (NoFile ∷ Rows 0 ∷ []) (rest_begun es empty (omega (arith, there))) created_runs d
