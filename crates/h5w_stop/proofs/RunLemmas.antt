-- Runs to which one more position is added.
use Rattle.std.proofs.Common.{◌≡◌, ◌≢◌, ◌⊎◌, ℕ, zero, suc, ◌+◌, ◌≤◌, ◌<◌, List, [], ◌∷◌, ◌++◌, inl, inr, sym, refl, ap, ◌∙◌, subst, arith}
use Rattle.std.proofs.lemmas.Bool.{cases_lt}
use Rattle.h5w_stop.specs.Outcomes.{AreRuns, IsRun, Turns}
use Rattle.h5w_stop.specs.declared.outcome.Outcome.{Outcome}
use Rattle.h5w_stop.specs.declared.report.Run.{Run}

turns_on : (o : Outcome) (rs : List Run) (r : Run) (e : ℕ) → Turns o (rs ++ r ∷ []) → Turns o (rs ++ record r { last = e } ∷ [])
turns_on o [] r e h = h
turns_on o (x ∷ rs) r e h = h

turns_more : (o : Outcome) (rs : List Run) (r s : Run) → Turns o (rs ++ r ∷ []) → Turns o ((rs ++ r ∷ []) ++ s ∷ [])
turns_more o [] r s h = h
turns_more o (x ∷ rs) r s h = h

module _ (at : ℕ → Outcome) where
  longer : (p e : ℕ) (r : Run) → IsRun at p r → r.last + 1 ≡ e → at e ≡ r.outcome → (q : ℕ) → p ≤ q → q ≤ e → (q < e) ⊎ (e ≤ q) → at q ≡ r.outcome
  longer p e r run end same q low high (inl before) = run.same q low (omega (arith, end, before))
  longer p e r run end same q low high (inr behind) = let is : q ≡ e = omega (arith, high, behind) in ap at is ∙ same

  -- the last run goes on
  pub goes_on : (p e : ℕ) (rs : List Run) (r : Run) → at e ≡ r.outcome → AreRuns at p e (rs ++ r ∷ []) → AreRuns at p (e + 1) (rs ++ record r { last = e } ∷ [])
  goes_on p e [] r same h = (
    record {
      begins = h.0.begins;
      some = omega (arith, h.0.some, h.2);
      same = λ q low high. longer p e r h.0 h.2 same q low high (cases_lt q e);
    },
    tt,
    refl,
  )
  goes_on p e (x ∷ rs) r same h = (h.0, turns_on x.outcome rs r e h.1, goes_on (x.last + 1) e rs r same h.2)

  alone : (e : ℕ) (o : Outcome) → at e ≡ o → IsRun at e (record { outcome = o; first = e; last = e })
  alone e o is = record {
    begins = refl;
    some = omega arith;
    same = λ q low high. let here : q ≡ e = omega (arith, low, high) in ap at here ∙ is;
  }

  -- the first run
  pub first_run : (o : Outcome) → at 0 ≡ o → AreRuns at 0 1 (record { outcome = o; first = 0; last = 0 } ∷ [])
  first_run o is = (alone 0 o is, tt, refl)

  -- another run begins behind the last one
  pub begins_one : (p e : ℕ) (rs : List Run) (r : Run) (o : Outcome) → at e ≡ o → r.outcome ≢ o → AreRuns at p e (rs ++ r ∷ [])
      → AreRuns at p (e + 1) ((rs ++ r ∷ []) ++ record { outcome = o; first = e; last = e } ∷ [])
  begins_one p e [] r o is other h = (h.0, (λ same. other (sym same)), (next, tt, refl))
    where
      next : IsRun at (r.last + 1) (record { outcome = o; first = e; last = e })
      next = record {
        begins = sym h.2;
        some = omega (arith, h.2);
        same = λ q low high. let here : q ≡ e = omega (arith, low, high, h.2) in ap at here ∙ is;
      }
  begins_one p e (x ∷ rs) r o is other h = (h.0, turns_more x.outcome rs r (record { outcome = o; first = e; last = e }) h.1, begins_one (x.last + 1) e rs r o is other h.2)

  -- ---- Runs as a whole

  -- they reach their end
  pub runs_reach : (p e : ℕ) (rs : List Run) → AreRuns at p e rs → p ≤ e
  runs_reach p e [] h = omega (arith, h)
  runs_reach p e (r ∷ rs) h = omega (arith, h.0.some, runs_reach (r.last + 1) e rs h.2)

  -- the last one goes on for some more positions
  pub runs_longer : (k p e : ℕ) (rs : List Run) (r : Run) → ((q : ℕ) → e ≤ q → q < e + k → at q ≡ r.outcome) → AreRuns at p e (rs ++ r ∷ [])
      → (s : Run) × (s.outcome ≡ r.outcome) × AreRuns at p (e + k) (rs ++ s ∷ [])
  runs_longer zero p e rs r same h = let none : e ≡ e + 0 = omega arith in (r, refl, subst (λ x. AreRuns at p x (rs ++ r ∷ [])) none h)
  runs_longer (suc k) p e rs r same h =
      let before = runs_longer k p e rs r (λ q low high. same q low (omega (arith, high))) h in
      let here : at (e + k) ≡ before.0.outcome = same (e + k) (omega arith) (omega arith) ∙ sym before.1 in
      let more : e + k + 1 ≡ e + suc k = omega arith in (
        record (before.0) { last = e + k },
        before.1,
        subst (λ x. AreRuns at p x (rs ++ record (before.0) { last = e + k } ∷ [])) more (goes_on p (e + k) rs before.0 here before.2),
      )

  -- a run that ends before another with its outcome, which begins with it, is followed by one that does not turn
  no_sooner : (p e : ℕ) (r s : Run) (rs : List Run) → IsRun at p s → r.outcome ≡ s.outcome → p ≤ r.last → r.last < s.last → s.last + 1 ≤ e → Turns r.outcome rs → AreRuns at (r.last + 1) e rs → ⊥
  no_sooner p e r s [] run same some less reach turns end = absurd (omega (arith, less, reach, end))
  no_sooner p e r s (x ∷ rs) run same some less reach turns h =
      turns (sym (h.0.same (r.last + 1) (omega arith) h.0.some) ∙ run.same (r.last + 1) (omega (arith, some)) (omega (arith, less)) ∙ sym same)

  same_last : (p e : ℕ) (r s : Run) (rs ss : List Run) → r.outcome ≡ s.outcome → AreRuns at p e (r ∷ rs) → AreRuns at p e (s ∷ ss) → (r.last < s.last) ⊎ (s.last ≤ r.last) → (s.last < r.last) ⊎ (r.last ≤ s.last) → r.last ≡ s.last
  same_last p e r s rs ss same h k (inl less) other = absurd (no_sooner p e r s rs k.0 same h.0.some less (runs_reach (s.last + 1) e ss k.2) h.1 h.2)
  same_last p e r s rs ss same h k (inr low) (inl less) = absurd (no_sooner p e s r ss h.0 (sym same) k.0.some less (runs_reach (r.last + 1) e rs h.2) k.1 k.2)
  same_last p e r s rs ss same h k (inr low) (inr high) = omega (arith, low, high)

  -- there is one list of them
  pub one_list : (p e : ℕ) (rs ss : List Run) → AreRuns at p e rs → AreRuns at p e ss → rs ≡ ss
  one_list p e [] [] h k = refl
  one_list p e [] (s ∷ ss) h k = absurd (omega (arith, h, k.0.some, runs_reach (s.last + 1) e ss k.2))
  one_list p e (r ∷ rs) [] h k = absurd (omega (arith, k, h.0.some, runs_reach (r.last + 1) e rs h.2))
  one_list p e (r ∷ rs) (s ∷ ss) h k =
      let outcome : r.outcome ≡ s.outcome = sym (h.0.same p (omega arith) h.0.some) ∙ k.0.same p (omega arith) k.0.some in
      let first : r.first ≡ s.first = h.0.begins ∙ sym k.0.begins in
      let last : r.last ≡ s.last = same_last p e r s rs ss outcome h k (cases_lt r.last s.last) (cases_lt s.last r.last) in
      let run : r ≡ s = λ i. record { outcome = outcome i; first = first i; last = last i } in
      ap (λ (x : Run). x ∷ rs) run ∙ ap (λ (xs : List Run). s ∷ xs) (one_list (s.last + 1) e rs ss (subst (λ n. AreRuns at (n + 1) e rs) last h.2) k.2)

-- where two things have the same outcomes they have the same runs
pub runs_same : (at by : ℕ → Outcome) (p e : ℕ) (rs : List Run) → ((q : ℕ) → p ≤ q → q < e → at q ≡ by q) → AreRuns at p e rs → AreRuns by p e rs
runs_same at by p e [] same h = h
runs_same at by p e (r ∷ rs) same h =
    let reach = runs_reach at (r.last + 1) e rs h.2 in (
      record {
        begins = h.0.begins;
        some = h.0.some;
        same = λ q low high. sym (same q low (omega (arith, high, reach))) ∙ h.0.same q low high;
      },
      h.1,
      runs_same at by (r.last + 1) e rs (λ q low high. same q (omega (arith, low, h.0.some)) high) h.2,
    )
