-- What an open finds at each position of a writer's log, and the runs of it.
use Rattle.std.proofs.Common.{◌≡◌, ◌≢◌, ◌⊎◌, ℕ, ◌+◌, ◌<◌, ◌≤◌, List, [], ◌∷◌, length, take, Ok, Err, sym, ap, ◌∙◌, subst, inl, inr, arith}
use Rattle.std.specs.Prelude.{map, nat_lt}
use Rattle.std.specs.List.{All}
use Rattle.std.proofs.lemmas.Bool.{cases_lt, cond-false, cond-true, lt-ltb, le-ltb}
use Rattle.std.proofs.lemmas.List.Elements.{All-cons, All-nil}
use Rattle.h5w_model.specs.Images.{image}
use Rattle.h5w_model.specs.Lawful.{Line, Rules}
use Rattle.h5w_model.specs.Logs.{Happening, Log, appended_in, flushed_at, hist, shown}
use Rattle.h5w_model.specs.Prefixed.{Prefixed}
use Rattle.h5w_model.specs.Programs.{eval}
use Rattle.h5w_model.specs.Tables.{format_limits, reading}
use Rattle.h5w_model.specs.declared.refusal.ReadError.TheVariants.{NotHdf5}
use Rattle.h5w_laws.proofs.LogLemmas.{length_hist}
use Rattle.h5w_stop.specs.Outcomes.{AreRuns, outcome_at, outcome_of}
use Rattle.h5w_stop.specs.Sweeps.{DoAll, flush_counts, found_at, no_rows, outcome_of_run}
use Rattle.h5w_stop.specs.declared.outcome.Outcome.TheVariants.{NoFile, Rows, Refused}
use Rattle.h5w_stop.specs.declared.report.Run.{Run}
use Rattle.h5w_stop.proofs.RunLemmas.{one_list, runs_same}
use Rattle.h5w_stop.proofs.CountLemmas.{counted}

-- before the first superblock an open finds no file in the pieces so far
abbrev pub IsUnborn : List ℕ → Log → Type 0
IsUnborn name log = (p : ℕ) → p < log.first → eval (image [] (take p (hist log.events))) (reading format_limits name) ≡ Err NotHdf5

module _ (name : List ℕ) (log : Log) (empty : log.start ≡ []) (prefixed : Prefixed name log) (unborn : IsUnborn name log) where
  -- at each position just what is flushed there
  pub found_there : (p : ℕ) → p ≤ length (hist log.events) → outcome_at (hist log.events) name p ≡ found_at log p
  found_there p reached = go (cases_lt p log.first)
    where
      go : (p < log.first) ⊎ (log.first ≤ p) → outcome_at (hist log.events) name p ≡ found_at log p
      go (inl before) = ap outcome_of (unborn p before) ∙ sym (cond-true (nat_lt p log.first) NoFile (Rows (flushed_at log p)) (lt-ltb p log.first before))
      go (inr begun) =
          let reads = (prefixed p (record { begun = begun; reached = reached })).reads in
          let start : image log.start (take p (hist log.events)) ≡ image [] (take p (hist log.events)) = ap (λ (b : List ℕ). image b (take p (hist log.events))) empty in
          let shows : eval (image [] (take p (hist log.events))) (reading format_limits name) ≡ Ok reads.shown = ap (λ (b : List ℕ). eval b (reading format_limits name)) (sym start) ∙ reads.shows in
          ap outcome_of shows ∙ ap Rows reads.rows_are ∙ sym (cond-false (nat_lt p log.first) NoFile (Rows (flushed_at log p)) (le-ltb p log.first begun))

  -- the runs of a sweep are those
  pub runs_found : (runs : List Run) → AreRuns (outcome_at (hist log.events) name) 0 (length (hist log.events) + 1) runs → AreRuns (found_at log) 0 (length (hist log.events) + 1) runs
  runs_found runs h =
      runs_same (outcome_at (hist log.events) name) (found_at log) 0 (length (hist log.events) + 1) runs (λ p low high. found_there p (omega (arith, high))) h

found_known : (log : Log) (p : ℕ) → found_at log p ≢ Refused
found_known log p = go (cases_lt p log.first)
  where
    go : (p < log.first) ⊎ (log.first ≤ p) → found_at log p ≢ Refused
    go (inl before) same = let clash : NoFile ≡ Refused = sym (cond-true (nat_lt p log.first) NoFile (Rows (flushed_at log p)) (lt-ltb p log.first before)) ∙ same in cc
    go (inr begun) same = let clash : Rows (flushed_at log p) ≡ Refused = sym (cond-false (nat_lt p log.first) NoFile (Rows (flushed_at log p)) (le-ltb p log.first begun)) ∙ same in cc

-- none of them is another refusal
pub none_refused : (log : Log) (p e : ℕ) (runs : List Run) → AreRuns (found_at log) p e runs → All (λ (run : Run). run.outcome ≢ Refused) runs
none_refused log p e [] h = All-nil (λ (run : Run). run.outcome ≢ Refused)
none_refused log p e (run ∷ runs) h =
    All-cons (λ (run : Run). run.outcome ≢ Refused) run runs (λ same. found_known log p (h.0.same p (omega arith) h.0.some ∙ same)) (none_refused log (run.last + 1) e runs h.2)

-- Over the log of a session that created its file, and did these lines: one run without a file, one without rows, and one for each flush
-- that adds some.
pub outcomes_found : (g : Rules) (log : Log) (begun : List Happening) (lines : List Line) (runs : List Run) → log.values ≡ [] → log.columns ≡ g.cutting.columns → appended_in begun ≡ [] → shown begun ≡ log.first → 1 ≤ log.first
    → DoAll g no_rows lines begun log.events → AreRuns (found_at log) 0 (length (hist log.events) + 1) runs → map outcome_of_run runs ≡ NoFile ∷ Rows 0 ∷ map Rows (flush_counts g no_rows lines)
outcomes_found g log begun lines runs none columns nothing there some done h =
    let c = counted g log none columns begun nothing there some lines log.events done in
    let count : length (hist log.events) ≡ shown log.events = length_hist log.events in
    let here : AreRuns (found_at log) 0 (shown log.events + 1) runs = subst (λ n. AreRuns (found_at log) 0 (n + 1) runs) count h in
    ap (map outcome_of_run) (one_list (found_at log) 0 (shown log.events + 1) runs c.report here c.runs) ∙ c.outcomes
