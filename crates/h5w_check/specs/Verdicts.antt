-- The verdict on a file, as it is answered.
use Rattle.std.specs.Prelude.{◌≡◌, ◌<◌, ◌-◌, ◌++◌, ◌==◌, not, filter, count_by, sum_by, ℕ, List, [], ◌∷◌, Some, None, Result, Ok, Err}
use Rattle.h5w_model.specs.Programs.{eval}
use Rattle.h5w_model.specs.Datasets.{then_also}
use Rattle.h5w_model.specs.Tables.{each_of, format_limits}
use Rattle.h5w_model.specs.declared.root.Super.{Super}
use Rattle.h5w_model.specs.Findings.{AllSummary, Finding, Used, found, overlap, by_place, overlap_of, the_superblock, checked_names, checked_part}
use Rattle.h5w_check.specs.Roots.{names_after, parts_after}
use Rattle.h5w_check.specs.declared.ranges.Range.{Range}
use Rattle.h5w_check.specs.declared.error.Summary.{Summary}
use Rattle.h5w_check.specs.declared.error.CheckError.{CheckError}
use Rattle.h5w_check.specs.declared.error.CheckError.TheVariants as errors

-- the ranges of each place are the same, in the same order
abbrev pub HaveSameOrder : List Range → List Range → Type 0
HaveSameOrder rs qs = (k : ℕ) → filter (λ (r : Range). r.place == k) rs ≡ filter (λ (r : Range). r.place == k) qs

-- each begins before a place
abbrev pub AllBelow : ℕ → List Range → Type 0
AllBelow top [] = Unit {0}
AllBelow top (r ∷ rs) = (r.place < top) × AllBelow top rs

-- These ranges in two runs, of which the second begins before this place. Of each place those of the first run come first.
pub record AreRuns (top : ℕ) (done low high : List Range) : Type 0 where
  pub same : (k : ℕ) → filter (λ (r : Range). r.place == k) low ++ filter (λ (r : Range). r.place == k) high ≡ filter (λ (r : Range). r.place == k) done
  pub below : AllBelow top high

abbrev pub error_of : Finding → CheckError
error_of (found kind at) = errors.Finding kind at
error_of (overlap at len other other_len) = errors.Overlap at len other other_len

abbrev pub summary_of : Summary → AllSummary
summary_of s = record { rows = s.rows.items; chunks = s.chunks; blocks = s.blocks; end = s.end; lost = s.lost }

-- the rows of all datasets, and all ranges
abbrev pub datasets_found : List (List ℕ) → Super → List ℕ → Result (List ℕ × List Used) Finding
datasets_found names s img =
    then_also (names_after (the_superblock ∷ []) (eval img (checked_names names s))) (λ x. parts_after [] x.1 (eval img (each_of (checked_part format_limits s) x.0)))

-- what a file has of datasets with these rows, by its ranges
abbrev pub summary_with : Super → List ℕ → List Used → AllSummary
summary_with s rows us = record {
  rows = rows;
  chunks = count_by (λ u. u.chunk) us;
  blocks = count_by (λ u. not u.chunk) us;
  end = s.end;
  lost = s.end - sum_by (λ u. u.len) us;
}

-- the verdict, by the rows of all datasets and all ranges
abbrev pub verdict_with : Super → List ℕ → List Used → Result AllSummary Finding
verdict_with s rows us = elim (overlap_of (by_place us)) [ None ↦ Ok (summary_with s rows us) | Some f ↦ Err f ]
