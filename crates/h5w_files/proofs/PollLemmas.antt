-- What a poll finds and writes.
use Rattle.std.proofs.Common.{◌≡◌, ◌⊎◌, ℕ, ◌+◌, ◌≤◌, ◌^◌, List, length, Some, None, Result, Ok, refl, sym, ap, ◌∙◌}
use Rattle.std.specs.Prelude.{ℤ}
use Rattle.h5w_model.specs.Programs.{Prog, eval}
use Rattle.h5w_model.specs.Tables.{Reading}
use Rattle.h5w_model.specs.Calls.{rows_call}
use Rattle.h5w_model.specs.Unfinished.{Reader, ReaderRules, rows_left, rows_program, refresh_rules, with_left}
use Rattle.h5w_model.specs.declared.refusal.ReadError.{ReadError}
use Rattle.h5w_model.specs.declared.refusal.ReadError.TheVariants as reads
use Rattle.h5w_laws.specs.Programs.{looks_on}
use Rattle.h5w_laws.proofs.LookLemmas.{takes_on}
use Rattle.h5w_reader_laws.proofs.EndLemmas.{plain_rows}
use Rattle.h5w_reader_laws.proofs.StillLemmas.{still_refresh}
use Rattle.h5w_reader.specs.declared.step.ReadBegin.TheVariants as begins
use Rattle.h5w_reader.specs.declared.step.Step.TheVariants as steps
use Rattle.h5w_text.specs.declared.error.ErrorLine.TheVariants as errors
use Rattle.h5w_answers.proofs.OpenLemmas.{looks_there}
use Rattle.h5w_files.specs.Polls.{Shown}
use Rattle.h5w_files.specs.Polling.{HasJustBegun}

-- ---- On an image that stays as it is

-- a refresh finds again what is shown
pub refreshes_still : (img : List ℕ) (g : ReaderRules) (r : Reading) → length img ≤ 2 ^ 64 → Shown img g r → eval img (rows_program g (Some r)) ≡ Ok r
refreshes_still img g r fits shown =
    let p : Prog (Result Reading ReadError) = rows_call (refresh_rules g r) in
    still_refresh img g.name (refresh_rules g r) r (looks_on img p) (eval img p) fits shown refl refl (looks_there img p) (takes_on img p (plain_rows (refresh_rules g r)))

-- ---- A call for rows

-- begun anew it is as it was
pub begun_anew : (first now mid new : Reader) → HasJustBegun first → now ≡ first → mid ≡ with_left now None → new ≡ with_left mid (Some (rows_left (rows_program mid.rules mid.known))) → new ≡ first
begun_anew first now mid new fresh same ended begun =
    begun ∙ ap (λ (r : Reader). with_left r (Some (rows_left (rows_program r.rules r.known)))) (ended ∙ ap (λ (r : Reader). with_left r None) same) ∙ ap (λ l. with_left first l) (sym fresh)
