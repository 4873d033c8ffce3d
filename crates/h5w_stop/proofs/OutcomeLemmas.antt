-- What an open finds in an image, by its answer.
use Rattle.std.proofs.Common.{◌≡◌, ◌≢◌, ℕ, ◌≤◌, ◌^◌, List, length, Option, None, Some, Result, Ok, Err, inl, inr, sym, ap, ◌∙◌}
use Rattle.std.specs.Prelude.{option_map, IfOk, OnOk}
use Rattle.h5w_model.specs.Programs.{ret, eval}
use Rattle.h5w_model.specs.Tables.{Reading, format_limits, reading}
use Rattle.h5w_model.specs.Unfinished.{Reader, Unfinished, rows_left, values_left, rows_program}
use Rattle.h5w_model.specs.declared.refusal.ReadError.{ReadError}
use Rattle.h5w_model.specs.declared.refusal.ReadError.TheVariants as refusals
use Rattle.h5w_reader.specs.Readers.{StepTells, new_reader, reader_rules}
use Rattle.h5w_reader.specs.declared.step.Step.TheVariants as steps
use Rattle.h5w_answers.specs.Answering.{evaluated}
use Rattle.h5w_answers.proofs.OpenLemmas.{opens_still}
use Rattle.h5w_stop.specs.Outcomes.{outcome_in, outcome_of}
use Rattle.h5w_stop.specs.declared.outcome.Outcome.{Outcome}
use Rattle.h5w_stop.specs.declared.outcome.Outcome.TheVariants as outcomes

ret_same : (a b : Result Reading ReadError) → ◌≡◌ {A = Option Unfinished} (Some (rows_left (ret a))) (Some (rows_left (ret b))) → a ≡ b
ret_same a b e = cc

module _ (img name : List ℕ) (attempts : ℕ) (fits : length img ≤ 2 ^ 64) (old new : Reader) (begun : old ≡ new_reader (reader_rules name attempts)) where
  left : option_map (evaluated img) old.left ≡ Some (rows_left (ret (eval img (rows_program (reader_rules name attempts) None))))
  left = ap (λ (r : Reader). option_map (evaluated img) r.left) begun

  given : eval img (rows_program (reader_rules name attempts) None) ≡ eval img (reading format_limits name)
  given = opens_still img (reader_rules name attempts) fits

  pub found_rows : (rows : ℕ) → StepTells (option_map (evaluated img) old.left) old (steps.Rows rows) new → outcomes.Rows rows ≡ outcome_in img name
  found_rows rows tells =
      let is : eval img (rows_program (reader_rules name attempts) None) ≡ Ok tells.0 = ret_same (eval img (rows_program (reader_rules name attempts) None)) (Ok tells.0) (sym left ∙ tells.1) in
      ap outcomes.Rows tells.2 ∙ ap outcome_of (sym is ∙ given)

  pub found_refused : (e : ReadError) → e ≢ refusals.OutOfMemory → StepTells (option_map (evaluated img) old.left) old (steps.Refused e) new → outcome_of (Err e) ≡ outcome_in img name
  found_refused e known tells =
      elim tells.0 [
        | inl a ↦ ap outcome_of (sym (ret_same (eval img (rows_program (reader_rules name attempts) None)) (Err e) (sym left ∙ a)) ∙ given)
        | inr b ↦ elim b [
          | inl v ↦ absurd (let clash : ◌≡◌ {A = Option Unfinished} (Some (rows_left (ret (eval img (rows_program (reader_rules name attempts) None))))) (Some (values_left (ret (Err e)))) = sym left ∙ v in cc)
          | inr m ↦ absurd (known m)
        ]
      ]

  pub refused_ok : {E : Type 0} (r : Result Outcome E) (e : ReadError) → StepTells (option_map (evaluated img) old.left) old (steps.Refused e) new → IfOk r (λ outcome. outcome ≡ outcome_of (Err e))
      → OnOk r (e ≢ refusals.OutOfMemory) → IfOk r (λ outcome. outcome ≡ outcome_in img name)
  refused_ok (Ok o) e tells is known = is ∙ found_refused e known tells
  refused_ok (Err x) e tells is known = tt
