-- What code 0 says of a look.
use Rattle.std.proofs.Common.{◌≡◌, ℕ, ◌≤◌, List, length, Bool, true, false, Option, option_map, subst, sym, ap, refl, arith}
use Rattle.h5w_model.specs.Unfinished.{Reader, Unfinished, fed_left, wanted}
use Rattle.h5w_model.specs.declared.refusal.ReadError.{ReadError}
use Rattle.h5w_model.specs.declared.refusal.ReadError.TheVariants as reads
use Rattle.h5w_reader.specs.Cores.{reader}
use Rattle.h5w_reader.specs.Readers.{StepTells}
use Rattle.h5w_reader.specs.declared.step.Step.{Step}
use Rattle.h5w_reader.specs.declared.step.Step.TheVariants as steps
use Rattle.h5w_handles.specs.ReaderCalls.{Gave, is_within}
use Rattle.h5w_handles.specs.ReaderTellings.{refusal_told, step_told}
use Rattle.h5w_handles.specs.declared.code.H5wTold.{H5wTold}
use Rattle.h5w_handles.specs.declared.reader.ReaderState.{ReaderState}

-- no refusal has it
refusal_code : (e : ReadError) → 1 ≤ (refusal_told e).code
refusal_code reads.NotHdf5 = omega arith
refusal_code (reads.Super e) = omega arith
refusal_code (reads.NotSwmr flags) = omega arith
refusal_code (reads.Header at e) = omega arith
refusal_code (reads.Link e) = omega arith
refusal_code (reads.Unsupported u) = omega arith
refusal_code (reads.TooManyChunks needed limit) = omega arith
refusal_code (reads.Damaged at fault) = omega arith
refusal_code (reads.Again attempts at first last) = omega arith
refusal_code (reads.Shrunk seen found) = omega arith
refusal_code reads.OutOfMemory = omega arith

step_rows : (step : Step) (l : Option Unfinished) (old new : Reader) (answer : H5wTold) → StepTells l old step new → answer ≡ step_told step → answer.code ≡ 0 → StepTells l old (steps.Rows answer.count) new
step_rows steps.More l old new answer tells told zero = let one : answer.code ≡ 1 = ap (λ (x : H5wTold). x.code) told in absurd (omega (arith, one, zero))
step_rows (steps.Rows n) l old new answer tells told zero = let count : answer.count ≡ n = ap (λ (x : H5wTold). x.count) told in subst (λ (k : ℕ). StepTells l old (steps.Rows k) new) (sym count) tells
step_rows (steps.Values vs) l old new answer tells told zero = let two : answer.code ≡ 2 = ap (λ (x : H5wTold). x.code) told in absurd (omega (arith, two, zero))
step_rows (steps.Refused e) l old new answer tells told zero = let code : answer.code ≡ (refusal_told e).code = ap (λ (x : H5wTold). x.code) told in let some = refusal_code e in absurd (omega (arith, code, some, zero))

by_look : (fits : Bool) (bytes : List ℕ) (s t : ReaderState) (answer : H5wTold) → Gave bytes s answer t → is_within (wanted (reader s.core).left) (length bytes) ≡ fits → answer.code ≡ 0 → StepTells (option_map (fed_left bytes) (reader s.core).left) (reader s.core) (steps.Rows answer.count) (reader t.core)
by_look false bytes s t answer gave fits zero = let nine : answer.code ≡ 9 = ap (λ (x : H5wTold). x.code) (gave.misused fits).0 in absurd (omega (arith, nine, zero))
by_look true bytes s t answer gave fits zero =
    let stepped = gave.stepped fits in
    step_rows stepped.step (option_map (fed_left bytes) (reader s.core).left) (reader s.core) (reader t.core) answer stepped.tells stepped.told zero

-- code 0 is the core's step that answers rows, with this count
pub gave_rows : (bytes : List ℕ) (s t : ReaderState) (answer : H5wTold) → Gave bytes s answer t → answer.code ≡ 0 → StepTells (option_map (fed_left bytes) (reader s.core).left) (reader s.core) (steps.Rows answer.count) (reader t.core)
gave_rows bytes s t answer gave zero = by_look (is_within (wanted (reader s.core).left) (length bytes)) bytes s t answer gave refl zero
