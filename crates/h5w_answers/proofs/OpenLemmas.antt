-- What an open comes to on an image that stays as it is.
use Rattle.std.proofs.Common.{◌≡◌, ℕ, ◌≤◌, ◌^◌, List, length, None, Result, refl}
use Rattle.std.specs.List.{AllByRecursion}
use Rattle.h5w_model.specs.Numbers.{range}
use Rattle.h5w_model.specs.Programs.{Prog, ret, whole, counted, stored, eval, IsLookAt}
use Rattle.h5w_model.specs.Tables.{Reading, reading}
use Rattle.h5w_model.specs.Calls.{open_call}
use Rattle.h5w_model.specs.Unfinished.{ReaderRules, rows_program}
use Rattle.h5w_model.specs.declared.refusal.ReadError.{ReadError}
use Rattle.h5w_laws.specs.Programs.{looks_on}
use Rattle.h5w_laws.proofs.LookLemmas.{takes_on}
use Rattle.h5w_reader_laws.proofs.EndLemmas.{plain_open}
use Rattle.h5w_reader_laws.proofs.StillLemmas.{still_calls}

pub looks_there : {A : Type 0} (img : List ℕ) (p : Prog A) → AllByRecursion (IsLookAt img) (looks_on img p)
looks_there img (ret a) = tt
looks_there img (whole place n next) = (refl, looks_there img (next (range img place n)))
looks_there img (counted place counts next) = tt
looks_there img (stored kind place n next) = tt

-- an open finds what is shown, or the refusal of the first step that fails
pub opens_still : (img : List ℕ) (g : ReaderRules) → length img ≤ 2 ^ 64 → eval img (rows_program g None) ≡ eval img (reading g.limits g.name)
opens_still img g fits =
    let p : Prog (Result Reading ReadError) = open_call g.limits g.keeps g.attempts g.name in
    still_calls.opens img g.name g.limits g.keeps g.attempts (looks_on img p) (eval img p) fits (looks_there img p) (takes_on img p (plain_open g.limits g.keeps g.attempts g.name))
