-- What a call answers, once all its looks are taken.
use Rattle.std.specs.Prelude.{ℕ, List, Option, Some, None}
use Rattle.h5w_model.specs.Programs.{ret, eval}
use Rattle.h5w_model.specs.Unfinished.{Reader, Unfinished, rows_left, values_left}
use Rattle.h5w_reader.specs.Readers.{StepTells}
use Rattle.h5w_reader.specs.declared.step.Step.{Step}

-- what is left of a call once the image has given all
abbrev pub evaluated : List ℕ → Unfinished → Unfinished
evaluated img (rows_left p) = rows_left (ret (eval img p))
evaluated img (values_left p) = values_left (ret (eval img p))

-- a call for rows is unfinished
abbrev pub IsForRows : Option Unfinished → Type 0
IsForRows None = ⊥
IsForRows (Some (rows_left p)) = Unit {0}
IsForRows (Some (values_left p)) = ⊥

-- a call for values is unfinished
abbrev pub IsForValues : Option Unfinished → Type 0
IsForValues None = ⊥
IsForValues (Some (rows_left p)) = ⊥
IsForValues (Some (values_left p)) = Unit {0}

-- The step is the answer of a reader's call, of which this was left in the end, whatever its looks gave.
pub record AnswersCall (old : Reader) (step : Step) (new : Reader) : Type 0 where
  pub left : Option Unfinished
  pub rows : IsForRows old.left → IsForRows left
  pub values : IsForValues old.left → IsForValues left
  pub tells : StepTells left old step new
