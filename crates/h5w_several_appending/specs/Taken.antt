-- What an append to several datasets takes of its input: the batches of each dataset, and how many rows it has with them.
use Rattle.std.specs.Prelude.{ℕ, zero, suc, Bool, true, ◌&&◌, ◌==◌, List, [], ◌∷◌, ◌++◌, codes, length, map, if◌then◌else◌, ℤ}
use Rattle.h5w_model.specs.Datasets.{Described}
use Rattle.h5w_writer.specs.Sessions.{Session}
use Rattle.h5w_text.specs.Streams.{SourceView}
use Rattle.h5w_text.specs.Table.{numbers_text}
use Rattle.h5w_batches.specs.Batches.{Batches, end_batch, no_batches}
use Rattle.h5w_appending.specs.Taken.{rows_after}
use Rattle.h5w_several_batches.specs.SetInputs.{SaysAll, SaysFirst}
use Rattle.h5w_several_batches.specs.declared.line.SetLine.{SetLine}
use Rattle.h5w_several_batches.specs.declared.line.SetLine.TheVariants.{Numbers, Use}

-- ---- Datasets

-- how many columns each has
abbrev pub columns_of : List Described → List ℕ
columns_of ds = map (λ (d : Described). d.shape.cols) ds

abbrev pub columns_in : List Session → List ℕ
columns_in ss = map (λ (s : Session). s.dataset.shape.cols) ss

-- ---- Batches

-- The dataset in use, counted from 0. The batches of each dataset: of all as many are closed, and in one that is closed a dataset may have no
-- values. How many rows each dataset had with each batch that was closed, the oldest first.
pub record SetBatches : Type 0 where
  pub used : ℕ
  pub sets : List Batches
  pub told : List (List ℕ)

-- no value waits
abbrev pub none_waits : List Batches → Bool
none_waits [] = true
none_waits (b ∷ bs) = (length b.waiting == 0) && none_waits bs

-- the values that wait are a batch of each dataset
abbrev pub end_each : List Batches → List Batches
end_each bs = map end_batch bs

-- how many rows each dataset has with the batches that are closed
abbrev pub rows_with : List Described → List Batches → List ℕ
rows_with [] bs = []
rows_with (d ∷ ds) [] = []
rows_with (d ∷ ds) (b ∷ bs) = rows_after d.shape.cols d.shape.rows b.closed ∷ rows_with ds bs

-- a batch is closed; where no value waits there is none
abbrev pub close_each : List Described → SetBatches → SetBatches
close_each ds b = if none_waits b.sets then b else record b { sets = end_each b.sets; told = b.told ++ rows_with ds (end_each b.sets) ∷ [] }

-- more values of a dataset wait
abbrev pub add_to : ℕ → List ℤ → List Batches → List Batches
add_to d vs [] = []
add_to zero vs (b ∷ bs) = record b { waiting = b.waiting ++ vs } ∷ bs
add_to (suc d) vs (b ∷ bs) = b ∷ add_to d vs bs

-- values of a line wait in the dataset in use; none close a batch
abbrev pub after_values : List Described → List ℤ → SetBatches → SetBatches
after_values ds [] b = close_each ds b
after_values ds (v ∷ vs) b = record b { sets = add_to b.used (v ∷ vs) b.sets }

-- behind what a line says
abbrev pub after_said : List Described → SetBatches → SetLine → SetBatches
after_said ds b (Numbers values) = after_values ds values b
after_said ds b (Use d) = record b { used = d }

abbrev pub after_all : List Described → SetBatches → List SetLine → SetBatches
after_all ds b [] = b
after_all ds b (x ∷ xs) = after_all ds (after_said ds b x) xs

-- the first dataset is in use at first
abbrev pub no_sets : List Described → SetBatches
no_sets ds = record { used = 0; sets = map (λ (d : Described). no_batches) ds; told = [] }

-- ---- Texts

-- the line of a batch, and those of some
abbrev pub told_line : List ℕ → List ℕ
told_line rows = numbers_text (codes "rows") rows

abbrev pub told_text : List (List ℕ) → List ℕ
told_text [] = []
told_text (rows ∷ more) = told_line rows ++ told_text more

-- the last line
abbrev pub closed_line : List ℕ → List ℕ
closed_line rows = numbers_text (codes "closed") rows

-- ---- What was taken of an input

-- These batches were taken of the input: its first lines', or those of all its lines, the last of which the end closes.
pub data AreTaken (ds : List Described) (s t : SourceView) : SetBatches → Type 0 where
  of_first : (said : List SetLine) → SaysFirst (columns_of ds) s said → AreTaken ds s t (after_all ds (no_sets ds) said)
  of_all : (said : List SetLine) → SaysAll (columns_of ds) s t said → AreTaken ds s t (close_each ds (after_all ds (no_sets ds) said))
