-- What the making of a file in memory tells.
use Rattle.std.specs.Prelude.{◌≡◌, ◌⊎◌, ℕ, List, [], ◌∷◌, ◌++◌, codes, Result, Ok, Err}
use Rattle.h5w_model.specs.Causes.{Rose}
use Rattle.h5w_text.specs.Errors.{error_text}
use Rattle.h5w_text.specs.Replies.{spaced}
use Rattle.h5w_text.specs.Streams.{SinkView}
use Rattle.h5w_text.specs.Table.{numbers_text}
use Rattle.h5w_text.specs.declared.error.ErrorLine.{ErrorLine}
use Rattle.h5w_text.specs.declared.error.ErrorLine.TheVariants as errors
use Rattle.h5w_text.specs.declared.status.Status.{Status}
use Rattle.h5w_text.specs.declared.status.Status.TheVariants as statuses
use Rattle.h5w_files.specs.Ends.{EndsBy}
use Rattle.h5w_make.specs.Makes.{IsMade}
use Rattle.h5w_make.specs.declared.made.Made.{Made}

-- the line of a file that was made
abbrev pub made_line : Made → List ℕ
made_line made = (codes "rows" ++ spaced made.rows) ++ (codes " sum" ++ spaced made.sum) ++ (codes " pieces" ++ spaced made.pieces) ++ numbers_text (codes " blocks") (made.blocks ∷ [])

abbrev pub made_text : Result Made ErrorLine → List ℕ
made_text (Ok made) = made_line made
made_text (Err e) = error_text e

-- an answer: what is told of a file of n values of the generator that begins with a seed, or want of memory
abbrev pub MakesTo : (n seed : ℕ) → Result Made ErrorLine → Type 0
MakesTo n seed (Ok made) = IsMade n seed made
MakesTo n seed (Err e) = e ≡ errors.Memory

-- how the making ends
abbrev pub MakeEnds : (n seed : ℕ) → Status → SinkView → SinkView → Type 0
MakeEnds n seed status k l = EndsBy {A = Made} (λ answer text. MakesTo n seed answer × (text ≡ made_text answer)) status k l

-- Where the sink did not fail, the making ends when all is done, or for want of memory.
abbrev pub MakeEndsWell : Status → SinkView → SinkView → Type 0
MakeEndsWell status k l = (Rose k.faults l.faults → ⊥) → (status ≡ statuses.Done) ⊎ (status ≡ statuses.Memory)
