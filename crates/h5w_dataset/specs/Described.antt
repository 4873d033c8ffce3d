-- A dataset as it is held.
use Rattle.std.specs.Prelude.{ℕ, List, Result, Ok, Err}
use Rattle.std.specs.Borrow.{Bor}
use Rattle.h5w_model.specs.Datasets.{Described, then_also}
use Rattle.h5w_model.specs.Datasets as model
use Rattle.h5w_model.specs.Messages.{shape_at, int_type_at, layout_at}
use Rattle.h5w_model.specs.declared.refusal.Unsupported.{Unsupported}
use Rattle.h5w_types.specs.Fields.{shape_of, int_type_of}
use Rattle.h5w_layout.specs.Layouts.{fill_of, layout_of}
use Rattle.h5w_dataset.specs.declared.dataset.Dataset.{Dataset}

abbrev pub described_of : Dataset → Described
described_of d = record { shape = shape_of d.shape; int_type = int_type_of d.int_type; fill = fill_of d.fill; layout = layout_of d.layout }

-- an answer with the bytes that it refers to
abbrev pub viewed_bytes : Result (Bor (List ℕ)) Unsupported → Result (List ℕ) Unsupported
viewed_bytes (Ok b) = Ok b.now
viewed_bytes (Err e) = Err e

-- what the data of dataspace, datatype and layout say, with the fill of these messages
abbrev pub decoded : List ℕ → List ℕ → List ℕ → List model.FoundMessage → Result Described Unsupported
decoded space datatype layout ms =
    then_also (shape_at space) (λ s.
    then_also (int_type_at datatype) (λ t.
    then_also (model.fill_of ms t) (λ f.
    then_also (layout_at layout s t) (λ l. Ok (record { shape = s; int_type = t; fill = f; layout = l })))))
