-- What a dataset's messages say.
use Rattle.std.specs.Prelude.{ℕ, List, nat_lt, if◌then◌else◌, Result, Ok, Err}
use Rattle.h5w_model.specs.Datasets.{Described, then_also, refused_as}
use Rattle.h5w_model.specs.Datasets as model
use Rattle.h5w_model.specs.Tables.{format_limits, limit_of, needed}
use Rattle.h5w_model.specs.Findings.{Finding, found}

-- what a dataset's messages say, where its rows need no more chunks than are read
abbrev pub known : ℕ → List model.FoundMessage → Result Described Finding
known place ms =
    then_also (refused_as (λ e. found 9 place) (model.described ms)) (λ d.
    if nat_lt (limit_of format_limits d.layout.index) (needed d) then Err (found 20 place) else Ok d)
