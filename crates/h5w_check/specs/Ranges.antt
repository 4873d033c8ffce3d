-- The ranges that a file uses, as they are held, and ranges behind others.
use Rattle.std.specs.Prelude.{ℕ, ◌+◌, true, List, [], ◌∷◌, ◌++◌, nat_lt, ◌==◌, if◌then◌else◌, Result, Ok, Err}
use Rattle.h5w_model.specs.Numbers.{undefined}
use Rattle.h5w_model.specs.Datasets.{then_also}
use Rattle.h5w_model.specs.Findings.{Used, Finding, found}
use Rattle.h5w_check.specs.declared.ranges.Range.{Range}

abbrev pub used_of : Range → Used
used_of r = record { place = r.place; len = r.len; chunk = r.chunk }

-- the ranges of a visit behind those before it
abbrev pub after : List Used → Result (List Used) Finding → Result (List Used) Finding
after old given = then_also given (λ us. Ok (old ++ us))

-- the chunk at an address behind other ranges
abbrev pub put_after : ℕ → ℕ → ℕ → List Used → Result (List Used) Finding
put_after end bytes place old =
    if place == undefined then Ok old
    else if nat_lt end (place + bytes) then Err (found 17 place)
    else Ok (old ++ record { place = place; len = bytes; chunk = true } ∷ [])
