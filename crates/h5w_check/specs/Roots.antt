-- What a visit of a header, or of a dataset, gives behind other ranges.
use Rattle.std.specs.Prelude.{ℕ, List, [], ◌∷◌, ◌++◌, map, flat_map, ◌==◌, if◌then◌else◌, Option, Some, None, Result, Ok}
use Rattle.std.specs.List.{list_any}
use Rattle.h5w_model.specs.Datasets.{then_also, Described}
use Rattle.h5w_model.specs.Findings.{Used, Finding, Part}

-- the first of some places that is one of those before it
abbrev pub met_again : List ℕ → List ℕ → Option ℕ
met_again before [] = None
met_again before (place ∷ rest) = if list_any (λ a. a == place) before then Some place else met_again (before ++ place ∷ []) rest

-- the places of the dataset headers, and the ranges behind those before
abbrev pub names_after : List Used → Result (List ℕ × List Used) Finding → Result (List ℕ × List Used) Finding
names_after old given = then_also given (λ r. Ok (r.0, old ++ r.1))

-- what the dataset's messages say, and the ranges behind those before
abbrev pub dataset_after : List Used → Result (Described × List Used) Finding → Result (Described × List Used) Finding
dataset_after old given = then_also given (λ r. Ok (r.0, old ++ r.1))

-- the rows of a dataset, and its ranges behind those before
abbrev pub part_after : List Used → Result Part Finding → Result (ℕ × List Used) Finding
part_after old given = then_also given (λ p. Ok (p.dataset.shape.rows, old ++ p.ranges))

-- the rows of some datasets behind those of others, and their ranges behind those before
abbrev pub parts_after : List ℕ → List Used → Result (List Part) Finding → Result (List ℕ × List Used) Finding
parts_after rows old given = then_also given (λ ps. Ok (rows ++ map (λ p. p.dataset.shape.rows) ps, old ++ flat_map (λ p. p.ranges) ps))
