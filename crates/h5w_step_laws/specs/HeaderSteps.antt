-- The header piece of a flush as a safe step: what is left to show is about rows, index and cells, and not about the header.
use Rattle.std.specs.Prelude.{◌≡◌, ℕ, ◌*◌, ◌^◌, ◌<◌, List, ◌++◌, length, Some, None, Ok, ℤ}
use Rattle.h5w_model.specs.Numbers.{undefined}
use Rattle.h5w_model.specs.Programs.{eval, visits}
use Rattle.h5w_model.specs.Datasets.{Described}
use Rattle.h5w_model.specs.Tables.{in_place, table_of, needed_keys}
use Rattle.h5w_model.specs.Findings.{Used, index_visit}
use Rattle.h5w_step_laws.specs.Ranges.{Disjoint, blocks_of}
use Rattle.h5w_step_laws.specs.Needed.{AreFew}
use Rattle.h5w_step_laws.specs.Moments.{Moment, all_used, HasCells, Represents}
use Rattle.h5w_step_laws.specs.Steps.{Step}
use Rattle.h5w_step_laws.specs.Files.{commit_at, with_rows, with_index, LayoutInChunk0}

-- a file with these rows, whose needed chunks have these addresses, and these values more
abbrev pub grown : Moment → ℕ → List ℕ → List ℤ → Moment
grown m rows addresses more = record m { dataset = with_rows rows m.dataset; table = addresses; values = m.values ++ more }

-- The rows rise, over cells that are there.
abbrev pub GrowingStep : Type 0
GrowingStep = (img name : List ℕ) (m : Moment) (held : List Used) (rows : ℕ) (addresses : List ℕ) (more : List ℤ) → Represents img name m → m.dataset.shape.rows < rows → rows < 2 ^ 64
    → AreFew (with_rows rows m.dataset) → eval img (table_of (with_rows rows m.dataset) (needed_keys (with_rows rows m.dataset))) ≡ Ok addresses
    → length (m.values ++ more) ≡ rows * m.dataset.shape.cols → HasCells img (grown m rows addresses more)
    → Step img m held (commit_at img m.place rows None) (grown m rows addresses more) m.behind

-- a file whose header names an index that it did not name, with these ranges
abbrev pub started : Moment → Described → List Used → List Used → List ℕ → List ℤ → Moment
started m d fixed behind addresses more = record m { dataset = d; fixed = fixed; behind = behind; table = addresses; values = m.values ++ more }

-- The same where the header names its index for the first time: what it names stands there already.
abbrev pub StartingStep : Type 0
StartingStep = (img name : List ℕ) (m : Moment) (held : List Used) (rows index : ℕ) (d : Described) (fixed behind : List Used) (addresses : List ℕ) (more : List ℤ) → Represents img name m
    → d ≡ with_index index (with_rows rows m.dataset) → m.dataset.layout.address ≡ undefined → LayoutInChunk0 img m.place → m.dataset.shape.rows < rows → rows < 2 ^ 64 → index < 2 ^ 64 → AreFew d
    → eval img (index_visit m.super.end d) ≡ Ok (fixed ++ behind) → fixed ≡ blocks_of (visits img (in_place d)) → Disjoint (all_used (started m d fixed behind addresses more))
    → eval img (table_of d (needed_keys d)) ≡ Ok addresses → length (m.values ++ more) ≡ rows * m.dataset.shape.cols → HasCells img (started m d fixed behind addresses more)
    → Step img m held (commit_at img m.place rows (Some index)) (started m d fixed behind addresses more) behind
