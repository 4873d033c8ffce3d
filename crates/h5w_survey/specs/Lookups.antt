-- The program of a reading, cut behind the superblock and behind the link.
use Rattle.std.specs.Prelude.{ℕ, List, [], ◌∷◌, Result, Ok}
use Rattle.h5w_model.specs.Programs.{Prog, ret, and_then}
use Rattle.h5w_model.specs.Datasets.{Described, dataset, linked, root_header}
use Rattle.h5w_model.specs.Tables.{Reading, format_limits, needed_table}
use Rattle.h5w_model.specs.declared.refusal.ReadError.{ReadError}

-- ---- Parts of a reading

-- the addresses of the needed chunks, by what the header at a place says
abbrev pub table_behind : ℕ → Described → Prog (Result Reading ReadError)
table_behind at d = and_then (needed_table format_limits d) (λ t. ret (Ok (record { place = at; dataset = d; table = t })))

-- from the dataset header at a place on
abbrev pub behind_place : ℕ → Prog (Result Reading ReadError)
behind_place at = and_then (dataset at) (table_behind at)

-- the place to which the link of a name leads, by the root header at a place
abbrev pub place_behind : ℕ → List ℕ → Prog (Result ℕ ReadError)
place_behind root name = and_then (root_header root) (λ h. ret (linked name h.messages))

-- from the root header at a place on
abbrev pub behind_root : ℕ → List ℕ → Prog (Result Reading ReadError)
behind_root root name = and_then (place_behind root name) behind_place
