-- How many blocks the lookup of one chunk's address visits.
use Rattle.std.specs.Prelude.{ℕ, ◌≤◌, List, [], ◌∷◌, length}
use Rattle.h5w_model.specs.Programs.{visits}
use Rattle.h5w_model.specs.Datasets.{Described}
use Rattle.h5w_model.specs.Tables.{table_of}
use Rattle.h5w_model.specs.declared.cell.Key.{Key}
use Rattle.h5w_model.specs.declared.cell.IndexKind.{IndexKind}
use Rattle.h5w_model.specs.declared.cell.IndexKind.TheVariants.{Array, Tree}

-- of an array its header, the index block, a secondary block and a data block; of a tree its header, and a node of each of
-- four depths
abbrev pub most_visits : IndexKind → ℕ
most_visits Array = 4
most_visits Tree = 5

-- whatever the image, the dataset and the chunk
abbrev pub LookupVisits : Type 0
LookupVisits = (img : List ℕ) (d : Described) (key : Key) → length (visits img (table_of d (key ∷ []))) ≤ most_visits d.layout.index
