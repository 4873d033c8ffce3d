-- Where the nodes of a tree end that was opened of a file, where a check of it finds nothing.
use Rattle.std.specs.Prelude.{◌≡◌, ℕ, ◌+◌, ◌≤◌, List, Ok}
use Rattle.std.specs.List.{All}
use Rattle.h5w_model.specs.Programs.{eval}
use Rattle.h5w_model.specs.Findings.{Used, tree_visit}
use Rattle.h5w_model.specs.declared.cell.Key.{Key}
use Rattle.h5w_space.specs.declared.Extent.{Extent}
use Rattle.h5w_bt_index.specs.Index.{Index, IsIndex}
use Rattle.h5w_bt_open.specs.Kept.{ranges_of}
use Rattle.h5w_bt_open.specs.Opened.{IsStanding}

-- each by the end-of-file address
abbrev pub OpenedEnds : Type 0
OpenedEnds = (img : List ℕ) (header end bytes : ℕ) (first : Key) (v : Index) (us : List Used) → IsStanding img header first v → IsIndex v → eval img (tree_visit end bytes header) ≡ Ok us
    → All (λ (r : Extent). r.at + r.size ≤ end) (ranges_of v)
