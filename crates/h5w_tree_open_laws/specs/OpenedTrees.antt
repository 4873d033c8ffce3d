-- A tree of a file, whoever made it, as a tree of a session on the file's image.
use Rattle.std.specs.Prelude.{◌≡◌, ℕ, ◌+◌, ◌<◌, ◌≤◌, ◌^◌, List, length, Ok}
use Rattle.std.specs.List.{All}
use Rattle.h5w_model.specs.Programs.{eval}
use Rattle.h5w_model.specs.Findings.{Used, tree_visit}
use Rattle.h5w_model.specs.declared.cell.Key.{Key}
use Rattle.h5w_space.specs.declared.Extent.{Extent}
use Rattle.h5w_bt_index.specs.Index.{Index, IsShaped}
use Rattle.h5w_bt_open.specs.Opened.{IsStanding}
use Rattle.h5w_bt_open.specs.Kept.{IsKeptTree, ranges_of}
use Rattle.h5w_tree_index_laws.specs.TreeFlushes.{TreeStands}

-- A tree that a session keeps, each of whose nodes ends by the file's end, stands: each of its nodes and its header by what a reader reads
-- there. No check of the file is asked for, nor what stands behind the nodes' sums. None of its nodes was passed over: under one that stands
-- for such a node are two records of one key, so that the keys do not rise.
abbrev pub OpenedStands : Type 0
OpenedStands = (img : List ℕ) (header end : ℕ) (first : Key) (v : Index) → IsKeptTree img header first v → All (λ (r : Extent). r.at + r.size ≤ end) (ranges_of v) → end < 2 ^ 64 → TreeStands header v img

-- Of a file whose tree a check finds right, as of every valid file, a session keeps the tree: of one that is not kept the check finds
-- something.
abbrev pub OpenedIsKept : Type 0
OpenedIsKept = (img : List ℕ) (header end bytes : ℕ) (first : Key) (v : Index) (us : List Used) → IsStanding img header first v → length img < 2 ^ 64 → IsShaped v → eval img (tree_visit end bytes header) ≡ Ok us
    → IsKeptTree img header first v
