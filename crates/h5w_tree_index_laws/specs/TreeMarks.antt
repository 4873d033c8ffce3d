-- Which keys of a tree have their records under changed nodes alone.
use Rattle.std.specs.Prelude.{◌≡◌, ℕ, zero, suc, ◌+◌, List, if◌then◌else◌}
use Rattle.std.specs.List.{sum_by}
use Rattle.h5w_model.specs.Tables.{key_equal}
use Rattle.h5w_model.specs.declared.cell.Key.{Key}
use Rattle.h5w_bt.specs.declared.records.Record.{Record}
use Rattle.h5w_bt_nodes.specs.Nodes.{Tree}
use Rattle.h5w_bt_index.specs.Marks.{Part}
use Rattle.h5w_bt_index.specs.Index.{Index, IsClean, IsIndex, IsThere, inserted}
use Rattle.h5w_bt_nodes.specs.Blocks.{changes}

-- how many records have the key
abbrev pub times_in : Key → List Record → ℕ
times_in key rs = sum_by (λ (r : Record). if key_equal r.key key then 1 else 0) rs

-- how many records of a node and under it have the key
abbrev pub times_under : Key → (d : ℕ) → Tree d → ℕ
times_under key zero t = times_in key t.records
times_under key (suc d) t = times_in key t.records + sum_by (times_under key d) t.children

-- The key has a record, and each node on the way to it is changed: under none that is clean it has one.
pub record HasChanged (v : Index) (key : Key) : Type 0 where
  pub there : IsThere v key
  pub changed : (p : Part) → IsClean p v → times_under key p.depth p.tree ≡ 0

-- With a record more, or another in the place of that of its key, the nodes on the way to it are changed, and those that were are so
-- still. Where they were all changed, no node more is.
pub record InsertedMarked (x : Record) (v w : Index) : Type 0 where
  pub own : HasChanged w x.key
  pub others : (key : Key) → HasChanged v key → HasChanged w key
  pub again : HasChanged v x.key → changes w.depth w.root ≡ changes v.depth v.root

abbrev pub InsertedMarks : Type 0
InsertedMarks = (x : Record) (v : Index) → IsIndex v → InsertedMarked x v (inserted x v)
