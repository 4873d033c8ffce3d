-- A tree that was opened has the addresses that a reader finds on its image, and what a check of its nodes tells of it.
use Rattle.std.specs.Prelude.{◌≡◌, ℕ, false, List, Ok}
use Rattle.h5w_model.specs.Numbers.{range, undefined}
use Rattle.h5w_model.specs.Programs.{eval}
use Rattle.h5w_model.specs.Trees.{BthdFields, bthd_at, bthd_len}
use Rattle.h5w_model.specs.Tables.{key_below}
use Rattle.h5w_model.specs.Findings.{Under, node_visit}
use Rattle.h5w_model.specs.declared.cell.Key.{Key}
use Rattle.h5w_bt_index.specs.Index.{Index, IsIndex, IsShaped, found_address, keys_of, records}
use Rattle.h5w_bt_open.specs.Spans.{IsKey}
use Rattle.h5w_bt_open.specs.Opened.{IsStanding, looked_in}

-- On each image, whatever was passed over: for each key from the one on from which it was opened.
abbrev pub OpenedFinds : Type 0
OpenedFinds = (img : List ℕ) (header : ℕ) (first : Key) (v : Index) (key : Key) → IsStanding img header first v → IsShaped v → IsKey key → key_below key first ≡ false → looked_in img header key ≡ Ok (found_address v key)

-- keys rise and totals are true, and its records have the keys that the check found: nothing was passed over
pub record IsWhole (v : Index) (u : Under) : Type 0 where
  pub index : IsIndex v
  pub keys : keys_of (records v) ≡ u.keys

-- So it is where a check of the nodes behind the header finds nothing, as in every valid file.
abbrev pub OpenedIsIndex : Type 0
OpenedIsIndex = (img : List ℕ) (header end bytes : ℕ) (first : Key) (v : Index) (h : BthdFields) (u : Under) → IsStanding img header first v → IsShaped v → bthd_at (range img header bthd_len) header ≡ Ok h → (h.root ≡ undefined → ⊥)
    → eval img (node_visit end bytes h.depth h.root h.records) ≡ Ok u → IsWhole v u
