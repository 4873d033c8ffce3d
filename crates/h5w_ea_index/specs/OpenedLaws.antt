-- An array that was opened: it stands on its image, and has the addresses that a reader finds there.
use Rattle.std.specs.Prelude.{◌≡◌, ℕ, ◌<◌, ◌≤◌, List, [], Ok}
use Rattle.h5w_model.specs.Datasets.{Described}
use Rattle.h5w_model.specs.Programs.{eval}
use Rattle.h5w_model.specs.Tables.{address_behind, in_place, format_limits}
use Rattle.h5w_model.specs.declared.cell.Key.{Key}
use Rattle.h5w_model.specs.Findings.{Used}
use Rattle.h5w_model.specs.declared.cell.IndexKind.TheVariants.{Array}
use Rattle.h5w_step_laws.specs.Indexes.{IsIndex}
use Rattle.h5w_cache.specs.Stores.{Store}
use Rattle.h5w_array_laws.specs.ArrayStores.{IsArray, blocks_in_place, header_place, map_of}
use Rattle.h5w_array_laws.specs.ArrayImages.{StandsArray}
use Rattle.h5w_ea_index.specs.Opened.{IsOpened}

-- Where a check of the index finds nothing, no block was passed over: so it does in every valid file.
abbrev pub OpenedStands : Type 0
OpenedStands = (img : List ℕ) (end first : ℕ) (d : Described) (fixed behind : List Used) (v : Store) → IsIndex img end d fixed behind → d.layout.index ≡ Array → d.layout.address ≡ header_place v → first < format_limits.array
    → IsArray v → v.changed ≡ [] → IsOpened img first v → StandsArray v img

-- What a reader finds from chunk number `first` on, the array has; what it says of the chunks before, a reader need not find.
pub record FindsFrom (img : List ℕ) (first : ℕ) (d : Described) (v : Store) : Type 0 where
  pub says : eval img (in_place d) ≡ Ok (blocks_in_place v)
  pub found : (key : Key) → first ≤ key.i → key.i < format_limits.array → eval img (address_behind (blocks_in_place v) key) ≡ Ok (map_of v key.i)

-- So it is on each image, whatever was passed over.
abbrev pub OpenedFinds : Type 0
OpenedFinds = (img : List ℕ) (first : ℕ) (d : Described) (v : Store) → d.layout.index ≡ Array → d.layout.address ≡ header_place v → first < format_limits.array → IsArray v → v.changed ≡ [] → IsOpened img first v → FindsFrom img first d v
