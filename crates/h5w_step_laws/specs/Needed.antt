-- What the check of an index tells of the needed chunks: that each has an answer, and of which chunks.
use Rattle.std.specs.Prelude.{◌≡◌, ◌≢◌, ℕ, ◌≤◌, false, List, ◌++◌, get_or, length, nat_lt, Ok}
use Rattle.std.specs.List.{AllByRecursion}
use Rattle.h5w_model.specs.Numbers.{undefined}
use Rattle.h5w_model.specs.Images.{apply}
use Rattle.h5w_model.specs.Programs.{eval}
use Rattle.h5w_model.specs.Datasets.{Described}
use Rattle.h5w_model.specs.Tables.{InPlace, in_place, address_behind, each_of, table_of, needed, needed_keys, limit_of, format_limits}
use Rattle.h5w_model.specs.Findings.{Used, chunk_bytes}
use Rattle.h5w_model.specs.declared.cell.Key.{Key}
use Rattle.h5w_model.specs.declared.piece.Write.{Write}
use Rattle.h5w_step_laws.specs.Ranges.{Among, MissesBlocks, chunk_at}
use Rattle.h5w_step_laws.specs.Indexes.{IsNamed, IsIndex, IsBehind}

-- the needed chunks are within the limits of the format
abbrev pub AreFew : Described → Type 0
AreFew d = nat_lt (limit_of format_limits d.layout.index) (needed d) ≡ false

-- each needed key is one that the index is asked for
abbrev pub NeededNamed : Type 0
NeededNamed = (d : Described) → AreFew d → AllByRecursion (IsNamed d) (needed_keys d)

-- the addresses of the needed chunks; those that are defined are chunks of the index
pub record HasTable (img : List ℕ) (d : Described) (behind : List Used) (table : List ℕ) : Type 0 where
  pub found : eval img (table_of d (needed_keys d)) ≡ Ok table
  pub listed : length table ≡ length (needed_keys d)
  pub chunks : (k : ℕ) → get_or table k undefined ≢ undefined → Among (chunk_at (get_or table k undefined) (chunk_bytes d)) behind

-- There is such a table of an index, and whatever is found is one; a write that misses the index's blocks leaves it. By the
-- blocks in place it is the addresses behind them, of which those that are defined are chunks, wherever the blocks were read.
pub record TableLaws : Type 0 where
  pub there : (img : List ℕ) (end : ℕ) (d : Described) (fixed behind : List Used) → IsIndex img end d fixed behind → AreFew d → (table : List ℕ) × HasTable img d behind table
  pub any : (img : List ℕ) (end : ℕ) (d : Described) (fixed behind : List Used) (table : List ℕ) → IsIndex img end d fixed behind → AreFew d
      → eval img (table_of d (needed_keys d)) ≡ Ok table → HasTable img d behind table
  pub missed : (w : Write) (img : List ℕ) (end : ℕ) (d : Described) (fixed behind : List Used) (table : List ℕ) → IsIndex img end d fixed behind → AreFew d → end ≤ length img → MissesBlocks w (fixed ++ behind)
      → eval img (table_of d (needed_keys d)) ≡ Ok table → eval (apply w img) (table_of d (needed_keys d)) ≡ Ok table
  pub by_blocks : (img : List ℕ) (d : Described) (blocks : InPlace) (keys : List Key) → eval img (in_place d) ≡ Ok blocks
      → eval img (table_of d keys) ≡ eval img (each_of (address_behind blocks) keys)
  pub behind : (img : List ℕ) (end : ℕ) (d : Described) (blocks : InPlace) (behind : List Used) (table : List ℕ) → IsBehind img end d blocks behind → AreFew d
      → eval img (each_of (address_behind blocks) (needed_keys d)) ≡ Ok table
      → (k : ℕ) → get_or table k undefined ≢ undefined → Among (chunk_at (get_or table k undefined) (chunk_bytes d)) behind
  pub same : (old new : List ℕ) (d : Described) (blocks : InPlace) → AreFew d → ((key : Key) → IsNamed d key → eval new (address_behind blocks key) ≡ eval old (address_behind blocks key))
      → eval new (each_of (address_behind blocks) (needed_keys d)) ≡ eval old (each_of (address_behind blocks) (needed_keys d))
