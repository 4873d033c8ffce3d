-- What the check of an index tells, whatever its kind: an extensible array or a version 2 B-tree.
use Rattle.std.specs.Prelude.{◌≡◌, ◌≢◌, ℕ, ◌<◌, ◌≤◌, List, [], ◌++◌, length, Ok}
use Rattle.h5w_model.specs.Numbers.{undefined}
use Rattle.h5w_model.specs.Images.{apply}
use Rattle.h5w_model.specs.Programs.{ret, eval, and_then, visits, Same}
use Rattle.h5w_model.specs.Datasets.{Described}
use Rattle.h5w_model.specs.Tables.{InPlace, nowhere, in_array, in_tree, in_place, address_behind, format_limits}
use Rattle.h5w_model.specs.Findings.{Used, Visited, both, chunk_ranges, first_visits, second_visits, node_visit, chunk_bytes, index_visit}
use Rattle.h5w_model.specs.declared.cell.Key.{Key}
use Rattle.h5w_model.specs.declared.cell.IndexKind.TheVariants.{Array}
use Rattle.h5w_model.specs.declared.piece.Write.{Write}
use Rattle.h5w_step_laws.specs.Ranges.{Among, AllEndBy, AllSome, AllWithin, MissesBlocks, chunk_at, blocks_of}

-- the keys that an index is asked for: of an array, those of its chunk numbers
abbrev pub IsNamed : Described → Key → Type 0
IsNamed d key = d.layout.index ≡ Array → key.i < format_limits.array

-- the part of an index's visit behind the blocks in place
abbrev pub behind_visit : ℕ → ℕ → InPlace → Visited
behind_visit end bytes nowhere = ret (Ok [])
behind_visit end bytes (in_array e) = both (ret (chunk_ranges end bytes e.slots)) (both (first_visits end bytes 0 e.first) (second_visits end bytes 4 e.second))
behind_visit end bytes (in_tree t) = and_then (node_visit end bytes t.depth t.root t.records) (λ u. ret (Ok u.ranges))

-- a key's address is found by looks within these ranges, and is that of a chunk of them where it is defined
pub record IsAnswered (img : List ℕ) (bytes : ℕ) (us : List Used) (blocks : InPlace) (key : Key) : Type 0 where
  pub address : ℕ
  pub is : eval img (address_behind blocks key) ≡ Ok address
  pub chunk : address ≢ undefined → Among (chunk_at address bytes) us
  pub within : AllWithin us (visits img (address_behind blocks key))

-- What is known of an index, whatever its kind: its ranges are those of the blocks in place, which are
-- written again where they stand, and those behind them; what is looked at lies in them; and each key is answered.
pub record IsIndex (img : List ℕ) (end : ℕ) (d : Described) (fixed behind : List Used) : Type 0 where
  pub checked : eval img (index_visit end d) ≡ Ok (fixed ++ behind)
  pub visited : AllWithin (fixed ++ behind) (visits img (index_visit end d))
  pub blocks : InPlace
  pub read : eval img (in_place d) ≡ Ok blocks
  pub fixed_are : fixed ≡ blocks_of (visits img (in_place d))
  pub stands : eval img (behind_visit end (chunk_bytes d) blocks) ≡ Ok behind
  pub answered : (key : Key) → IsNamed d key → IsAnswered img (chunk_bytes d) behind blocks key
  pub ends : AllEndBy end (fixed ++ behind)
  pub some : 0 < chunk_bytes d → AllSome (fixed ++ behind)

-- ---- Laws

-- The ranges that the check of an index finds are those of its blocks in place, and those behind them.
pub record Checked (img : List ℕ) (end : ℕ) (d : Described) (ranges : List Used) : Type 0 where
  pub fixed : List Used
  pub behind : List Used
  pub parts : ranges ≡ fixed ++ behind
  pub index : IsIndex img end d fixed behind

abbrev pub CheckedIndex : Type 0
CheckedIndex = (img : List ℕ) (end : ℕ) (d : Described) (ranges : List Used) → eval img (index_visit end d) ≡ Ok ranges → Checked img end d ranges

-- Where the blocks in place are read, within the end of the file, and what stands behind them is visited, it is an index.
abbrev pub IndexOfParts : Type 0
IndexOfParts = (img : List ℕ) (end : ℕ) (d : Described) (blocks : InPlace) (behind : List Used) → eval img (in_place d) ≡ Ok blocks
    → AllEndBy end (blocks_of (visits img (in_place d))) → eval img (behind_visit end (chunk_bytes d) blocks) ≡ Ok behind
    → IsIndex img end d (blocks_of (visits img (in_place d))) behind

-- With another end of the file, which its ranges do not pass, it is the same index.
abbrev pub IndexByEnd : Type 0
IndexByEnd = (img : List ℕ) (end other : ℕ) (d : Described) (fixed behind : List Used) → IsIndex img end d fixed behind → AllEndBy other (fixed ++ behind)
    → IsIndex img other d fixed behind

-- A write that misses its blocks leaves it, and what is looked at for each key and found.
pub record IndexLeft (old new : List ℕ) (end : ℕ) (d : Described) (fixed behind : List Used) (index : IsIndex old end d fixed behind) : Type 0 where
  pub left : IsIndex new end d fixed behind
  pub read : eval new (in_place d) ≡ Ok index.blocks
  pub same_place : Same old new (visits old (in_place d))
  pub same_behind : (key : Key) → IsNamed d key → Same old new (visits old (address_behind index.blocks key))
  pub answers : (key : Key) → IsNamed d key → eval new (address_behind index.blocks key) ≡ eval old (address_behind index.blocks key)
  pub looks : (key : Key) → IsNamed d key → visits new (address_behind index.blocks key) ≡ visits old (address_behind index.blocks key)

abbrev pub IndexMissed : Type 0
IndexMissed = (w : Write) (img : List ℕ) (end : ℕ) (d : Described) (fixed behind : List Used) (index : IsIndex img end d fixed behind) → end ≤ length img
    → MissesBlocks w (fixed ++ behind) → IndexLeft img (apply w img) end d fixed behind index

-- What is known of what stands behind some blocks in place, wherever those were read: where its ranges lie, and each key's address.
pub record IsBehind (img : List ℕ) (end : ℕ) (d : Described) (blocks : InPlace) (behind : List Used) : Type 0 where
  pub stands : eval img (behind_visit end (chunk_bytes d) blocks) ≡ Ok behind
  pub visited : AllWithin behind (visits img (behind_visit end (chunk_bytes d) blocks))
  pub answered : (key : Key) → IsNamed d key → IsAnswered img (chunk_bytes d) behind blocks key
  pub ends : AllEndBy end behind
  pub some : 0 < chunk_bytes d → AllSome behind

abbrev pub VisitedBehind : Type 0
VisitedBehind = (img other : List ℕ) (end : ℕ) (d : Described) (blocks : InPlace) (behind : List Used) → eval other (in_place d) ≡ Ok blocks
    → eval img (behind_visit end (chunk_bytes d) blocks) ≡ Ok behind → IsBehind img end d blocks behind

-- A write that misses its blocks leaves it, and what is found for each key.
pub record BehindLeft (old new : List ℕ) (end : ℕ) (d : Described) (blocks : InPlace) (behind : List Used) : Type 0 where
  pub left : IsBehind new end d blocks behind
  pub answers : (key : Key) → IsNamed d key → eval new (address_behind blocks key) ≡ eval old (address_behind blocks key)

abbrev pub BehindMissed : Type 0
BehindMissed = (w : Write) (img other : List ℕ) (end : ℕ) (d : Described) (blocks : InPlace) (behind : List Used) → eval other (in_place d) ≡ Ok blocks → IsBehind img end d blocks behind
    → end ≤ length img → MissesBlocks w behind → BehindLeft img (apply w img) end d blocks behind
