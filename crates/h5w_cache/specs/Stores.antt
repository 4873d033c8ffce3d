-- The blocks that a session holds, by their numbers.
use Rattle.std.specs.Prelude.{◌≡◌, ℕ, ◌+◌, ◌<◌, ◌≤◌, ◌^◌, ◌==◌, Bool, true, false, cond, not, nat_lt, List, [], ◌∷◌, ◌++◌, length, replicate, slice_index_or, slice_set, if◌then◌else◌, Option, Some, None, IsSome, IfSome}
use Rattle.std.specs.List.{count_by}
use Rattle.h5w_model.specs.Numbers.{undefined}
use Rattle.h5w_cache.specs.Blocks.{BlockView}

-- what contracts see of a store
pub record Store : Type 0 where
  -- the block that is kept under each number, if one is
  pub blocks : List (Option BlockView)
  -- its place, undefined while it has none
  pub places : List ℕ
  -- the numbers of the blocks that changed since they were written, the first changed first
  pub changed : List ℕ

-- the block under a number
abbrev pub block_of : Store → ℕ → Option BlockView
block_of s n = slice_index_or s.blocks n None

-- the place of the block under a number, among these
abbrev pub place_in : List ℕ → ℕ → ℕ
place_in places n = slice_index_or places n undefined

abbrev pub place_of : Store → ℕ → ℕ
place_of s n = place_in s.places n

-- a store of no blocks
abbrev pub no_blocks : Store
no_blocks = record { blocks = []; places = []; changed = [] }

-- the same with k more numbers
abbrev pub grown : ℕ → Store → Store
grown k s = record s { blocks = s.blocks ++ replicate k None; places = s.places ++ replicate k undefined }

-- the same with a block under a number, at a place
abbrev pub kept_under : ℕ → BlockView → ℕ → Store → Store
kept_under n b p s = record s { blocks = slice_set s.blocks n (Some b); places = slice_set s.places n p }

-- the same with another block under a number, at the same place
abbrev pub changed_to : ℕ → BlockView → Store → Store
changed_to n b s = record s { blocks = slice_set s.blocks n (Some b) }

-- how often a number is listed
abbrev pub times : ℕ → List ℕ → ℕ
times n numbers = count_by (λ (m : ℕ). m == n) numbers

abbrev pub is_listed : ℕ → List ℕ → Bool
is_listed n numbers = nat_lt 0 (times n numbers)

-- the block under this number changed since it was written
abbrev pub is_changed : Store → ℕ → Bool
is_changed s n = is_listed n s.changed

-- a block in place that has a place ends below 2^64
abbrev pub FitsAddresses : ℕ → BlockView → Type 0
FitsAddresses place b = b.in_place ≡ true → (place ≡ undefined → ⊥) → place + length b.bytes < 2 ^ 64

-- the same with the block under this number changed
abbrev pub marked : ℕ → Store → Store
marked n s = if is_changed s n then s else record s { changed = s.changed ++ n ∷ [] }

-- how the lists of a store stand to each other
pub record IsStore (blocks : List (Option BlockView)) (places : List ℕ) (marks : List Bool) (changed : List ℕ) (capacity : ℕ) : Type 0 where
  pub each_place : length places ≡ length blocks
  pub each_mark : length marks ≡ length blocks
  -- a number is listed once where it is marked, else never
  pub once : (n : ℕ) → times n changed ≡ cond (slice_index_or marks n false) 1 0
  pub kept : (n : ℕ) → slice_index_or marks n false ≡ true → IsSome (slice_index_or blocks n None)
  pub fits : (n : ℕ) → IfSome (slice_index_or blocks n None) (FitsAddresses (place_in places n))
  -- each number that is not marked has room among the changed
  pub room : length changed + count_by not marks ≤ capacity
