-- What a plan does: the changed blocks get their places, name each other's places, and are written; the places that they
-- leave are retired.
use Rattle.std.specs.Prelude.{◌≡◌, ℕ, ◌+◌, ◌-◌, ◌/◌, ◌<◌, ◌≤◌, ◌^◌, max, ◌==◌, ◌&&◌, Bool, true, false, not, List, [], ◌∷◌, ◌++◌, length, take, drop, map, flat_map, slice_index_or, slice_set, ◌⊎◌, Option, Some, None, IsSome, IsSomeAnd}
use Rattle.std.specs.Option.{option_map}
use Rattle.std.specs.List.{All, HoldsAt}
use Rattle.std.specs.List.Sorted.{IsPermutation, IsNonDecreasingBy}
use Rattle.h5w_model.specs.Numbers.{undefined}
use Rattle.h5w_model.specs.Images.{pieces}
use Rattle.h5w_model.specs.declared.piece.Write.{Write}
use Rattle.h5w_space.specs.Space.{Space, TakesPlace, IsLive, Apart, extent, has_size}
use Rattle.h5w_space.specs.declared.Extent.{Extent}
use Rattle.h5w_space.specs.declared.Full.{Full}
use Rattle.h5w_cache.specs.Blocks.{BlockView, spelled}
use Rattle.h5w_cache.specs.Stores.{Store, place_in, times}
use Rattle.h5w_cache.specs.declared.moves.Move.{Move}
use Rattle.h5w_cache.specs.declared.plan.PlanError.{PlanError}
use Rattle.h5w_cache.specs.declared.plan.PlanError.TheVariants.{Full as no_room, OutOfMemory as no_memory}

abbrev pub block_in : List (Option BlockView) → ℕ → Option BlockView
block_in blocks n = slice_index_or blocks n None

-- the turn of the block under a number
abbrev pub turn_of : Option BlockView → ℕ
turn_of None = 0
turn_of (Some b) = b.turn

abbrev pub turn_in : List (Option BlockView) → ℕ → ℕ
turn_in blocks n = turn_of (block_in blocks n)

abbrev pub bytes_of : Option BlockView → List ℕ
bytes_of None = []
bytes_of (Some b) = b.bytes

abbrev pub bytes_in : List (Option BlockView) → ℕ → List ℕ
bytes_in blocks n = bytes_of (block_in blocks n)

-- the range was taken: it overlaps nothing that was live or retired, and is live
pub record Took (s t : Space) (r : Extent) : Type 0 where
  pub takes : TakesPlace s t r
  pub off_live : (x : Extent) → IsLive s x → Apart r x
  pub off_retired : All (Apart r) s.retired
  pub live : IsLive t r
  pub stays_live : (x : Extent) → IsLive s x → IsLive t x

-- a block that stays keeps its place, another one takes a place
abbrev pub Placed : Bool → ℕ → ℕ → Space → Space → ℕ → Type 0
Placed true old len s t new = (new ≡ old) × (t ≡ s)
Placed false old len s t new = Took s t (extent new len)

-- a block in place stays, once it has a place
abbrev pub stays : Bool → ℕ → Bool
stays in_place old = in_place && not (old == undefined)

-- a block gets its place
pub record IsMove (blocks : List (Option BlockView)) (places : List ℕ) (s : Space) (m : Move) (t : Space) : Type 0 where
  pub kept : IsSome (block_in blocks m.number)
  pub len : m.len ≡ length (bytes_in blocks m.number)
  pub in_place : IsSomeAnd (block_in blocks m.number) (λ b. m.in_place ≡ b.in_place)
  pub old : m.old ≡ place_in places m.number
  pub some : 0 < m.len
  pub ends : stays m.in_place m.old ≡ false → m.new + m.len < 2 ^ 64
  pub step : Placed (stays m.in_place m.old) m.old m.len s t m.new

-- steps one after another
abbrev pub Chain : {S M : Type 0} → (S → M → S → Type 0) → S → List M → S → Type 0
Chain R s [] t = t ≡ s
Chain {S} R s (m ∷ ms) t = (u : S) × R s m u × Chain R u ms t

-- blocks get their places, one after another
abbrev pub AreMoves : List (Option BlockView) → List ℕ → Space → List Move → Space → Type 0
AreMoves blocks places s ms t = Chain (IsMove blocks places) s ms t

-- the numbers of moved blocks
abbrev pub numbers : List Move → List ℕ
numbers ms = map (λ (m : Move). m.number) ms

-- no place of the size is free, and the file has no room for it at its end
pub record IsRefused (s : Space) (len : ℕ) (e : Full) : Type 0 where
  pub none : has_size len s.free ≡ false
  pub no_room : s.limit < s.end + len
  pub is : e ≡ record { at = s.end; size = len; limit = s.limit }

-- the places of some first blocks of the order were taken, and the next block's is refused
pub record IsFull (blocks : List (Option BlockView)) (places order : List ℕ) (s : Space) (e : Full) : Type 0 where
  pub taken : List Move
  pub t : Space
  pub moves : AreMoves blocks places s taken t
  pub first : numbers taken ≡ take (length taken) order
  pub inside : length taken < length order
  pub refused : IsSomeAnd (block_in blocks (slice_index_or order (length taken) 0)) (λ b.
      (stays b.in_place (place_in places (slice_index_or order (length taken) 0)) ≡ false) × IsRefused t (length b.bytes) e)

-- the old place, where it was left and is live, is retired
abbrev pub Leaves : Move → Space → Type 0
Leaves m s = ((m.old ≡ undefined) → ⊥) × ((m.old ≡ m.new) → ⊥) × IsLive s (extent m.old m.len)

abbrev pub Retires : Space → Move → Space → Type 0
Retires s m t =
    Leaves m s × (t ≡ record s { retired = s.retired ++ extent m.old m.len ∷ []; spare = s.spare - 1 })
    ⊎ (Leaves m s → ⊥) × (t ≡ s)

-- one after another
abbrev pub AreRetired : Space → List Move → Space → Type 0
AreRetired s ms t = Chain Retires s ms t

-- the places after moves
abbrev pub moved : List Move → List ℕ → List ℕ
moved [] places = places
moved (m ∷ ms) places = moved ms (slice_set places m.number m.new)

-- the marks after moves
abbrev pub cleaned : List Move → List Bool → List Bool
cleaned [] marks = marks
cleaned (m ∷ ms) marks = cleaned ms (slice_set marks m.number false)

-- the blocks after moves
abbrev pub respelled : (ℕ → ℕ) → List Move → List (Option BlockView) → List (Option BlockView)
respelled place [] blocks = blocks
respelled place (m ∷ ms) blocks = respelled place ms (slice_set blocks m.number (option_map (spelled place) (block_in blocks m.number)))

-- the writes of moved blocks
abbrev pub writes_of : List (Option BlockView) → List Move → List Write
writes_of blocks ms = flat_map (λ (m : Move). pieces m.new (bytes_in blocks m.number)) ms

-- so many pieces
abbrev pub piece_count : Move → ℕ
piece_count m = (m.len + 511) / 512

-- so many blocks stand before the first in place
pub record IsSplit (ms : List Move) (k : ℕ) : Type 0 where
  pub inside : k ≤ length ms
  pub before : All (λ (m : Move). m.in_place ≡ false) (take k ms)
  pub from : k < length ms → HoldsAt (λ (m : Move). m.in_place ≡ true) ms k

-- the block is kept, has the length that its move tells, and ends below 2^64
pub record IsWritten (blocks : List (Option BlockView)) (m : Move) : Type 0 where
  pub kept : IsSome (block_in blocks m.number)
  pub len : m.len ≡ length (bytes_in blocks m.number)
  pub ends : m.new + m.len < 2 ^ 64

-- what is said of a block that has no room
abbrev pub IfFull : PlanError → (Full → Type 0) → Type 0
IfFull (no_room e) P = P e
IfFull no_memory P = Unit {0}

-- the order in which changed blocks are written
pub record IsOrder (blocks : List (Option BlockView)) (changed order : List ℕ) : Type 0 where
  pub all : IsPermutation changed order
  pub turns : IsNonDecreasingBy (turn_in blocks) order

-- in that order a block has no room
pub record HasNoRoom (blocks : List (Option BlockView)) (places changed : List ℕ) (s : Space) (e : Full) : Type 0 where
  pub order : List ℕ
  pub ordered : IsOrder blocks changed order
  pub full : IsFull blocks places order s e

-- the places after the moves have room for as many retirements
pub record AreTaken (blocks : List (Option BlockView)) (places : List ℕ) (s : Space) (ms : List Move) (t : Space) : Type 0 where
  pub taken : Space
  pub moves : AreMoves blocks places s ms taken
  pub roomy : t ≡ record taken { spare = max taken.spare (length ms) }

-- the places of some blocks were taken, and none that a block had is retired
pub record TookSome (blocks : List (Option BlockView)) (places : List ℕ) (s t : Space) : Type 0 where
  pub moves : List Move
  pub taken : Space
  pub took : AreMoves blocks places s moves taken
  pub roomy : t ≡ record taken { spare = t.spare }

-- the store with blocks at their new places, which name each other's, and all clean
abbrev pub settled : List Move → Store → Store
settled ms v = record { blocks = respelled (place_in (moved ms v.places)) ms v.blocks; places = moved ms v.places; changed = [] }

-- the writes of blocks at their places, of those before the first in place, and from it on
pub record AreWrites (blocks : List (Option BlockView)) (ms : List Move) (copies in_place : List Write) : Type 0 where
  pub split : ℕ
  pub splits : IsSplit ms split
  pub before : copies ≡ writes_of blocks (take split ms)
  pub from : in_place ≡ writes_of blocks (drop split ms)

-- the changed blocks got their places, in turn; those that they left are retired; they name each other's places, are
-- written, and are clean
pub record IsPlan (v : Store) (s : Space) (ms : List Move) (copies in_place : List Write) (w : Store) (t : Space) : Type 0 where
  pub each_place : length v.places ≡ length v.blocks
  pub order : IsOrder v.blocks v.changed (numbers ms)
  pub once : (n : ℕ) → times n (numbers ms) ≤ 1
  pub roomy : Space
  pub taken : AreTaken v.blocks v.places s ms roomy
  pub retired : AreRetired roomy ms t
  pub store : w ≡ settled ms v
  pub lengths : (n : ℕ) → length (bytes_in w.blocks n) ≡ length (bytes_in v.blocks n)
  pub writes : AreWrites w.blocks ms copies in_place
