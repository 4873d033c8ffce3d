-- An extensible array on the image of a file: where its blocks stand, and what a reader and a check find then.
use Rattle.std.specs.Prelude.{◌≡◌, ◌⊎◌, ℕ, ◌^◌, ◌<◌, ◌≤◌, List, [], ◌∷◌, ◌++◌, length, take, Ok}
use Rattle.h5w_model.specs.Numbers.{range, undefined}
use Rattle.h5w_model.specs.Images.{At, Misses, apply, image}
use Rattle.h5w_model.specs.Arrays.{EahdFields, eahd_at, eahd_len}
use Rattle.h5w_model.specs.Programs.{eval, visits}
use Rattle.h5w_model.specs.Datasets.{Described}
use Rattle.h5w_model.specs.Tables.{address_behind, in_place, format_limits}
use Rattle.h5w_model.specs.declared.cell.Key.{Key}
use Rattle.h5w_model.specs.declared.cell.IndexKind.TheVariants.{Array}
use Rattle.h5w_model.specs.declared.piece.Write.{Write}
use Rattle.h5w_space.specs.Space.{Space}
use Rattle.h5w_cache.specs.Stores.{Store, place_of}
use Rattle.h5w_cache.specs.Plans.{IsPlan, bytes_in}
use Rattle.h5w_cache.specs.StoreLaws.{AreThere, IsPlaced, Standing, KeepsStore}
use Rattle.h5w_cache.specs.declared.moves.Move.{Move}
use Rattle.h5w_step_laws.specs.Ranges.{AllEndBy, blocks_of, visits_of}
use Rattle.h5w_step_laws.specs.Indexes.{behind_visit}
use Rattle.h5w_array_laws.specs.Parts.{index_block, header}
use Rattle.h5w_array_laws.specs.ArrayStores.{IsArray, place_at_part, bytes_at_part, header_place, map_of, fixed_of, blocks_in_place, behind_of, created_header, created_index, IsCreated, IsHeaded, IsNumbered}

-- at its place stands a header, perhaps an earlier one than that which is kept, and names the index block
pub record HeaderStands (v : Store) (img : List ℕ) : Type 0 where
  pub fields : EahdFields
  pub read : eahd_at (range img (header_place v) eahd_len) (header_place v) ≡ Ok fields
  pub names : fields.block ≡ place_at_part v index_block

-- the blocks that did not change since they were written stand at their places, and so does a header
pub record StandsArray (v : Store) (img : List ℕ) : Type 0 where
  pub there : AreThere v img
  pub headed : HeaderStands v img

-- all data blocks and secondary blocks that are kept stand at their places
abbrev pub BehindStands : Store → List ℕ → Type 0
BehindStands v img = (n : ℕ) → IsPlaced v n → n < 845 → At img (place_of v n) (bytes_in v.blocks n)

-- ---- Laws

-- an array without chunks stands where its two blocks were written
abbrev pub CreatedStands : Type 0
CreatedStands = (at place : ℕ) (v : Store) (img : List ℕ) → IsCreated at place v → at < 2 ^ 64 → place < 2 ^ 64 → At img at (created_header place).bytes → At img place (created_index at).bytes → StandsArray v img

-- it is a store of an array, with its heads and its six numbers, without chunks or ranges behind the blocks in place
pub record StartsArray (v : Store) : Type 0 where
  pub array : IsArray v
  pub headed : IsHeaded v
  pub numbered : IsNumbered v
  pub map : (i : ℕ) → map_of v i ≡ undefined
  pub behind : (bytes : ℕ) → behind_of bytes v ≡ []

abbrev pub CreatedStarts : Type 0
CreatedStarts = (at place : ℕ) (v : Store) → IsCreated at place v → at < undefined → place < undefined → StartsArray v

-- a write that misses its blocks leaves it
abbrev pub ArrayStays : Type 0
ArrayStays = (v : Store) (img : List ℕ) (w : Write) → IsArray v → StandsArray v img
    → ((n : ℕ) → IsPlaced v n → Misses w (place_of v n) (length (bytes_in v.blocks n))) → StandsArray v (apply w img)

-- where the blocks behind those in place stand, all clean, a check behind the index block finds their ranges, and each chunk number its address
pub record IsRead (v : Store) (img : List ℕ) : Type 0 where
  pub visited : (end bytes : ℕ) → AllEndBy end (behind_of bytes v) → eval img (behind_visit end bytes (blocks_in_place v)) ≡ Ok (behind_of bytes v)
  pub found : (key : Key) → key.i < format_limits.array → eval img (address_behind (blocks_in_place v) key) ≡ Ok (map_of v key.i)

abbrev pub ArrayIsRead : Type 0
ArrayIsRead = (v : Store) (img : List ℕ) → IsArray v → v.changed ≡ [] → BehindStands v img → IsRead v img

-- the writes in place are none, or the whole index block and then the whole header, each one piece
abbrev pub AreInPlace : Store → List Write → Type 0
AreInPlace v ws = (ws ≡ []) ⊎ (ws ≡ record { at = place_at_part v index_block; piece = bytes_at_part v index_block } ∷ record { at = header_place v; piece = bytes_at_part v header } ∷ [])

-- the plan of an array's blocks
pub record IsPlanned (v : Store) (s : Space) (ms : List Move) (copies in_place : List Write) (w : Store) (t : Space) : Type 0 where
  pub before : IsArray v
  pub after : IsArray w
  pub standing : Standing v s
  pub plan : IsPlan v s ms copies in_place w t
  pub fixed : AreInPlace w in_place
  pub keeps : KeepsStore v s ms (copies ++ in_place) w t

-- once the copies are written, the blocks behind those in place stand
abbrev pub CopiesStand : Type 0
CopiesStand = (v : Store) (s : Space) (ms : List Move) (copies in_place : List Write) (w : Store) (t : Space) (img : List ℕ)
    → IsPlanned v s ms copies in_place w t → StandsArray v img → BehindStands w (image img copies)

-- The array's blocks in place are read as those of the store, at their places.
pub record SaysArray (v : Store) (d : Described) (img : List ℕ) : Type 0 where
  pub says : eval img (in_place d) ≡ Ok (blocks_in_place v)
  pub looks : blocks_of (visits img (in_place d)) ≡ fixed_of v
  pub visited : visits img (in_place d) ≡ visits_of (fixed_of v)

-- Each of the two pieces in place, after the first, leaves the new index block in place: on any image on which a header and the index
-- block stood at their places.
abbrev pub InPlaceSays : Type 0
InPlaceSays = (v : Store) (s : Space) (ms : List Move) (copies in_place_writes : List Write) (w : Store) (t : Space) (img : List ℕ) (d : Described) (k : ℕ)
    → IsPlanned v s ms copies in_place_writes w t → HeaderStands v img → d.layout.index ≡ Array → d.layout.address ≡ header_place v
    → 1 ≤ k → k ≤ length in_place_writes → SaysArray w d (image img (take k in_place_writes))

-- once all is written, all stands
abbrev pub AllStand : Type 0
AllStand = (v : Store) (s : Space) (ms : List Move) (copies in_place : List Write) (w : Store) (t : Space) (img : List ℕ)
    → IsPlanned v s ms copies in_place w t → StandsArray v img → StandsArray w (image img (copies ++ in_place))

-- where all is clean and stands, the blocks in place are read as those of the store
abbrev pub StandingSays : Type 0
StandingSays = (v : Store) (img : List ℕ) (d : Described) → IsArray v → v.changed ≡ [] → StandsArray v img → d.layout.index ≡ Array → d.layout.address ≡ header_place v
    → SaysArray v d img
