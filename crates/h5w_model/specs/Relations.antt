-- What programs of looks say of an image, in the standard's own words: relations between bytes and what they mean.
use Rattle.std.specs.Prelude.{◌≡◌, ◌≢◌, ◌⊎◌, ℕ, zero, suc, ◌+◌, ◌-◌, ◌<◌, ◌≤◌, Bool, true, false, IsTrue, List, [], ◌∷◌, ◌++◌, length, map, take, get_or, slice_get, Some, IfSome, Ok}
use Rattle.std.specs.List.{All, AllByRecursion}
use Rattle.h5w_model.specs.Numbers.{range, undefined}
use Rattle.h5w_model.specs.Superblock.{super_at}
use Rattle.h5w_model.specs.Headers.{prefix_at, messages_at, block_at, continuation_kind}
use Rattle.h5w_model.specs.Arrays.{EahdFields, EaibFields, SlotsFields, eahd_at, eaib_at, easb_at, eadb_at, eahd_len, eaib_len, slots_len, super_block_of, place_of}
use Rattle.h5w_model.specs.Trees.{RecordFields, ChildFields, BthdFields, BtinFields, bthd_at, btlf_at, btin_at, bthd_len, btlf_len, btin_len}
use Rattle.h5w_model.specs.Programs.{eval}
use Rattle.h5w_model.specs.Datasets.{FoundMessage, HeaderFields, Described, found_at, block_place, block_len, is_swmr, linked, described, root_header}
use Rattle.h5w_model.specs.Tables.{Limits, Reading, super_block_of_first, key_below, limit_of, bands, chunks_across, needed, chunk_number}
use Rattle.h5w_model.specs.Findings.{Used, Part, AllSummary, checked_super, header_ranges, checked_part, ranges_of_all, all_summary}
use Rattle.h5w_model.specs.declared.message.Msg.{Msg}
use Rattle.h5w_model.specs.declared.message.Prefix.{Prefix}
use Rattle.h5w_model.specs.declared.root.Super.{Super}
use Rattle.h5w_model.specs.declared.cell.Key.{Key}
use Rattle.h5w_model.specs.declared.cell.IndexKind.{IndexKind}
use Rattle.h5w_model.specs.declared.cell.IndexKind.TheVariants.{Array, Tree}
use Rattle.h5w_model.specs.declared.cell.Place.{Place}
use Rattle.h5w_model.specs.declared.cell.Place.TheVariants.{Index, Direct, Second}

-- ---- Messages of an object header

-- these messages of a block stand at a place, of this length, as a continuation block
pub record IsBlock (img : List ℕ) (tracked : Bool) (place len : ℕ) (messages : List FoundMessage) : Type 0 where
  pub whole : length (range img place len) ≡ len
  pub long : 8 ≤ len
  pub listed : List Msg
  pub read : block_at tracked (range img place len) ≡ Ok listed
  pub are : messages ≡ found_at place false listed

-- a list of messages, with each continuation's in place of its message, by this many blocks
pub data Spliced (img : List ℕ) (tracked : Bool) : ℕ → List FoundMessage → List FoundMessage → Type 0 where
  no_message : Spliced img tracked 0 [] []
  message : (n : ℕ) (m : FoundMessage) (ms rs : List FoundMessage) → m.kind ≢ continuation_kind → Spliced img tracked n ms rs → Spliced img tracked n (m ∷ ms) (m ∷ rs)
  continuation : (n : ℕ) (m : FoundMessage) (ms inside joined rs : List FoundMessage) → m.kind ≡ continuation_kind → IsBlock img tracked (block_place m) (block_len m) inside
      → joined ≡ inside ++ ms → Spliced img tracked n joined rs → Spliced img tracked (suc n) (m ∷ ms) rs

-- the header at a place is sealed, and these are its messages, with at most 32 continuation blocks
pub record HasMessages (img : List ℕ) (place : ℕ) (messages : List FoundMessage) : Type 0 where
  pub prefix : Prefix
  pub begins : prefix_at (range img place (prefix.total)) ≡ Ok prefix
  pub whole : length (range img place (prefix.total)) ≡ prefix.total
  pub listed : List Msg
  pub read : messages_at (range img place (prefix.total)) ≡ Ok listed
  pub blocks : ℕ
  pub few : blocks ≤ 32
  pub spliced : Spliced img (prefix.tracked) blocks (found_at place true listed) messages

-- ---- The dataset

-- The superblock is of version 2, or open for writing and for SWMR writing, or for neither; the first link of the name in the root
-- header is hard and leads to a header whose chunk 0 has at most 512 bytes, and whose messages say this.
pub record HasDataset (img name : List ℕ) (place : ℕ) (d : Described) : Type 0 where
  pub superblock : Super
  pub found : super_at (range img 0 48) ≡ Ok superblock
  pub flags : IsTrue (is_swmr superblock)
  pub root : List FoundMessage
  pub root_header : HasMessages img (superblock.root) root
  pub link : linked name root ≡ Ok place
  pub messages : List FoundMessage
  pub header : HasMessages img place messages
  pub small : header.prefix.total ≤ 512
  pub says : described messages ≡ Ok d

-- ---- The slot of a chunk in an extensible array

-- a block of the array in the image
abbrev pub IsIndexBlock : List ℕ → ℕ → EaibFields → Type 0
IsIndexBlock img address e = eaib_at (range img address eaib_len) address ≡ Ok e

-- slot `slot` of the data block of n slots at an address is x; without a block it is undefined
abbrev pub DataSlot : List ℕ → ℕ → ℕ → ℕ → ℕ → Type 0
DataSlot img address n slot x =
    (address ≡ undefined) × (x ≡ undefined)
    ⊎ (d : SlotsFields) × (address ≢ undefined) × (eadb_at (range img address (slots_len n)) address n ≡ Ok d) × (x ≡ get_or d.slots slot undefined)

-- the same of data block `block` that the secondary block of a super block names
abbrev pub SecondarySlot : List ℕ → ℕ → ℕ → ℕ → ℕ → ℕ → Type 0
SecondarySlot img address sblock block slot x =
    (address ≡ undefined) × (x ≡ undefined)
    ⊎ (s : SlotsFields) × (address ≢ undefined)
    × (easb_at (range img address (slots_len (super_block_of sblock).blocks)) address (super_block_of sblock).blocks ≡ Ok s)
    × DataSlot img (get_or s.slots block undefined) (super_block_of sblock).slots slot x

-- by the place of the slot: in the index block, in a data block that it names, or behind a secondary block
abbrev pub SlotAt : List ℕ → EaibFields → Place → ℕ → Type 0
SlotAt img e (Index slot) x = x ≡ get_or e.slots slot undefined
SlotAt img e (Direct block slot) x = DataSlot img (get_or e.first block undefined) (super_block_of (super_block_of_first block)).slots slot x
SlotAt img e (Second sblock block slot) x = SecondarySlot img (get_or e.second (sblock - 4) undefined) sblock block slot x

-- chunk i of the array whose header is at an address has the address x
abbrev pub ArraySlot : List ℕ → ℕ → ℕ → ℕ → Type 0
ArraySlot img address i x =
    (h : EahdFields) × (eahd_at (range img address eahd_len) address ≡ Ok h)
    × ((h.block ≡ undefined) × (x ≡ undefined) ⊎ (e : EaibFields) × (h.block ≢ undefined) × IsIndexBlock img h.block e × SlotAt img e (place_of i) x)

-- ---- The record of a chunk in a version 2 B-tree (HDF5 File Format Specification 3.0, "Version 2 B-trees")

-- the records before a place are below the key, and the one at it, where there is one, is not
pub record IsPlaceOf (key : Key) (rs : List RecordFields) (i : ℕ) : Type 0 where
  pub inside : i ≤ length rs
  pub below : All (λ s. key_below s.key key ≡ true) (take i rs)
  pub not_below : IfSome (slice_get rs i) (λ r. key_below r.key key ≡ false)

-- the record at a place has the key
abbrev pub HasRecord : Key → List RecordFields → ℕ → ℕ → Type 0
HasRecord key rs i x = (r : RecordFields) × (slice_get rs i ≡ Some r) × (r.key ≡ key) × (x ≡ r.address)

-- it has another, or there is none
abbrev pub HasNoRecord : Key → List RecordFields → ℕ → Type 0
HasNoRecord key rs i = IfSome (slice_get rs i) (λ r. r.key ≢ key)

-- in a leaf: at the first record that is not below the key; undefined where that has another key, or where there is none
abbrev pub LeafSlot : Key → List RecordFields → ℕ → Type 0
LeafSlot key rs x = (i : ℕ) × IsPlaceOf key rs i × (HasRecord key rs i x ⊎ HasNoRecord key rs i × (x ≡ undefined))

-- the child at the place says it
abbrev pub HasChild : List ChildFields → (ChildFields → Type 0) → ℕ → Type 0
HasChild cs Says i = (c : ChildFields) × (slice_get cs i ≡ Some c) × Says c

-- in an inner node: at the first record that is not below the key; on to the child there where that has another key, or where
-- there is none
abbrev pub NodeSlot : Key → List RecordFields → List ChildFields → (ChildFields → Type 0) → ℕ → Type 0
NodeSlot key rs cs Says x = (i : ℕ) × IsPlaceOf key rs i × (HasRecord key rs i x ⊎ HasNoRecord key rs i × HasChild cs Says i)

-- under the node of a depth at an address, with n records
abbrev pub TreeSlot : List ℕ → ℕ → Key → ℕ → ℕ → ℕ → Type 0
TreeSlot img zero key address n x =
    (rs : List RecordFields) × (btlf_at (range img address (btlf_len n)) address n ≡ Ok rs) × LeafSlot key rs x
TreeSlot img (suc depth) key address n x =
    (t : BtinFields) × (btin_at (range img address (btin_len n (suc depth))) address n (suc depth) ≡ Ok t)
    × NodeSlot key t.records t.children (λ c. TreeSlot img depth key c.address c.records x) x

-- in the tree whose header is at an address: undefined where its root is
abbrev pub TreeChunk : List ℕ → ℕ → Key → ℕ → Type 0
TreeChunk img address key x =
    (h : BthdFields) × (bthd_at (range img address bthd_len) address ≡ Ok h)
    × ((h.root ≡ undefined) × (x ≡ undefined) ⊎ (h.root ≢ undefined) × TreeSlot img h.depth key h.root h.records x)

-- ---- The chunks of a dataset

-- by the kind of index whose header is at an address
abbrev pub IndexChunk : List ℕ → IndexKind → ℕ → Key → ℕ → Type 0
IndexChunk img Array address key x = ArraySlot img address key.i x
IndexChunk img Tree address key x = TreeChunk img address key x

-- the chunk of a key has the address x; without an index it is undefined
abbrev pub HasChunk : List ℕ → Described → Key → ℕ → Type 0
HasChunk img d key x =
    (d.layout.address ≡ undefined) × (x ≡ undefined)
    ⊎ (d.layout.address ≢ undefined) × IndexChunk img d.layout.index d.layout.address key x

-- ---- The chunks of a dataset by their places in the grid

-- by the kind of index: in an array the chunk of a number, in a tree that of a place
abbrev pub PlacedChunk : List ℕ → IndexKind → ℕ → ℕ → ℕ → ℕ → ℕ → Type 0
PlacedChunk img Array address number i j x = ArraySlot img address number x
PlacedChunk img Tree address number i j x = TreeChunk img address (record { i = i; j = j }) x

-- the chunk of a band of rows and a place in it has the address x; without an index it is undefined
abbrev pub HasChunkAt : List ℕ → Described → ℕ → ℕ → ℕ → Type 0
HasChunkAt img d i j x =
    (d.layout.address ≡ undefined) × (x ≡ undefined)
    ⊎ (d.layout.address ≢ undefined) × PlacedChunk img d.layout.index d.layout.address (chunk_number d i j) i j x

-- each chunk of the grid has the address that is listed at its number
abbrev pub HasGrid : List ℕ → Described → List ℕ → Type 0
HasGrid img d table = (i j : ℕ) → i < bands d → j < chunks_across d → HasChunkAt img d i j (get_or table (chunk_number d i j) undefined)

-- The image has the dataset, its needed chunks are within the limits, and each chunk of the grid has the address that is listed
-- at its number.
pub record HasReading (limits : Limits) (img name : List ℕ) (r : Reading) : Type 0 where
  pub dataset : HasDataset img name r.place r.dataset
  pub within : needed r.dataset ≤ limit_of limits r.dataset.layout.index
  pub listed : length r.table ≡ needed r.dataset
  pub chunks : HasGrid img r.dataset r.table

-- ---- Several datasets of one file

-- each of one list and what has the same number in another belong together, and there are as many of both
abbrev pub AllPaired : {A B : Type 0} → (A → B → Type 0) → List A → List B → Type 0
AllPaired P [] [] = Unit {0}
AllPaired P [] (y ∷ ys) = ⊥
AllPaired P (x ∷ xs) [] = ⊥
AllPaired P (x ∷ xs) (y ∷ ys) = P x y × AllPaired P xs ys

-- the link of a name leads to this dataset, of whose header and index there is no finding
pub record IsPart (limits : Limits) (img : List ℕ) (s : Super) (messages : List FoundMessage) (name : List ℕ) (p : Part) : Type 0 where
  pub link : linked name messages ≡ Ok p.place
  pub visited : eval img (checked_part limits s p.place) ≡ Ok p

-- no number is there twice
abbrev pub AllDiffer : List ℕ → Type 0
AllDiffer [] = Unit {0}
AllDiffer (a ∷ rest) = AllByRecursion (λ (b : ℕ). a ≢ b) rest × AllDiffer rest

-- of two ranges the one that begins first, and of two at one place the first of the two, ends by where the other begins
pub record IsFit (u v : Used) : Type 0 where
  pub onward : u.place ≤ v.place → u.place + u.len ≤ v.place
  pub back : v.place < u.place → v.place + v.len ≤ u.place

-- each range with each one behind it
abbrev pub AllFit : List Used → Type 0
AllFit [] = Unit {0}
AllFit (u ∷ us) = AllByRecursion (IsFit u) us × AllFit us

-- No kind of finding applies to a file for these names: superblock and root header have none, each name's link leads to a
-- dataset that has none, no two to one header, and no two ranges overlap. And the file has this.
pub record HasAll (limits : Limits) (img : List ℕ) (names : List (List ℕ)) (t : AllSummary) : Type 0 where
  pub superblock : Super
  pub found : checked_super (length img) (range img 0 48) ≡ Ok superblock
  pub root : HeaderFields
  pub read : eval img (root_header (superblock.root)) ≡ Ok root
  pub root_ranges : List Used
  pub within : header_ranges superblock.end root.ranges ≡ Ok root_ranges
  pub parts : List Part
  pub linked_to : AllPaired (IsPart limits img superblock root.messages) names parts
  pub differ : AllDiffer (map (λ p. p.place) parts)
  pub fit : AllFit (ranges_of_all root_ranges parts)
  pub has : t ≡ all_summary superblock parts (ranges_of_all root_ranges parts)
