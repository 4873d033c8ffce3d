-- A tree of a session on the image of a file: where its nodes stand, and the ranges that it uses.
use Rattle.std.specs.Prelude.{◌≡◌, ◌⊎◌, ℕ, zero, suc, ◌+◌, ◌<◌, ◌≤◌, ◌^◌, ◌==◌, true, List, [], ◌∷◌, ◌++◌, length, map, flat_map, if◌then◌else◌, Ok}
use Rattle.std.specs.List.{All, sum_by}
use Rattle.h5w_model.specs.Numbers.{range, undefined}
use Rattle.h5w_model.specs.Programs.{eval}
use Rattle.h5w_model.specs.Trees.{btin_at, btin_len, btlf_at, btlf_len, node_size}
use Rattle.h5w_model.specs.Tables.{InPlace, nowhere, in_tree, address_behind}
use Rattle.h5w_model.specs.Findings.{Used}
use Rattle.h5w_model.specs.declared.cell.Key.{Key}
use Rattle.h5w_step_laws.specs.Ranges.{AllAmong, AllEndBy, block_at, chunk_at}
use Rattle.h5w_step_laws.specs.Counts.{count_at}
use Rattle.h5w_step_laws.specs.Indexes.{behind_visit}
use Rattle.h5w_bt.specs.declared.records.Record.{Record}
use Rattle.h5w_bt.specs.Parts.{record_of}
use Rattle.h5w_bt_nodes.specs.Nodes.{Tree}
use Rattle.h5w_bt_index.specs.Marks.{Part, clean_of}
use Rattle.h5w_bt_index.specs.Index.{Index, IsClean, IsIndex, address_of, blank_leaf, inserted, no_tree}
use Rattle.h5w_bt_nodes.specs.Blocks.{changes, node_of, place_of}
use Rattle.h5w_bt_index.specs.Plans.{header_of}

-- What a reader reads at the place of a node, by the node's own length, is this node: its records, and of an inner node its pointers.
-- Whoever wrote it, and whatever stands behind its sum.
abbrev pub IsReadAs : List ℕ → (d : ℕ) → Tree d → Type 0
IsReadAs img zero t = btlf_at (range img t.place (btlf_len (length t.records))) t.place (length t.records) ≡ Ok (map record_of t.records)
IsReadAs img (suc d) t = btin_at (range img t.place (btin_len (length t.records) (suc d))) t.place (length t.records) (suc d) ≡ Ok (node_of d t)

-- the node stands at its place, and ends below 2^64
pub record StandsNode (img : List ℕ) (d : ℕ) (t : Tree d) : Type 0 where
  pub reads : IsReadAs img d t
  pub ends : place_of d t + node_size < 2 ^ 64

-- each node does
abbrev pub AllStand : List ℕ → (d : ℕ) → Tree d → Type 0
AllStand img zero t = StandsNode img zero t
AllStand img (suc d) t = StandsNode img (suc d) t × All (AllStand img d) t.children

-- the tree without records, as a node
abbrev pub blank : Part
blank = record { depth = 0; tree = blank_leaf }

-- Each node that did not change since it was written stands at its place; the tree without records stands nowhere.
abbrev pub StandsTree : Index → List ℕ → Type 0
StandsTree v img = (p : Part) → IsClean p v → (v ≡ no_tree) ⊎ StandsNode img p.depth p.tree

-- ---- Ranges

-- of a record's chunk, where it has an address
abbrev pub chunk_of : ℕ → Record → List Used
chunk_of bytes r = if r.address == undefined then [] else chunk_at r.address bytes ∷ []

abbrev pub chunks_of : ℕ → List Record → List Used
chunks_of bytes rs = flat_map (chunk_of bytes) rs

-- of a node at a place
abbrev pub node_range : ℕ → Used
node_range place = block_at place node_size

-- of a node, where it has a place
abbrev pub own_range : ℕ → List Used
own_range place = if place == undefined then [] else node_range place ∷ []

-- of records with what is under the children around them
abbrev pub around : ℕ → List Record → List (List Used) → List Used
around bytes rs [] = []
around bytes [] (c ∷ cs) = c
around bytes (r ∷ rs) (c ∷ cs) = c ++ (chunk_of bytes r ++ around bytes rs cs)

-- of a node and of all that is under it, in the order of a check
abbrev pub ranges_under : ℕ → (d : ℕ) → Tree d → List Used
ranges_under bytes zero t = own_range t.place ++ chunks_of bytes t.records
ranges_under bytes (suc d) t = own_range t.place ++ around bytes t.records (map (ranges_under bytes d) t.children)

-- those behind the header
abbrev pub behind_of : ℕ → Index → List Used
behind_of bytes v = ranges_under bytes v.depth v.root

-- what the header says, with this total: no chunk has an address where the root has no place
abbrev pub blocks_in_place : ℕ → Index → InPlace
blocks_in_place total v = if place_of v.depth v.root == undefined then nowhere else in_tree (record (header_of v) { total = total })

-- ---- Laws

-- Where all nodes stand, a check behind the header finds the tree's ranges, and each key its address, whatever total the header says.
pub record IsRead (v : Index) (img : List ℕ) : Type 0 where
  pub visited : (total end bytes : ℕ) → AllEndBy end (behind_of bytes v) → eval img (behind_visit end bytes (blocks_in_place total v)) ≡ Ok (behind_of bytes v)
  pub found : (total : ℕ) (key : Key) → eval img (address_behind (blocks_in_place total v) key) ≡ Ok (address_of v key)

-- a tree that stands, unchanged, is read
abbrev pub TreeIsRead : Type 0
TreeIsRead = (v : Index) (img : List ℕ) → IsIndex v → clean_of v.depth v.root ≡ true → StandsTree v img → IsRead v img

-- ranges that are among others, none of them more often: so that they meet as little as those
pub record AreAmong (us vs : List Used) : Type 0 where
  pub among : AllAmong us vs
  pub counts : (p : ℕ) → count_at p us ≤ count_at p vs

-- With a record more, of ranges there is that of its chunk more, where it has an address, and none other.
abbrev pub InsertedBehind : Type 0
InsertedBehind = (x : Record) (v : Index) (bytes : ℕ) → IsIndex v → IsIndex (inserted x v) → AreAmong (behind_of bytes (inserted x v)) (chunk_of bytes x ++ behind_of bytes v)

-- the same ranges, perhaps in another order
abbrev pub AreSame : List Used → List Used → Type 0
AreSame us vs = (f : Used → ℕ) → sum_by f us ≡ sum_by f vs

-- the range of a chunk at an address, where that is defined
abbrev pub chunk_named : ℕ → ℕ → List Used
chunk_named bytes address = if address == undefined then [] else chunk_at address bytes ∷ []

-- what the ranges of a tree's nodes weigh together
abbrev pub nodes_weigh : (Used → ℕ) → (d : ℕ) → Tree d → ℕ
nodes_weigh f zero t = sum_by f (own_range t.place)
nodes_weigh f (suc d) t = sum_by f (own_range t.place) + sum_by (nodes_weigh f d) t.children

-- the nodes of two trees have the same ranges
abbrev pub SameNodes : Index → Index → Type 0
SameNodes v w = (f : Used → ℕ) → nodes_weigh f w.depth w.root ≡ nodes_weigh f v.depth v.root

-- With a record more, or another in the place of that of its key, the nodes keep their ranges; the range of its chunk comes, and that of
-- the chunk that the key had goes: an address more, one that is another, or one taken back.
pub record Renewed (x : Record) (v w : Index) : Type 0 where
  pub nodes : SameNodes v w
  pub behind : (bytes : ℕ) → AreSame (chunk_named bytes (address_of v x.key) ++ behind_of bytes w) (chunk_of bytes x ++ behind_of bytes v)

abbrev pub InsertedRenews : Type 0
InsertedRenews = (x : Record) (v : Index) → IsIndex v → IsIndex (inserted x v) → Renewed x v (inserted x v)

-- Trees of one map whose nodes have the same ranges have the same ranges.
abbrev pub SameBehind : Type 0
SameBehind = (v w : Index) (bytes : ℕ) → IsIndex v → IsIndex w → SameNodes v w → ((key : Key) → address_of w key ≡ address_of v key) → AreSame (behind_of bytes w) (behind_of bytes v)

-- With a record more, or another in the place of that of its key, at most seven nodes more are changed: those on the way to it, those into
-- which these are divided, and a new root.
abbrev pub InsertedChanges : Type 0
InsertedChanges = (x : Record) (v : Index) → IsIndex v → IsIndex (inserted x v) → changes (inserted x v).depth (inserted x v).root ≤ changes v.depth v.root + 7
