-- The plan of a tree's changed nodes: their moves, what is written, and the tree that then stands.
use Rattle.std.specs.Prelude.{◌≡◌, ℕ, ◌+◌, ◌<◌, ◌^◌, max, false, List, [], ◌∷◌, length, map, if◌then◌else◌}
use Rattle.h5w_model.specs.Trees.{BthdFields, bthd_bytes, node_size}
use Rattle.h5w_model.specs.declared.piece.Write.{Write}
use Rattle.h5w_space.specs.Space.{Space, extent}
use Rattle.h5w_space.specs.declared.Full.{Full}
use Rattle.h5w_cache.specs.Plans.{AreRetired, Chain, IsRefused, Took}
use Rattle.h5w_cache.specs.declared.moves.Move.{Move}
use Rattle.h5w_bt_nodes.specs.Nodes.{records_of, total_of}
use Rattle.h5w_bt_index.specs.Marks.{clean_of}
use Rattle.h5w_bt_index.specs.Index.{Index, records}
pub use Rattle.h5w_bt_nodes.specs.Blocks.{news}
use Rattle.h5w_bt_nodes.specs.Blocks.{AllRead, place_of, placed, stood, writes_of, written}

-- what the header says; the root of a tree without records has no place
abbrev pub header_of : Index → BthdFields
header_of v = record { depth = v.depth; root = place_of v.depth v.root; records = length (records_of v.depth v.root); total = total_of v.depth v.root }

-- the tree whose changed nodes stand at these places
abbrev pub planned : List ℕ → Index → Index
planned ps v = record v { root = placed v.depth ps v.root }

-- the header is written again where it stands, as one piece, exactly where the tree changed
abbrev pub header_writes : ℕ → Index → Index → List Write
header_writes place v w = if clean_of v.depth v.root then [] else record { at = place; piece = bthd_bytes (header_of w) } ∷ []

-- ---- Places

-- a node gets a new place
pub record IsNodeMove (s : Space) (m : Move) (t : Space) : Type 0 where
  pub size : m.len ≡ node_size
  pub moves : m.in_place ≡ false
  pub step : Took s t (extent m.new node_size)
  pub ends : m.new + node_size < 2 ^ 64

-- one after another
abbrev pub AreNodeMoves : Space → List Move → Space → Type 0
AreNodeMoves s ms t = Chain IsNodeMove s ms t

-- the places that they leave; those that they get are `news`
abbrev pub olds : List Move → List ℕ
olds ms = map (λ (m : Move). m.old) ms

-- Some first ones of n nodes have their places, and the next has none.
pub record HasNoPlace (n : ℕ) (s : Space) (e : Full) : Type 0 where
  pub taken : List Move
  pub t : Space
  pub moves : AreNodeMoves s taken t
  pub inside : length taken < n
  pub refused : IsRefused t node_size e

-- The places of some nodes were taken, and none that a node had is retired.
pub record TookSome (s t : Space) : Type 0 where
  pub moves : List Move
  pub taken : Space
  pub took : AreNodeMoves s moves taken
  pub roomy : t ≡ record taken { spare = t.spare }

-- What contracts see of a plan that is begun: the moves of the changed nodes, and the writes.
pub record Start : Type 0 where
  pub moves : List Move
  pub copies : List Write
  pub in_place : List Write

-- the moves are those of the changed nodes, in their order, and the places after them have room for as many retirements
pub record AreTaken (v : Index) (s : Space) (ms : List Move) (t : Space) : Type 0 where
  pub old : olds ms ≡ stood v.depth v.root
  pub taken : Space
  pub moves : AreNodeMoves s ms taken
  pub roomy : t ≡ record taken { spare = max taken.spare (length ms) }

-- It was begun of this tree, whose header stands at a place, on places s, which are t then: the changed nodes have their places, in their
-- order, and those that they leave are retired.
pub record IsBegun (header : ℕ) (v : Index) (s : Space) (b : Start) (t : Space) : Type 0 where
  pub roomy : Space
  pub taken : AreTaken v s b.moves roomy
  pub retired : AreRetired roomy b.moves t
  pub copies : b.copies ≡ writes_of (written v.depth (news b.moves) v.root)
  pub in_place : b.in_place ≡ header_writes header v (planned (news b.moves) v)
  pub reads : AllRead v.depth (news b.moves) v.root

-- It was begun of this tree, on some places.
pub record WasBegun (header : ℕ) (v : Index) (b : Start) : Type 0 where
  pub from : Space
  pub to : Space
  pub begun : IsBegun header v from b to

-- The changed nodes got new places, in their order, and are written there; the places that they leave are retired, where they are
-- live; the header names the root.
pub record IsTreePlan (header : ℕ) (v : Index) (s : Space) (ms : List Move) (copied fixed : List Write) (w : Index) (t : Space) : Type 0 where
  pub roomy : Space
  pub taken : AreTaken v s ms roomy
  pub retired : AreRetired roomy ms t
  pub index : w ≡ planned (news ms) v
  pub copies : copied ≡ writes_of (written v.depth (news ms) v.root)
  pub in_place : fixed ≡ header_writes header v w
  pub reads : AllRead v.depth (news ms) v.root
  -- all is clean, and no record is another
  pub clean : stood w.depth w.root ≡ []
  pub records : records w ≡ records v
