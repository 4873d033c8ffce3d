-- A plan that is begun: it has all places and memory that it needs, and nothing has changed yet but the places.
use Rattle.std.specs.Prelude.{◌≡◌, ℕ, ◌≤◌, List, [], length, take, drop, vec_capacity, Option}
use Rattle.std.specs.List.{sum_by}
use Rattle.h5w_space.specs.Space.{Space}
use Rattle.h5w_cache.specs.Blocks.{BlockView}
use Rattle.h5w_cache.specs.Plans.{AreRetired, AreTaken, IsOrder, IsSplit, numbers, piece_count}
use Rattle.h5w_cache.specs.declared.moves.Move.{Move}
use Rattle.h5w_cache.specs.declared.plan.Plan.{Plan}

-- what contracts see of it
pub record Start : Type 0 where
  -- the blocks that will be written, with the places that they will have
  pub moves : List Move
  -- how many of them stand before the first in place
  pub split : ℕ

-- how many pieces the blocks before the first in place will have, and those from it on
abbrev pub copy_pieces : Start → ℕ
copy_pieces b = sum_by piece_count (take b.split b.moves)

abbrev pub in_place_pieces : Start → ℕ
in_place_pieces b = sum_by piece_count (drop b.split b.moves)

-- there are so many pieces; no write is there yet, and all have room
pub record HasRooms (plan : Plan) (split copied fixed : ℕ) : Type 0 where
  pub inside : split ≤ length plan.moves.items
  pub copies : copied ≡ sum_by piece_count (take split plan.moves.items)
  pub in_place : fixed ≡ sum_by piece_count (drop split plan.moves.items)
  pub no_copies : plan.copies.items ≡ []
  pub none_in_place : plan.in_place.items ≡ []
  pub room_copies : copied ≤ vec_capacity plan.copies
  pub room_in_place : fixed ≤ vec_capacity plan.in_place

-- it was begun of this store on places s, which are t then: the changed blocks have their places, in turn, and those that they
-- leave are retired
pub record IsBegun (blocks : List (Option BlockView)) (places changed : List ℕ) (s : Space) (b : Start) (t : Space) : Type 0 where
  pub order : IsOrder blocks changed (numbers b.moves)
  pub roomy : Space
  pub taken : AreTaken blocks places s b.moves roomy
  pub retired : AreRetired roomy b.moves t
  pub split : IsSplit b.moves b.split

-- it was begun of this store, on some places
pub record WasBegun (blocks : List (Option BlockView)) (places changed : List ℕ) (b : Start) : Type 0 where
  pub from : Space
  pub to : Space
  pub begun : IsBegun blocks places changed from b to
