-- The copies of a plan of a store as blocks at new places.
use Rattle.std.specs.Prelude.{◌≡◌, ℕ, List, length, map, Option}
use Rattle.std.specs.List.{All}
use Rattle.h5w_cache.specs.Blocks.{BlockView}
use Rattle.h5w_cache.specs.Plans.{bytes_in, writes_of}
use Rattle.h5w_cache.specs.declared.moves.Move.{Move}
use Rattle.h5w_flush_laws.specs.Spaces.{moved_ranges}
use Rattle.h5w_flush_laws.specs.Parts.{block_ranges, block_writes}

-- blocks with their new places
abbrev pub moved_blocks : List (Option BlockView) → List Move → List (ℕ × List ℕ)
moved_blocks blocks ms = map (λ (m : Move). (m.new, bytes_in blocks m.number)) ms

-- They are what the plan writes, and their ranges are those that it took.
pub record CopyLaws : Type 0 where
  pub writes : (blocks : List (Option BlockView)) (ms : List Move) → writes_of blocks ms ≡ block_writes (moved_blocks blocks ms)
  pub ranges : (blocks : List (Option BlockView)) (ms : List Move) → All (λ (m : Move). m.len ≡ length (bytes_in blocks m.number)) ms → block_ranges (moved_blocks blocks ms) ≡ moved_ranges ms
