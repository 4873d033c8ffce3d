-- The pieces of blocks that end by a place do.
use Rattle.std.proofs.Common.{◌≡◌, ℕ, zero, suc, ◌+◌, ◌*◌, ◌/◌, ◌<◌, ◌≤◌, List, [], ◌∷◌, length, drop, refl, inl, inr, arith, length-drop, length-take}
use Rattle.h5w_model.specs.Images.{AllSized, first_pieces, pieces}
use Rattle.h5w_model.specs.declared.piece.Write.{Write}
use Rattle.h5w_model.proofs.ImageLemmas.{AllSized-append, pieces-sized}
use Rattle.h5w_step_laws.specs.Ranges as ranges
use Rattle.h5w_flush_laws.specs.Parts.{block_ranges, block_writes}
use Rattle.h5w_chunks.specs.Rows.{AllWithin}
use Rattle.h5w_chunks.specs.declared.grid.ChunkPlace.{ChunkPlace}
use Rattle.std.specs.List.{slice_get}
use Rattle.std.specs.Prelude.{Some}
use Rattle.h5w_model.specs.Datasets.{Described}
use Rattle.h5w_chunks.specs.Grids.{chunk_len}
use Rattle.h5w_writer.specs.Sessions.{AllEndBy}
use Rattle.h5w_writer.proofs.PastLemmas.{ends_joined}

first_within : (k place : ℕ) (bytes : List ℕ) (end : ℕ) → 512 * k < length bytes + 512 → place + length bytes ≤ end → AllEndBy end (first_pieces k place bytes)
unfolding first_pieces
first_within zero place bytes end few within = tt
first_within (suc zero) place bytes end few within = (omega (arith, length-take 512 bytes), tt)
first_within (suc (suc k)) place bytes end few within =
    let front = length-take 512 bytes in
    let rest = length-drop 512 bytes in
    let more : 512 < length bytes = omega (arith, few) in
    (omega (arith, front), first_within (suc k) (place + 512) (drop 512 bytes) end (omega (arith, few, rest, more)) (omega (arith, rest, more, within)))

pub pieces_within : (place : ℕ) (bytes : List ℕ) (end : ℕ) → place + length bytes ≤ end → AllEndBy end (pieces place bytes)
unfolding pieces
pieces_within place bytes end within = first_within ((length bytes + 511) / 512) place bytes end (omega arith) within

pub blocks_sized : (bs : List (ℕ × List ℕ)) → AllSized (block_writes bs)
blocks_sized [] = tt
blocks_sized (b ∷ bs) = AllSized-append (pieces b.0 b.1) (block_writes bs) (pieces-sized b.0 b.1) (blocks_sized bs)

pub blocks_within : (end : ℕ) (bs : List (ℕ × List ℕ)) → ranges.AllEndBy end (block_ranges bs) → AllEndBy end (block_writes bs)
blocks_within end [] each = tt
blocks_within end (b ∷ bs) each =
    ends_joined end (pieces b.0 b.1) (block_writes bs) (pieces_within b.0 b.1 end (each (ranges.block_at b.0 (length b.1)) (inl refl))) (blocks_within end bs (λ u among. each u (inr among)))

-- writes within chunks that end by a place
pub rows_within : (d : Described) (end : ℕ) (places : List ChunkPlace) (ws : List Write) → ((k : ℕ) (p : ChunkPlace) → slice_get places k ≡ Some p → p.address + chunk_len d ≤ end) → AllWithin d places ws → AllEndBy end ws
rows_within d end places [] inside within = tt
rows_within d end places (w ∷ ws) inside within =
    let at = within.0 in
    let own : at.1.address + chunk_len d ≤ end = inside at.0 at.1 at.2 in
    (omega (arith, own, at.4), rows_within d end places ws inside within.1)
