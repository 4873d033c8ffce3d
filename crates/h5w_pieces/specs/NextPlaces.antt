-- By which places rows are written of which some were written before, and the writes of the others.
use Rattle.std.specs.Prelude.{ℕ, suc, List, [], ◌∷◌, drop, nat_lt, ◌||◌, if◌then◌else◌}
use Rattle.h5w_model.specs.Datasets.{Described}
use Rattle.h5w_model.specs.declared.piece.Write.{Write}
use Rattle.h5w_chunks.specs.Shares.{new_writes}
use Rattle.h5w_chunks.specs.Early.{band_row, shift_of}
use Rattle.h5w_chunks.specs.declared.grid.ChunkPlace.{ChunkPlace}

-- by which place rows from `mid` on are written into their touched chunk k: where its band has a row before `mid` it counts as stored
abbrev pub next_place : Described → ℕ → ℕ → ChunkPlace → ChunkPlace
next_place d mid k p = record p { stored = nat_lt (band_row d mid k) mid || p.stored }

-- so are these, of the touched chunks from chunk k on
unfoldable pub next_from : Described → ℕ → ℕ → List ChunkPlace → List ChunkPlace
next_from d mid k [] = []
next_from d mid k (p ∷ ps) = next_place d mid k p ∷ next_from d mid (suc k) ps

-- The places by which the rows from `mid` on are written, of all chunks that the rows from `from` on touch: these, where no row came before.
abbrev pub next_places : Described → ℕ → ℕ → List ChunkPlace → List ChunkPlace
next_places d from mid all = if nat_lt from mid then next_from d mid 0 (drop (shift_of d from mid) all) else all

-- the writes of the rows from `mid` on, of rows from `from` on whose chunks have these places: none where all were written early
abbrev pub writes_behind : Described → List ℕ → (from mid to : ℕ) → List ChunkPlace → List Write
writes_behind d cells from mid to chunks = if nat_lt mid to then new_writes d cells mid to (next_places d from mid chunks) else []
