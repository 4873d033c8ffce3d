-- The new chunks of a flush.
use Rattle.std.specs.Prelude.{◌≡◌, true, List, ℕ}
use Rattle.h5w_model.specs.Findings.{Used}
use Rattle.h5w_model.specs.declared.cell.Key.{Key}
use Rattle.h5w_chunks.specs.declared.grid.ChunkPlace.{ChunkPlace}
use Rattle.h5w_step_laws.specs.Ranges.{Among}
use Rattle.h5w_step_laws.specs.Moments.{Moment}
use Rattle.h5w_flush_laws.specs.Rows.{new_chunks}

-- all of these are chunks
abbrev pub AreChunks : List Used → Type 0
AreChunks us = (u : Used) → Among u us → u.chunk ≡ true

-- those of new rows, at places
abbrev pub chunks_for : Moment → (Key → ℕ) → List ChunkPlace → List Used
chunks_for m old places = new_chunks m.dataset old m.dataset.shape.rows 0 places
