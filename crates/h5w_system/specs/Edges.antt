-- The edge to the standard streams and to the files of the system: what it tells, and what it keeps.
use Rattle.std.specs.Prelude.{◌≡◌, ℕ, Bool, true, List, [], Option, Some, None, string_bytes}
use Rattle.h5w_text.specs.Streams.{SourceView, SinkView}
use Rattle.h5w_system.specs.declared.disk.Kept.{Kept}

-- a source that failed so often, and tells nothing of what it has left
abbrev pub untold_source : ℕ → SourceView
untold_source faults = record { left = None; faults = faults; through = [] }

-- a sink that failed so often, and tells nothing of what was written
abbrev pub untold_sink : ℕ → SinkView
untold_sink faults = record { written = None; faults = faults; through = [] }

-- the file of this name is the one that is kept open, and may be written where that is asked
pub record IsKept (kept : Option Kept) (name : List ℕ) (writable : Bool) : Type 0 where
  pub file : Kept
  pub is : kept ≡ Some file
  pub named : string_bytes file.name ≡ name
  pub may : writable ≡ true → file.writable ≡ true
