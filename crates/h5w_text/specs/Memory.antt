-- What contracts see of a source and of a sink in memory, and what a call leaves of them.
use Rattle.std.specs.Prelude.{ℕ, Bool, List, [], drop, if◌then◌else◌, Option, Some}
use Rattle.h5w_image.specs.Memory.{counted, is_failing}
use Rattle.h5w_text.specs.Streams.{SourceView, SinkView}

-- of a source: the bytes left, the calls that are to fail, counted from 1, and how many calls were made and failed
pub record MemSourceView : Type 0 where
  pub left : List ℕ
  pub failing : List ℕ
  pub calls : ℕ
  pub faults : ℕ

-- of a sink: the bytes written, None once memory for them was refused; the calls as above
pub record MemSinkView : Type 0 where
  pub written : Option (List ℕ)
  pub failing : List ℕ
  pub calls : ℕ
  pub faults : ℕ

-- a source of these bytes that was not called yet
abbrev pub fresh_source : List ℕ → List ℕ → MemSourceView
fresh_source bytes failing = record { left = bytes; failing = failing; calls = 0; faults = 0 }

-- a sink that was not called yet
abbrev pub fresh_sink : List ℕ → MemSinkView
fresh_sink failing = record { written = Some []; failing = failing; calls = 0; faults = 0 }

-- the next call is one that is to fail
abbrev pub source_fails : MemSourceView → Bool
source_fails v = is_failing v.failing v.calls

abbrev pub sink_fails : MemSinkView → Bool
sink_fails v = is_failing v.failing v.calls

-- after one more call, which took so many bytes if it did not fail
abbrev pub source_called : ℕ → MemSourceView → MemSourceView
source_called n v = record v {
  left = if source_fails v then v.left else drop n v.left;
  calls = counted v.calls;
  faults = if source_fails v then counted v.faults else v.faults;
}

-- a source in memory as the trait sees it
abbrev pub source_in_memory : MemSourceView → SourceView
source_in_memory v = record { left = Some v.left; faults = v.faults; through = [] }

-- a sink in memory as the trait sees it
abbrev pub sink_in_memory : MemSinkView → SinkView
sink_in_memory v = record { written = v.written; faults = v.faults; through = [] }
