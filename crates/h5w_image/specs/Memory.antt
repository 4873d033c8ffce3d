-- What contracts see of a journal and of an image in memory, and what a call leaves of it.
use Rattle.std.specs.Prelude.{ℕ, ◌+◌, ◌-◌, ◌^◌, min, max, Bool, true, List, [], ◌∷◌, ◌++◌, ◌==◌, if◌then◌else◌, Some, None}
use Rattle.std.specs.List.{list_any}
use Rattle.h5w_model.specs.Images.{apply}
use Rattle.h5w_model.specs.declared.piece.Write.{Write}
use Rattle.h5w_image.specs.View.{ImageView}

-- the writes, the oldest first, and for how many more there is room
pub record JournalView : Type 0 where
  pub writes : List Write
  pub room : ℕ

pub record MemView : Type 0 where
  -- the bytes that it began with
  pub start : List ℕ
  pub bytes : List ℕ
  -- the writes that were Ok, the oldest first
  pub history : List Write
  -- the calls that are to fail, counted from 1
  pub failing : List ℕ
  -- how many calls were made, and how many of them failed
  pub calls : ℕ
  pub faults : ℕ
  -- the room that is reserved
  pub pieces : ℕ
  pub end : ℕ

-- an image of these bytes that was not called yet
abbrev pub fresh : List ℕ → List ℕ → MemView
fresh bytes failing = record { start = bytes; bytes = bytes; history = []; failing = failing; calls = 0; faults = 0; pieces = 0; end = 0 }

-- one more, but no more than the greatest u64
abbrev pub counted : ℕ → ℕ
counted n = min (n + 1) (2 ^ 64 - 1)

-- the next call is one that is to fail
abbrev pub is_failing : List ℕ → ℕ → Bool
is_failing failing calls = list_any (λ k. k == counted calls) failing

abbrev pub fails : MemView → Bool
fails v = is_failing v.failing v.calls

-- after one more call that changes nothing
abbrev pub called : MemView → MemView
called v = record v { calls = counted v.calls; faults = if fails v then counted v.faults else v.faults }

-- after one more call, which made room
abbrev pub roomy : ℕ → ℕ → MemView → MemView
roomy pieces end v = record (called v) { pieces = max v.pieces pieces; end = max v.end end }

-- after one more call, which wrote
abbrev pub written : Write → MemView → MemView
written w v = record (called v) { bytes = apply w v.bytes; history = v.history ++ w ∷ []; pieces = v.pieces - 1 }

-- an image in memory as the traits see it
abbrev pub in_memory : MemView → ImageView
in_memory v = record {
  bytes = Some v.bytes;
  history = Some v.history;
  disk = None;
  alone = true;
  faults = v.faults;
  through = [];
  pieces = v.pieces;
  end = v.end;
}
