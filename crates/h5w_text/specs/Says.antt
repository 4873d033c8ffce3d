-- The last bytes of a run.
use Rattle.std.specs.Prelude.{◌≡◌, ◌⊎◌, ℕ, List}
use Rattle.h5w_model.specs.Causes.{Rose}
use Rattle.h5w_text.specs.Streams.{SinkView, Gave, GaveSome}
use Rattle.h5w_text.specs.Errors.{error_text}
use Rattle.h5w_text.specs.declared.error.ErrorLine.TheVariants as errors
use Rattle.h5w_text.specs.declared.status.Status.{Status}
use Rattle.h5w_text.specs.declared.status.Status.TheVariants as statuses

-- these last bytes were written, unless the sink failed
pub data Said (last : List ℕ) (status result : Status) (k l : SinkView) : Type 0 where
  whole : result ≡ status → Gave last k l → Said last status result k l
  failed : result ≡ statuses.Sink → Rose k.faults l.faults → GaveSome last k l → Said last status result k l

-- the same, unless memory for them was refused
abbrev pub SaidUnlessMemory : List ℕ → Status → Status → SinkView → SinkView → Type 0
SaidUnlessMemory last status result k l = Said last status result k l ⊎ Said (error_text errors.Memory) statuses.Memory result k l
