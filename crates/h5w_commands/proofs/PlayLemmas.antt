-- A script over a file of one name.
use Rattle.std.proofs.Common.{◌≡◌, ℕ, List, [], ◌∷◌, length, arith}
use Rattle.h5w_options.specs.declared.options.Options.{Options}
use Rattle.h5w_text.specs.Streams.{SourceView, SinkView}
use Rattle.h5w_text.specs.declared.status.Status.{Status}
use Rattle.h5w_playing.specs.Starts.{PlayEnds}

-- which name it is says nothing of the script
pub by_one : (name : List ℕ) (names : List (List ℕ)) (options : Options) (attempts : ℕ) (status : Status) (s t : SourceView) (k l : SinkView) → length names ≡ 1 → PlayEnds (name ∷ []) options attempts status s t k l
    → PlayEnds names options attempts status s t k l
by_one name [] options attempts status s t k l one h = absurd (omega (arith, one))
by_one name (x ∷ []) options attempts status s t k l one h = h
by_one name (x ∷ y ∷ names) options attempts status s t k l one h = absurd (omega (arith, one))
