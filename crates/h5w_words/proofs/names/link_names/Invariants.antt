use Rattle.std.proofs.Common.{◌≡◌, map, take}
use Rattle.h5w_words.proofs.NameLemmas.{AreTaken}
use Rattle.h5w_words.proofs.names.link_names.Given as goal

abbrev pub invariant-loop-part : goal.invariant-loop-part
invariant-loop-part l = (l.names ≡ map (λ part. part.now) (take l.part-index l.part-items)) × AreTaken l.names
