use Rattle.std.proofs.Common.{◌≡◌, take}
use Rattle.h5w_model.specs.Calls.{known_table}
use Rattle.h5w_lookup.specs.Attempts.{known_of}
use Rattle.h5w_dataset.specs.Described.{described_of}
use Rattle.h5w_lookup.specs.Unknown.{absent_from, needed_with}
use Rattle.h5w_lookup.proofs.learning.still_absent.Given as goal

abbrev pub invariant-loop-n : goal.invariant-loop-n
invariant-loop-n l = l.absent.items ≡ absent_from 0 (needed_with (known_table (known_of l.known) (described_of l.news.dataset)) (described_of l.news.dataset) (take l.n l.news.found.items))
