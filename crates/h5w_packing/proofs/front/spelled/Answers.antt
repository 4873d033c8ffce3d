use Rattle.std.proofs.Common.{◌≤◌, List, length, ℕ, sym, subst}
use Rattle.h5w_step_laws.proofs.SpelledLemmas.{spelled_read}
use Rattle.h5w_chunks.specs.Grids.{dataset_of}
use Rattle.h5w_packing.proofs.FrontLemmas.{spelled_short}
use Rattle.h5w_packing.proofs.ResultLemmas.{ok_by}
use Rattle.h5w_packing.proofs.front.spelled.Goals as goal

pub dataset_header-requires-clause-short : goal.dataset_header-requires-clause-short
dataset_header-requires-clause-short c = (spelled_read (dataset_of c.args.grid.now) c.requires.spellable).short

pub returns-clause-short : goal.returns-clause-short
returns-clause-short c =
    ok_by c.dataset_header.result (λ p. length p ≤ 145) (λ p e. subst (λ (b : List ℕ). length b ≤ 145) (sym e) (spelled_short (dataset_of c.args.grid.now) c.requires.spellable)) c.dataset_header.ensures
