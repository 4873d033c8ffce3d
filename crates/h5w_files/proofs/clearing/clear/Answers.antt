use Rattle.h5w_files.proofs.ClearLemmas.{clears_told}
use Rattle.h5w_files.proofs.clearing.clear.Goals as goal

pub returns-clause-clears : goal.returns-clause-clears
returns-clause-clears g c = clears_told c.args.file.now c.args.upgrade c.in-Err.error c.tell.result c.in-Err.ensures.clears c.tell.ensures
