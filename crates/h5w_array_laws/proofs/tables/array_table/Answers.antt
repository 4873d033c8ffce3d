use Rattle.h5w_array_laws.proofs.TableLemmas as lemmas
use Rattle.h5w_array_laws.proofs.tables.array_table.Goals as goal

pub returns : goal.returns
returns c = lemmas.array_table
