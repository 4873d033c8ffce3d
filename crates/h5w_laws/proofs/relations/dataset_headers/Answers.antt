use Rattle.h5w_laws.proofs.DatasetReads.{finds_dataset}
use Rattle.h5w_laws.proofs.relations.dataset_headers.Goals as goal

pub returns : goal.returns
returns c = finds_dataset
