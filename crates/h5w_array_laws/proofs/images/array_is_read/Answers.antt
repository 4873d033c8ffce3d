use Rattle.h5w_array_laws.proofs.FoundLemmas.{address_found}
use Rattle.h5w_array_laws.proofs.VisitedLemmas.{visited}
use Rattle.h5w_array_laws.proofs.images.array_is_read.Goals as goal

pub returns : goal.returns
returns c = λ v img a clean stands. record { visited = visited v img a clean stands; found = address_found v img a clean stands }
