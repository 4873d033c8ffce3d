use Rattle.h5w_first_flush_laws.proofs.flushes.start_leads.Goals as goal
use Rattle.h5w_first_flush_laws.proofs.StartLeadLemmas as lemmas

pub returns : goal.returns
returns c = lemmas.start_leads
