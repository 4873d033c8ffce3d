use Rattle.h5w_writer.proofs.FindingLemmas.{session_finds}
use Rattle.h5w_writer.proofs.finding.session_finds.Goals as goal

pub returns : goal.returns
returns c = session_finds
