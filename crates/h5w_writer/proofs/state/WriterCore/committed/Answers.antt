use Rattle.std.proofs.Common.{◌∙◌, ap, sym}
use Rattle.h5w_writer.specs.Sessions.{Session}
use Rattle.h5w_writer.proofs.CreatingLemmas.{committed_told}
use Rattle.h5w_writer.proofs.state.WriterCore.committed.Goals as goal

pub returns-clause-flushed : goal.returns-clause-flushed
returns-clause-flushed c log stands = ap (λ (t : Session). t.committed) c.self.view_is ∙ sym (committed_told c.args.self.now log stands)
