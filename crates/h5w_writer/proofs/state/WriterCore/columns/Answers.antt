use Rattle.std.proofs.Common.{◌∙◌, ap}
use Rattle.h5w_writer.specs.Sessions.{Session}
use Rattle.h5w_writer.proofs.CreatingLemmas.{columns_told}
use Rattle.h5w_writer.proofs.state.WriterCore.columns.Goals as goal

pub returns-clause-log : goal.returns-clause-log
returns-clause-log c log stands = ap (λ (t : Session). t.dataset.shape.cols) c.self.view_is ∙ columns_told c.args.self.now log stands
