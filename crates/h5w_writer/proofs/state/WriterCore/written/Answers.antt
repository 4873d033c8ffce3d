use Rattle.h5w_writer.proofs.CreatingLemmas.{piece_stands}
use Rattle.h5w_writer.proofs.state.WriterCore.written.Goals as goal

pub returns-clause-stands : goal.returns-clause-stands
returns-clause-stands c w ws pending log stands = piece_stands c.args.self.now w ws _ log pending (c.advance.ensures w ws pending) stands
