use Rattle.h5w_several_writer_laws.specs.Sessions.{all_pending}
use Rattle.h5w_several_writer_laws.proofs.CallLemmas.{calls_stand}
use Rattle.h5w_several_writer.proofs.FlowLemmas.{keeps_parts}
use Rattle.h5w_several_writer.proofs.ShownLemmas.{first_of}
use Rattle.h5w_several_writer.proofs.several.SeveralWriter.written.Goals as goal

pub returns-clause-stands : goal.returns-clause-stands
returns-clause-stands c w ws same log stands = calls_stand.shown c.args.self.now _ w log stands (c.advance.ensures.piece w ws same)

pub returns-clause-parts : goal.returns-clause-parts
returns-clause-parts c =
    let x = first_of (all_pending c.args.self.now.parts) c.requires in
    keeps_parts c.args.self.now _ x.0 (c.advance.ensures.piece x.0 x.1 x.2)
