use Rattle.h5w_repacking.proofs.PairLemmas.{looked_other, puts_one}
use Rattle.h5w_repacking.proofs.two_files.TwoFilesPair.write.Goals as goal

pub returns-in-Ok-clause-looked : goal.returns-in-Ok-clause-looked
returns-in-Ok-clause-looked g c =
    looked_other c.args.self.now.disk.ghost_name c.args.self.now.from.now c.args.self.now.to.now c.args.w.now (g.D.Disk.view c.args.self.now.disk.now).faults c.args.self.now.apart c.in-Ok.ensures.put

pub returns-in-Ok-clause-wrote : goal.returns-in-Ok-clause-wrote
returns-in-Ok-clause-wrote g c = puts_one c.args.self.now.disk.ghost_name c.args.self.now.to.now c.args.w.now c.args.self.now.to_there c.in-Ok.ensures.put
