use Rattle.h5w_files.proofs.ImageLemmas.{wrote_file}
use Rattle.h5w_files.proofs.image.DiskImagePieceWrite.write.Goals as goal

pub returns-in-Ok-clause-wrote : goal.returns-in-Ok-clause-wrote
returns-in-Ok-clause-wrote g c =
    wrote_file c.args.self.now.disk.ghost_name c.args.self.now.name.now c.args.w.now (g.D.Disk.view c.args.self.now.disk.now).faults c.args.self.now.there c.in-Ok.ensures.put
