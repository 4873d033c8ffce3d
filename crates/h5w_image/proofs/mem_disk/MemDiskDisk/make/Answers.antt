use Rattle.std.proofs.Common.{◌≡◌, arith, [], refl, rules}
use Rattle.std.proofs.lemmas.Grind.{common_steps}
use Rattle.h5w_image.specs.MemoryDisk.{called, with_file}
use Rattle.h5w_image.proofs.MemoryDiskLemmas.{made_leaves}
use Rattle.h5w_image.proofs.mem_disk.MemDiskDisk.make.Goals as goal

pub returns-clause-made : goal.returns-clause-made
returns-clause-made c = λ _.
    let exact : c.insert.new.self ≡ with_file c.args.name.now [] (called c.args.self.now) = search rules in
    made_leaves c.args.name.now c.args.self.now (called c.args.self.now) c.insert.new.self exact refl refl refl (grind (arith, common_steps)) (grind (arith, common_steps))
