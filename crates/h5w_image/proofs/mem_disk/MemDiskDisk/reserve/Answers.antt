use Rattle.h5w_image.proofs.MemoryDiskLemmas.{room_ends, room_leaves}
use Rattle.h5w_image.proofs.mem_disk.MemDiskDisk.reserve.Goals as goal

pub returns-clause-same : goal.returns-clause-same
returns-clause-same c = room_leaves c.args.name.now c.args.pieces c.args.end c.args.self.now c.make_room.new.self c.in_ok-make_room.ensures.ok

pub returns-clause-end : goal.returns-clause-end
returns-clause-end c = room_ends c.args.name.now c.args.pieces c.args.end c.args.self.now c.make_room.new.self c.in_ok-make_room.ensures.ok
