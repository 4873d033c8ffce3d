use Rattle.std.proofs.Common.{◌≡◌, drop}
use Rattle.h5w_appending.specs.Creates.{PutsUpTo}
use Rattle.h5w_appending.proofs.creating.put_all.Given as goal

abbrev pub invariant-loop-w : goal.invariant-loop-w
invariant-loop-w g l = record {
  before : PutsUpTo l.fn.file l.fn.writes (drop l.w-index l.fn.writes) (g.D.Disk.view l.fn.disk) (g.D.Disk.view l.disk);
  calm : (g.D.Disk.view l.disk).faults ≡ (g.D.Disk.view l.fn.disk).faults;
}
