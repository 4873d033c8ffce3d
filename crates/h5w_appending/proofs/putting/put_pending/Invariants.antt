use Rattle.std.proofs.Common.{◌≡◌, ◌+◌, length}
use Rattle.h5w_appending.specs.Puts.{PutsPieces}
use Rattle.h5w_appending.proofs.putting.put_pending.Given as goal

abbrev pub invariant-loop : goal.invariant-loop
invariant-loop g l = record {
  before : PutsPieces l.fn.file l.fn.session l.session (g.D.Disk.view l.fn.disk) (g.D.Disk.view l.disk);
  left : length l.session.pending + l.counter ≡ length l.fn.session.pending;
  count : l.end ≡ length l.fn.session.pending;
  calm : (g.D.Disk.view l.disk).faults ≡ (g.D.Disk.view l.fn.disk).faults;
}
