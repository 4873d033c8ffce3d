use Rattle.std.proofs.Common.{◌≡◌, ◌+◌, length}
use Rattle.h5w_several_writer_laws.specs.Sessions.{all_pending}
use Rattle.h5w_several_appending.specs.Puts.{PutsPieces}
use Rattle.h5w_several_appending.proofs.putting.put_pending.Given as goal

abbrev pub invariant-loop : goal.invariant-loop
invariant-loop g l = record {
  before : PutsPieces l.fn.file l.fn.session l.session (g.D.Disk.view l.fn.disk) (g.D.Disk.view l.disk);
  left : length (all_pending l.session.parts) + l.counter ≡ length (all_pending l.fn.session.parts);
  count : l.end ≡ length (all_pending l.fn.session.parts);
  calm : (g.D.Disk.view l.disk).faults ≡ (g.D.Disk.view l.fn.disk).faults;
}
