use Rattle.std.proofs.Common.{◌≡◌, take}
use Rattle.h5w_several_writer_laws.specs.Sessions.{counts_of}
use Rattle.h5w_several_writer.proofs.flushing.counts.Given as goal

abbrev pub invariant-loop-part : goal.invariant-loop-part
invariant-loop-part l = l.counts ≡ counts_of (take l.part-index l.parts)
