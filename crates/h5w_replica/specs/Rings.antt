-- Which ring an end is of.
use Rattle.std.specs.declared.alloc.Global.{Global}
use denote.RawPtr.{Ptr}
use Rattle.rtrb.specs.Shared.{Names}
use Rattle.rtrb.specs.declared.producer.Producer.{Producer}
use Rattle.rtrb.specs.declared.consumer.Consumer.{Consumer}
use Rattle.h5w_replica.specs.Batches.{BatchView}
use Rattle.h5w_replica.specs.declared.batch.InOrder.{InOrder}

-- which ring it is
pub record RingId : Type 0 where
  pub words : Ptr
  pub slots : Ptr
  pub names : Names
  pub heap : Global

-- the ring of the end that pushes
abbrev pub ring_of : Producer BatchView Global InOrder → RingId
ring_of p = record { words = p.end.words; slots = p.end.slots; names = p.end.names; heap = p.end.heap }

-- the ring of the end that pops
abbrev pub ring_under : Consumer BatchView Global InOrder → RingId
ring_under c = record { words = c.end.words; slots = c.end.slots; names = c.end.names; heap = c.end.heap }
