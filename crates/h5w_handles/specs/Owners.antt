-- What a handle owns.
use base.Fml.{Fml, ftrue}
use base.Stored.{Coded}
use Rattle.std.specs.Coded.{coded_option}
use denote.RawPtr.{Ptr}
use Rattle.std.specs.Prelude.{Option, Some, None}
use Rattle.std.specs.Box.Ownership.{box_owns}
use Rattle.std.specs.Global.{Global}
use Rattle.std_heap.specs.contracts.GlobalAllocator.TheImpl.{ghosts}
use Rattle.h5w_handles.specs.contracts.held.Held.{the_row}

abbrev pub owner_owns : Global → Ptr → Option the_row.Denot → Fml
owner_owns alloc p None = ftrue
owner_owns alloc p (Some x) = box_owns (ghosts.dealloc_token alloc) the_row p x

abbrev pub held_coded : Coded (Option the_row.Denot)
held_coded = coded_option the_row.coded
