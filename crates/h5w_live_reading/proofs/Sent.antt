-- What a reader's thread takes along, and what it gives back.
use mir.Syntax.{Sym, w8, w32}
use denote.RattleType.{RattleType}
use denote.Plain.{UInt}
use denote.Param.{param}
use denote.Ref.{NamedLft, ShrRef}
use denote.Slice.{ShrSlice}
use denote.Struct.Declared.{shape}
use denote.Struct.Field.{rows}
use denote.Struct.Tuple.{TupleAt, parts, type_at}
use denote.Param.Send.{AllSend, IsSend, IsSync, param_sync, recorded_send, sendable, shr_send, shr_slice_send, struct_send}
use mathlib.Core.List.{List, [], ◌∷◌}
use Rattle.std.proofs.Crossing.{crosses, send as heap_sent}
use Rattle.std.specs.contracts.alloc.Global.{the_row as heap}
use Rattle.h5w_shared.specs.contracts.image.SharedImage.{the_row as image_row}
use Rattle.h5w_shared.proofs.Sent.{image_is_shared, sent as seats_sent}
use Rattle.h5w_live_reading.specs.contracts.actors.AllEnded.{the_row as all_row}
use Rattle.h5w_live_reading.specs.contracts.actors.Cut.{the_row as cut_row}
use Rattle.h5w_live_reading.specs.contracts.actors.Ended.{the_row as ended_row}

pub ended_is_sent : IsSend ended_row
ended_is_sent = search (seats_sent, crosses, sendable) depth 40

pub all_is_sent : IsSend all_row
all_is_sent = search (seats_sent, crosses, sendable) depth 40

pub cut_is_sent : IsSend cut_row
cut_is_sent = search (seats_sent, crosses, sendable) depth 40

-- for a search of what a reader's thread gives back
pub ruleset given = (ended_is_sent, all_is_sent, cut_is_sent, seats_sent, crosses, sendable)

parts_sent : (Ts : List RattleType) → AllSend Ts → AllSend (rows (parts Ts))
parts_sent [] s = tt
parts_sent (T ∷ Ts) s = (s.0, parts_sent Ts s.1)

-- a closure may go to another thread where each thing that it takes may
pub captures_sent : (ν : Sym) (Ts : List RattleType) → AllSend Ts → IsSend (TupleAt ν Ts)
captures_sent ν Ts s = recorded_send _ _ _ (type_at ν Ts).to_one (struct_send (shape (type_at ν Ts)) (parts_sent Ts s))

pub u32_sent : IsSend (UInt w32)
u32_sent = search sendable

name_shared : IsSync (UInt w8)
name_shared = search sendable

-- what a reader's closure takes, or that of several: its handle, where memory is had, the image, its seat or seats, the name, numbers and the gate
module _ (ν : Sym) (a b n d : NamedLft) (R S G : RattleType) (r : IsSync R) (s : IsSend S) (g : IsSync G) where
  abbrev pub reading_takes : List RattleType
  reading_takes = ShrRef a.mir a.lft (param 0 R) ∷ heap ∷ ShrRef b.mir b.lft image_row ∷ S ∷ ShrSlice n.mir n.lft (UInt w8) ∷ UInt w32 ∷ UInt w32 ∷ UInt w32 ∷ ShrRef d.mir d.lft (param 1 G) ∷ []

  handle : IsSend (ShrRef a.mir a.lft (param 0 R))
  handle = shr_send a.mir a.lft (param 0 R) (param_sync 0 R r)

  image : IsSend (ShrRef b.mir b.lft image_row)
  image = shr_send b.mir b.lft image_row image_is_shared

  name : IsSend (ShrSlice n.mir n.lft (UInt w8))
  name = shr_slice_send n.mir n.lft (UInt w8) name_shared

  gate : IsSend (ShrRef d.mir d.lft (param 1 G))
  gate = shr_send d.mir d.lft (param 1 G) (param_sync 1 G g)

  pub reading_sent : IsSend (TupleAt ν reading_takes)
  reading_sent = captures_sent ν reading_takes (handle, (heap_sent, (image, (s, (name, (u32_sent, (u32_sent, (u32_sent, (gate, tt)))))))))
