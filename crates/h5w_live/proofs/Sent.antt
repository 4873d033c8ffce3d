-- What the threads of a run take along.
use mir.Syntax.{Sym, w8, w32}
use denote.RattleType.{RattleType}
use denote.Plain.{UInt}
use denote.Param.{param}
use denote.Ref.{NamedLft, ShrRef}
use denote.Slice.{ShrSlice}
use denote.Struct.Tuple.{TupleAt}
use denote.Param.Send.{IsSend, IsSync, param_sync, sendable, shr_send, shr_slice_send}
use mathlib.Core.List.{List, [], ◌∷◌}
use Rattle.std.specs.contracts.sync.atomic.AtomicBool.{the_row as flag_row}
use Rattle.std.proofs.Crossing.{crosses, send as heap_sent}
use Rattle.std.specs.contracts.alloc.Global.{the_row as heap}
use Rattle.h5w_shared.specs.contracts.image.SharedImage.{the_row as image_row}
use Rattle.h5w_shared.proofs.Sent.{image_is_shared}
use Rattle.h5w_replica.specs.contracts.follow.Follow.{the_row as follow_row}
use Rattle.h5w_replica.proofs.Sent.{follow_is_sent}
use Rattle.h5w_live_reading.proofs.Sent.{captures_sent, u32_sent}

flag_is_shared : IsSync flag_row
flag_is_shared = search (crosses, sendable) depth 40

-- its handle, both images, the end of the mirror, whether the writer is over, its number and the gate
module _ (ν : Sym) (a b n e d : NamedLft) (R G : RattleType) (r : IsSync R) (g : IsSync G) where
  abbrev pub following_takes : List RattleType
  following_takes =
      ShrRef a.mir a.lft (param 0 R) ∷ ShrRef b.mir b.lft image_row ∷ ShrRef n.mir n.lft image_row ∷ follow_row ∷ ShrRef e.mir e.lft flag_row ∷ UInt w32 ∷ ShrRef d.mir d.lft (param 1 G) ∷ []

  handle : IsSend (ShrRef a.mir a.lft (param 0 R))
  handle = shr_send a.mir a.lft (param 0 R) (param_sync 0 R r)

  first : IsSend (ShrRef b.mir b.lft image_row)
  first = shr_send b.mir b.lft image_row image_is_shared

  second : IsSend (ShrRef n.mir n.lft image_row)
  second = shr_send n.mir n.lft image_row image_is_shared

  flag : IsSend (ShrRef e.mir e.lft flag_row)
  flag = shr_send e.mir e.lft flag_row flag_is_shared

  gate : IsSend (ShrRef d.mir d.lft (param 1 G))
  gate = shr_send d.mir d.lft (param 1 G) (param_sync 1 G g)

  pub following_sent : IsSend (TupleAt ν following_takes)
  following_sent = captures_sent ν following_takes (handle, (first, (second, (follow_is_sent, (flag, (u32_sent, (gate, tt)))))))

name_is_shared : IsSync (UInt w8)
name_is_shared = search sendable

-- what the readers of an image take: the image, their seats and how many are before them, the handle, where memory is had, the name, numbers and the gate
module _ (ν : Sym) (a b n d : NamedLft) (R S G : RattleType) (r : IsSync R) (s : IsSend S) (g : IsSync G) where
  abbrev pub reading_takes : List RattleType
  reading_takes = ShrRef b.mir b.lft image_row ∷ S ∷ UInt w32 ∷ ShrRef a.mir a.lft (param 0 R) ∷ heap ∷ ShrSlice n.mir n.lft (UInt w8) ∷ UInt w32 ∷ UInt w32 ∷ ShrRef d.mir d.lft (param 1 G) ∷ []

  pub readers_sent : IsSend (TupleAt ν reading_takes)
  readers_sent =
      captures_sent ν reading_takes (
        shr_send b.mir b.lft image_row image_is_shared,
        (s, (u32_sent, (shr_send a.mir a.lft (param 0 R) (param_sync 0 R r), (heap_sent, (shr_slice_send n.mir n.lft (UInt w8) name_is_shared, (u32_sent, (u32_sent, (shr_send d.mir d.lft (param 1 G) (param_sync 1 G g), tt)))))))),
      )
