-- Why calls of a session of several datasets are refused.
use Rattle.std.specs.Prelude.{◌≡◌, ◌⊎◌, ◌+◌, ◌<◌, ◌≤◌, max, List, [], ◌∷◌, length, ℤ, nat_lt, if◌then◌else◌, Option, Some, None}
use Rattle.h5w_model.specs.Several.{FileLog, load_all}
use Rattle.h5w_model.specs.declared.root.Super.{Super}
use Rattle.h5w_image.specs.View.{ImageView}
use Rattle.h5w_space.specs.Space.{Space}
use Rattle.h5w_space.specs.declared.Full.{Full}
use Rattle.h5w_writer.specs.Halves.{IsHalf, places_of}
use Rattle.h5w_writer.specs.Refusals.{IsDeepFor, IsFullFor, append_refusal}
use Rattle.h5w_writer.specs.Sessions.{Session}
use Rattle.h5w_writer.specs.Told.{told_of}
use Rattle.h5w_writer.specs.declared.planned.Planned.{Planned}
use Rattle.h5w_writer.specs.declared.refusal.AppendError.{AppendError}
use Rattle.h5w_writer.specs.declared.refusal.AppendError.TheVariants as appends
use Rattle.h5w_writer.specs.declared.refusal.FlushError.{FlushError}
use Rattle.h5w_writer.specs.declared.refusal.FlushError.TheVariants as flushes
use Rattle.h5w_writer.specs.declared.refusal.CloseError.{CloseError}
use Rattle.h5w_writer.specs.declared.refusal.CloseError.TheVariants as closes
use Rattle.h5w_several_writer.specs.Flows.{all_waits}
use Rattle.h5w_several_writer_laws.specs.Bounds.{cuttings_of}
use Rattle.h5w_several_writer_laws.specs.Sessions.{Sessions, all_pending}

-- the first of these that applies: the session was stopped, pieces are pending, or the dataset's own refusal
abbrev pub append_refusal_in : Sessions → Session → List ℤ → Option AppendError
append_refusal_in S s values =
    if S.stopped then Some appends.Stopped
    else if nat_lt 0 (length (all_pending S.parts)) then Some (appends.Busy (length (all_pending S.parts)))
    else append_refusal s values

-- the session was stopped, or pieces are pending
abbrev pub flush_refusal_of : Sessions → Option FlushError
flush_refusal_of S =
    if S.stopped then Some flushes.Stopped
    else if nat_lt 0 (length (all_pending S.parts)) then Some (flushes.Busy (length (all_pending S.parts)))
    else None

abbrev pub close_refusal_of : Sessions → Option CloseError
close_refusal_of S =
    if S.stopped then Some closes.Stopped
    else if nat_lt 0 (length (all_pending S.parts)) then Some (closes.Busy (length (all_pending S.parts)))
    else None

-- a part that was planned over a superblock and places, and what is planned
pub record IsPlannedPart (root : Super) (t : Space) (s m : Session) (p : Planned) : Type 0 where
  pub waits : 0 < s.waits
  pub half : IsHalf (told_of s root t) m p

-- The file has no place for one of the parts, over what those before it are planned to leave.
abbrev pub IsFullAmong : Super → Space → List Session → Full → Type 0
IsFullAmong root t [] full = ⊥
IsFullAmong root t (s ∷ ss) full =
    ((0 < s.waits) × IsFullFor (told_of s root t) full)
    ⊎ ((s.waits ≡ 0) × IsFullAmong root t ss full)
    ⊎ ((m : Session) × (p : Planned) × IsPlannedPart root t s m p × IsFullAmong (record root { end = (places_of m p).end }) (places_of m p) ss full)

-- Rows wait, and the file has no place of this size there, which is no larger than what a plan of all datasets may write. It stands no further than
-- where the file ends, or than the limit; and no further behind the end than a plan of all datasets may write.
pub record NoPlaceAll (S : Sessions) (log : FileLog) (full : Full) : Type 0 where
  pub waits : 0 < all_waits S.parts
  pub some : 1 ≤ full.size
  pub limit : full.limit ≡ S.places.limit
  pub past : full.limit < full.at + full.size
  pub size_bound : full.size ≤ load_all (cuttings_of S.parts) log
  pub at_bound : full.at ≤ max S.places.end S.places.limit
  pub load_bound : full.at ≤ S.places.end + load_all (cuttings_of S.parts) log

-- the index of one of the parts has no room
abbrev pub IsDeepAmong : List Session → Type 0
IsDeepAmong [] = ⊥
IsDeepAmong (s ∷ ss) = ((0 < s.waits) × IsDeepFor s) ⊎ IsDeepAmong ss

-- room in the image for what is pending and one piece more, up to the file's end
pub record HasRoomForAll (S : Sessions) (v : ImageView) : Type 0 where
  pub pieces : length (all_pending S.parts) + 1 ≤ v.pieces
  pub end : S.places.end ≤ v.end
