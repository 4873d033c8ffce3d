-- The room that a session has in its image.
use Rattle.std.specs.Prelude.{◌+◌, ◌≤◌, length}
use Rattle.h5w_image.specs.View.{ImageView}
use Rattle.h5w_writer.specs.Sessions.{Session}

-- for what is pending and one piece more, up to the file's end
pub record HasRoomFor (s : Session) (v : ImageView) : Type 0 where
  pub pieces : length s.pending + 1 ≤ v.pieces
  pub end : s.places.end ≤ v.end
