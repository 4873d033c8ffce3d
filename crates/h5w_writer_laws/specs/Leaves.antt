-- What a session is once its oldest pending piece became visible.
use Rattle.std.specs.Prelude.{◌≡◌, false, true, List, []}
use Rattle.h5w_model.specs.declared.piece.Write.{Write}
use Rattle.h5w_writer.specs.Sessions.{AfterPiece, Session}

-- These pieces are left of what was pending. Nothing else changed but the places, the committed rows and whether a flush is on its way
-- (`session`), and the file ends where it ended, within the same limit.
pub record PieceLeaves (s : Session) (ws : List Write) (t : Session) : Type 0 where
  pub session : t ≡ record s { places = t.places; committed = t.committed; pending = t.pending; flushing = t.flushing }
  pub name : t.name ≡ s.name
  pub root : t.root ≡ s.root
  pub dataset : t.dataset ≡ s.dataset
  pub budget : t.budget ≡ s.budget
  pub waits : t.waits ≡ s.waits
  pub stopped : t.stopped ≡ s.stopped
  pub end : t.places.end ≡ s.places.end
  pub limit : t.places.limit ≡ s.places.limit
  pub pending : t.pending ≡ ws
  -- the last one of a flush brings its rows, and after a last one no flush is on its way
  pub brings : s.flushing ≡ true → ws ≡ [] → t.committed ≡ s.dataset.shape.rows
  pub idle : ws ≡ [] → t.flushing ≡ false
  -- where no flush is on its way, nothing changes but what is pending
  pub still : s.flushing ≡ false → t ≡ record s { pending = ws }

-- each piece does
abbrev pub EachLeaves : Type 0
EachLeaves = (s t : Session) (ws : List Write) → AfterPiece s ws t → PieceLeaves s ws t
