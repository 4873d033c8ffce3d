-- What waits for a flush, and what was planned: before a flush, between its halves, and once it is planned.
use Rattle.std.specs.Prelude.{◌≡◌, true, List, []}
use Rattle.h5w_model.specs.declared.piece.Write.{Write}
use Rattle.h5w_writer.specs.declared.backlog.Backlog.{Backlog}
use Rattle.h5w_writer.specs.declared.backlog.Rows.{Rows}

-- these pieces are pending, a flush, and no row waits
pub record IsPlanned (pieces : List Write) (b : Backlog) : Type 0 where
  pub plan : b.plan.items ≡ pieces
  pub shown : b.shown ≡ 0
  pub waiting : b.waiting ≡ []
  pub waits : b.waits ≡ 0
  pub early : b.early ≡ 0
  pub chunks : b.chunks.items ≡ []
  pub flushing : b.flushing ≡ true

-- No row waits, and what was planned stays.
pub record IsEmptied (old new : Backlog) : Type 0 where
  pub plan : new.plan ≡ old.plan
  pub shown : new.shown ≡ old.shown
  pub flushing : new.flushing ≡ old.flushing
  pub waits : new.waits ≡ 0
  pub waiting : new.waiting ≡ []
  pub early : new.early ≡ 0
  pub chunks : new.chunks.items ≡ []

-- these are the rows that wait
pub record AreIn (b : Backlog) (r : Rows) : Type 0 where
  pub waits : r.waits ≡ b.waits
  pub waiting : r.waiting ≡ b.waiting
  pub early : r.early ≡ b.early
  pub chunks : r.chunks.items ≡ b.chunks.items

-- They wait again, and what was planned stays.
pub record IsRefilled (old : Backlog) (r : Rows) (new : Backlog) : Type 0 where
  pub rows : AreIn new r
  pub plan : new.plan ≡ old.plan
  pub shown : new.shown ≡ old.shown
  pub flushing : new.flushing ≡ old.flushing
