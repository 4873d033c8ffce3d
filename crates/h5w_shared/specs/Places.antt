-- A seat at the table, with what it counts: at rest between two turns, and within one.
use Rattle.std.specs.Prelude.{◌≡◌, ℕ, ◌<◌, ◌≤◌, Bool, true, false, [], ◌∷◌, length, None}
use Rattle.h5w_model.specs.Causes.{Rose}
use Rattle.h5w_image.specs.Memory.{MemView}
use Rattle.atomic_table.specs.Seated.{TableId}
use Rattle.h5w_shared.specs.declared.table.Knowledge.{Knowledge}
use Rattle.h5w_shared.specs.declared.table.Stage.TheVariants.{Idle, Waiting}
use Rattle.h5w_shared.specs.declared.place.Place.{Place}
use Rattle.h5w_shared.specs.Turns.{FoundStore, StartsWith, finished, informed, last_ticket, newcomer, serving_with}

-- the seat is at this table, which has two words and one slot
abbrev pub IsAt : TableId → Place → Type 0
IsAt table p = (p.seat.table_id ≡ table) × (table.words ≡ 2) × (table.slots ≡ 1)

-- it draws from a value that the ticket word may still have, and counts faults only once it was shown the last one
pub record Counts (p : Place) : Type 0 where
  pub draws : p.next < last_ticket
  pub shown : p.worn ≡ p.seat.me.0.worn
  pub faults : 0 < p.faults → p.worn ≡ true

-- no turn is under way
pub record AtRest (p : Place) : Type 0 where
  pub bare : p.seat.me.1 ≡ []
  pub idle : p.seat.me.0.stage ≡ Idle
  pub there : p.seat.me.0.spent ≡ false
  pub counted : p.seen ≡ length p.seat.me.0.seen
  pub counts : Counts p

abbrev pub worn_as : Bool → Knowledge → Knowledge
worn_as worn v = record v { worn = worn }

-- nothing is new but the ticket word that it was shown
pub record Keeps (p q : Place) : Type 0 where
  pub table : q.seat.table_id ≡ p.seat.table_id
  pub me : q.seat.me ≡ (worn_as q.worn p.seat.me.0, [])
  pub worn : p.worn ≡ true → q.worn ≡ true
  pub seen : q.seen ≡ p.seen
  pub faults : q.faults ≡ p.faults

-- it has drawn a ticket
pub record Waits (p q : Place) (ticket : ℕ) : Type 0 where
  pub table : q.seat.table_id ≡ p.seat.table_id
  pub me : q.seat.me ≡ (record (p.seat.me.0) { stage = Waiting ticket }, [])
  pub worn : q.worn ≡ p.worn
  pub seen : q.seen ≡ p.seen
  pub faults : q.faults ≡ p.faults
  pub counts : Counts q

-- it is served, and has taken this store out
pub record Turn (p q : Place) (x : MemView) : Type 0 where
  pub table : q.seat.table_id ≡ p.seat.table_id
  pub ticket : ℕ
  pub me : q.seat.me ≡ (serving_with ticket x p.seat.me.0, (0, None) ∷ [])
  pub worn : q.worn ≡ p.worn
  pub found : FoundStore p.seat.me.0 x
  pub seen : q.seen ≡ p.seen
  pub faults : q.faults ≡ p.faults
  pub counts : Counts q

-- the turn has ended with this store
pub record Came (p q : Place) (x : MemView) : Type 0 where
  pub rest : AtRest q
  pub table : q.seat.table_id ≡ p.seat.table_id
  pub knows : q.seat.me.0 ≡ finished x p.seat.me.0
  pub worn : q.worn ≡ p.worn
  pub faults : q.faults ≡ p.faults

-- there was no turn: it was shown the last ticket word, and counts it
pub record Refused (p q : Place) : Type 0 where
  pub rest : AtRest q
  pub table : q.seat.table_id ≡ p.seat.table_id
  pub knows : q.seat.me.0 ≡ worn_as true p.seat.me.0
  pub worn : q.worn ≡ true
  pub faults : Rose p.faults q.faults
  pub kept : p.faults ≤ q.faults

-- it is as it was
pub record Unchanged (p q : Place) : Type 0 where
  pub table : q.seat.table_id ≡ p.seat.table_id
  pub me : q.seat.me ≡ p.seat.me
  pub next : q.next ≡ p.next
  pub worn : q.worn ≡ p.worn
  pub faults : q.faults ≡ p.faults
  pub seen : q.seen ≡ p.seen

-- a new one that knows as much
pub record Twin (p q : Place) : Type 0 where
  pub rest : AtRest q
  pub table : q.seat.table_id ≡ p.seat.table_id
  pub knows : q.seat.me.0 ≡ newcomer p.seat.me.0
  pub faults : q.faults ≡ 0

-- it has taken in what another knew, whose list and its own both begin the list that it has now
pub record Met (p other q : Place) : Type 0 where
  pub rest : AtRest q
  pub table : q.seat.table_id ≡ p.seat.table_id
  pub knows : q.seat.me.0 ≡ informed p.seat.me.0 other.seat.me.0
  pub begins : StartsWith q.seat.me.0.seen q.seat.me.0.told
  pub worn : q.worn ≡ p.worn
  pub faults : q.faults ≡ p.faults
