-- The pieces of a session that are put into a file of a disk.
use Rattle.std.specs.Prelude.{◌≡◌, ℕ, ◌+◌, ◌≤◌, List, [], ◌∷◌, ◌++◌, length, map, option_map}
use Rattle.h5w_model.specs.Causes.{Rose}
use Rattle.h5w_model.specs.Logs.{Log}
use Rattle.h5w_model.specs.declared.piece.Write.{Write}
use Rattle.h5w_image.specs.View.{DiskState, DiskView, put}
use Rattle.h5w_flush_laws.specs.Flushes.{shown_also}
use Rattle.h5w_writer.specs.Sessions.{Session}
use Rattle.h5w_writer.specs.Stands.{Stands}
use Rattle.h5w_files.specs.Images.{LeavesFiles}

-- The disk after puts into the file of a name, the oldest first: each is a write, with the count of faults that stood before it.
abbrev pub after_puts : List ℕ → List (Write × ℕ) → DiskState → DiskState
after_puts name [] d = d
after_puts name (p ∷ ps) d = after_puts name ps (put name p.0 p.1 d)

abbrev pub writes_of : List (Write × ℕ) → List Write
writes_of ps = map (λ p. p.0) ps

abbrev pub counts_of : List (Write × ℕ) → List ℕ
counts_of ps = map (λ p. p.1) ps

-- these pieces come first among those
abbrev pub ComesFirst : List Write → List Write → Type 0
ComesFirst vs ws = (rest : List Write) × (vs ++ rest ≡ ws)

-- the pieces are the same as far as both lists go
abbrev pub AgreesAtFirst : List Write → List Write → Type 0
AgreesAtFirst vs ws = (left : List Write) × ComesFirst vs (ws ++ left)

-- the log once these pieces became visible, the oldest first
abbrev pub showing : List Write → Log → Log
showing = shown_also

-- each count of faults is this one
abbrev pub AllAre : ℕ → List ℕ → Type 0
AllAre n [] = Unit {0}
AllAre n (c ∷ cs) = (c ≡ n) × AllAre n cs

-- The oldest pending pieces of a session were put into the file, one after another, each before the disk failed.
pub record PutsPieces (name : List ℕ) (s t : Session) (v w : DiskView) : Type 0 where
  pub puts : List (Write × ℕ)
  pub pieces : s.pending ≡ writes_of puts ++ t.pending
  pub session : t ≡ record s { places = t.places; committed = t.committed; pending = t.pending; flushing = t.flushing }
  pub end : t.places.end ≡ s.places.end
  pub limit : t.places.limit ≡ s.places.limit
  pub stands : (log : Log) → Stands s log → Stands t (showing (writes_of puts) log)
  pub disk : LeavesFiles (option_map (after_puts name puts) v.told) v w
  pub since : AllAre v.faults (counts_of puts)
  pub room : v.pieces ≤ w.pieces + length puts
  pub ends : v.end name ≤ w.end name

-- And then the disk failed at one of them.
pub record PutsSome (name : List ℕ) (s t : Session) (v w : DiskView) : Type 0 where
  pub before : PutsPieces name s t v w
  pub left : 1 ≤ length t.pending
  pub rose : Rose v.faults w.faults
