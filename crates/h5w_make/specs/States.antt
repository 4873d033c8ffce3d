-- A session that makes a file, and its image, between two batches.
use Rattle.std.specs.Prelude.{◌≡◌, ◌+◌, ◌*◌, ◌^◌, ◌≤◌, false, true, List, [], ◌∷◌, ◌++◌, length, None, ℤ}
use Rattle.h5w_model.specs.Images.{image}
use Rattle.h5w_model.specs.Lawful.{first_outside}
use Rattle.h5w_model.specs.Logs.{Log, appends, hist, spent}
use Rattle.h5w_model.specs.declared.piece.Write.{Write}
use Rattle.h5w_image.specs.Memory.{MemView}
use Rattle.h5w_space.specs.declared.Full.{Full}
use Rattle.h5w_writer.specs.Loads.{NoPlace}
use Rattle.h5w_creation_laws.specs.CreatedFiles.{described_of}
use Rattle.h5w_writer.specs.Creations.{log_of}
use Rattle.h5w_writer.specs.Past.{IsNew}
use Rattle.h5w_writer.specs.Sessions.{AddsValues, Session, cutting_of, with_rows}
use Rattle.h5w_writer.specs.Stands.{Stands}
use Rattle.h5w_make.specs.Commands.{AreBatches, AreClosed, data_name, new_file, values_of}
use Rattle.h5w_reader_laws.specs.Showing.{showing}

-- All pieces of these batches are visible: the image is that of the session's log, and nothing is pending or waits.
pub record IsAfter (bs : List (List ℤ)) (s : Session) (m : MemView) : Type 0 where
  pub log : Log
  pub stands : Stands s log
  pub is : log ≡ log_of new_file log.events
  pub batches : AreBatches bs log.events
  pub history : m.history ≡ hist log.events
  pub bytes : m.bytes ≡ image [] (hist log.events)
  pub name : s.name ≡ data_name
  pub dataset : s.dataset ≡ with_rows (length (values_of bs)) (described_of new_file)
  pub limit : s.places.limit ≡ 2 ^ 40
  pub waits : s.waits ≡ 0
  pub pending : s.pending ≡ []
  pub no_flush : s.flushing ≡ false
  pub going : s.stopped ≡ false
  pub begun : 5 ≤ length (hist log.events)
  pub loads : spent (cutting_of s) log ≤ length bs * 700000

-- another batch that the file takes
pub record IsTaken (bs : List (List ℤ)) (values : List ℤ) : Type 0 where
  pub some : 1 ≤ length values
  pub few : length values ≤ 1000
  pub batches : length bs ≤ 1000
  pub rows : length (values_of bs) + length values ≤ 1000000
  pub typed : first_outside new_file.int_type 0 values ≡ None

-- The session was closed after these batches, and its image is that of its log.
pub record IsClosed (bs : List (List ℤ)) (s : Session) (m : MemView) : Type 0 where
  pub log : Log
  pub stands : Stands s log
  pub is : log ≡ log_of new_file log.events
  pub closed : AreClosed bs log.events
  pub history : m.history ≡ hist log.events
  pub bytes : m.bytes ≡ image [] (hist log.events)
  pub name : s.name ≡ data_name
  pub stopped : s.stopped ≡ true
  pub committed : s.committed ≡ length (values_of bs)
  pub begun : 5 ≤ length (hist log.events)
  pub limit : s.places.limit ≡ 2 ^ 40

-- a batch that a session between two batches takes
abbrev pub TakesBatch : Session → MemView → List ℤ → Type 0
TakesBatch s m values = (bs : List (List ℤ)) × IsTaken bs values × IsAfter bs s m

-- the session made its file, which has places for the rows that wait
abbrev pub HasPlace : Session → Type 0
HasPlace s = (log : Log) × Stands s log × IsNew log × ((full : Full) → NoPlace s log full → ⊥)

-- these pieces became visible
pub record ShowsAll (ws : List Write) (old new : MemView) : Type 0 where
  pub bytes : new.bytes ≡ image old.bytes ws
  pub history : new.history ≡ old.history ++ ws

-- Values were appended, and the pieces that were written early became visible, so that nothing is pending.
pub record IsAppended (values : List ℤ) (s t : Session) (m n : MemView) : Type 0 where
  pub early : List Write
  pub adds : AddsValues s values t
  pub idle : t.pending ≡ []
  pub image : ShowsAll early m n
  pub stands : (log : Log) → Stands s log → Stands t (record log { events = showing early (appends values ∷ log.events) })
