-- The pieces of a session of several datasets that are put into a file of a disk.
use Rattle.std.specs.Prelude.{◌≡◌, ℕ, ◌+◌, ◌≤◌, List, [], ◌∷◌, ◌++◌, length, option_map}
use Rattle.h5w_model.specs.Causes.{Rose}
use Rattle.h5w_model.specs.Several.{FileLog, shows_all}
use Rattle.h5w_model.specs.declared.piece.Write.{Write}
use Rattle.h5w_image.specs.View.{DiskView}
use Rattle.h5w_files.specs.Images.{LeavesFiles}
use Rattle.h5w_appending.specs.Puts.{AllAre, after_puts, counts_of, writes_of}
use Rattle.h5w_writer.specs.Sessions.{Session}
use Rattle.h5w_several_writer_laws.specs.Sessions.{Sessions, all_pending}
use Rattle.h5w_several_writer_laws.specs.Standing.{StandsAll, and_then}

-- the log once these pieces became visible, the oldest first
abbrev pub all_shown : List Write → FileLog → FileLog
all_shown [] log = log
all_shown (w ∷ ws) log = all_shown ws (and_then (shows_all w) log)

-- what a session keeps of each dataset where a piece becomes visible
pub record IsAlike (s t : Session) : Type 0 where
  pub name : t.name ≡ s.name
  pub dataset : t.dataset ≡ s.dataset
  pub waits : t.waits ≡ s.waits

abbrev pub AreAlike : List Session → List Session → Type 0
AreAlike [] [] = Unit {0}
AreAlike [] (t ∷ ts) = ⊥
AreAlike (s ∷ ss) [] = ⊥
AreAlike (s ∷ ss) (t ∷ ts) = IsAlike s t × AreAlike ss ts

-- and of the file
pub record KeepsAll (S T : Sessions) : Type 0 where
  pub parts : AreAlike S.parts T.parts
  pub root : T.root ≡ S.root
  pub stopped : T.stopped ≡ S.stopped
  pub end : T.places.end ≡ S.places.end
  pub limit : T.places.limit ≡ S.places.limit

-- The oldest pending pieces of a session were put into the file, one after another, each before the disk failed.
pub record PutsPieces (name : List ℕ) (S T : Sessions) (v w : DiskView) : Type 0 where
  pub puts : List (Write × ℕ)
  pub pieces : all_pending S.parts ≡ writes_of puts ++ all_pending T.parts
  pub keeps : KeepsAll S T
  pub stands : (log : FileLog) → StandsAll S log → StandsAll T (all_shown (writes_of puts) log)
  pub disk : LeavesFiles (option_map (after_puts name puts) v.told) v w
  pub since : AllAre v.faults (counts_of puts)
  pub room : v.pieces ≤ w.pieces + length puts
  pub ends : v.end name ≤ w.end name

-- And then the disk failed at one of them.
pub record PutsSome (name : List ℕ) (S T : Sessions) (v w : DiskView) : Type 0 where
  pub before : PutsPieces name S T v w
  pub left : 1 ≤ length (all_pending T.parts)
  pub rose : Rose v.faults w.faults
