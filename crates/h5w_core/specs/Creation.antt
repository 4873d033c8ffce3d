-- A session that creates its file.
use Rattle.std.specs.Prelude.{◌≡◌, ℕ, false, [], ◌++◌, length}
use Rattle.h5w_model.specs.Images.{image}
use Rattle.h5w_model.specs.Logs.{Log, appended, hist, spent}
use Rattle.h5w_image.specs.Memory.{MemView}
use Rattle.h5w_creation_laws.specs.CreatedFiles.{created_log, created_writes, described_of, super_of}
use Rattle.h5w_writer.specs.Creations.{IsCreated, log_of}
use Rattle.h5w_creation.specs.NewFiles.{new_file}
use Rattle.h5w_writer.specs.Past.{IsNew}
use Rattle.h5w_writer.specs.Room.{HasRoomFor}
use Rattle.h5w_writer.specs.Sessions.{Session, cutting_of}
use Rattle.h5w_writer.specs.Stands.{Stands}
use Rattle.h5w_options.specs.Options.{AreOptions}
use Rattle.h5w_options.specs.declared.options.Options.{Options}
use Rattle.h5w_steady.specs.Steady.{steady}

-- A session that is about to create its file by these options: the pieces of the creation are pending.
pub record IsCreating (options : Options) (s : Session) : Type 0 where
  pub are : AreOptions options
  pub created : IsCreated (new_file options) options.limit s
  pub budget : s.budget ≡ options.budget
  pub stands : Stands s (created_log (new_file options))

-- So many of the creation's pieces are visible in its image, and nothing was appended.
pub record Creates (options : Options) (count : ℕ) (s : Session) (m : MemView) : Type 0 where
  pub log : Log
  pub stands : Stands s log
  pub new : IsNew log
  pub is : log ≡ log_of (new_file options) log.events
  pub none : appended log ≡ []
  pub name : s.name ≡ options.name
  pub root : s.root ≡ super_of (new_file options)
  pub history : m.history ≡ hist log.events
  pub bytes : m.bytes ≡ image [] (hist log.events)
  pub dataset : s.dataset ≡ described_of (new_file options)
  pub limit : s.places.limit ≡ options.limit
  pub budget : s.budget ≡ options.budget
  pub committed : s.committed ≡ 0
  pub waits : s.waits ≡ 0
  pub going : s.stopped ≡ false
  pub no_flush : s.flushing ≡ false
  pub loads : spent (cutting_of s) log ≡ 0
  pub pieces : m.history ++ s.pending ≡ created_writes (new_file options)
  pub shown : length m.history ≡ count
  pub room : HasRoomFor s (steady m)
