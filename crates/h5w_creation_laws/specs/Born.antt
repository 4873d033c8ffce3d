-- Before the first superblock there is no file.
use Rattle.std.specs.Prelude.{◌≡◌, ◌≢◌, ℕ, ◌≤◌, List, [], ◌++◌, Err}
use Rattle.std.specs.List.{All}
use Rattle.h5w_model.specs.Images.{image}
use Rattle.h5w_model.specs.Programs.{eval}
use Rattle.h5w_model.specs.Tables.{Limits, reading}
use Rattle.h5w_model.specs.declared.piece.Write.{Write}
use Rattle.h5w_model.specs.declared.refusal.ReadError.TheVariants.{NotHdf5}
use Rattle.h5w_creation_laws.specs.CreatedFiles.{CreatedFile, created_writes}

-- Whatever is written behind the first eight bytes of a file that is empty, the signature's: no reader finds an HDF5 file.
abbrev pub Born : Type 0
Born = (limits : Limits) (name : List ℕ) (ws : List Write) → All (λ (w : Write). 8 ≤ w.at) ws → eval (image [] ws) (reading limits name) ≡ Err NotHdf5

-- So it is as long as a piece of a creation is pending.
abbrev pub CreatedBorn : Type 0
CreatedBorn = (limits : Limits) (name : List ℕ) (f : CreatedFile) (done pending : List Write) → done ++ pending ≡ created_writes f → pending ≢ [] → eval (image [] done) (reading limits name) ≡ Err NotHdf5
