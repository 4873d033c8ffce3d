-- How the log of a script over several datasets began: with the creation of its file.
use Rattle.std.specs.Prelude.{◌≡◌, ℕ, List, [], ◌++◌, length, Some, slice_get}
use Rattle.h5w_model.specs.Several.{Begun, FileLog, pieces_in}
use Rattle.h5w_model.specs.declared.piece.Write.{Write}
use Rattle.h5w_script_laws.specs.Polling.{Polling}
use Rattle.h5w_creation_laws.specs.CreatedFiles.{CreatedFile}
use Rattle.h5w_several_creation_laws.specs.SeveralFiles.{AreCreatable, created_writes}

-- The file was created with these datasets, none of which had rows then, and all pieces of its creation are shown. What
-- readers poll for has the names of the datasets.
pub record IsNewFor (pollings : ℕ → Polling) (log : FileLog) : Type 0 where
  pub files : List CreatedFile
  pub are : AreCreatable files
  pub start : log.start ≡ []
  pub first : log.first ≡ length (created_writes files)
  pub later : List Write
  pub pieces : pieces_in log.events ≡ created_writes files ++ later
  pub sets : length log.sets ≡ length files
  pub empty : (d : ℕ) (b : Begun) → slice_get log.sets d ≡ Some b → b.values ≡ []
  pub names : (d : ℕ) (f : CreatedFile) → slice_get files d ≡ Some f → (pollings d).name ≡ f.name
