-- A session that created a file of several datasets, all of whose pieces are visible.
use Rattle.std.specs.Prelude.{◌≡◌, ℕ, ◌≤◌, List, [], ◌∷◌, length, map}
use Rattle.h5w_model.specs.Images.{image}
use Rattle.h5w_model.specs.declared.piece.Write.{Write}
use Rattle.h5w_image.specs.Memory.{MemView}
use Rattle.h5w_steady.specs.Steady.{steady}
use Rattle.h5w_creation_laws.specs.CreatedFiles.{CreatedFile}
use Rattle.h5w_options.specs.declared.options.Options.{Options}
use Rattle.h5w_creation.specs.NewFiles.{new_file}
use Rattle.h5w_several_creation_laws.specs.SeveralFiles.{AreCreatable, created_writes}
use Rattle.h5w_several_creating.specs.Created.{IsShownAll, shown_file}
use Rattle.h5w_several_writer.specs.Refusals.{HasRoomForAll}
use Rattle.h5w_several_writer_laws.specs.Sessions.{Sessions}
use Rattle.h5w_several_writer_laws.specs.Standing.{StandsAll}

-- by what these options create a file with a dataset under each of these names
abbrev pub new_files : List (List ℕ) → Options → List CreatedFile
new_files names o = map (λ (name : List ℕ). record (new_file o) { name = name }) names

-- each of these pieces has a byte
abbrev pub AllSome : List Write → Type 0
AllSome [] = Unit {0}
AllSome (w ∷ ws) = (1 ≤ length w.piece) × AllSome ws

-- The session created this file, and nothing is pending; its image has its pieces, and room for one.
pub record CreatesAll (names : List (List ℕ)) (options : Options) (S : Sessions) (m : MemView) : Type 0 where
  pub creatable : AreCreatable (new_files names options)
  pub is : IsShownAll (new_files names options) options.limit options.budget S
  pub stands : StandsAll S (shown_file (new_files names options))
  pub history : m.history ≡ created_writes (new_files names options)
  pub bytes : m.bytes ≡ image [] (created_writes (new_files names options))
  pub room : HasRoomForAll S (steady m)
