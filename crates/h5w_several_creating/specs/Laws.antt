-- The laws of a session of several datasets that creates its file.
use Rattle.std.specs.Prelude.{◌≡◌, ℕ, ◌*◌, ◌^◌, ◌≤◌, List, [], ◌∷◌, ◌++◌, length}
use Rattle.h5w_model.specs.Images.{image}
use Rattle.h5w_model.specs.Findings.{AllValid}
use Rattle.h5w_model.specs.Several.{file_log}
use Rattle.h5w_model.specs.Tables.{Reading, Reads, Shows, format_limits}
use Rattle.h5w_model.specs.declared.piece.Write.{Write}
use Rattle.h5w_index.specs.Views.{IndexView}
use Rattle.h5w_creation_laws.specs.CreatedFiles.{CreatedFile, IsCreatable, created_log}
use Rattle.h5w_several_creation_laws.specs.SeveralFiles.{AreCreatable, created_writes, described_at, end_behind, first_place, names_of, new_summary}
use Rattle.h5w_several_writer_laws.specs.Bounds.{IsGrown}
use Rattle.h5w_several_writer_laws.specs.Sessions.{Sessions, all_pending}
use Rattle.h5w_several_writer_laws.specs.Standing.{StandsAll}
use Rattle.h5w_several_creating.specs.Created.{AreIndexes, IsCreatedAll, created_all, created_file, file_after, led}

-- The pieces of the creation are pending; the session stands for the log to which nothing happened yet, and its file
-- grew by nothing.
pub record IsCreating (fs : List CreatedFile) (S : Sessions) : Type 0 where
  pub pending : all_pending S.parts ≡ created_writes fs
  pub stands : StandsAll S (created_file fs)
  pub grown : IsGrown S (created_file fs)

abbrev pub CreatesStanding : Type 0
CreatesStanding = (fs : List CreatedFile) (limit budget : ℕ) (S : Sessions) → AreCreatable fs → 1024 * length fs ≤ limit → limit ≤ 2 ^ 40 → IsCreatedAll fs limit budget S → IsCreating fs S

-- After each of its pieces it stands for the log in which these are shown, and the others are pending.
abbrev pub CreatesEach : Type 0
CreatesEach = (fs : List CreatedFile) (limit budget : ℕ) (vs : List IndexView) → AreCreatable fs → 1024 * length fs ≤ limit → limit ≤ 2 ^ 40 → AreIndexes (first_place fs) fs vs
    → (us ws : List Write) → us ++ ws ≡ created_writes fs → StandsAll (led ws (created_all fs limit budget vs)) (file_after fs us)

-- each dataset has no row under its name, and is of the type and the shape by which it was created
pub record IsEmpty (img : List ℕ) (place : ℕ) (f : CreatedFile) : Type 0 where
  pub reads : Reads img f.name 0 f.columns []
  pub reading : Reading
  pub shows : Shows format_limits img f.name reading
  pub dataset : reading.dataset ≡ described_at place f

abbrev pub EachEmpty : List ℕ → ℕ → List CreatedFile → Type 0
EachEmpty img place [] = Unit {0}
EachEmpty img place (f ∷ fs) = IsEmpty img place f × EachEmpty img (end_behind place f) fs

-- Once its pieces are shown the file is valid for all names, and empty under each.
pub record IsNewFile (fs : List CreatedFile) : Type 0 where
  pub valid : AllValid (image [] (created_writes fs)) (names_of fs) (new_summary fs)
  pub each : EachEmpty (image [] (created_writes fs)) (first_place fs) fs

abbrev pub CreatesEmpty : Type 0
CreatesEmpty = (fs : List CreatedFile) → AreCreatable fs → IsNewFile fs

-- of one dataset it is the log of a session that creates its file
abbrev pub CreatesOne : Type 0
CreatesOne = (f : CreatedFile) → IsCreatable f → created_file (f ∷ []) ≡ file_log (created_log f)
