-- What happens to a session that makes a file: its creation, batches of values, and its close.
use Rattle.std.specs.Prelude.{◌≡◌, ℕ, zero, suc, ◌*◌, ◌/◌, ◌%◌, false, true, List, [], ◌∷◌, ◌++◌, length, ◌==◌, if◌then◌else◌, None, ℤ}
use Rattle.h5w_model.specs.Logs.{Happening, appends, plans, shows}
use Rattle.h5w_model.specs.Superblock.{super_bytes}
use Rattle.h5w_model.specs.declared.piece.Write.{Write}
use Rattle.h5w_model.specs.declared.root.Super.{Super}
use Rattle.h5w_model.specs.declared.cell.IndexKind.TheVariants.{Array}
use Rattle.h5w_creation_laws.specs.CreatedFiles.{CreatedFile, created_writes}
use Rattle.h5w_make.specs.Generators.{generated, state_after}
use Rattle.h5w_reader_laws.specs.Showing.{showing}

-- the bytes of the name "data"
abbrev pub data_name : List ℕ
data_name = 100 ∷ 97 ∷ 116 ∷ 97 ∷ []

-- the file: integers of 4 bytes with a sign, the least significant byte first, 64 of them in a chunk, no fill
abbrev pub new_file : CreatedFile
new_file = record {
  name = data_name;
  int_type = record { size = 4; big = false; signed = true };
  fill = record { value = None };
  chunk_rows = 64;
  chunk_cols = 1;
  rank = 1;
  columns = 1;
  growing = false;
  index = Array;
}

-- ---- Events, the newest first

-- Values were appended, some pieces that were written early became visible, a flush planned others, and each of them became visible.
pub record IsBatch (values : List ℤ) (before after : List Happening) : Type 0 where
  pub early : List Write
  pub pieces : List Write
  pub is : after ≡ showing pieces (plans (length pieces) ∷ showing early (appends values ∷ before))

-- The pieces of a creation became visible, and then these batches followed one another, the last of them first.
abbrev pub AreBatches : List (List ℤ) → List Happening → Type 0
AreBatches [] es = es ≡ showing (created_writes new_file) []
AreBatches (b ∷ bs) es = (before : List Happening) × AreBatches bs before × IsBatch b before es

-- Last came the piece of the close, the superblock without bits 0 and 2 of its flags: nobody writes the file.
pub record AreClosed (bs : List (List ℤ)) (es : List Happening) : Type 0 where
  pub before : List Happening
  pub batches : AreBatches bs before
  pub root : Super
  pub no_write : root.flags % 2 ≡ 0
  pub no_swmr : root.flags / 4 % 2 ≡ 0
  pub is : es ≡ shows (record { at = 0; piece = super_bytes root }) ∷ before

-- ---- The batches of a generator

-- so many batches of 1,000 values, the last of them first
abbrev pub full_batches : ℕ → ℕ → List (List ℤ)
full_batches x zero = []
full_batches x (suc k) = generated (state_after x (k * 1000)) 1000 ∷ full_batches x k

-- n values: a batch for each 1,000, and one for what is left
abbrev pub batches : ℕ → ℕ → List (List ℤ)
batches x n =
    if n % 1000 == 0 then full_batches x (n / 1000)
    else generated (state_after x (n / 1000 * 1000)) (n % 1000) ∷ full_batches x (n / 1000)

-- the values of some batches, the last of which comes first
abbrev pub values_of : List (List ℤ) → List ℤ
values_of [] = []
values_of (b ∷ bs) = values_of bs ++ b
