-- What an image is found to be: that it is found to be one thing, and which steps keep blocks.
use Rattle.std.specs.Prelude.{◌≡◌, ◌⊎◌, ℕ, List}
use Rattle.h5w_model.specs.Datasets.{Described, dataset, dataset_place}
use Rattle.h5w_model.specs.Tables.{Limits, Reading, Shows, Fails, in_place}
use Rattle.h5w_model.specs.Findings.{Finding, Summary, Valid, Finds}
use Rattle.h5w_model.specs.declared.refusal.ReadError.{ReadError}
use Rattle.h5w_laws.specs.Programs.{IsUnstored}

-- one holds, and the other does not
abbrev pub ExactlyOne : (P Q : Type 0) → Type 0
ExactlyOne P Q = (P × ¬ Q) ⊎ (Q × ¬ P)

-- Each image shows one reading of a name, or fails by one refusal.
pub record OneAnswer : Type 0 where
  pub one : (limits : Limits) (img name : List ℕ) → ExactlyOne ((r : Reading) × Shows limits img name r) ((e : ReadError) × Fails limits img name e)
  pub reading : (limits : Limits) (img name : List ℕ) (r s : Reading) → Shows limits img name r → Shows limits img name s → r ≡ s
  pub refusal : (limits : Limits) (img name : List ℕ) (e f : ReadError) → Fails limits img name e → Fails limits img name f → e ≡ f

-- Each image is valid for a name, with one summary, or has one first finding.
pub record OneVerdict : Type 0 where
  pub one : (img name : List ℕ) → ExactlyOne ((s : Summary) × Valid img name s) ((f : Finding) × Finds img name f)
  pub summary : (img name : List ℕ) (r s : Summary) → Valid img name r → Valid img name s → r ≡ s
  pub finding : (img name : List ℕ) (e f : Finding) → Finds img name e → Finds img name f → e ≡ f

-- Superblock, headers and blocks in place are looked at anew in each attempt.
pub record UnstoredSteps : Type 0 where
  pub place : (name : List ℕ) → IsUnstored (dataset_place name)
  pub header : (place : ℕ) → IsUnstored (dataset place)
  pub blocks : (d : Described) → IsUnstored (in_place d)
