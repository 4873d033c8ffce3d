-- What the clearing of a file's flags tells, and what it leaves.
use Rattle.std.specs.Prelude.{◌≡◌, ℕ, ◌-◌, ◌*◌, ◌/◌, ◌%◌, ◌⊎◌, Bool, List, [], ◌∷◌, ◌++◌, length, take, codes, ◌==◌, if◌then◌else◌, Option, Some, None, IfSome, IfOk, IfErr, OnOk, OnErr, Result, Ok, Err, option_map, unwrap_or}
use Rattle.h5w_model.specs.Causes.{Rose}
use Rattle.h5w_model.specs.Numbers.{range}
use Rattle.h5w_model.specs.Checksum.{sealed_block}
use Rattle.h5w_model.specs.Superblock.{super_at}
use Rattle.h5w_model.specs.Datasets.{refused_as, super_refusal, then_also}
use Rattle.h5w_model.specs.declared.root.Super.{Super}
use Rattle.h5w_model.specs.declared.refusal.SuperError.{SuperError}
use Rattle.h5w_image.specs.View.{DiskState, DiskView, IsThere, file, put}
use Rattle.h5w_text.specs.Errors.{error_text}
use Rattle.h5w_text.specs.Streams.{SinkView}
use Rattle.h5w_text.specs.Table.{numbers_text}
use Rattle.h5w_text.specs.declared.error.ErrorLine.{ErrorLine}
use Rattle.h5w_text.specs.declared.error.ErrorLine.TheVariants as errors
use Rattle.h5w_text.specs.declared.status.Status.{Status}
use Rattle.h5w_files.specs.Images.{LeavesFiles}
use Rattle.h5w_files.specs.Ends.{IsGivenBy, EndsBy}
use Rattle.h5w_files.specs.declared.flags.Clearing.{Clearing}
use Rattle.h5w_files.specs.declared.flags.Clearing.TheVariants.{Flags, Upgraded}

-- flags without bit 0, open for writing, and bit 2, open for SWMR writing
abbrev pub cleared : ℕ → ℕ
cleared flags = flags - flags % 2 - flags / 4 % 2 * 4

-- a superblock of 48 bytes with another version, which stands at place 8, other flags, which stand at place 11, and the right
-- sum; all else is equal
abbrev pub rewritten : List ℕ → ℕ → ℕ → List ℕ
rewritten b version flags = sealed_block (take 8 b ++ version ∷ range b 9 2 ++ flags ∷ range b 12 32)

-- what is cleared in a superblock; one of version 2 is refused, unless it is to be upgraded
abbrev pub clears_by : Bool → Super → Result Clearing ErrorLine
clears_by upgrade s = if s.version == 2 then (if upgrade then Ok Upgraded else Err (errors.WriterVersion s.version)) else Ok (Flags s.flags)

-- what is cleared in the superblock that these bytes begin with, or its refusal
abbrev pub clears_at : Bool → List ℕ → Result Clearing ErrorLine
clears_at upgrade b = then_also (refused_as (λ e. errors.Read (super_refusal e)) (super_at b)) (clears_by upgrade)

-- of the bytes of a file, where it is there
abbrev pub clears_of : Bool → Option (List ℕ) → Result Clearing ErrorLine
clears_of upgrade None = Err errors.Missing
clears_of upgrade (Some img) = clears_at upgrade (range img 0 48)

-- the errors of a clearing
abbrev pub IsOfClear : ErrorLine → Type 0
IsOfClear errors.Missing = Unit {0}
IsOfClear (errors.Read e) = (s : SuperError) × (e ≡ super_refusal s)
IsOfClear (errors.WriterVersion version) = Unit {0}
IsOfClear errors.Disk = Unit {0}
IsOfClear errors.Memory = Unit {0}
IsOfClear e = ⊥

-- the flags before and after, or the versions
abbrev pub clear_text : Result Clearing ErrorLine → List ℕ
clear_text (Ok (Flags flags)) = numbers_text (codes "clear") (flags ∷ cleared flags ∷ [])
clear_text (Ok Upgraded) = numbers_text (codes "upgrade") (2 ∷ 3 ∷ [])
clear_text (Err e) = error_text e

-- the flags with which a superblock is put, where one is: without those of writers, and without any behind an upgrade
abbrev pub flags_put : Clearing → Option ℕ
flags_put (Flags flags) = if cleared flags == flags then None else Some (cleared flags)
flags_put Upgraded = Some 0

-- the first 48 bytes of a file, or fewer where it ends
abbrev pub front_of : List ℕ → DiskState → List ℕ
front_of name d = range (unwrap_or (file d name) []) 0 48

-- the disk once these flags were put into a file, with version 3; so many faults stood before
abbrev pub with_flags : List ℕ → Option ℕ → ℕ → DiskState → DiskState
with_flags name None faults d = d
with_flags name (Some flags) faults d = put name (record { at = 0; piece = rewritten (front_of name d) 3 flags }) faults d

-- what is left of the files: with an answer that is no error the flags are cleared, by one put where there is something to
-- change
abbrev pub after_clear : List ℕ → Result Clearing ErrorLine → ℕ → DiskState → DiskState
after_clear name (Ok found) faults d = with_flags name (flags_put found) faults d
after_clear name (Err e) faults d = d

-- what is put for a superblock is read as that superblock with version 3 and these flags, all else equal
abbrev pub ReadsWith : List ℕ → ℕ → Type 0
ReadsWith b flags = (s : Super) → super_at b ≡ Ok s → super_at (rewritten b 3 flags) ≡ Ok (record s { version = 3; flags = flags })

-- An answer, what was cleared, between two states of a disk, which did not fail where it is no error. No put but the one that clears
-- flags, before which it did not fail either, and it is the last that is done. The superblock that it puts is read.
pub record ClearsTo (name : List ℕ) (upgrade : Bool) (v w : DiskView) (answer : Result Clearing ErrorLine) : Type 0 where
  pub disk : LeavesFiles (option_map (after_clear name answer v.faults) v.told) v w
  pub calm : OnOk answer (w.faults ≡ v.faults)
  pub exact : IfSome v.told (λ d. IsGivenBy (clears_of upgrade (file d name)) answer)
  pub reads : IfSome v.told (λ d. IfOk answer (λ found. IfSome (flags_put found) (ReadsWith (front_of name d))))
  pub kinds : IfErr answer IsOfClear
  pub cause : answer ≡ Err errors.Disk → Rose v.faults w.faults

-- what is cleared in a file's superblock was found, with the first 48 bytes of the file
pub record FindsSuperblock (name : List ℕ) (upgrade : Bool) (v w : DiskView) (bytes : List ℕ) (answer : Result Clearing ErrorLine) : Type 0 where
  pub disk : LeavesFiles v.told v w
  pub calm : OnOk answer (w.faults ≡ v.faults)
  pub exact : IfSome v.told (λ d. IsGivenBy (clears_of upgrade (file d name)) answer)
  pub kinds : IfErr answer IsOfClear
  pub cause : answer ≡ Err errors.Disk → Rose v.faults w.faults
  pub there : OnOk answer (IsThere w name)
  pub whole : OnOk answer (length bytes ≡ 48)
  pub bytes_are : OnOk answer (IfSome v.told (λ d. bytes ≡ front_of name d))

-- a superblock was put with version 3 and these flags
pub record Puts (name bytes : List ℕ) (flags : ℕ) (v w : DiskView) (answer : Result (Unit {0}) ErrorLine) : Type 0 where
  pub ok : OnOk answer (LeavesFiles (option_map (put name (record { at = 0; piece = rewritten bytes 3 flags }) v.faults) v.told) v w)
  pub calm : OnOk answer (w.faults ≡ v.faults)
  pub refused : OnErr answer (LeavesFiles v.told v w)
  pub kinds : IfErr answer (λ e. (e ≡ errors.Disk) ⊎ (e ≡ errors.Memory))
  pub cause : answer ≡ Err errors.Disk → Rose v.faults w.faults

-- how a clearing ends
abbrev pub ClearEnds : List ℕ → Bool → DiskView → DiskView → Status → SinkView → SinkView → Type 0
ClearEnds name upgrade v w status k l = EndsBy {A = Clearing} (λ answer text. ClearsTo name upgrade v w answer × (text ≡ clear_text answer)) status k l
