-- The named files of a disk in memory, as contracts see them.
use Rattle.std.specs.Prelude.{ℕ, refl}
use Rattle.std.specs.Ordering.{nat_cmp}
use Rattle.std.specs.Cmp.Lexicographic.{slice_cmp}
use Rattle.std.specs.FinMap as finite
use Rattle.std.specs.Coded.{Coded, code_by, coded×, coded_ℕ, coded_list}
use Rattle.h5w_image.specs.View.{Files}

-- a finite map from names
abbrev pub Named : Type 0 → Type 0
Named X = finite.FinMap (slice_cmp nat_cmp) X

-- each file's bytes, and up to where it has room
pub record FilesView : Type 0 where
  pub files : Files
  pub ends : Named ℕ

abbrev pub named_code : {X : Type 0} → Coded X → Coded (Named X)
named_code x = finite.code (coded_list coded_ℕ) x

abbrev pub files_code : Coded FilesView
files_code =
    code_by (Files × Named ℕ) (coded× (named_code (coded_list coded_ℕ)) (named_code coded_ℕ)) (λ v. (v.files, v.ends)) (λ p. record { files = p.0; ends = p.1 }) (λ _. refl)
