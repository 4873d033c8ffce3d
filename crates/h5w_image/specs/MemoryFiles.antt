-- The named files of a disk in memory: what their entries mean.
use Rattle.std.specs.Prelude.{ℕ, List, map}
use Rattle.std.specs.Ordering.{nat_cmp}
use Rattle.std.specs.Cmp.Lexicographic.{slice_cmp}
use Rattle.std.specs.FinMap as finite
use Rattle.std.specs.declared.string.String.{String}
use Rattle.std.specs.String.{string_bytes}
use Rattle.h5w_image.specs.View.{Files}
use Rattle.h5w_image.specs.declared.mem_files.MemFile.{MemFile}

-- what each file has under f, by name
abbrev pub of_each : {A X : Type 0} → (MemFile → X) → List (String A × MemFile) → finite.FinMap (slice_cmp nat_cmp) X
of_each f entries = finite.from_entries (map (λ e. (string_bytes e.0, f e.1)) entries)

abbrev pub files_of : {A : Type 0} → List (String A × MemFile) → Files
files_of entries = of_each (λ m. m.bytes.items) entries

abbrev pub ends_of : {A : Type 0} → List (String A × MemFile) → finite.FinMap (slice_cmp nat_cmp) ℕ
ends_of entries = of_each (λ m. m.end) entries
