-- Blocks with their numbers.
use Rattle.std.specs.Prelude.{◌≡◌, ℕ, List, map}
use Rattle.std.specs.List.{AllByRecursion}
use Rattle.h5w_model.specs.Programs.{Kept}
use Rattle.h5w_lookup.specs.Blocks.{block_number}
use Rattle.h5w_lookup.specs.Contents.{bytes_in}
use Rattle.h5w_lookup.specs.declared.block.Block.{Block}

abbrev pub kept_entry : ℕ × Block → Kept
kept_entry e = record { kind = e.1.kind; place = e.1.place; len = e.1.len; bytes = bytes_in e.1.content }

abbrev pub kept_entries : List (ℕ × Block) → List Kept
kept_entries es = map kept_entry es

-- each block stands under its number
abbrev pub IsKeyed : List (ℕ × Block) → Type 0
IsKeyed es = AllByRecursion (λ e. e.0 ≡ block_number e.1.kind e.1.place e.1.len) es
