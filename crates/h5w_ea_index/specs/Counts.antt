-- The six numbers of an array's header while they change.
use Rattle.std.specs.Prelude.{◌≡◌, ℕ, ◌+◌, ◌-◌, ◌^◌, min, List, slice_index_or, slice_set, is_some}
use Rattle.h5w_model.specs.Arrays.{numbers_in}
use Rattle.h5w_cache.specs.Stores.{Store, block_of}
use Rattle.h5w_array_laws.specs.Parts.{header, number_of}
use Rattle.h5w_array_laws.specs.ArrayStores.{IsArray, bytes_at_part}
use Rattle.h5w_ea_index.specs.Steps.{IsHeld, Touches}

-- one of them is another, and the rest as it was
pub record IsCounted (numbers : List ℕ) (v w : Store) : Type 0 where
  pub array : IsArray w
  pub held : IsHeld v w
  pub six : numbers_in (bytes_at_part w header) 6 12 ≡ numbers
  pub kept : (n : ℕ) → is_some (block_of w n) ≡ is_some (block_of v n)
  pub others : Touches (λ n. n ≡ number_of header) v w

abbrev pub with_at : ℕ → ℕ → List ℕ → List ℕ
with_at i n numbers = slice_set numbers i n

-- one of them is more by so many; it stands still at the end of its type
abbrev pub more_at : ℕ → ℕ → List ℕ → List ℕ
more_at i n numbers = slice_set numbers i (min (slice_index_or numbers i 0 + n) (2 ^ 64 - 1))
