-- What is left of a read of rows, of a dataset of one dimension.
use Rattle.std.specs.Prelude.{ℕ, zero, suc, ◌+◌, ◌-◌, ◌*◌, length, List, ◌++◌, map, nat_lt, if◌then◌else◌, Option, Some, Result, Ok, Err, ℤ}
use Rattle.std.specs.List.{range_with_len}
use Rattle.h5w_model.specs.Programs.{Prog, ret, whole, bind, and_then, below_end}
use Rattle.h5w_model.specs.Tables.{Reading}
use Rattle.h5w_model.specs.Calls.{chunk_range, first_in_band, value_from}
use Rattle.h5w_model.specs.declared.refusal.ReadError.{ReadError}
use Rattle.h5w_model.specs.declared.refusal.ReadError.TheVariants.{Damaged}
use Rattle.h5w_model.specs.declared.refusal.BlockFault.TheVariants.{Cut}
use Rattle.h5w_lookup.specs.Looks.{plain}
use Rattle.h5w_lookup.specs.Gathering.{gathering}
use Rattle.h5w_lookup.specs.Outcomes.{outcome_left}
pub use Rattle.h5w_reader.specs.Bands.{rows_in_band, end_band, reading_with}
use Rattle.h5w_reader.specs.Gridding.{grid_left}
use Rattle.h5w_lookup.specs.declared.known.Known.{Known}
use Rattle.h5w_reader.specs.declared.values.Ranged.{Ranged}
use Rattle.h5w_reader.specs.declared.values.Reads.{Reads}
use Rattle.h5w_reader.specs.declared.values.Reads.TheVariants as reads_by
use Rattle.h5w_lookup.specs.declared.outcome.Outcome.{Outcome}
use Rattle.h5w_lookup.specs.declared.outcome.Progress.{Progress}
use Rattle.h5w_lookup.specs.declared.outcome.Progress.TheVariants as progress_by

-- the values of these rows, from the range of the band's chunk
abbrev pub band_values : Reading → ℕ → ℕ → ℕ → Option (List ℕ) → List ℤ
band_values r i from to found = map (λ row. value_from r from found row 0) (range_with_len (first_in_band r.dataset i from) (rows_in_band r i from to))

-- n bands from band i on, behind the values that were found before
abbrev pub bands_from : Reading → ℕ → ℕ → ℕ → ℕ → List ℤ → Prog (Result (List ℤ) ReadError)
bands_from r from to zero i done = ret (Ok done)
bands_from r from to (suc n) i done = and_then (chunk_range r i 0 from to) (λ found. bands_from r from to n (i + 1) (done ++ band_values r i from to found))

-- all bands from band i on
unfoldable pub rows_rest : Reading → ℕ → ℕ → ℕ → List ℤ → Prog (Result (List ℤ) ReadError)
rows_rest r from to i done = plain (bands_from r from to (end_band r to - i) i done)

-- the same, given the bytes of band i's range, which begins at a place
unfoldable pub band_rest : Reading → ℕ → ℕ → ℕ → List ℤ → ℕ → List ℕ → Prog (Result (List ℤ) ReadError)
band_rest r from to i done place b =
    let len = rows_in_band r i from to * r.dataset.int_type.size in
    if nat_lt (length b) len then ret (Err (Damaged place (Cut len (length b))))
    else rows_rest r from to (i + 1) (done ++ band_values r i from to (Some b))

abbrev pub range_values : Known → Ranged → Prog (Result (List ℤ) ReadError)
range_values k s =
    bind (gathering s.gather) (band_rest (reading_with k s.span.dataset) s.span.from s.span.to s.band s.values.items s.gather.start)

-- a look at a chunk whose range passes 2^64 is refused, whatever it gives
abbrev pub past_values : ℕ → ℕ → Prog (Result (List ℤ) ReadError)
past_values at len = whole at (below_end at 512) (λ b. ret (Err (Damaged at (Cut len 0))))

abbrev pub reading_values : Known → Reads → Prog (Result (List ℤ) ReadError)
reading_values k (reads_by.Range s) = range_values k s
reading_values k (reads_by.Beside s) = grid_left k s
reading_values k (reads_by.Past at len) = past_values at len

abbrev pub goes : Known → Progress (List ℤ) Reads → Prog (Result (List ℤ) ReadError)
goes k (progress_by.Done vs) = ret (Ok vs)
goes k (progress_by.Looks s) = reading_values k s

abbrev pub valued : Known → Outcome (List ℤ) Reads → Prog (Result (List ℤ) ReadError)
valued k v = outcome_left (λ (vs : List ℤ). vs) (reading_values k) v
