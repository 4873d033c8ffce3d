-- Bands of rows, and what is read of a known dataset.
use Rattle.std.specs.Prelude.{ℕ, ◌+◌, ◌-◌, ◌/◌}
use Rattle.h5w_model.specs.Tables.{Reading}
use Rattle.h5w_model.specs.Calls.{first_in_band, last_in_band}
use Rattle.h5w_dataset.specs.Described.{described_of}
use Rattle.h5w_dataset.specs.declared.dataset.Dataset.{Dataset}
use Rattle.h5w_lookup.specs.declared.known.Known.{Known}

-- how many rows of band i lie from `from` up to but not including `to`
abbrev pub rows_in_band : Reading → ℕ → ℕ → ℕ → ℕ
rows_in_band r i from to = last_in_band r.dataset i to - first_in_band r.dataset i from

-- the band behind the last
abbrev pub end_band : Reading → ℕ → ℕ
end_band r to = (to - 1) / r.dataset.layout.chunk_rows + 1

-- a dataset with the addresses that are known
abbrev pub reading_with : Known → Dataset → Reading
reading_with k d = record { place = k.place; dataset = described_of d; table = k.table.items }
