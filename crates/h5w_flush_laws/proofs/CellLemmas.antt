-- Cells by their chunks' addresses.
use Rattle.std.proofs.Common.{◌≡◌, ◌≢◌, ℕ, zero, suc, ◌+◌, ◌*◌, ◌/◌, ◌%◌, ◌<◌, ◌≤◌, true, List, [], ◌∷◌, ◌++◌, length, get_or, Option, Some, refl, sym, ◌∙◌, ap, arith}
use Rattle.std.specs.Prelude.{map, if◌then◌else◌, ◌==◌, ℤ, pos, slice_get}
use Rattle.std.proofs.Math.Nat.{mod-lt, mul-le-mul_right}
use Rattle.std.proofs.lemmas.List.{get_or_append_left}
use Rattle.std.proofs.lemmas.Option.{slice_get-get_or}
use Rattle.h5w_model.specs.Numbers.{undefined}
use Rattle.h5w_model.specs.Images.{AllMiss, Misses}
use Rattle.h5w_model.specs.Integers.{fill_value}
use Rattle.h5w_model.specs.Logs.{div_up}
use Rattle.h5w_model.specs.Datasets.{Described}
use Rattle.h5w_model.specs.Tables.{bands, chunks_across, needed, needed_keys, cell, cell_offset, value_in}
use Rattle.h5w_model.specs.Findings.{Used, chunk_bytes}
use Rattle.h5w_model.specs.declared.cell.Key.{Key}
use Rattle.h5w_model.specs.declared.piece.Write.{Write}
use Rattle.h5w_chunks.specs.Grids.{cell_key, grid_number}
use Rattle.h5w_chunks.proofs.Geometry.{lt_up, quotient_lt, row_is}
use Rattle.h5w_chunks.proofs.KeyLemmas.{next_band}
use Rattle.h5w_step_laws.specs.Ranges.{Among, chunk_at}
use Rattle.h5w_step_laws.specs.Headers.{IsSized}
use Rattle.h5w_step_laws.specs.Moments.{Moment, MissesCells, row_of, column_of, chunk_of}
use Rattle.h5w_step_laws.proofs.MomentLemmas.{InChunkOf, cell_within, chunk_missed}
use Rattle.h5w_flush_laws.specs.Parts.{committed}
use Rattle.h5w_flush_laws.proofs.KeyLemmas.{needed_at}
use Rattle.h5w_flush_laws.proofs.EarlyLemmas.{AllMissCells}

-- ---- A file whose table has only chunks of its index

pub record HasChunks (m : Moment) : Type 0 where
  pub sized : IsSized m.dataset
  pub chunks : (k : ℕ) → get_or m.table k undefined ≢ undefined → Among (chunk_at (get_or m.table k undefined) (chunk_bytes m.dataset)) m.behind

pub cell_chunk_of : (m : Moment) (k : ℕ) → HasChunks m → chunk_of m k ≢ undefined → InChunkOf m k
cell_chunk_of m k h defined =
    let within = cell_within m.dataset (row_of m k) (column_of m k) h.sized in
    record {
      chunk = chunk_at (chunk_of m k) (chunk_bytes m.dataset);
      among = h.chunks (grid_number m.dataset (row_of m k) (column_of m k)) defined;
      is_chunk = refl;
      from = omega arith;
      to = omega (arith, within);
    }

pub chunks_missed : (w : Write) (m : Moment) → HasChunks m → ((v : Used) → Among v m.behind → v.chunk ≡ true → Misses w v.place v.len) → MissesCells w m
chunks_missed w m h misses k low defined = let c = cell_chunk_of m k h defined in chunk_missed w m k c (misses c.chunk c.among c.is_chunk)

-- what misses its chunks misses its cells
pub all_chunks_missed : (ws : List Write) (m : Moment) → HasChunks m → ((v : Used) → Among v m.behind → v.chunk ≡ true → AllMiss ws v.place v.len) → AllMissCells ws m
all_chunks_missed [] m h misses k low defined = tt
all_chunks_missed (w ∷ ws) m h misses k low defined =
    (chunks_missed w m h (λ v a chunk. (misses v a chunk).0) k low defined, all_chunks_missed ws m h (λ v a chunk. (misses v a chunk).1) k low defined)

-- ---- Rows, columns and their keys

-- a row and a column of a dataset, and the key of their chunk among the needed ones
pub record IsCell (d : Described) (row column : ℕ) : Type 0 where
  pub in_rows : row < d.shape.rows
  pub in_columns : column < d.shape.cols

pub below_up : (x n c : ℕ) → 0 < c → x < n → x / c < div_up n c
below_up x n c some low = let parts = row_is x c some in lt_up (x / c) n c some (omega (arith, parts.0))

pub cell_of_value : (d : Described) (k : ℕ) → k < d.shape.rows * d.shape.cols → IsCell d (k / d.shape.cols) (k % d.shape.cols)
cell_of_value d k low = record { in_rows = quotient_lt k d.shape.rows d.shape.cols some low; in_columns = mod-lt k some }
  where
    some : 0 < d.shape.cols
    some = positive d.shape.cols low
      where
        positive : (c : ℕ) → k < d.shape.rows * c → 0 < c
        positive zero h = absurd (omega (arith, h))
        positive (suc c) h = omega arith

-- the chunk of a cell is a needed one
pub number_needed : (d : Described) (row column : ℕ) → IsSized d → IsCell d row column → grid_number d row column < needed d
number_needed d row column sized is =
    let band : row / d.layout.chunk_rows + 1 ≤ bands d = omega (arith, below_up row d.shape.rows d.layout.chunk_rows sized.rows is.in_rows) in
    let next = next_band (row / d.layout.chunk_rows) (chunks_across d) (column / d.layout.chunk_cols) (below_up column d.shape.cols d.layout.chunk_cols sized.cols is.in_columns) in
    let all : (row / d.layout.chunk_rows + 1) * chunks_across d ≤ needed d = mul-le-mul_right (chunks_across d) band in
    omega (arith, next, all)

-- the address of a cell's chunk by a map
pub chunk_by : (d : Described) (f : Key → ℕ) (row column : ℕ) → IsSized d → IsCell d row column
    → get_or (map f (needed_keys d)) (grid_number d row column) undefined ≡ f (cell_key d row column)
chunk_by d f row column sized is = needed_at f d (grid_number d row column) (number_needed d row column sized is)

-- a cell whose chunk has an address, or none
abbrev pub cell_by : List ℕ → Described → ℕ → ℕ → ℕ → Option ℤ
cell_by img d address row column = if address == undefined then Some (fill_value d.fill d.int_type) else value_in img d (address + cell_offset d row column)

-- with more rows, and the same map, the values of before are the same
pub cell_same : (img : List ℕ) (place : ℕ) (d : Described) (rows : ℕ) (named : Option ℕ) (f : Key → ℕ) (row column : ℕ) → IsSized d → d.shape.rows ≤ rows → IsCell d row column
    → cell img (record { place = place; dataset = d; table = map f (needed_keys d) }) row column ≡ cell img (record { place = place; dataset = committed d rows named; table = map f (needed_keys (committed d rows named)) }) row column
cell_same img place d rows named f row column sized more is =
    let e : Described = committed d rows named in
    let sized_too : IsSized e = record { rows = sized.rows; cols = sized.cols; size = sized.size; bytes = sized.bytes } in
    let there : IsCell e row column = record { in_rows = omega (arith, is.in_rows, more); in_columns = is.in_columns } in
    ap (λ a. cell_by img d a row column) (chunk_by d f row column sized is ∙ sym (chunk_by e f row column sized_too there))

-- the first of more values
pub more_values : (vs more : List ℤ) (k : ℕ) → k < length vs → k < length (vs ++ more)
more_values [] more k h = absurd (omega (arith, h))
more_values (v ∷ vs) more zero h = omega arith
more_values (v ∷ vs) more (suc k) h = omega (arith, more_values vs more k (omega (arith, h)))

pub first_values : (vs more : List ℤ) (k : ℕ) → k < length vs → slice_get (vs ++ more) k ≡ slice_get vs k
first_values vs more k low =
    slice_get-get_or (vs ++ more) k (pos 0) (more_values vs more k low) ∙ ap Some (get_or_append_left vs more (pos 0) k low) ∙ sym (slice_get-get_or vs k (pos 0) low)
