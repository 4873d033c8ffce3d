-- The steps of a read of rows of two dimensions.
use Rattle.std.proofs.Common.{◌≡◌, ◌≢◌, ℕ, zero, suc, ◌+◌, ◌-◌, ◌*◌, ◌/◌, ◌%◌, ◌^◌, ◌<◌, ◌≤◌, min, Bool, true, false, cond, ltb, List, [], ◌∷◌, ◌++◌, length, map, take, drop, replicate, get_or, Option, Some, None, Result, Ok, Err, inl, inr, refl, sym, ◌∙◌, ap, subst, append_assoc, length-drop, ◌⊎◌, arith}
use Rattle.std.specs.Prelude.{ℤ}
use Rattle.std.specs.List.{range_with_len}
use Rattle.std.proofs.lemmas.List.{append-nil, map-append, drop-drop, length-take-le}
use Rattle.std.proofs.lemmas.Bool.{lt-ltb, le-ltb, cases_lt}
use Rattle.std.proofs.lemmas.Nat.{div-mul-add, mod-mul-add, le-div}
use Rattle.std.proofs.Math.Nat.{mul-le-mul, div-mul-le_self}
use Rattle.h5w_model.specs.Programs.{Prog, ret, bind, and_then, cut_up}
use Rattle.h5w_model.specs.Numbers.{undefined}
use Rattle.h5w_model.specs.Integers.{value_at, fill_value}
use Rattle.h5w_model.specs.Messages.{IntTypeFields}
use Rattle.h5w_model.specs.Logs.{div_up}
use Rattle.h5w_model.specs.Datasets.{Described}
use Rattle.h5w_model.specs.Tables.{Reading, chunks_across, bands}
use Rattle.h5w_model.specs.Calls.{chunk_range, first_in_band, last_in_band, last_column, touched_from, touched_to, value_from}
use Rattle.h5w_model.specs.declared.refusal.ReadError.{ReadError}
use Rattle.h5w_model.specs.declared.refusal.ReadError.TheVariants.{Damaged}
use Rattle.h5w_model.specs.declared.refusal.BlockFault.TheVariants.{Cut}
use Rattle.h5w_lookup.specs.Looks.{plain}
use Rattle.h5w_lookup.specs.Gathering.{cut_behind}
use Rattle.h5w_reader.specs.Cells.{cell_values}
use Rattle.h5w_reader.specs.Bands.{rows_in_band, end_band}
use Rattle.h5w_reader.specs.Values.{past_values}
use Rattle.h5w_reader.specs.Grids.{grid_value, row_values, rows_values, grid_values, chunks_from, grids_from, behind_band, grid_rest, bands_rest, touched_len, grid_given, AreWhole}
use Rattle.h5w_dataset.specs.Described.{described_of}
use Rattle.h5w_reader.specs.declared.grid.Grid.{Grid}
use Rattle.h5w_lookup.proofs.PieceLemmas.{cut_up_is}
use Rattle.h5w_reader.proofs.BandLemmas.{band_begins, band_ends, band_next, band_of, place_in_band, map_same, map_alike, range_split}
use Rattle.h5w_reader.proofs.CellLemmas.{cells_front}
use Rattle.h5w_reader.proofs.ReadLemmas.{range_at, range_past, range_whole, cells_by, some_size}
use Rattle.h5w_reader.proofs.GridLemmas.{IsGrid}

-- the band holds rows that are asked for
pub record IsSide (r : Reading) (from to i : ℕ) : Type 0 where
  pub grid : IsGrid r.dataset
  pub some : from < to
  pub low : from / r.dataset.layout.chunk_rows ≤ i
  pub high : i ≤ (to - 1) / r.dataset.layout.chunk_rows

-- what is read of it, with any addresses
abbrev pub reading_at : ℕ → List ℕ → Grid → Reading
reading_at at table s = record { place = at; dataset = described_of s.dataset; table = table }

pub grid_side : (at : ℕ) (table : List ℕ) (s : Grid) (i : ℕ) → s.from / s.dataset.layout.chunk.0 ≤ i → i ≤ (s.to - 1) / s.dataset.layout.chunk.0 → IsSide (reading_at at table s) s.from s.to i
grid_side p table s i low high = record { grid = record { cols = s.cols; chunk_rows = s.dataset.tall; chunk_cols = s.dataset.wide }; some = s.some; low = low; high = high }

-- ---- Numbers

-- a chunk that is needed begins before the last column
pub column_begins : (cols wide column : ℕ) → 0 < wide → column < div_up cols wide → column * wide < cols
column_begins cols wide column some h =
    let q : ℕ = (cols + wide - 1) / wide in
    let low : (column + 1) * wide ≤ q * wide = mul-le-mul {n₁ = column + 1} {m₁ = wide} {n₂ = q} {m₂ = wide} (omega arith) (omega arith) in
    let whole : q * wide ≤ cols + wide - 1 = div-mul-le_self (cols + wide - 1) wide in
    let more : (column + 1) * wide ≡ column * wide + wide = grind arith in
    omega arith

-- behind the last chunk there is no column
pub columns_end : (cols wide : ℕ) → 0 < wide → cols ≤ div_up cols wide * wide
columns_end cols wide some =
    elim (cases_lt (div_up cols wide * wide) cols) [
      | inl h ↦
          let q : ℕ = div_up cols wide in
          let more : (q + 1) * wide ≡ q * wide + wide = grind arith in
          let up : q + 1 ≤ (cols + wide - 1) / wide = le-div (q + 1) (cols + wide - 1) wide some (omega arith) in
          absurd (omega arith)
      | inr h ↦ h
    ]

-- where the range of a chunk begins
pub range_starts : (r : Reading) (from to i j : ℕ) → IsSide r from to i
    → touched_from r.dataset i j from ≡ (first_in_band r.dataset i from - i * r.dataset.layout.chunk_rows) * r.dataset.layout.chunk_cols * r.dataset.int_type.size
range_starts r from to i j s =
    let d = r.dataset in
    let rows = d.layout.chunk_rows in
    let wide = d.layout.chunk_cols in
    let size = d.int_type.size in
    let first = first_in_band d i from in
    let ends : from < (i + 1) * rows = band_ends i rows from s.grid.chunk_rows s.low in
    let next : (i + 1) * rows ≡ i * rows + rows = band_next i rows in
    let some : 0 < rows = s.grid.chunk_rows in
    let place : first % rows ≡ first - i * rows = place_in_band i rows first (omega arith) (omega arith) in
    let left : j * wide % wide ≡ 0 = ap (λ m. m % wide) (let e : j * wide ≡ j * wide + 0 = omega arith in e) ∙ mod-mul-add j wide 0 s.grid.chunk_cols in
    ap (λ m. (m * wide + j * wide % wide) * size) place
    ∙ ap (λ m. ((first - i * rows) * wide + m) * size) left
    ∙ ap (λ m. m * size) (let e : (first - i * rows) * wide + 0 ≡ (first - i * rows) * wide = omega arith in e)

cells_len : (before n wide width size : ℕ) → 0 < n → 0 < width → ((before + n - 1) * wide + (width - 1)) * size + size - before * wide * size ≡ ((n - 1) * wide + width) * size
cells_len before n wide width size some more =
    let k : ℕ = n - 1 in
    let w : ℕ = width - 1 in
    let e : before + n - 1 ≡ before + k = omega arith in
    let f : width ≡ w + 1 = omega arith in
    let long : ((before + k) * wide + w) * size + size ≡ before * wide * size + ((k * wide + (w + 1)) * size) = grind arith in
    ap (λ m. (m * wide + w) * size + size - before * wide * size) e
    ∙ ap (λ m. m - before * wide * size) long
    ∙ (let z : before * wide * size + (k * wide + (w + 1)) * size - before * wide * size ≡ (k * wide + (w + 1)) * size = omega arith in z)
    ∙ ap (λ m. (k * wide + m) * size) (sym f)

-- and its length
pub range_len : (r : Reading) (from to i j : ℕ) → IsSide r from to i → j < chunks_across r.dataset
    → touched_len r.dataset i j from to ≡ ((rows_in_band r i from to - 1) * r.dataset.layout.chunk_cols + (last_column r.dataset j - j * r.dataset.layout.chunk_cols)) * r.dataset.int_type.size
range_len r from to i j s beside =
    let d = r.dataset in
    let rows = d.layout.chunk_rows in
    let wide = d.layout.chunk_cols in
    let size = d.int_type.size in
    let first = first_in_band d i from in
    let last = last_in_band d i to in
    let n = rows_in_band r i from to in
    let less : from < to = s.some in
    let begins : i * rows < to = band_begins i rows to s.grid.chunk_rows (omega arith) s.high in
    let ends : from < (i + 1) * rows = band_ends i rows from s.grid.chunk_rows s.low in
    let next : (i + 1) * rows ≡ i * rows + rows = band_next i rows in
    let some : 0 < rows = s.grid.chunk_rows in
    let left : j * wide < d.shape.cols = column_begins d.shape.cols wide j s.grid.chunk_cols beside in
    let beyond : (j + 1) * wide ≡ j * wide + wide = band_next j wide in
    let wider : 0 < wide = s.grid.chunk_cols in
    let end = last_column d j in
    let place : (last - 1) % rows ≡ last - 1 - i * rows = place_in_band i rows (last - 1) (omega arith) (omega arith) in
    let column : (end - 1) % wide ≡ end - 1 - j * wide = place_in_band j wide (end - 1) (omega arith) (omega arith) in
    let before : ℕ = first - i * rows in
    let at_last : last - 1 - i * rows ≡ before + n - 1 = omega arith in
    let at_end : end - 1 - j * wide ≡ end - j * wide - 1 = omega arith in
    ap (λ m. touched_to d i j to - m) (range_starts r from to i j s)
    ∙ ap (λ m. (m * wide + (end - 1) % wide) * size + size - before * wide * size) (place ∙ at_last)
    ∙ ap (λ m. ((before + n - 1) * wide + m) * size + size - before * wide * size) (column ∙ at_end)
    ∙ cells_len before n wide (end - j * wide) size (omega arith) (omega arith)

-- the range of a chunk stands in it
pub range_fits : (before n rows wide width size : ℕ) → 0 < n → before + n ≤ rows → width ≤ wide → rows * wide * size < 2 ^ 32 → before * wide * size + ((n - 1) * wide + width) * size < 2 ^ 32
range_fits before n rows wide width size some inside narrow small =
    let k : ℕ = n - 1 in
    let e : before * wide * size + (k * wide + width) * size ≡ (before * wide + (k * wide + width)) * size = grind arith in
    let all : (before + (k + 1)) * wide ≤ rows * wide = mul-le-mul {n₁ = before + (k + 1)} {m₁ = wide} {n₂ = rows} {m₂ = wide} (omega arith) (omega arith) in
    let parts : (before + (k + 1)) * wide ≡ before * wide + (k * wide + wide) = grind arith in
    let cells : before * wide + (k * wide + width) ≤ rows * wide = omega arith in
    let bytes : (before * wide + (k * wide + width)) * size ≤ rows * wide * size = mul-le-mul {n₁ = before * wide + (k * wide + width)} {m₁ = size} {n₂ = rows * wide} {m₂ = size} cells (omega arith) in
    omega arith

-- a row's cells in a range
pub row_fits : (row n wide width size : ℕ) → row < n → row * wide * size + width * size ≤ ((n - 1) * wide + width) * size
row_fits row n wide width size h =
    let low : row * wide ≤ (n - 1) * wide = mul-le-mul {n₁ = row} {m₁ = wide} {n₂ = n - 1} {m₂ = wide} (omega arith) (omega arith) in
    let all : (row * wide + width) * size ≤ ((n - 1) * wide + width) * size = mul-le-mul {n₁ = row * wide + width} {m₁ = size} {n₂ = (n - 1) * wide + width} {m₂ = size} (omega arith) (omega arith) in
    let parts : (row * wide + width) * size ≡ row * wide * size + width * size = grind arith in
    omega arith

-- ---- Programs

abbrev after_chunk : Reading → ℕ → ℕ → ℕ → ℕ → List ℤ → List (Option (List ℕ)) → Option (List ℕ) → Prog (Result (List ℤ) ReadError)
after_chunk r from to i j done os o = chunks_from r i from to (chunks_across r.dataset - (j + 1)) (j + 1) (os ++ o ∷ []) (behind_band r from to i done)

side_range : (r : Reading) (from to i j : ℕ) → IsGrid r.dataset
    → chunk_range r i j from to ≡ range_at (get_or r.table (i * chunks_across r.dataset + j) undefined) (touched_from r.dataset i j from) (touched_len r.dataset i j from to)
side_range r from to i j grid =
    let d = r.dataset in
    let rows = d.layout.chunk_rows in
    let wide = d.layout.chunk_cols in
    let band : i * rows / rows ≡ i = ap (λ m. m / rows) (let e : i * rows ≡ i * rows + 0 = omega arith in e) ∙ div-mul-add i rows 0 grid.chunk_rows in
    let column : j * wide / wide ≡ j = ap (λ m. m / wide) (let e : j * wide ≡ j * wide + 0 = omega arith in e) ∙ div-mul-add j wide 0 grid.chunk_cols in
    ap (λ m. range_at (get_or r.table (m * chunks_across d + j * wide / wide) undefined) (touched_from d i j from) (touched_len d i j from to)) band
    ∙ ap (λ m. range_at (get_or r.table (i * chunks_across d + m) undefined) (touched_from d i j from) (touched_len d i j from to)) column

grid_step : (r : Reading) (from to i j : ℕ) (done : List ℤ) (os : List (Option (List ℕ))) → IsGrid r.dataset → j < chunks_across r.dataset
    → grid_rest r from to i j done os ≡ plain (and_then (range_at (get_or r.table (i * chunks_across r.dataset + j) undefined) (touched_from r.dataset i j from) (touched_len r.dataset i j from to)) (after_chunk r from to i j done os))
unfolding grid_rest
grid_step r from to i j done os grid beside =
    let more : chunks_across r.dataset - j ≡ suc (chunks_across r.dataset - (j + 1)) = omega arith in
    ap (λ n. plain (chunks_from r i from to n j os (behind_band r from to i done))) more
    ∙ ap (λ (p : Prog (Result (Option (List ℕ)) ReadError)). plain (and_then p (after_chunk r from to i j done os))) (side_range r from to i j grid)

-- a chunk that is not there
pub grid_none : (r : Reading) (from to i j : ℕ) (done : List ℤ) (os : List (Option (List ℕ))) → IsGrid r.dataset → j < chunks_across r.dataset → get_or r.table (i * chunks_across r.dataset + j) undefined ≡ undefined
    → grid_rest r from to i j done os ≡ grid_rest r from to i (j + 1) done (os ++ None ∷ [])
unfolding grid_rest
grid_none r from to i j done os grid beside e =
    grid_step r from to i j done os grid beside
    ∙ ap (λ m. plain (and_then (range_at m (touched_from r.dataset i j from) (touched_len r.dataset i j from to)) (after_chunk r from to i j done os))) e

-- a range that passes 2^64
pub grid_past : (r : Reading) (from to i j address start len : ℕ) (done : List ℤ) (os : List (Option (List ℕ))) → IsGrid r.dataset → j < chunks_across r.dataset → get_or r.table (i * chunks_across r.dataset + j) undefined ≡ address
    → start ≡ touched_from r.dataset i j from → len ≡ touched_len r.dataset i j from to → address ≢ undefined → 2 ^ 64 < address + start + len → grid_rest r from to i j done os ≡ past_values address len
grid_past r from to i j address start len done os grid beside e begins long there past =
    grid_step r from to i j done os grid beside
    ∙ ap (λ m. plain (and_then (range_at m (touched_from r.dataset i j from) (touched_len r.dataset i j from to)) (after_chunk r from to i j done os))) e
    ∙ ap (λ m. plain (and_then (range_at address m (touched_len r.dataset i j from to)) (after_chunk r from to i j done os))) (sym begins)
    ∙ ap (λ m. plain (and_then (range_at address start m) (after_chunk r from to i j done os))) (sym long)
    ∙ ap (λ (p : Prog (Result (Option (List ℕ)) ReadError)). plain (and_then p (after_chunk r from to i j done os))) (range_past address start len there past)

side_cond : (r : Reading) (from to i j place len : ℕ) (done : List ℤ) (os : List (Option (List ℕ))) (b : List ℕ) (short : Bool)
    → plain (and_then (ret (cond short (Err (Damaged place (Cut len (length b)))) (Ok (Some b)))) (after_chunk r from to i j done os))
    ≡ cond short (ret (Err (Damaged place (Cut len (length b))))) (plain (after_chunk r from to i j done os (Some b)))
side_cond r from to i j place len done os b true = refl
side_cond r from to i j place len done os b false = refl

-- a range that is looked at
pub grid_look : (r : Reading) (from to i j address start len : ℕ) (done : List ℤ) (os : List (Option (List ℕ))) → IsGrid r.dataset → j < chunks_across r.dataset → get_or r.table (i * chunks_across r.dataset + j) undefined ≡ address
    → start ≡ touched_from r.dataset i j from → len ≡ touched_len r.dataset i j from to → address ≢ undefined → address + start + len ≤ 2 ^ 64
    → grid_rest r from to i j done os ≡ bind (cut_behind [] (address + start) len) (grid_given r from to i j done os (address + start))
unfolding grid_rest grid_given
grid_look r from to i j address start len done os grid beside e begins long there fits =
    grid_step r from to i j done os grid beside
    ∙ ap (λ m. plain (and_then (range_at m (touched_from r.dataset i j from) (touched_len r.dataset i j from to)) (after_chunk r from to i j done os))) e
    ∙ ap (λ m. plain (and_then (range_at address m (touched_len r.dataset i j from to)) (after_chunk r from to i j done os))) (sym begins)
    ∙ ap (λ m. plain (and_then (range_at address start m) (after_chunk r from to i j done os))) (sym long)
    ∙ ap (λ (p : Prog (Result (Option (List ℕ)) ReadError)). plain (and_then p (after_chunk r from to i j done os))) (range_whole address start len there fits)
    ∙ ap (cut_up (address + start) len) (λ k b. (side_cond r from to i j (address + start) len done os b (ltb (length b) len)) k)
    ∙ cut_up_is (address + start) len (λ b. cond (ltb (length b) len) (ret (Err (Damaged (address + start) (Cut len (length b))))) (plain (after_chunk r from to i j done os (Some b))))
    ∙ ap (λ m. bind (cut_behind [] (address + start) len) (λ b. cond (ltb (length b) m) (ret (Err (Damaged (address + start) (Cut m (length b))))) (plain (after_chunk r from to i j done os (Some b))))) long

-- a range that the image does not have whole
pub grid_cut : (r : Reading) (from to i j place len : ℕ) (done : List ℤ) (os : List (Option (List ℕ))) (b : List ℕ) → len ≡ touched_len r.dataset i j from to → length b < len
    → grid_given r from to i j done os place b ≡ ret (Err (Damaged place (Cut len (length b))))
unfolding grid_given
grid_cut r from to i j place len done os b e short =
    let less : length b < touched_len r.dataset i j from to = subst (λ m. length b < m) e short in
    rw (lt-ltb (length b) (touched_len r.dataset i j from to) less) (ap (λ m. let p : Prog (Result (List ℤ) ReadError) = ret (Err (Damaged place (Cut m (length b)))) in p) (sym e))

-- a range that is there
pub grid_read : (r : Reading) (from to i j place len : ℕ) (done : List ℤ) (os : List (Option (List ℕ))) (b : List ℕ) → len ≡ touched_len r.dataset i j from to → len ≤ length b
    → grid_given r from to i j done os place b ≡ grid_rest r from to i (j + 1) done (os ++ Some b ∷ [])
unfolding grid_given
grid_read r from to i j place len done os b e enough =
    let more : touched_len r.dataset i j from to ≤ length b = subst (λ m. m ≤ length b) e enough in
    rw (le-ltb (length b) (touched_len r.dataset i j from to) more) refl

-- all ranges of a band
pub grid_end : (r : Reading) (from to i j : ℕ) (done : List ℤ) (os : List (Option (List ℕ))) → chunks_across r.dataset ≤ j → grid_rest r from to i j done os ≡ bands_rest r from to (i + 1) (done ++ grid_values r i from to os)
unfolding grid_rest bands_rest
grid_end r from to i j done os behind =
    let none : chunks_across r.dataset - j ≡ 0 = omega arith in
    ap (λ n. plain (chunks_from r i from to n j os (behind_band r from to i done))) none

pub bands_begin : (r : Reading) (from to i : ℕ) (done : List ℤ) → i < end_band r to → bands_rest r from to i done ≡ grid_rest r from to i 0 done []
unfolding grid_rest bands_rest
bands_begin r from to i done less =
    let more : end_band r to - i ≡ suc (end_band r to - (i + 1)) = omega arith in
    let all : chunks_across r.dataset - 0 ≡ chunks_across r.dataset = omega arith in
    ap (λ n. plain (grids_from r from to n i done)) more
    ∙ sym (ap (λ n. plain (chunks_from r i from to n 0 [] (behind_band r from to i done))) all)

pub bands_end : (r : Reading) (from to i : ℕ) (done : List ℤ) → end_band r to ≤ i → bands_rest r from to i done ≡ ret (Ok done)
unfolding bands_rest
bands_end r from to i done behind =
    let none : end_band r to - i ≡ 0 = omega arith in
    ap (λ n. plain (grids_from r from to n i done)) none

-- ---- The ranges of a band

get_or-last : (os : List (Option (List ℕ))) (o : Option (List ℕ)) (j : ℕ) (b : List ℕ) → get_or (os ++ o ∷ []) j None ≡ Some b → (get_or os j None ≡ Some b) ⊎ ((j ≡ length os) × (o ≡ Some b))
get_or-last [] o zero b h = inr (refl, h)
get_or-last [] o (suc j) b h = absurd cc
get_or-last (x ∷ os) o zero b h = inl h
get_or-last (x ∷ os) o (suc j) b h = elim (get_or-last os o j b h) [ inl k ↦ inl k | inr k ↦ inr (ap suc k.0, k.1) ]

pub whole_none : (d : Described) (i from to : ℕ) (os : List (Option (List ℕ))) → AreWhole d i from to os → AreWhole d i from to (os ++ None ∷ [])
whole_none d i from to os all = λ j b h. elim (get_or-last os None j b h) [ inl k ↦ all j b k | inr k ↦ (let z = k.1 in absurd cc) ]

pub whole_some : (d : Described) (i from to : ℕ) (os : List (Option (List ℕ))) (bytes : List ℕ) → AreWhole d i from to os → touched_len d i (length os) from to ≤ length bytes → AreWhole d i from to (os ++ Some bytes ∷ [])
whole_some d i from to os bytes all enough = λ j b h. elim (get_or-last os (Some bytes) j b h) [
  | inl k ↦ all j b k
  | inr k ↦
      let same : bytes ≡ b = (let z = k.1 in cc) in
      subst (λ n. touched_len d i n from to ≤ length b) (sym k.0) (subst (λ x. touched_len d i (length os) from to ≤ length x) same enough)
]

-- ---- The values of a row

-- so many columns stand before a chunk
abbrev pub columns_before : Described → ℕ → ℕ
columns_before d j = min d.shape.cols (j * d.layout.chunk_cols)

row_split : (r : Reading) (from row a n : ℕ) (os : List (Option (List ℕ))) → row_values r from os row 0 (a + n) ≡ row_values r from os row 0 a ++ row_values r from os row a n
row_split r from row a n os =
    ap (map (grid_value r from os row)) (range_split 0 a n)
    ∙ map-append (grid_value r from os row) (range_with_len 0 a) (range_with_len (0 + a) n)
    ∙ ap (λ k. row_values r from os row 0 a ++ row_values r from os row k n) (let e : 0 + a ≡ a = omega arith in e)

-- the values of a chunk's columns go behind those before
pub row_step : (r : Reading) (from row j : ℕ) (os : List (Option (List ℕ))) (old all values : List ℤ) → IsGrid r.dataset → j < chunks_across r.dataset
    → old ≡ all ++ row_values r from os row 0 (columns_before r.dataset j) → values ≡ row_values r from os row (j * r.dataset.layout.chunk_cols) (last_column r.dataset j - j * r.dataset.layout.chunk_cols)
    → old ++ values ≡ all ++ row_values r from os row 0 (columns_before r.dataset (j + 1))
row_step r from row j os old all values grid beside before is =
    let d = r.dataset in
    let wide = d.layout.chunk_cols in
    let left : j * wide < d.shape.cols = column_begins d.shape.cols wide j grid.chunk_cols beside in
    let more : (j + 1) * wide ≡ j * wide + wide = band_next j wide in
    let here : columns_before d j ≡ j * wide = omega arith in
    let next : columns_before d (j + 1) ≡ j * wide + (last_column d j - j * wide) = omega arith in
    ap (λ (xs : List ℤ). xs ++ values) (before ∙ ap (λ n. all ++ row_values r from os row 0 n) here)
    ∙ ap (λ (xs : List ℤ). (all ++ row_values r from os row 0 (j * wide)) ++ xs) is
    ∙ append_assoc all (row_values r from os row 0 (j * wide)) (row_values r from os row (j * wide) (last_column d j - j * wide))
    ∙ ap (λ (xs : List ℤ). all ++ xs) (sym (row_split r from row (j * wide) (last_column d j - j * wide) os) ∙ ap (row_values r from os row 0) (sym next))

-- a chunk that is not there
pub none_columns : (r : Reading) (from row j n : ℕ) (os : List (Option (List ℕ))) → 0 < r.dataset.layout.chunk_cols → n ≤ r.dataset.layout.chunk_cols → get_or os j None ≡ None
    → replicate n (fill_value r.dataset.fill r.dataset.int_type) ≡ row_values r from os row (j * r.dataset.layout.chunk_cols) n
none_columns r from row j n os some narrow none =
    let wide = r.dataset.layout.chunk_cols in
    let more : (j + 1) * wide ≡ j * wide + wide = band_next j wide in
    sym (map_alike (grid_value r from os row) (λ _. fill_value r.dataset.fill r.dataset.int_type) (j * wide) n
    (λ column low high.
    let here : column / wide ≡ j = band_of j wide column low (omega arith) in
    ap (λ m. value_from r from (get_or os m None) row column) here ∙ ap (λ o. value_from r from o row column) none)
    ∙ map_same (fill_value r.dataset.fill r.dataset.int_type) (j * wide) n)

cell_behind : (before row wide column size : ℕ) → ((before + row) * wide + column) * size - before * wide * size ≡ row * wide * size + column * size
cell_behind before row wide column size =
    let e : ((before + row) * wide + column) * size ≡ before * wide * size + (row * wide * size + column * size) = grind arith in
    omega arith

-- a chunk whose range is there
pub some_columns : (r : Reading) (from to i row j n : ℕ) (os : List (Option (List ℕ))) (b : List ℕ) → IsSide r from to i → j < chunks_across r.dataset → row < rows_in_band r i from to → n ≤ r.dataset.layout.chunk_cols → get_or os j None ≡ Some b
    → cell_values r.dataset.int_type n (drop (row * r.dataset.layout.chunk_cols * r.dataset.int_type.size) b) ≡ row_values r from os (first_in_band r.dataset i from + row) (j * r.dataset.layout.chunk_cols) n
some_columns r from to i row j n os b s beside inside narrow some =
    let d = r.dataset in
    let t = d.int_type in
    let rows = d.layout.chunk_rows in
    let wide = d.layout.chunk_cols in
    let size = t.size in
    let first = first_in_band d i from in
    let before : ℕ = first - i * rows in
    let less : from < to = s.some in
    let begins : i * rows < to = band_begins i rows to s.grid.chunk_rows (omega arith) s.high in
    let ends : from < (i + 1) * rows = band_ends i rows from s.grid.chunk_rows s.low in
    let next : (i + 1) * rows ≡ i * rows + rows = band_next i rows in
    let tall : 0 < rows = s.grid.chunk_rows in
    let more : (j + 1) * wide ≡ j * wide + wide = band_next j wide in
    let at : ℕ = first + row in
    let band : at / rows ≡ i = band_of i rows at (omega arith) (omega arith) in
    let place : at % rows ≡ before + row = place_in_band i rows at (omega arith) (omega arith) ∙ (omega arith) in
    sym (cells_by t (grid_value r from os at) n (j * wide) (drop (row * wide * size) b)
    (λ k below.
    let column : ℕ = j * wide + k in
    let here : column / wide ≡ j = band_of j wide column (omega arith) (omega arith) in
    let left : column % wide ≡ k = mod-mul-add j wide k (omega arith) in
    let offset : (at % rows * wide + column % wide) * size - touched_from d (at / rows) (column / wide) from ≡ row * wide * size + k * size =
    ap (λ m. (m * wide + column % wide) * size - touched_from d (at / rows) (column / wide) from) place
    ∙ ap (λ m. ((before + row) * wide + m) * size - touched_from d (at / rows) (column / wide) from) left
    ∙ ap (λ m. ((before + row) * wide + k) * size - touched_from d m (column / wide) from) band
    ∙ ap (λ m. ((before + row) * wide + k) * size - touched_from d i m from) here
    ∙ ap (λ m. ((before + row) * wide + k) * size - m) (range_starts r from to i j s)
    ∙ cell_behind before row wide k size in
    ap (λ m. value_from r from (get_or os m None) at column) here
    ∙ ap (λ o. value_from r from o at column) some
    ∙ ap (λ m. value_at (take size (drop m b)) t) offset
    ∙ ap (λ (bs : List ℕ). value_at (take size bs) t) (sym (drop-drop (k * size) (row * wide * size) b ∙ ap (λ m. drop m b) (let z : row * wide * size + k * size ≡ row * wide * size + k * size = refl in z)))))

-- ---- The values of rows

rows_snoc : (r : Reading) (from row n : ℕ) (os : List (Option (List ℕ))) → rows_values r from os row (n + 1) ≡ rows_values r from os row n ++ row_values r from os (row + n) 0 r.dataset.shape.cols
rows_snoc r from row zero os =
    append-nil (row_values r from os row 0 r.dataset.shape.cols) ∙ ap (λ k. row_values r from os k 0 r.dataset.shape.cols) (let e : row ≡ row + 0 = omega arith in e)
rows_snoc r from row (suc n) os =
    let one = row_values r from os row 0 r.dataset.shape.cols in
    ap (rows_values r from os row) (let e : suc n + 1 ≡ suc (n + 1) = omega arith in e)
    ∙ ap (λ (xs : List ℤ). one ++ xs) (rows_snoc r from (row + 1) n os ∙ ap (λ k. rows_values r from os (row + 1) n ++ row_values r from os k 0 r.dataset.shape.cols) (let e : row + 1 + n ≡ row + suc n = omega arith in e))
    ∙ sym (append_assoc one (rows_values r from os (row + 1) n) (row_values r from os (row + suc n) 0 r.dataset.shape.cols))

pub rows_step : (r : Reading) (from first n : ℕ) (os : List (Option (List ℕ))) (old all new : List ℤ) → old ≡ all ++ rows_values r from os first n → new ≡ old ++ row_values r from os (first + n) 0 r.dataset.shape.cols → new ≡ all ++ rows_values r from os first (n + 1)
rows_step r from first n os old all new before is =
    is ∙ ap (λ (xs : List ℤ). xs ++ row_values r from os (first + n) 0 r.dataset.shape.cols) before
    ∙ append_assoc all (rows_values r from os first n) (row_values r from os (first + n) 0 r.dataset.shape.cols)
    ∙ ap (λ (xs : List ℤ). all ++ xs) (sym (rows_snoc r from first n os))

-- a row's cells stand in the range of a chunk
pub row_inside : (s : Grid) (i row j width : ℕ) (b : List ℕ) → s.from / s.dataset.layout.chunk.0 ≤ i → i ≤ (s.to - 1) / s.dataset.layout.chunk.0
    → row < last_in_band (described_of s.dataset) i s.to - first_in_band (described_of s.dataset) i s.from → j < chunks_across (described_of s.dataset) → touched_len (described_of s.dataset) i j s.from s.to ≤ length b
    → width ≡ last_column (described_of s.dataset) j - j * s.dataset.layout.chunk.1 → row * s.dataset.layout.chunk.1 * s.dataset.int_type.size + width * s.dataset.int_type.size ≤ length b
row_inside s i row j width b low high inside beside enough wide =
    let d = described_of s.dataset in
    let n : ℕ = last_in_band d i s.to - first_in_band d i s.from in
    let w : ℕ = last_column d j - j * s.dataset.layout.chunk.1 in
    let size = s.dataset.int_type.size in
    let long : touched_len d i j s.from s.to ≡ ((n - 1) * s.dataset.layout.chunk.1 + w) * size = range_len (reading_at 0 [] s) s.from s.to i j (grid_side 0 [] s i low high) beside in
    let fits : row * s.dataset.layout.chunk.1 * size + w * size ≤ ((n - 1) * s.dataset.layout.chunk.1 + w) * size = row_fits row n s.dataset.layout.chunk.1 w size inside in
    let all : row * s.dataset.layout.chunk.1 * size + w * size ≤ length b = omega (arith, long, enough, fits) in
    subst (λ k. row * s.dataset.layout.chunk.1 * size + k * size ≤ length b) (sym wide) all

-- and are few
pub row_small : (s : Grid) (i row width : ℕ) → s.from / s.dataset.layout.chunk.0 ≤ i → i ≤ (s.to - 1) / s.dataset.layout.chunk.0 → row < last_in_band (described_of s.dataset) i s.to - first_in_band (described_of s.dataset) i s.from
    → width ≤ s.dataset.layout.chunk.1 → row * s.dataset.layout.chunk.1 * s.dataset.int_type.size + width * s.dataset.int_type.size < 2 ^ 32
row_small s i row width low high inside narrow =
    let d = described_of s.dataset in
    let rows = s.dataset.layout.chunk.0 in
    let wide = s.dataset.layout.chunk.1 in
    let size = s.dataset.int_type.size in
    let first = first_in_band d i s.from in
    let last = last_in_band d i s.to in
    let next : (i + 1) * rows ≡ i * rows + rows = band_next i rows in
    let fits : row + 1 ≤ rows = omega arith in
    let one : row + 1 - 1 ≡ row = omega arith in
    let small : 0 * wide * size + (row * wide + width) * size < 2 ^ 32 =
    subst (λ m. 0 * wide * size + (m * wide + width) * size < 2 ^ 32) one (range_fits 0 (row + 1) rows wide width size (omega arith) (omega arith) narrow s.dataset.small) in
    let parts : (row * wide + width) * size ≡ row * wide * size + width * size = grind arith in
    omega arith

less_cells : (n size : ℕ) → 0 < size → n ≤ n * size
less_cells n size some = let z : n * 1 ≤ n * size = mul-le-mul {n₁ = n} {m₁ = 1} {n₂ = n} {m₂ = size} (omega arith) (omega arith) in omega arith

pub row_places : (s : Grid) (i row width : ℕ) → s.from / s.dataset.layout.chunk.0 ≤ i → i ≤ (s.to - 1) / s.dataset.layout.chunk.0 → row < last_in_band (described_of s.dataset) i s.to - first_in_band (described_of s.dataset) i s.from
    → width ≤ s.dataset.layout.chunk.1 → row * s.dataset.layout.chunk.1 < 2 ^ 32
row_places s i row width low high inside narrow =
    let small = row_small s i row width low high inside narrow in
    let less : row * s.dataset.layout.chunk.1 ≤ row * s.dataset.layout.chunk.1 * s.dataset.int_type.size = less_cells (row * s.dataset.layout.chunk.1) s.dataset.int_type.size (some_size s.dataset) in
    omega (arith, small, less)

-- the numbers of a band's chunks are few
pub chunk_small : (s : Grid) (i : ℕ) → s.from / s.dataset.layout.chunk.0 ≤ i → i ≤ (s.to - 1) / s.dataset.layout.chunk.0 → i * chunks_across (described_of s.dataset) + chunks_across (described_of s.dataset) ≤ 1000000
chunk_small s i low high =
    let d = described_of s.dataset in
    let rows = s.dataset.layout.chunk.0 in
    let across = chunks_across d in
    let less : s.from < s.to = s.some in
    let begins : i * rows < s.to = band_begins i rows s.to s.dataset.tall (omega arith) high in
    let next : (i + 1) * rows ≡ i * rows + rows = band_next i rows in
    let tall : 0 < rows = s.dataset.tall in
    let end : s.to ≤ s.dataset.shape.rows = s.inside in
    let up : i + 1 ≤ (s.dataset.shape.rows + rows - 1) / rows = le-div (i + 1) (s.dataset.shape.rows + rows - 1) rows tall (omega arith) in
    let all : (i + 1) * across ≤ bands d * across = mul-le-mul {n₁ = i + 1} {m₁ = across} {n₂ = bands d} {m₂ = across} up (omega arith) in
    let few : bands d * across ≤ 1000000 = s.few in
    let more : (i + 1) * across ≡ i * across + across = grind arith in
    omega arith

-- the cells of a row from its part of a range
pub part_cells : (t : IntTypeFields) (n : ℕ) (b front : List ℕ) (start : ℕ) → 0 < t.size → start + n * t.size ≤ length b → front ≡ take (n * t.size) (drop start b) → cell_values t (length front / t.size) front ≡ cell_values t n (drop start b)
part_cells t n b front start some fits is =
    let rest : n * t.size ≤ length (drop start b) = omega (arith, length-drop start b) in
    let long : length front ≡ n * t.size = ap length is ∙ length-take-le (n * t.size) (drop start b) rest in
    let count : length front / t.size ≡ n = ap (λ m. m / t.size) (long ∙ (let z : n * t.size ≡ n * t.size + 0 = omega arith in z)) ∙ div-mul-add n t.size 0 some in
    ap (λ m. cell_values t m front) count ∙ ap (cell_values t n) is ∙ cells_front t n (n * t.size) (drop start b) (omega arith)

-- behind the last chunk all columns stand before
pub columns_all : (d : Described) (j : ℕ) → 0 < d.layout.chunk_cols → chunks_across d ≤ j → columns_before d j ≡ d.shape.cols
columns_all d j some h =
    let end : d.shape.cols ≤ chunks_across d * d.layout.chunk_cols = columns_end d.shape.cols d.layout.chunk_cols some in
    let up : chunks_across d * d.layout.chunk_cols ≤ j * d.layout.chunk_cols = mul-le-mul {n₁ = chunks_across d} {m₁ = d.layout.chunk_cols} {n₂ = j} {m₂ = d.layout.chunk_cols} h (omega arith) in
    omega arith
