-- Rows and columns in bands and chunks: what the numbers say.
use Rattle.std.proofs.Common.{◌≡◌, ℕ, nat_lt, suc, ◌+◌, ◌-◌, ◌*◌, ◌/◌, ◌%◌, ◌<◌, ◌≤◌, ◌⊎◌, max, min, length, replicate, Option, Some, None, IfSome, sym, ap, ◌∙◌, subst, inl, inr, arith}
use Rattle.std.proofs.lemmas.Nat.{div-mul-add, mod-mul-add, mul-add-lt, mul-le}
use Rattle.std.proofs.Math.Nat.{div-lt_iff_lt-mul, le-div_iff_mul-le}
use Rattle.std.proofs.lemmas.Bool.{cases_lt, cond-true, cond-false, lt-ltb, le-ltb}
use Rattle.std.proofs.lemmas.List.{length-replicate}
use Rattle.std.proofs.lemmas.Grind.{div_ceil_times}
use Rattle.std.specs.Int.{div_ceil}
use Rattle.std.specs.Option.{option_map, unwrap_or}
use Rattle.h5w_model.specs.Logs.{div_up}
use Rattle.h5w_model.specs.Datasets.{Described}
use Rattle.h5w_model.specs.Tables.{chunks_across, index_key}
use Rattle.h5w_model.specs.Integers.{cell_bytes}
use Rattle.h5w_model.specs.declared.cell.Cell.{Cell}
use Rattle.h5w_model.proofs.IntegerLemmas.{int_size_bounds}
use Rattle.h5w_chunks.specs.Grids.{IsCut, IsGrid, cell_key, dataset_of}
use Rattle.h5w_chunks.specs.Shares.{chunk_number, touched, touched_band, touched_key}
use Rattle.h5w_chunks.specs.declared.grid.Grid.{Grid}

-- ---- A grid's numbers

fill_length : (value : Option Cell) (size : ℕ) → IfSome value (λ (c : Cell). (c.size ≡ size) × (length (cell_bytes c) ≡ size)) → length (unwrap_or (option_map cell_bytes value) (replicate size 0)) ≡ size
fill_length None size filled = length-replicate size 0
fill_length (Some c) size filled = filled.1

pub is_cut : (g : Grid) → IsGrid g → IsCut (dataset_of g)
is_cut g is =
    let size = int_size_bounds g.int_type.size is.typed in
    record {
      rows = is.chunked.rows;
      cols = is.chunked.cols;
      some = size.0;
      few = size.1;
      small = is.chunked.small;
      fill = fill_length g.fill.value g.int_type.size is.filled;
    }

-- a cell ends within its chunk
pub cell_fits : (i c rows cols size : ℕ) → i < rows → c < cols → (i * cols + c) * size + size ≤ rows * (cols * size)
cell_fits i c rows cols size row column =
    let place : i * cols + c < cols * rows = mul-add-lt i cols c rows row column in
    let whole : (i * cols + c + 1) * size ≤ (cols * rows) * size = mul-le (i * cols + c + 1) size (cols * rows) size (omega arith) (omega arith) in
    omega arith

-- ---- Bands

-- a number below a quotient that is rounded up
pub up_lt : (x n d : ℕ) → 0 < d → x < div_up n d → x * d < n
up_lt x n d some below =
    let times : suc x * d ≤ n + d - 1 = (le-div_iff_mul-le {k = d} {x = suc x} {y = n + d - 1} some).0 (omega arith) in
    omega arith

-- and the other way
pub lt_up : (x n d : ℕ) → 0 < d → x * d < n → x < div_up n d
lt_up x n d some below =
    let quotient : suc x ≤ (n + d - 1) / d = (le-div_iff_mul-le {k = d} {x = suc x} {y = n + d - 1} some).1 (omega arith) in
    omega arith

-- both say how many parts of d the number n has
pub ceil_is_up : (n d : ℕ) → 0 < d → div_ceil n d ≡ div_up n d
ceil_is_up n d some =
    let times = div_ceil_times n d some in
    let low : div_ceil n d ≤ div_up n d = elim (cases_lt (div_up n d) (div_ceil n d)) [
      | inl more ↦
          let over : (div_up n d + 1) * d ≤ div_ceil n d * d = mul-le (div_up n d + 1) d (div_ceil n d) d (omega arith) (omega arith) in
          let up : div_up n d * d < n = omega arith in
          absurd (omega (arith, lt_up (div_up n d) n d some up))
      | inr h ↦ h
    ] in
    elim (cases_lt (div_ceil n d) (div_up n d)) [
      | inl less ↦ absurd (omega (arith, up_lt (div_ceil n d) n d some less))
      | inr h ↦ omega arith
    ]

-- the quotient of a number below a multiple
pub quotient_lt : (x n d : ℕ) → 0 < d → x < n * d → x / d < n
quotient_lt x n d some below = (div-lt_iff_lt-mul {k = d} {x = x} {y = n} some).1 below

-- and back
pub quotient_of : (x n d : ℕ) → 0 < d → x / d < n → x < n * d
quotient_of x n d some below = (div-lt_iff_lt-mul {k = d} {x = x} {y = n} some).0 below

-- the first row of a band that is not before `from`
pub first_is : (from q rows : ℕ) → 0 < rows → from / rows ≤ q → (max from (q * rows) ≡ q * rows + max from (q * rows) % rows) × (max from (q * rows) % rows < rows)
first_is from q rows some band =
    elim (cases_lt (q * rows) from) [
      | inl behind ↦
          let first : max from (q * rows) ≡ from = omega arith in
          let reach : q ≤ from / rows = (le-div_iff_mul-le {k = rows} {x = q} {y = from} some).1 (omega arith) in
          let same : from / rows ≡ q = omega arith in
          let whole : q * rows + from % rows ≡ from = ap (λ (x : ℕ). x * rows + from % rows) (sym same) ∙ omega arith in
          rw first (sym whole, omega arith)
      | inr before ↦
          let first : max from (q * rows) ≡ q * rows = omega arith in
          let none : (q * rows) % rows ≡ 0 = ap (λ (x : ℕ). x % rows) (let e : q * rows ≡ q * rows + 0 = omega arith in e) ∙ mod-mul-add q rows 0 some in
          rw first (omega arith, omega arith)
    ]

-- a row in its band
pub row_is : (row rows : ℕ) → 0 < rows → (row ≡ row / rows * rows + row % rows) × (row % rows < rows)
row_is row rows some = (omega arith, omega arith)

pub div_grows : (a b d : ℕ) → 0 < d → a ≤ b → a / d ≤ b / d
div_grows a b d some h = (le-div_iff_mul-le {k = d} {x = a / d} {y = b} some).1 (omega arith)

-- the rows that a range has in a band, counted in the band
pub own_rows : (row from to rows : ℕ) → 0 < rows → from ≤ row → row < to
    → (max from (row / rows * rows) % rows ≤ row % rows) × (row % rows < max from (row / rows * rows) % rows + min (to - max from (row / rows * rows)) (rows - max from (row / rows * rows) % rows))
own_rows row from to rows some low high =
    let q = row / rows in
    let band : from / rows ≤ q = div_grows from row rows some low in
    let first = first_is from q rows some band in
    let is = row_is row rows some in
    (omega arith, omega arith)

pub other_rows : (row from to rows : ℕ) → 0 < rows → from ≤ to → from / rows ≤ row / rows → (row < from) ⊎ (to ≤ row)
    → (row % rows < max from (row / rows * rows) % rows) ⊎ (max from (row / rows * rows) % rows + min (to - max from (row / rows * rows)) (rows - max from (row / rows * rows) % rows) ≤ row % rows)
other_rows row from to rows some order band (inl before) =
    let q = row / rows in
    let first = first_is from q rows some band in
    let is = row_is row rows some in
    inl (omega arith)
other_rows row from to rows some order band (inr behind) =
    let q = row / rows in
    let first = first_is from q rows some band in
    let is = row_is row rows some in
    elim (cases_lt row from) [ inl before ↦ inl (omega arith) | inr after ↦ inr (omega arith) ]

-- ---- Chunks by number

-- band and column of a chunk, back from its number
pub number_parts : (band across column : ℕ) → column < across → ((band * across + column) / across ≡ band) × ((band * across + column) % across ≡ column)
number_parts band across column below = (div-mul-add band across column below, mod-mul-add band across column below)

-- a numbered chunk's band begins before the rows' end, and its first column is one of the dataset's
pub numbered : (k low to rows columns cols : ℕ) → 0 < rows → 0 < cols → k < (div_up to rows - low) * div_up columns cols
    → ((low + k / div_up columns cols) * rows < to) × (k % div_up columns cols * cols < columns)
numbered k low to rows columns cols some wide known =
    let across = div_up columns cols in
    let any : 0 < across = elim (cases_lt 0 across) [
      | inl h ↦ h
      | inr none ↦
          let zero_across : across ≡ 0 = omega arith in
          let product : (div_up to rows - low) * across ≡ 0 = ap (λ (x : ℕ). (div_up to rows - low) * x) zero_across ∙ omega arith in
          absurd (omega arith)
    ] in
    let band : k / across < div_up to rows - low = quotient_lt k (div_up to rows - low) across any known in
    (up_lt (low + k / across) to rows some (omega arith), up_lt (k % across) columns cols wide (let rest : k % across < across = omega arith in rest))

-- ---- Cells by number

-- the place of a cell among those of the new rows: its share's first cell, rows of the dataset, columns
pub cell_number : (first t columns column c size : ℕ) → ((first * columns + column) * size + t * (columns * size)) + c * size ≡ ((first + t) * columns + (column + c)) * size
cell_number first t columns column c size = grind arith

-- the cells of a share's row end within those of the new rows
pub cells_fit : (first t columns column w size n all : ℕ) → first + t < n → column + w ≤ columns → all ≡ n * columns * size
    → (first * columns + column) * size + t * (columns * size) + w * size ≤ all
cells_fit first t columns column w size n all row wide is =
    let rows : (first + t) * columns + columns ≤ n * columns = omega (arith, mul-le (first + t + 1) columns n columns (omega arith) (omega arith)) in
    let cells : ((first + t) * columns + (column + w)) * size ≤ (n * columns) * size = mul-le ((first + t) * columns + (column + w)) size (n * columns) size (omega arith) (omega arith) in
    omega (arith, cell_number first t columns column w size)

-- ---- The numbers of a share

-- what a touched chunk's share is reckoned with stays below the end of the rows and of their cells
pub record ShareNumbers (from to rows columns cols size b j : ℕ) : Type 0 where
  pub any : from < to
  pub band : b * rows < to
  pub low : b ≤ b * rows
  pub column : j * cols < columns
  pub times : (max from (b * rows) - from) * columns + columns ≤ (to - from) * columns
  pub cells : ((max from (b * rows) - from) * columns + j * cols) * size < (to - from) * columns * size
  pub whole : (to - from) * columns ≤ (to - from) * columns * size

pub touched_some : (d : Described) (from to k : ℕ) → k < touched d from to → (from < to) × (k < (div_up to d.layout.chunk_rows - from / d.layout.chunk_rows) * chunks_across d)
touched_some d from to k known =
    elim (cases_lt from to) [
      | inl some ↦ (some, subst (λ (n : ℕ). k < n) (cond-true (nat_lt from to) ((div_up to d.layout.chunk_rows - from / d.layout.chunk_rows) * chunks_across d) 0 (lt-ltb from to some)) known)
      | inr none ↦
          let zero_touched : touched d from to ≡ 0 = cond-false (nat_lt from to) ((div_up to d.layout.chunk_rows - from / d.layout.chunk_rows) * chunks_across d) 0 (le-ltb from to none) in
          absurd (omega arith)
    ]

share_numbers_of : (d : Described) (from to k : ℕ) → IsCut d → k < touched d from to
    → ShareNumbers from to d.layout.chunk_rows d.shape.cols d.layout.chunk_cols d.int_type.size (from / d.layout.chunk_rows + k / chunks_across d) (k % chunks_across d)
share_numbers_of d from to k cut known =
    let rows = d.layout.chunk_rows in
    let columns = d.shape.cols in
    let cols = d.layout.chunk_cols in
    let size = d.int_type.size in
    let band = from / rows + k / chunks_across d in
    let column = k % chunks_across d in
    let some = touched_some d from to k known in
    let inside = numbered k (from / rows) to rows columns cols cut.rows cut.cols some.1 in
    let f = max from (band * rows) - from in
    let less : f < to - from = omega (arith, some.0, inside.0) in
    let times : f * columns + columns ≤ (to - from) * columns = omega (arith, mul-le (f + 1) columns (to - from) columns (omega arith) (omega arith)) in
    let place : f * columns + column * cols < (to - from) * columns = omega (arith, inside.1) in
    let next : (f * columns + column * cols + 1) * size ≤ (to - from) * columns * size = mul-le (f * columns + column * cols + 1) size ((to - from) * columns) size (omega arith) (omega arith) in
    let one : (to - from) * columns * 1 ≤ (to - from) * columns * size = mul-le ((to - from) * columns) 1 ((to - from) * columns) size (omega arith) cut.some in
    record {
      any = some.0;
      band = inside.0;
      low = omega (arith, mul-le band 1 band rows (omega arith) cut.rows);
      column = inside.1;
      times = times;
      cells = omega (arith, cut.some);
      whole = omega arith;
    }

pub share_numbers : (d : Described) (from to k across : ℕ) → IsCut d → k < touched d from to → across ≡ chunks_across d
    → ShareNumbers from to d.layout.chunk_rows d.shape.cols d.layout.chunk_cols d.int_type.size (from / d.layout.chunk_rows + k / across) (k % across)
share_numbers d from to k across cut known is =
    subst (λ (a : ℕ). ShareNumbers from to d.layout.chunk_rows d.shape.cols d.layout.chunk_cols d.int_type.size (from / d.layout.chunk_rows + k / a) (k % a)) (sym is) (share_numbers_of d from to k cut known)

spread : (n rows : ℕ) → 0 < rows → 1 ≤ n → n * 1 + (rows - 1) ≤ n * rows
spread n rows some any =
    let r = rows - 1 in
    let one : 1 * r ≤ n * r = mul-le 1 r n r any (omega arith) in
    let parts : n * rows ≡ n * (r + 1) = ap (λ (k : ℕ). n * k) (let e : rows ≡ r + 1 = omega arith in e) in
    omega arith

-- rows touch no more chunks than they have cells
pub touched_few : (from to rows columns cols : ℕ) → 0 < rows → 0 < cols → from < to → (from / rows ≤ div_up to rows) × ((div_up to rows - from / rows) * div_up columns cols ≤ (to - from) * columns)
touched_few from to rows columns cols some wide any =
    let n = to - from in
    let whole = row_is from rows some in
    let more : n * 1 + (rows - 1) ≤ n * rows = spread n rows some (omega arith) in
    let reach : to ≤ (from / rows + n) * rows = omega (arith, more, whole.0, whole.1) in
    let bands : div_up to rows ≤ from / rows + n = elim (cases_lt (from / rows + n) (div_up to rows)) [
      | inl over ↦ absurd (omega (arith, up_lt (from / rows + n) to rows some over))
      | inr h ↦ h
    ] in
    let across : div_up columns cols ≤ columns = elim (cases_lt columns (div_up columns cols)) [
      | inl over ↦ absurd (omega (arith, up_lt columns columns cols wide over, mul-le columns 1 columns cols (omega arith) wide))
      | inr h ↦ h
    ] in
    let low : from / rows < div_up to rows = lt_up (from / rows) to rows some (omega (arith, whole.0)) in
    (omega arith, mul-le (div_up to rows - from / rows) (div_up columns cols) n columns (omega arith) across)

-- ---- The chunk of a row and a column, by its number among the touched ones

pub joined_bands : (x y n c : ℕ) → (x + y) * n + c ≡ x * n + (y * n + c)
joined_bands x y n c = grind arith

-- its band
pub band_of_number : (d : Described) (from row column : ℕ) → 0 < d.layout.chunk_cols → from / d.layout.chunk_rows ≤ row / d.layout.chunk_rows → column < chunks_across d * d.layout.chunk_cols
    → touched_band d from (chunk_number d from row column) ≡ row / d.layout.chunk_rows
band_of_number d from row column wide band across =
    let R = d.layout.chunk_rows in
    let parts = number_parts (row / R - from / R) (chunks_across d) (column / d.layout.chunk_cols) (quotient_lt column (chunks_across d) d.layout.chunk_cols wide across) in
    ap (λ (n : ℕ). from / R + n) parts.0 ∙ (let e : from / R + (row / R - from / R) ≡ row / R = omega (arith, band) in e)

-- its key
pub key_of_number : (d : Described) (from row column : ℕ) → from / d.layout.chunk_rows ≤ row / d.layout.chunk_rows → touched_key d from (chunk_number d from row column) ≡ cell_key d row column
key_of_number d from row column band =
    let R = d.layout.chunk_rows in
    let whole : from / R + (row / R - from / R) ≡ row / R = omega (arith, band) in
    ap (index_key d) (sym (joined_bands (from / R) (row / R - from / R) (chunks_across d) (column / d.layout.chunk_cols)) ∙ ap (λ (n : ℕ). n * chunks_across d + column / d.layout.chunk_cols) whole)
