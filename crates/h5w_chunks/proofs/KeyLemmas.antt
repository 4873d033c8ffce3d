-- The keys by which an index has the chunks that rows touch.
use Rattle.std.proofs.Common.{◌≡◌, ℕ, zero, suc, ◌+◌, ◌-◌, ◌*◌, ◌/◌, ◌%◌, ◌<◌, ◌≤◌, nat_lt, sym, ap, ◌∙◌, subst, inl, inr, arith}
use Rattle.std.proofs.Math.Nat.{div-lt_iff_lt-mul, le-div_iff_mul-le, mod-lt, mul-le-mul_right}
use Rattle.std.proofs.lemmas.Bool.{cases_lt, cond-true, lt-ltb}
use Rattle.std.proofs.lemmas.Nat.{div-mul-add, mod-mul-add}
use Rattle.h5w_model.specs.Logs.{div_up}
use Rattle.h5w_model.specs.Datasets.{Described}
use Rattle.h5w_model.specs.Tables.{chunks_across, index_key, keys_across}
use Rattle.h5w_model.specs.declared.cell.IndexKind.{IndexKind}
use Rattle.h5w_model.specs.declared.cell.IndexKind.TheVariants.{Array, Tree}
use Rattle.h5w_model.specs.declared.cell.Key.{Key}
use Rattle.h5w_chunks.specs.Grids.{cell_key, grid_number}
use Rattle.h5w_chunks.specs.Shares.{chunk_number, first_line, touched, touched_band, touched_key}
use Rattle.h5w_chunks.proofs.Geometry.{key_of_number, number_parts, row_is, touched_some}

abbrev pub key_at : ℕ → ℕ → Key
key_at i j = record { i = i; j = j }

-- ---- Lines of keys

abbrev keys_by : IndexKind → ℕ → ℕ
keys_by kind across = elim kind [ Array ↦ 1 | Tree ↦ across ]

abbrev line_by : IndexKind → ℕ → ℕ → ℕ
line_by kind across band = elim kind [ Array ↦ band * across | Tree ↦ band ]

keys_by_some : (kind : IndexKind) (across : ℕ) → 0 < across → 0 < keys_by kind across
keys_by_some Array across some = omega arith
keys_by_some Tree across some = some

chunks_by : (kind : IndexKind) (across band : ℕ) → line_by kind across band * keys_by kind across ≡ band * across
chunks_by Array across band = omega arith
chunks_by Tree across band = omega arith

lines_grow : (kind : IndexKind) (across a b : ℕ) → a ≤ b → line_by kind across a ≤ line_by kind across b
lines_grow Array across a b more = mul-le-mul_right across more
lines_grow Tree across a b more = more

-- where chunks stand side by side, so do keys
pub some_keys : (d : Described) → 0 < chunks_across d → 0 < keys_across d
some_keys d some = keys_by_some d.layout.index (chunks_across d) some

-- the lines before a band have the chunks before it
pub line_chunks : (d : Described) (band : ℕ) → first_line d band * keys_across d ≡ band * chunks_across d
line_chunks d band = chunks_by d.layout.index (chunks_across d) band

pub first_line_grows : (d : Described) (a b : ℕ) → a ≤ b → first_line d a ≤ first_line d b
first_line_grows d a b more = lines_grow d.layout.index (chunks_across d) a b more

-- in an array keys are numbers
pub array_keys : (d : Described) → d.layout.index ≡ Array → keys_across d ≡ 1
array_keys d kind = ap (λ (k : IndexKind). keys_by k (chunks_across d)) kind

pub array_line : (d : Described) (band : ℕ) → d.layout.index ≡ Array → first_line d band ≡ band * chunks_across d
array_line d band kind = ap (λ (k : IndexKind). line_by k (chunks_across d) band) kind

-- in a tree they are places in the grid
pub tree_keys : (d : Described) → d.layout.index ≡ Tree → keys_across d ≡ chunks_across d
tree_keys d kind = ap (λ (k : IndexKind). keys_by k (chunks_across d)) kind

pub tree_line : (d : Described) (band : ℕ) → d.layout.index ≡ Tree → first_line d band ≡ band
tree_line d band kind = ap (λ (k : IndexKind). line_by k (chunks_across d) band) kind

-- ---- Keys of numbers

one_key : (n : ℕ) → key_at (n / 1) (n % 1) ≡ key_at n 0
one_key n =
    let quotient : n / 1 ≡ n = omega arith in
    let rest : n % 1 ≡ 0 = omega arith in
    λ t. record { i = quotient t; j = rest t }

-- the key of a number in an array
pub array_key : (d : Described) (n : ℕ) → d.layout.index ≡ Array → index_key d n ≡ key_at n 0
array_key d n kind = ap (λ (w : ℕ). key_at (n / w) (n % w)) (array_keys d kind) ∙ one_key n

joined_key : (w a n : ℕ) → 0 < w → key_at ((a * w + n) / w) ((a * w + n) % w) ≡ key_at (a + n / w) (n % w)
joined_key w a n some =
    let own = row_is n w some in
    let split : (a + n / w) * w ≡ a * w + n / w * w = grind arith in
    let sum : a * w + n ≡ (a + n / w) * w + n % w = omega (arith, own.0, split) in
    let parts = number_parts (a + n / w) w (n % w) own.1 in
    ap (λ (x : ℕ). key_at (x / w) (x % w)) sum ∙ (λ t. record { i = parts.0 t; j = parts.1 t })

-- the key of a touched chunk in a tree
pub tree_key : (d : Described) (from k : ℕ) → d.layout.index ≡ Tree → 0 < chunks_across d → touched_key d from k ≡ key_at (from / d.layout.chunk_rows + k / chunks_across d) (k % chunks_across d)
tree_key d from k kind some =
    ap (λ (w : ℕ). key_at ((from / d.layout.chunk_rows * chunks_across d + k) / w) ((from / d.layout.chunk_rows * chunks_across d + k) % w)) (tree_keys d kind)
    ∙ joined_key (chunks_across d) (from / d.layout.chunk_rows) k some

-- a key is that of its number
pub key_is : (d : Described) (key : Key) → key.j < keys_across d → index_key d (key.i * keys_across d + key.j) ≡ key
key_is d key side =
    let w : ℕ = keys_across d in
    let quotient : (key.i * w + key.j) / w ≡ key.i = div-mul-add key.i w key.j side in
    let rest : (key.i * w + key.j) % w ≡ key.j = mod-mul-add key.i w key.j side in
    λ t. record { i = quotient t; j = rest t }

-- two numbers have two keys
pub one_number : (d : Described) (m n : ℕ) → 0 < chunks_across d → index_key d m ≡ index_key d n → m ≡ n
one_number d m n some e =
    let w : ℕ = keys_across d in
    let wide : 0 < w = some_keys d some in
    let quotient : m / w ≡ n / w = ap (λ (x : Key). x.i) e in
    let rest : m % w ≡ n % w = ap (λ (x : Key). x.j) e in
    (row_is m w wide).0 ∙ ap (λ (q : ℕ). q * w + m % w) quotient ∙ ap (λ (r : ℕ). n / w * w + r) rest ∙ sym (row_is n w wide).0

-- the key of a number that is not before a band, and of one that is
pub line_low : (d : Described) (band n : ℕ) → 0 < chunks_across d → band * chunks_across d ≤ n → first_line d band ≤ (index_key d n).i
line_low d band n some low = (le-div_iff_mul-le {k = keys_across d} {x = first_line d band} {y = n} (some_keys d some)).1 (subst (λ (m : ℕ). m ≤ n) (sym (line_chunks d band)) low)

pub line_high : (d : Described) (band n : ℕ) → 0 < chunks_across d → n < band * chunks_across d → (index_key d n).i < first_line d band
line_high d band n some high = (div-lt_iff_lt-mul {k = keys_across d} {x = n} {y = first_line d band} (some_keys d some)).1 (subst (λ (m : ℕ). n < m) (sym (line_chunks d band)) high)

pub index_side : (d : Described) (n : ℕ) → 0 < chunks_across d → (index_key d n).j < keys_across d
index_side d n some = mod-lt n (some_keys d some)

-- a key lies in the lines of some bands
pub record IsInLines (d : Described) (from to : ℕ) (key : Key) : Type 0 where
  pub low : first_line d from ≤ key.i
  pub high : key.i < first_line d to
  pub side : key.j < keys_across d

pub in_lines : (d : Described) (from to n : ℕ) → 0 < chunks_across d → from * chunks_across d ≤ n → n < to * chunks_across d → IsInLines d from to (index_key d n)
in_lines d from to n some low high = record { low = line_low d from n some low; high = line_high d to n some high; side = index_side d n some }

pub next_band : (band across c : ℕ) → c < across → band * across + c < (band + 1) * across
next_band band across c low =
    let one : (band + 1) * across ≡ band * across + across = grind arith in
    omega (arith, one, low)

-- the chunk of a row and a column
pub cell_lines : (d : Described) (row column : ℕ) → column / d.layout.chunk_cols < chunks_across d → IsInLines d (row / d.layout.chunk_rows) (row / d.layout.chunk_rows + 1) (cell_key d row column)
cell_lines d row column side =
    in_lines d (row / d.layout.chunk_rows) (row / d.layout.chunk_rows + 1) (grid_number d row column) (omega (arith, side)) (omega arith) (next_band (row / d.layout.chunk_rows) (chunks_across d) (column / d.layout.chunk_cols) side)

-- ---- Touched chunks

pub some_across : (k n a : ℕ) → k < n * a → 0 < a
some_across k n zero h = absurd (omega (arith, h))
some_across k n (suc a) h = omega arith

-- what two numbers of bands differ by, in chunks
pub bands_between : (a b c : ℕ) → (b - a) * c ≡ b * c - a * c
bands_between a b c =
    elim (cases_lt a b) [
      | inl less ↦
          let whole : b - a + a ≡ b = omega (arith, less) in
          let sum : (b - a + a) * c ≡ (b - a) * c + a * c = grind arith in
          let all : (b - a + a) * c ≡ b * c = ap (λ (n : ℕ). n * c) whole in
          omega (arith, sum, all)
      | inr more ↦
          let none : b - a ≡ 0 = omega (arith, more) in
          let nothing : (b - a) * c ≡ 0 = ap (λ (n : ℕ). n * c) none ∙ omega arith in
          let under : b * c ≤ a * c = mul-le-mul_right c more in
          omega (arith, nothing, under)
    ]

-- the number of a touched chunk among all chunks
pub record TouchedNumber (d : Described) (from to k : ℕ) : Type 0 where
  pub some : 0 < chunks_across d
  pub high : from / d.layout.chunk_rows * chunks_across d + k < div_up to d.layout.chunk_rows * chunks_across d

pub touched_number : (d : Described) (from to k : ℕ) → k < touched d from to → TouchedNumber d from to k
touched_number d from to k known =
    let below = (touched_some d from to k known).1 in
    let between = bands_between (from / d.layout.chunk_rows) (div_up to d.layout.chunk_rows) (chunks_across d) in
    record {
      some = some_across k (div_up to d.layout.chunk_rows - from / d.layout.chunk_rows) (chunks_across d) below;
      high = omega (arith, below, between);
    }

-- the key of a touched chunk lies in the lines of the bands of the rows
pub touched_low : (d : Described) (from k : ℕ) → 0 < chunks_across d → first_line d (from / d.layout.chunk_rows) ≤ (touched_key d from k).i
touched_low d from k some = line_low d (from / d.layout.chunk_rows) (from / d.layout.chunk_rows * chunks_across d + k) some (omega arith)

pub touched_lines : (d : Described) (from to k : ℕ) → k < touched d from to → IsInLines d (from / d.layout.chunk_rows) (div_up to d.layout.chunk_rows) (touched_key d from k)
touched_lines d from to k known =
    let n = touched_number d from to k known in
    in_lines d (from / d.layout.chunk_rows) (div_up to d.layout.chunk_rows) (from / d.layout.chunk_rows * chunks_across d + k) n.some (omega arith) n.high

-- no two touched chunks have one key
pub touched_once : (d : Described) (from j k : ℕ) → 0 < chunks_across d → touched_key d from j ≡ touched_key d from k → j ≡ k
touched_once d from j k some e =
    let base : ℕ = from / d.layout.chunk_rows * chunks_across d in
    let same : base + j ≡ base + k = one_number d (base + j) (base + k) some e in
    omega (arith, same)

-- the number of a key among those of the touched chunks
abbrev pub number_of : Described → ℕ → Key → ℕ
number_of d from key = key.i * keys_across d + key.j - from / d.layout.chunk_rows * chunks_across d

-- a key is that of a touched chunk
pub record IsTouchedKey (d : Described) (from to : ℕ) (key : Key) : Type 0 where
  pub low : number_of d from key < touched d from to
  pub is : touched_key d from (number_of d from key) ≡ key

-- a key in the lines of some bands, by its number
lines_number : (w across first last low high i j : ℕ) → low * w ≡ first * across → high * w ≡ last * across → j < w → low ≤ i → i < high → (first * across ≤ i * w + j) × (i * w + j - first * across < (last - first) * across)
lines_number w across first last low high i j begin end side from to =
    let from_first : low * w ≤ i * w = mul-le-mul_right w from in
    let to_last : (i + 1) * w ≤ high * w = mul-le-mul_right w (let next : i + 1 ≤ high = omega (arith, to) in next) in
    let one : (i + 1) * w ≡ i * w + w = grind arith in
    let between = bands_between first last across in
    let above : first * across ≤ i * w + j = omega (arith, from_first, begin) in
    (above, omega (arith, above, to_last, one, end, side, between))

-- Each key in the lines of the bands of some rows is that of a chunk that they touch.
pub asked_is_touched : (d : Described) (from to : ℕ) (key : Key) → from < to → key.j < keys_across d → first_line d (from / d.layout.chunk_rows) ≤ key.i → key.i < first_line d (div_up to d.layout.chunk_rows) → IsTouchedKey d from to key
asked_is_touched d from to key order side low high =
    let first : ℕ = from / d.layout.chunk_rows in
    let last : ℕ = div_up to d.layout.chunk_rows in
    let across : ℕ = chunks_across d in
    let parts = lines_number (keys_across d) across first last (first_line d first) (first_line d last) key.i key.j (line_chunks d first) (line_chunks d last) side low high in
    let whole : first * across + number_of d from key ≡ key.i * keys_across d + key.j = back (first * across) (key.i * keys_across d + key.j) parts.0 in
    record {
      low = subst (λ (n : ℕ). number_of d from key < n) (sym (cond-true (nat_lt from to) ((last - first) * across) 0 (lt-ltb from to order))) parts.1;
      is = ap (index_key d) whole ∙ key_is d key side;
    }
  where
    back : (a b : ℕ) → a ≤ b → a + (b - a) ≡ b
    back a b h = omega (arith, h)

-- ---- The chunk of a row and a column among the touched ones

-- a touched chunk that has its key has its number
pub cell_touched : (d : Described) (from row column k : ℕ) → 0 < chunks_across d → from / d.layout.chunk_rows ≤ row / d.layout.chunk_rows → touched_key d from k ≡ cell_key d row column → k ≡ chunk_number d from row column
cell_touched d from row column k some band is = touched_once d from k (chunk_number d from row column) some (is ∙ sym (key_of_number d from row column band))

-- one of an earlier band is none of them
pub cell_before : (d : Described) (from row column k : ℕ) → column / d.layout.chunk_cols < chunks_across d → touched_key d from k ≡ cell_key d row column → from / d.layout.chunk_rows ≤ row / d.layout.chunk_rows
cell_before d from row column k side is =
    let first : ℕ = from / d.layout.chunk_rows in
    let band : ℕ = row / d.layout.chunk_rows in
    elim (cases_lt band first) [
      | inl before ↦
          let low = touched_low d from k (omega (arith, side)) in
          let high = (cell_lines d row column side).high in
          let same : (touched_key d from k).i ≡ (cell_key d row column).i = ap (λ (x : Key). x.i) is in
          let grows = first_line_grows d (band + 1) first (omega (arith, before)) in
          absurd (omega (arith, low, high, same, grows))
      | inr h ↦ h
    ]
