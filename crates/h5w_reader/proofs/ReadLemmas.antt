-- The steps of a read of rows.
use Rattle.std.proofs.Common.{◌≡◌, ◌≢◌, ℕ, zero, suc, ◌+◌, ◌-◌, ◌*◌, ◌/◌, ◌%◌, ◌^◌, ◌<◌, ◌≤◌, min, max, Bool, true, false, cond, ltb, List, [], ◌∷◌, ◌++◌, length, map, take, drop, replicate, get_or, Option, Some, None, Result, Ok, Err, IsTrue, refl, sym, ◌∙◌, ap, arith}
use Rattle.std.specs.Prelude.{◌==◌, ℤ}
use Rattle.std.specs.List.{range_with_len}
use Rattle.std.proofs.lemmas.List.{drop-drop, length-take-le}
use Rattle.std.proofs.lemmas.Bool.{lt-ltb, le-ltb, ne_eqb}
use Rattle.std.proofs.lemmas.Nat.{div-mul-add, div_below}
use Rattle.h5w_model.specs.Programs.{Prog, ret, whole, counted, bind, and_then, cut_up}
use Rattle.h5w_model.specs.Numbers.{range, undefined}
use Rattle.h5w_model.specs.Integers.{value_at, fill_value}
use Rattle.h5w_model.specs.Messages.{IntTypeFields, is_int_size}
use Rattle.h5w_model.specs.Tables.{Reading, chunks_across}
use Rattle.h5w_model.specs.Calls.{chunk_range, first_in_band, last_in_band, none_of, value_from}
use Rattle.h5w_model.specs.declared.refusal.ReadError.{ReadError}
use Rattle.h5w_model.specs.declared.refusal.ReadError.TheVariants.{Damaged}
use Rattle.h5w_model.specs.declared.refusal.BlockFault.TheVariants.{Cut}
use Rattle.h5w_lookup.specs.Looks.{plain}
use Rattle.h5w_lookup.specs.Gathering.{cut_behind}
use Rattle.h5w_lookup.specs.Outcomes.{outcome_of}
use Rattle.h5w_lookup.specs.declared.outcome.Progress.{Progress}
use Rattle.h5w_lookup.specs.declared.outcome.Progress.TheVariants.{Done, Looks}
use Rattle.h5w_reader.specs.declared.values.Reads.{Reads}
use Rattle.h5w_reader.specs.Cells.{cell_values}
use Rattle.h5w_reader.specs.Values.{rows_in_band, band_values, bands_from, end_band, rows_rest, band_rest, reading_with, past_values, goes, valued}
use Rattle.h5w_dataset.specs.Described.{described_of}
use Rattle.h5w_dataset.specs.declared.dataset.Dataset.{Dataset}
use Rattle.h5w_lookup.specs.declared.known.Known.{Known}
use Rattle.h5w_reader.specs.declared.values.Span.{Span}
use Rattle.h5w_lookup.proofs.PieceLemmas.{cut_up_is}
use Rattle.h5w_reader.proofs.BandLemmas.{band_begins, band_ends, band_next, band_of, place_in_band, cells_between, cells_behind, map_same}
use Rattle.h5w_reader.proofs.CellLemmas.{cells_front}
use Rattle.h5w_reader.proofs.ValueLemmas.{IsLine, across_one}

-- the band holds rows that are asked for
pub record IsTouched (r : Reading) (from to i : ℕ) : Type 0 where
  pub line : IsLine r.dataset
  pub some : from < to
  pub low : from / r.dataset.layout.chunk_rows ≤ i
  pub high : i ≤ (to - 1) / r.dataset.layout.chunk_rows

-- how many rows of the band's chunk stand before those that are asked for
abbrev pub rows_before : Reading → ℕ → ℕ → ℕ
rows_before r i from = first_in_band r.dataset i from - i * r.dataset.layout.chunk_rows

-- what goes on refuses nothing
pub valued_goes : (k : Known) (g : Progress (List ℤ) Reads) → valued k (outcome_of g) ≡ goes k g
valued_goes k (Done vs) = refl
valued_goes k (Looks s) = refl

-- ---- The range of a chunk

-- by its address, and where the range begins and ends in it
abbrev pub range_at : ℕ → ℕ → ℕ → Prog (Result (Option (List ℕ)) ReadError)
range_at address start len =
    cond (address == undefined) (ret (Ok None))
    (cond (ltb (2 ^ 64) (address + start + len)) (counted address none_of (λ b. ret (Err (Damaged address (Cut len 0)))))
    (whole (address + start) len (λ b. ret (cond (ltb (length b) len) (Err (Damaged (address + start) (Cut len (length b)))) (Ok (Some b))))))

abbrev offset : ℕ → ℕ → ℕ → ℕ → ℕ → ℕ
offset rows wide size row column = (row % rows * wide + column % wide) * size

range_line : (r : Reading) (from to i : ℕ) → IsTouched r from to i
    → chunk_range r i 0 from to ≡ range_at (get_or r.table i undefined) (rows_before r i from * r.dataset.int_type.size) (rows_in_band r i from to * r.dataset.int_type.size)
range_line r from to i t =
    let d = r.dataset in
    let rows = d.layout.chunk_rows in
    let wide = d.layout.chunk_cols in
    let size = d.int_type.size in
    let first = first_in_band d i from in
    let last = last_in_band d i to in
    let begins : i * rows < to = band_begins i rows to t.line.chunk_rows (omega (arith, t.some)) t.high in
    let ends : from < (i + 1) * rows = band_ends i rows from t.line.chunk_rows t.low in
    let next : (i + 1) * rows ≡ i * rows + rows = band_next i rows in
    let some : 0 < rows = t.line.chunk_rows in
    let less : from < to = t.some in
    let band : i * rows / rows ≡ i = band_of i rows (i * rows) (omega arith) (omega arith) in
    let first_place : first % rows ≡ first - i * rows = place_in_band i rows first (omega arith) (omega arith) in
    let last_place : (last - 1) % rows ≡ last - 1 - i * rows = place_in_band i rows (last - 1) (omega arith) (omega arith) in
    let wide_one = t.line.chunk_cols in
    let index : i * rows / rows * chunks_across d + 0 * wide / wide ≡ i =
    ap (λ m. i * rows / rows * m + 0 * wide / wide) (across_one d t.line)
    ∙ ap (λ m. i * rows / rows * 1 + 0 * m / m) wide_one
    ∙ ap (λ m. m * 1 + 0 * 1 / 1) band
    ∙ (omega arith) in
    let start : offset rows wide size first (0 * wide) ≡ rows_before r i from * size =
    ap (λ m. offset rows m size first (0 * m)) wide_one
    ∙ ap (λ m. (m * 1 + 0 * 1 % 1) * size) first_place
    ∙ ap (λ m. m * size) (let e : (first - i * rows) * 1 + 0 * 1 % 1 ≡ first - i * rows = omega arith in e) in
    let end : offset rows wide size (last - 1) (min d.shape.cols ((0 + 1) * wide) - 1) + size ≡ (last - 1 - i * rows) * size + size =
    ap (λ m. offset rows m size (last - 1) (min d.shape.cols ((0 + 1) * m) - 1) + size) wide_one
    ∙ ap (λ m. offset rows 1 size (last - 1) (min m 1 - 1) + size) t.line.cols
    ∙ ap (λ m. (m * 1 + 0 % 1) * size + size) last_place
    ∙ ap (λ m. m * size + size) (let e : (last - 1 - i * rows) * 1 + 0 % 1 ≡ last - 1 - i * rows = omega arith in e) in
    let len : offset rows wide size (last - 1) (min d.shape.cols ((0 + 1) * wide) - 1) + size - offset rows wide size first (0 * wide) ≡ rows_in_band r i from to * size =
    ap (λ m. m - offset rows wide size first (0 * wide)) end
    ∙ ap (λ m. (last - 1 - i * rows) * size + size - m) start
    ∙ cells_between (rows_before r i from) (last - 1 - i * rows) size (omega arith)
    ∙ ap (λ m. m * size) (let e : last - 1 - i * rows + 1 - (first - i * rows) ≡ last - first = omega arith in e) in
    ap (λ m. range_at (get_or r.table m undefined) (offset rows wide size first (0 * wide)) (offset rows wide size (last - 1) (min d.shape.cols ((0 + 1) * wide) - 1) + size - offset rows wide size first (0 * wide))) index
    ∙ ap (range_at (get_or r.table i undefined) (offset rows wide size first (0 * wide))) len
    ∙ ap (λ m. range_at (get_or r.table i undefined) m (rows_in_band r i from to * size)) start

-- ---- The values of a band

-- one value for each row of a chunk that is not there
none_values : (r : Reading) (from to i : ℕ) → band_values r i from to None ≡ replicate (rows_in_band r i from to) (fill_value r.dataset.fill r.dataset.int_type)
none_values r from to i = map_same (fill_value r.dataset.fill r.dataset.int_type) (first_in_band r.dataset i from) (rows_in_band r i from to)

pub cells_by : (t : IntTypeFields) (f : ℕ → ℤ) (n a : ℕ) (b : List ℕ) → ((j : ℕ) → j < n → f (a + j) ≡ value_at (take t.size (drop (j * t.size) b)) t) → map f (range_with_len a n) ≡ cell_values t n b
unfolding cell_values
cells_by t f zero a b h = refl
cells_by t f (suc n) a b h =
    let first : f a ≡ value_at (take t.size b) t =
    ap f (let e : a ≡ a + 0 = omega arith in e) ∙ h 0 (omega arith) ∙ ap (λ m. value_at (take t.size (drop m b)) t) (let e : 0 * t.size ≡ 0 = omega arith in e) in
    ap (λ (x : ℤ). x ∷ map f (range_with_len (a + 1) n)) first
    ∙ ap (λ (xs : List ℤ). value_at (take t.size b) t ∷ xs)
    (cells_by t f n (a + 1) (drop t.size b)
    (λ j less.
    ap f (let e : a + 1 + j ≡ a + (j + 1) = omega arith in e)
    ∙ h (j + 1) (omega arith)
    ∙ ap (λ m. value_at (take t.size (drop m b)) t) (let e : (j + 1) * t.size ≡ t.size + j * t.size = grind arith in e)
    ∙ ap (λ (bs : List ℕ). value_at (take t.size bs) t) (sym (drop-drop (j * t.size) t.size b))))

some_values : (r : Reading) (from to i : ℕ) (b : List ℕ) → IsTouched r from to i → band_values r i from to (Some b) ≡ cell_values r.dataset.int_type (rows_in_band r i from to) b
some_values r from to i b t =
    let d = r.dataset in
    let rows = d.layout.chunk_rows in
    let wide = d.layout.chunk_cols in
    let size = d.int_type.size in
    let first = first_in_band d i from in
    let begins : i * rows < to = band_begins i rows to t.line.chunk_rows (omega (arith, t.some)) t.high in
    let ends : from < (i + 1) * rows = band_ends i rows from t.line.chunk_rows t.low in
    let next : (i + 1) * rows ≡ i * rows + rows = band_next i rows in
    let some : 0 < rows = t.line.chunk_rows in
    let less : from < to = t.some in
    let wide_one = t.line.chunk_cols in
    cells_by d.int_type (λ row. value_from r from (Some b) row 0) (rows_in_band r i from to) first b
    (λ j below.
    let row : ℕ = first + j in
    let here : (first + j) / rows ≡ i = band_of i rows (first + j) (omega arith) (omega arith) in
    let place : (first + j) % rows ≡ first - i * rows + j = place_in_band i rows (first + j) (omega arith) (omega arith) ∙ (omega arith) in
    let first_place : first % rows ≡ first - i * rows = place_in_band i rows first (omega arith) (omega arith) in
    let far : offset rows wide size (first + j) 0 - offset rows wide size (max from ((first + j) / rows * rows)) (0 / wide * wide) ≡ j * size =
    ap (λ m. offset rows m size (first + j) 0 - offset rows m size (max from ((first + j) / rows * rows)) (0 / m * m)) wide_one
    ∙ ap (λ m. offset rows 1 size (first + j) 0 - offset rows 1 size (max from (m * rows)) (0 / 1 * 1)) here
    ∙ ap (λ m. (m * 1 + 0 % 1) * size - (first % rows * 1 + 0 % 1) * size) place
    ∙ ap (λ m. ((first - i * rows + j) * 1 + 0 % 1) * size - (m * 1 + 0 % 1) * size) first_place
    ∙ ap (λ m. m * size - ((first - i * rows) * 1 + 0 % 1) * size) (let e : (first - i * rows + j) * 1 + 0 % 1 ≡ first - i * rows + j = omega arith in e)
    ∙ ap (λ m. (first - i * rows + j) * size - m * size) (let e : (first - i * rows) * 1 + 0 % 1 ≡ first - i * rows = omega arith in e)
    ∙ cells_behind (first - i * rows) j size in
    ap (λ m. value_at (range b m size) d.int_type) far)

-- ---- Steps

abbrev after_range : Reading → ℕ → ℕ → ℕ → List ℤ → Option (List ℕ) → Prog (Result (List ℤ) ReadError)
after_range r from to i done found = bands_from r from to (end_band r to - (i + 1)) (i + 1) (done ++ band_values r i from to found)

-- a band that is not behind the last
rest_band : (r : Reading) (from to i : ℕ) (done : List ℤ) → IsTouched r from to i
    → rows_rest r from to i done ≡ plain (and_then (range_at (get_or r.table i undefined) (rows_before r i from * r.dataset.int_type.size) (rows_in_band r i from to * r.dataset.int_type.size)) (after_range r from to i done))
unfolding rows_rest
rest_band r from to i done t =
    let high : i ≤ (to - 1) / r.dataset.layout.chunk_rows = t.high in
    let more : end_band r to - i ≡ suc (end_band r to - (i + 1)) = omega arith in
    ap (λ n. plain (bands_from r from to n i done)) more
    ∙ ap (λ (p : Prog (Result (Option (List ℕ)) ReadError)). plain (and_then p (after_range r from to i done))) (range_line r from to i t)

pub rest_done : (r : Reading) (from to i : ℕ) (done : List ℤ) → end_band r to ≤ i → rows_rest r from to i done ≡ ret (Ok done)
unfolding rows_rest
rest_done r from to i done behind =
    let none : end_band r to - i ≡ 0 = omega arith in
    ap (λ n. plain (bands_from r from to n i done)) none

-- a chunk that is not there
pub rest_fill : (r : Reading) (from to i : ℕ) (done : List ℤ) → IsTouched r from to i → get_or r.table i undefined ≡ undefined
    → rows_rest r from to i done ≡ rows_rest r from to (i + 1) (done ++ replicate (rows_in_band r i from to) (fill_value r.dataset.fill r.dataset.int_type))
unfolding rows_rest
rest_fill r from to i done t e =
    rest_band r from to i done t
    ∙ ap (λ m. plain (and_then (range_at m (rows_before r i from * r.dataset.int_type.size) (rows_in_band r i from to * r.dataset.int_type.size)) (after_range r from to i done))) e
    ∙ ap (λ (vs : List ℤ). plain (bands_from r from to (end_band r to - (i + 1)) (i + 1) (done ++ vs))) (none_values r from to i)

pub range_past : (address start len : ℕ) → address ≢ undefined → 2 ^ 64 < address + start + len → range_at address start len ≡ counted address none_of (λ b. ret (Err (Damaged address (Cut len 0))))
range_past address start len there past = rw (ne_eqb address undefined there, lt-ltb (2 ^ 64) (address + start + len) past) refl

pub range_whole : (address start len : ℕ) → address ≢ undefined → address + start + len ≤ 2 ^ 64
    → range_at address start len ≡ whole (address + start) len (λ b. ret (cond (ltb (length b) len) (Err (Damaged (address + start) (Cut len (length b)))) (Ok (Some b))))
range_whole address start len there fits = rw (ne_eqb address undefined there, le-ltb (2 ^ 64) (address + start + len) fits) refl

-- a range that passes 2^64
pub rest_past : (r : Reading) (from to i address start len : ℕ) (done : List ℤ) → IsTouched r from to i → get_or r.table i undefined ≡ address → start ≡ rows_before r i from * r.dataset.int_type.size
    → len ≡ rows_in_band r i from to * r.dataset.int_type.size → address ≢ undefined → 2 ^ 64 < address + start + len → rows_rest r from to i done ≡ past_values address len
rest_past r from to i address start len done t e begins long there past =
    rest_band r from to i done t
    ∙ rw (e, ← begins, ← long) (ap (λ (p : Prog (Result (Option (List ℕ)) ReadError)). plain (and_then p (after_range r from to i done))) (range_past address start len there past))

band_cond : (r : Reading) (from to i place len : ℕ) (done : List ℤ) (b : List ℕ) (short : Bool)
    → plain (and_then (ret (cond short (Err (Damaged place (Cut len (length b)))) (Ok (Some b)))) (after_range r from to i done))
    ≡ cond short (ret (Err (Damaged place (Cut len (length b))))) (plain (after_range r from to i done (Some b)))
band_cond r from to i place len done b true = refl
band_cond r from to i place len done b false = refl

-- a range that is looked at
pub rest_look : (r : Reading) (from to i address start len : ℕ) (done : List ℤ) → IsTouched r from to i → get_or r.table i undefined ≡ address → start ≡ rows_before r i from * r.dataset.int_type.size
    → len ≡ rows_in_band r i from to * r.dataset.int_type.size → address ≢ undefined → address + start + len ≤ 2 ^ 64
    → rows_rest r from to i done ≡ bind (cut_behind [] (address + start) len) (band_rest r from to i done (address + start))
unfolding rows_rest band_rest
rest_look r from to i address start len done t e begins long there fits =
    rest_band r from to i done t
    ∙ rw (e, ← begins, ← long)
    (ap (λ (p : Prog (Result (Option (List ℕ)) ReadError)). plain (and_then p (after_range r from to i done))) (range_whole address start len there fits)
    ∙ ap (cut_up (address + start) len) (λ k b. (band_cond r from to i (address + start) len done b (ltb (length b) len)) k)
    ∙ cut_up_is (address + start) len (λ b. cond (ltb (length b) len) (ret (Err (Damaged (address + start) (Cut len (length b))))) (plain (after_range r from to i done (Some b))))
    ∙ ap (λ m. bind (cut_behind [] (address + start) len) (λ b. cond (ltb (length b) m) (ret (Err (Damaged (address + start) (Cut m (length b))))) (plain (after_range r from to i done (Some b))))) long)

-- a range that the image does not have whole
pub band_cut : (r : Reading) (from to i place len : ℕ) (done : List ℤ) (b : List ℕ) → len ≡ rows_in_band r i from to * r.dataset.int_type.size → length b < len
    → band_rest r from to i done place b ≡ ret (Err (Damaged place (Cut len (length b))))
unfolding band_rest
band_cut r from to i place len done b e short = rw (← e, lt-ltb (length b) len short) refl

-- a range that is there
pub band_read : (r : Reading) (from to i place len : ℕ) (done : List ℤ) (b front : List ℕ) → IsTouched r from to i → 0 < r.dataset.int_type.size → len ≡ rows_in_band r i from to * r.dataset.int_type.size → len ≤ length b → front ≡ take len b
    → rows_rest r from to (i + 1) (done ++ cell_values r.dataset.int_type (length front / r.dataset.int_type.size) front) ≡ band_rest r from to i done place b
unfolding band_rest
band_read r from to i place len done b front t size e enough is =
    let n = rows_in_band r i from to in
    let cells = cell_values r.dataset.int_type in
    let long : length front ≡ len = ap length is ∙ length-take-le len b enough in
    let count : length front / r.dataset.int_type.size ≡ n = ap (λ m. m / r.dataset.int_type.size) (long ∙ e ∙ (let z : n * r.dataset.int_type.size ≡ n * r.dataset.int_type.size + 0 = omega arith in z)) ∙ div-mul-add n r.dataset.int_type.size 0 size in
    let values : cells (length front / r.dataset.int_type.size) front ≡ band_values r i from to (Some b) =
    ap (λ m. cells m front) count ∙ ap (cells n) is ∙ cells_front r.dataset.int_type n len b (omega arith) ∙ sym (some_values r from to i b t) in
    let fits : n * r.dataset.int_type.size ≤ length b = omega arith in
    ap (λ (vs : List ℤ). rows_rest r from to (i + 1) (done ++ vs)) values
    ∙ rw (le-ltb (length b) (n * r.dataset.int_type.size) fits) refl

-- ---- A span of rows

pub span_line : (d : Dataset) → d.shape.rank ≡ 1 → IsLine (described_of d)
span_line d e = record { cols = (d.line e).0; chunk_cols = (d.line e).1; chunk_rows = d.tall }

pub span_touched : (k : Known) (s : Span) (i : ℕ) → s.from / s.dataset.layout.chunk.0 ≤ i → i ≤ (s.to - 1) / s.dataset.layout.chunk.0 → IsTouched (reading_with k s.dataset) s.from s.to i
span_touched k s i low high = record { line = span_line s.dataset s.line; some = s.some; low = low; high = high }

size_above : (n : ℕ) → IsTrue (is_int_size n) → 0 < n
size_above zero h = absurd (cc)
size_above (suc n) h = omega arith

pub some_size : (d : Dataset) → 0 < d.int_type.size
some_size d = size_above d.int_type.size d.typed

-- without columns no chunk is needed
pub none_beside : (d : Dataset) → d.shape.cols ≡ 0 → chunks_across (described_of d) ≡ 0
none_beside d none =
    let wide : 0 < d.layout.chunk.1 = d.wide in
    let less : (d.shape.cols + d.layout.chunk.1 - 1) / d.layout.chunk.1 < 1 = div_below (d.shape.cols + d.layout.chunk.1 - 1) d.layout.chunk.1 1 (omega arith) (omega arith) in
    omega arith
