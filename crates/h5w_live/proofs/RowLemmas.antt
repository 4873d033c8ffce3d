-- Rows of one or several columns, the chunks that they need, and batches of them.
use Rattle.std.proofs.Common.{◌≡◌, ℕ, zero, suc, ◌+◌, ◌*◌, ◌/◌, ◌^◌, ◌<◌, ◌≤◌, List, [], ◌∷◌, ◌++◌, length, ℤ, ap, ◌∙◌, arith}
use Rattle.std.specs.Prelude.{get_or}
use Rattle.std.proofs.lemmas.Nat.{div-mul-add, mul-le}
use Rattle.h5w_model.specs.Logs.{div_up, needed_chunks}
use Rattle.h5w_model.specs.Tables.{format_limits, limit_of}
use Rattle.h5w_model.specs.declared.cell.IndexKind.{IndexKind}
use Rattle.h5w_model.specs.declared.cell.IndexKind.TheVariants.{Array, Tree}
use Rattle.h5w_model.proofs.IntegerLemmas.{int_size_bounds}
use Rattle.h5w_creation_laws.specs.CreatedFiles.{CreatedFile, IsCreatable}
use Rattle.h5w_writer.proofs.StateLemmas.{up_at_most, up_few}
use Rattle.h5w_live.specs.Writing.{AreBatches, AreWholeRows, cutting_for}

-- ---- Rows

whole_rows : (n c : ℕ) → 1 ≤ c → n * c / c ≡ n
whole_rows n c some = let e : n * c ≡ n * c + 0 = omega arith in ap (λ k. k / c) e ∙ div-mul-add n c 0 (omega arith)

-- the rows of so many values
pub rows_in_values : (n k c : ℕ) → 1 ≤ c → k ≡ n * c → k / c ≡ n
rows_in_values n k c some e = ap (λ m. m / c) e ∙ whole_rows n c some

-- some values are some rows
pub some_rows : (n k c : ℕ) → k ≡ n * c → 1 ≤ k → 1 ≤ n
some_rows zero k c e some = absurd (omega (arith, e, some))
some_rows (suc n) k c e some = omega arith

-- ---- Batches

pub batches_more : (c : ℕ) (bs : List (List ℤ)) (b : List ℤ) → AreBatches c bs → AreWholeRows c b → AreBatches c (bs ++ b ∷ [])
batches_more c [] b h one = (one, tt)
batches_more c (x ∷ bs) b h one = (h.0, batches_more c bs b h.1 one)

pub batch_rows : (c : ℕ) (bs : List (List ℤ)) (k : ℕ) → AreBatches c bs → k < length bs → AreWholeRows c (get_or bs k [])
batch_rows c [] k h within = absurd (omega arith)
batch_rows c (b ∷ bs) zero h within = h.0
batch_rows c (b ∷ bs) (suc k) h within = batch_rows c bs k h.1 (omega (arith, within))

-- ---- Chunks

limit_top : (k : IndexKind) → limit_of format_limits k ≤ 1000000
limit_top Array = omega arith
limit_top Tree = omega arith

-- no rows need none
pub none_needed : (f : CreatedFile) (rows : ℕ) → IsCreatable f → rows ≡ 0 → needed_chunks (cutting_for f) rows ≤ limit_of format_limits f.index
none_needed f rows is none =
    let bands : div_up rows f.chunk_rows ≤ rows = up_few rows f.chunk_rows (omega (arith, is.some_rows)) in
    let zero_bands : div_up rows f.chunk_rows ≡ 0 = omega (arith, bands, none) in
    let chunks : needed_chunks (cutting_for f) rows ≡ 0 * div_up f.columns f.chunk_cols = ap (λ n. n * div_up f.columns f.chunk_cols) zero_bands in
    let none_at_all : 0 * div_up f.columns f.chunk_cols ≡ 0 = omega arith in
    omega (arith, chunks, none_at_all)

-- a part of a product
part_of : (a b : ℕ) → 1 ≤ b → a ≤ a * b
part_of a b some = let times : a * 1 ≤ a * b = mul-le a 1 a b (omega arith) some in omega (arith, times)

regroup : (a b c d : ℕ) → a * b * (c * d) ≡ a * c * (b * d)
regroup a b c d = grind arith

-- the values that fit into so many chunks can be summed
pub few_values : (f : CreatedFile) (rows : ℕ) → IsCreatable f → needed_chunks (cutting_for f) rows ≤ limit_of format_limits f.index → rows * f.columns < 2 ^ 52
few_values f rows is few =
    let limit : limit_of format_limits f.index ≤ 1000000 = limit_top f.index in
    let bands : ℕ = div_up rows f.chunk_rows in
    let across : ℕ = div_up f.columns f.chunk_cols in
    let tall : rows ≤ bands * f.chunk_rows = up_at_most rows f.chunk_rows bands (omega (arith, is.some_rows)) (omega arith) in
    let wide : f.columns ≤ across * f.chunk_cols = up_at_most f.columns f.chunk_cols across (omega (arith, is.some_cols)) (omega arith) in
    let values : rows * f.columns ≤ bands * f.chunk_rows * (across * f.chunk_cols) = mul-le rows f.columns (bands * f.chunk_rows) (across * f.chunk_cols) tall wide in
    let same : bands * f.chunk_rows * (across * f.chunk_cols) ≡ bands * across * (f.chunk_rows * f.chunk_cols) = regroup bands f.chunk_rows across f.chunk_cols in
    let size : 1 ≤ f.int_type.size = (int_size_bounds f.int_type.size is.int_type).0 in
    let cells : f.chunk_rows * f.chunk_cols ≤ f.chunk_rows * f.chunk_cols * f.int_type.size = part_of (f.chunk_rows * f.chunk_cols) f.int_type.size size in
    let small : f.chunk_rows * f.chunk_cols * f.int_type.size ≤ 16777216 = is.small in
    let all : bands * across * (f.chunk_rows * f.chunk_cols) ≤ 1000000 * 16777216 =
    mul-le (bands * across) (f.chunk_rows * f.chunk_cols) 1000000 16777216 (omega (arith, few, limit)) (omega (arith, cells, small)) in
    omega (arith, values, same, all)
