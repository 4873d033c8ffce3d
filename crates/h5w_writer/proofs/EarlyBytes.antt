-- How many chunks rows touch, and how many bytes those that wait are counted as.
use Rattle.std.proofs.Common.{◌≡◌, ℕ, suc, ◌+◌, ◌-◌, ◌*◌, ◌/◌, ◌%◌, ◌^◌, ◌<◌, ◌≤◌, ◌==◌, ◌⊎◌, min, Bool, true, false, nat_lt, if◌then◌else◌, List, [], ◌∷◌, length, drop, sym, ap, ◌∙◌, inl, inr, arith, refl}
use Rattle.std.proofs.lemmas.Bool.{cases_lt, cond-true, cond-false, eq-eqb, lt-ltb, le-ltb, ne_eqb}
use Rattle.std.proofs.lemmas.List.{length-drop}
use Rattle.std.proofs.lemmas.Nat.{div-add-mod', div-mul-add, le-div, mod-mul-add, mod_below, mul-le}
use Rattle.std.proofs.Math.Nat.{div-mul-le_self, mul-le-mul_right}
use Rattle.h5w_model.specs.Logs.{div_up}
use Rattle.h5w_model.specs.Datasets.{Described}
use Rattle.h5w_model.specs.Tables.{chunks_across}
use Rattle.h5w_chunks.specs.Early.{shift_of}
use Rattle.std.specs.Int.{div_ceil}
use Rattle.h5w_chunks.specs.declared.grid.Grid.{Grid}
use Rattle.h5w_chunks.specs.Grids.{IsCut, IsGrid, chunk_len, dataset_of}
use Rattle.h5w_chunks.specs.Shares.{touched}
use Rattle.h5w_chunks.specs.declared.grid.ChunkPlace.{ChunkPlace}
use Rattle.h5w_chunks.proofs.Geometry.{ceil_is_up, is_cut, lt_up, up_lt}
use Rattle.h5w_flush_laws.proofs.NewChunkLemmas.{touched_is}
use Rattle.h5w_pieces.specs.NextPlaces.{next_from, next_places}
use Rattle.h5w_writer.specs.Early.{band_bytes, bytes_of_bands, unwritten}
use Rattle.h5w_writer.specs.Sessions.{row_bytes}

-- ---- How many chunks rows touch

pub up_more : (n m per : ℕ) → 0 < per → n ≤ m → div_up n per ≤ div_up m per
up_more n m per some less = let low = div-mul-le_self (n + per - 1) per in le-div (div_up n per) (m + per - 1) per some (omega (arith, less, low))

down_more : (n m per : ℕ) → 0 < per → n ≤ m → n / per ≤ m / per
down_more n m per some less = let low = div-mul-le_self n per in le-div (n / per) m per some (omega (arith, less, low))

pub none_touched : (d : Described) (from to : ℕ) → to ≤ from → touched d from to ≡ 0
none_touched d from to low = cond-false (nat_lt from to) ((div_up to d.layout.chunk_rows - from / d.layout.chunk_rows) * chunks_across d) 0 (le-ltb from to low)

-- more rows touch no fewer chunks
pub touched_more : (d : Described) (from mid to : ℕ) → 0 < d.layout.chunk_rows → mid ≤ to → touched d from mid ≤ touched d from to
touched_more d from mid to some less =
    elim (cases_lt from mid) [
      | inl rises ↦
          let high = up_more mid to d.layout.chunk_rows some less in
          let bands : div_up mid d.layout.chunk_rows - from / d.layout.chunk_rows ≤ div_up to d.layout.chunk_rows - from / d.layout.chunk_rows = omega (arith, high) in
          let all = mul-le-mul_right (chunks_across d) bands in
          omega (arith, touched_is d from mid rises, touched_is d from to (omega (arith, rises, less)), all)
      | inr none ↦ omega (arith, none_touched d from mid none)
    ]

pub touched_behind : (d : Described) (from mid to : ℕ) → 0 < d.layout.chunk_rows → from ≤ mid → touched d mid to ≤ touched d from to
touched_behind d from mid to some less =
    elim (cases_lt mid to) [
      | inl rises ↦
          let low = down_more from mid d.layout.chunk_rows some less in
          let bands : div_up to d.layout.chunk_rows - mid / d.layout.chunk_rows ≤ div_up to d.layout.chunk_rows - from / d.layout.chunk_rows = omega (arith, low) in
          let all = mul-le-mul_right (chunks_across d) bands in
          omega (arith, touched_is d mid to rises, touched_is d from to (omega (arith, rises, less)), all)
      | inr none ↦ omega (arith, none_touched d mid to none)
    ]

length_from : (d : Described) (mid k : ℕ) (ps : List ChunkPlace) → length (next_from d mid k ps) ≡ length ps
unfolding next_from
length_from d mid k [] = refl
length_from d mid k (p ∷ ps) = ap suc (length_from d mid (suc k) ps)

-- so many places there are for rows behind others
pub length_next : (d : Described) (from mid to : ℕ) (all : List ChunkPlace) → 0 < d.layout.chunk_rows → from ≤ mid → mid < to → length all ≡ touched d from to → length (next_places d from mid all) ≡ touched d mid to
length_next d from mid to all some low high each = go (cases_lt from mid)
  where
    go : (from < mid) ⊎ (mid ≤ from) → length (next_places d from mid all) ≡ touched d mid to
    go (inl rises) =
        let a = from / d.layout.chunk_rows in
        let b = mid / d.layout.chunk_rows in
        let c = div_up to d.layout.chunk_rows in
        let is : next_places d from mid all ≡ next_from d mid 0 (drop (shift_of d from mid) all) = cond-true (nat_lt from mid) (next_from d mid 0 (drop (shift_of d from mid) all)) all (lt-ltb from mid rises) in
        let first : a ≤ b = down_more from mid d.layout.chunk_rows some low in
        let down = div-mul-le_self mid d.layout.chunk_rows in
        let last : b < c = lt_up b to d.layout.chunk_rows some (omega (arith, down, high)) in
        let sum : c - a ≡ (b - a) + (c - b) = omega (arith, first, last) in
        let split : ((b - a) + (c - b)) * chunks_across d ≡ (b - a) * chunks_across d + (c - b) * chunks_across d = omega arith in
        ap length is ∙ length_from d mid 0 (drop (shift_of d from mid) all) ∙ length-drop (shift_of d from mid) all
        ∙ omega (arith, each, touched_is d from to (omega (arith, rises, high)), touched_is d mid to high, split, ap (λ k. k * chunks_across d) sum)
    go (inr none) =
        let same : mid ≡ from = omega (arith, low, none) in
        ap length (cond-false (nat_lt from mid) (next_from d mid 0 (drop (shift_of d from mid) all)) all (le-ltb from mid none)) ∙ each ∙ ap (λ n. touched d n to) (sym same)

-- ---- What waits

pub up_covers : (n per : ℕ) → 0 < per → n ≤ div_up n per * per
up_covers n per some =
    elim (cases_lt (div_up n per * per) n) [
      | inl more ↦ absurd (let past = lt_up (div_up n per) n per some more in omega (arith, past))
      | inr few ↦ few
    ]

pub mod_low : (n per : ℕ) → 0 < per → n % per < per
mod_low n per some = mod_below n per some

-- the cells of some rows of a band are no more than its chunks
band_rows : (d : Described) (rows : ℕ) → IsCut d → rows ≤ d.layout.chunk_rows → rows * row_bytes d ≤ band_bytes d
band_rows d rows cut few =
    let cols = d.shape.cols in
    let width = d.layout.chunk_cols in
    let across = chunks_across d in
    let wide : cols ≤ across * width = up_covers cols width cut.cols in
    let line : cols * d.int_type.size ≤ across * width * d.int_type.size = mul-le-mul_right d.int_type.size wide in
    let all = mul-le rows (cols * d.int_type.size) d.layout.chunk_rows (across * width * d.int_type.size) few line in
    let same : d.layout.chunk_rows * (across * width * d.int_type.size) ≡ band_bytes d = grind arith in
    omega (arith, all, same)

pub bands_low : (d : Described) (from to bands : ℕ) → IsCut d → 1 ≤ bands → bytes_of_bands d from to bands ≤ bands * band_bytes d
bands_low d from to bands cut some = go (from % d.layout.chunk_rows == 0)
  where
    own : ℕ
    own = min to ((from / d.layout.chunk_rows + 1) * d.layout.chunk_rows) - from

    go : (b : Bool) → (if b then bands * band_bytes d else own * row_bytes d + (bands - 1) * band_bytes d) ≤ bands * band_bytes d
    go true = omega arith
    go false =
        let down = div-add-mod' from d.layout.chunk_rows in
        let next : (from / d.layout.chunk_rows + 1) * d.layout.chunk_rows ≡ from / d.layout.chunk_rows * d.layout.chunk_rows + d.layout.chunk_rows = omega arith in
        let few : own ≤ d.layout.chunk_rows = omega (arith, down, next, mod_low from d.layout.chunk_rows cut.rows) in
        let first = band_rows d own cut few in
        let rest : bands ≡ (bands - 1) + 1 = omega (arith, some) in
        let split : ((bands - 1) + 1) * band_bytes d ≡ (bands - 1) * band_bytes d + band_bytes d = omega arith in
        omega (arith, first, split, ap (λ k. k * band_bytes d) rest)

pub unwritten_low : (d : Described) (from to : ℕ) → IsCut d → unwritten d from to ≤ touched d from to * chunk_len d
unwritten_low d from to cut =
    elim (cases_lt from to) [
      | inl rises ↦
          let bands = div_up to d.layout.chunk_rows - from / d.layout.chunk_rows in
          let down = div-mul-le_self from d.layout.chunk_rows in
          let past = lt_up (from / d.layout.chunk_rows) to d.layout.chunk_rows cut.rows (omega (arith, down, rises)) in
          let all = bands_low d from to bands cut (omega (arith, past)) in
          let is : unwritten d from to ≡ bytes_of_bands d from to bands = cond-true (nat_lt from to) (bytes_of_bands d from to bands) 0 (lt-ltb from to rises) in
          let chunks : bands * band_bytes d ≡ bands * chunks_across d * chunk_len d = grind arith in
          omega (arith, is, all, chunks, ap (λ k. k * chunk_len d) (touched_is d from to rises))
      | inr none ↦
          let is : unwritten d from to ≡ 0 = cond-false (nat_lt from to) (bytes_of_bands d from to (div_up to d.layout.chunk_rows - from / d.layout.chunk_rows)) 0 (le-ltb from to none) in
          omega (arith, is)
    ]

-- what the count of bytes that wait rests on
pub record Waiting (d : Described) (from to : ℕ) : Type 0 where
  pub some : 1 ≤ div_up to d.layout.chunk_rows - from / d.layout.chunk_rows
  pub small : (div_up to d.layout.chunk_rows - from / d.layout.chunk_rows) * band_bytes d < 2 ^ 53
  pub next : (from / d.layout.chunk_rows + 1) * d.layout.chunk_rows < 2 ^ 54
  pub few : min to ((from / d.layout.chunk_rows + 1) * d.layout.chunk_rows) - from ≤ d.layout.chunk_rows
  pub own : (min to ((from / d.layout.chunk_rows + 1) * d.layout.chunk_rows) - from) * row_bytes d ≤ band_bytes d
  pub cells : (min to ((from / d.layout.chunk_rows + 1) * d.layout.chunk_rows) - from) * d.shape.cols ≤ band_bytes d
  pub rest : (div_up to d.layout.chunk_rows - from / d.layout.chunk_rows - 1) * band_bytes d + band_bytes d ≡ (div_up to d.layout.chunk_rows - from / d.layout.chunk_rows) * band_bytes d

pub waiting : (d : Described) (from to : ℕ) → IsCut d → 0 < chunks_across d → div_up to d.layout.chunk_rows * chunks_across d ≤ 1000000 → from < to → Waiting d from to
waiting d from to cut some_across all rises =
    let per = d.layout.chunk_rows in
    let across = chunks_across d in
    let bands = div_up to per - from / per in
    let down = div-mul-le_self from per in
    let last = lt_up (from / per) to per cut.rows (omega (arith, down, rises)) in
    let some : 1 ≤ bands = omega (arith, last) in
    let chunks : bands * across ≤ 1000000 = omega (arith, mul-le-mul_right across (let e : bands ≤ div_up to per = omega arith in e), all) in
    let product : bands * across * chunk_len d ≤ 1000000 * chunk_len d = mul-le-mul_right (chunk_len d) chunks in
    let len : chunk_len d < 2 ^ 32 = let small = cut.small in let e : chunk_len d ≡ per * d.layout.chunk_cols * d.int_type.size = grind arith in omega (arith, e, small) in
    let regroup : bands * band_bytes d ≡ bands * across * chunk_len d = grind arith in
    let high : to ≤ div_up to per * per = up_covers to per cut.rows in
    let bands_few : div_up to per * 1 ≤ div_up to per * across = mul-le (div_up to per) 1 (div_up to per) across (omega arith) (omega (arith, some_across)) in
    let per_small : per < 2 ^ 32 =
    let one = mul-le per 1 per (d.layout.chunk_cols * d.int_type.size) (omega arith) (mul-le 1 1 d.layout.chunk_cols d.int_type.size (let c = cut.cols in omega (arith, c)) (let c = cut.some in omega (arith, c))) in
    let small = cut.small in
    let e : per * (d.layout.chunk_cols * d.int_type.size) ≡ per * d.layout.chunk_cols * d.int_type.size = grind arith in
    omega (arith, one, e, small) in
    let rows : div_up to per * per ≤ 1000000 * per = mul-le-mul_right per (omega (arith, bands_few, all)) in
    let step : (from / per + 1) * per ≡ from / per * per + per = omega arith in
    let own_few : min to ((from / per + 1) * per) - from ≤ per = let m = div-add-mod' from per in omega (arith, m, step, mod_low from per cut.rows) in
    let own = band_rows d (min to ((from / per + 1) * per) - from) cut own_few in
    let bytes : (min to ((from / per + 1) * per) - from) * d.shape.cols * 1 ≤ (min to ((from / per + 1) * per) - from) * d.shape.cols * d.int_type.size =
    mul-le ((min to ((from / per + 1) * per) - from) * d.shape.cols) 1 ((min to ((from / per + 1) * per) - from) * d.shape.cols) d.int_type.size (omega arith) (let c = cut.some in omega (arith, c)) in
    let one : (min to ((from / per + 1) * per) - from) * d.shape.cols * d.int_type.size ≡ (min to ((from / per + 1) * per) - from) * row_bytes d = grind arith in
    let split : bands ≡ (bands - 1) + 1 = omega (arith, some) in
    let sum : ((bands - 1) + 1) * band_bytes d ≡ (bands - 1) * band_bytes d + band_bytes d = omega arith in
    record {
      some = some;
      small = omega (arith, regroup, product, len);
      next = omega (arith, step, down, rises, high, rows, per_small);
      few = own_few;
      own = own;
      cells = omega (arith, bytes, one, own);
      rest = sym sum ∙ ap (λ k. k * band_bytes d) (sym split);
    }

-- ---- Bands

pub none_unwritten : (d : Described) (from to : ℕ) → to ≤ from → unwritten d from to ≡ 0
none_unwritten d from to low = cond-false (nat_lt from to) (bytes_of_bands d from to (div_up to d.layout.chunk_rows - from / d.layout.chunk_rows)) 0 (le-ltb from to low)

bands_are : (d : Described) (from to : ℕ) → from < to → unwritten d from to ≡ bytes_of_bands d from to (div_up to d.layout.chunk_rows - from / d.layout.chunk_rows)
bands_are d from to rises = cond-true (nat_lt from to) (bytes_of_bands d from to (div_up to d.layout.chunk_rows - from / d.layout.chunk_rows)) 0 (lt-ltb from to rises)

-- what waits is no more than its bands
pub unwritten_bands : (d : Described) (from to : ℕ) → IsCut d → from < to → unwritten d from to ≤ (div_up to d.layout.chunk_rows - from / d.layout.chunk_rows) * band_bytes d
unwritten_bands d from to cut rises =
    let down = div-mul-le_self from d.layout.chunk_rows in
    let past = lt_up (from / d.layout.chunk_rows) to d.layout.chunk_rows cut.rows (omega (arith, down, rises)) in
    let all = bands_low d from to (div_up to d.layout.chunk_rows - from / d.layout.chunk_rows) cut (omega (arith, past)) in
    omega (arith, bands_are d from to rises, all)

-- a row that is the first of a band
pub whole_row : (k per : ℕ) → 0 < per → k * per % per ≡ 0
whole_row k per some = ap (λ n. n % per) (let e : k * per ≡ k * per + 0 = omega arith in e) ∙ mod-mul-add k per 0 some

pub whole_band : (k per : ℕ) → 0 < per → k * per / per ≡ k
whole_band k per some = ap (λ n. n / per) (let e : k * per ≡ k * per + 0 = omega arith in e) ∙ div-mul-add k per 0 some

pub whole_up : (k per : ℕ) → 0 < per → div_up (k * per) per ≡ k
whole_up k per some = ap (λ n. n / per) (let e : k * per + per - 1 ≡ k * per + (per - 1) = omega (arith, some) in e) ∙ div-mul-add k per (per - 1) (omega (arith, some))

-- behind it whole bands wait
pub unwritten_behind : (d : Described) (k to : ℕ) → IsCut d → k * d.layout.chunk_rows < to → unwritten d (k * d.layout.chunk_rows) to ≡ (div_up to d.layout.chunk_rows - k) * band_bytes d
unwritten_behind d k to cut rises =
    let per = d.layout.chunk_rows in
    let from = k * per in
    let bands = div_up to per - from / per in
    bands_are d from to rises
    ∙ cond-true (from % per == 0) (bands * band_bytes d) ((min to ((from / per + 1) * per) - from) * row_bytes d + (bands - 1) * band_bytes d) (eq-eqb (from % per) 0 (whole_row k per cut.rows))
    ∙ ap (λ n. (div_up to per - n) * band_bytes d) (whole_band k per cut.rows)

-- the last band begins before all rows
pub up_last : (n per : ℕ) → 0 < per → 0 < n → (div_up n per - 1) * per < n
up_last n per some any = up_lt (div_up n per - 1) n per some (let one = lt_up 0 n per some (omega (arith, any)) in omega (arith, one))

-- ---- As the code counts them

-- the numbers of a grid, where `up` is how many bands the rows have
pub record Counted (g : Grid) (from to up : ℕ) : Type 0 where
  pub is_up : up ≡ div_up to g.layout.chunk.0
  pub rises : from < to
  pub some : 1 ≤ up - from / g.layout.chunk.0
  pub small : (up - from / g.layout.chunk.0) * band_bytes (dataset_of g) < 2 ^ 53
  pub next : (from / g.layout.chunk.0 + 1) * g.layout.chunk.0 < 2 ^ 54
  pub own : (min to ((from / g.layout.chunk.0 + 1) * g.layout.chunk.0) - from) * g.shape.cols * g.int_type.size ≤ band_bytes (dataset_of g)
  pub cells : (min to ((from / g.layout.chunk.0 + 1) * g.layout.chunk.0) - from) * g.shape.cols ≤ band_bytes (dataset_of g)
  pub band : band_bytes (dataset_of g) < 2 ^ 53
  pub rest : (up - from / g.layout.chunk.0 - 1) * band_bytes (dataset_of g) + band_bytes (dataset_of g) ≡ (up - from / g.layout.chunk.0) * band_bytes (dataset_of g)

pub counted : (g : Grid) (from to up : ℕ) → IsGrid g → 0 < chunks_across (dataset_of g) → div_up to g.layout.chunk.0 * chunks_across (dataset_of g) ≤ 1000000 → from < to → up ≡ div_ceil to g.layout.chunk.0 → Counted g from to up
counted g from to up is some few rises up_is =
    let d = dataset_of g in
    let cut = is_cut g is in
    let same : up ≡ div_up to g.layout.chunk.0 = up_is ∙ ceil_is_up to g.layout.chunk.0 cut.rows in
    let w = waiting d from to cut some few rises in
    let regroup : (min to ((from / g.layout.chunk.0 + 1) * g.layout.chunk.0) - from) * row_bytes d ≡ (min to ((from / g.layout.chunk.0 + 1) * g.layout.chunk.0) - from) * g.shape.cols * g.int_type.size = grind arith in
    record {
      is_up = same;
      rises = rises;
      some = omega (arith, same, w.some);
      small = omega (arith, ap (λ k. (k - from / g.layout.chunk.0) * band_bytes d) same, w.small);
      next = w.next;
      own = omega (arith, regroup, w.own);
      cells = w.cells;
      band = let least = mul-le 1 (band_bytes d) (div_up to g.layout.chunk.0 - from / g.layout.chunk.0) (band_bytes d) w.some (omega arith) in omega (arith, least, w.small);
      rest = ap (λ k. (k - from / g.layout.chunk.0 - 1) * band_bytes d + band_bytes d) same ∙ w.rest ∙ ap (λ k. (k - from / g.layout.chunk.0) * band_bytes d) (sym same);
    }

pub counted_whole : (g : Grid) (from to up : ℕ) → Counted g from to up → from % g.layout.chunk.0 ≡ 0 → (up - from / g.layout.chunk.0) * band_bytes (dataset_of g) ≡ unwritten (dataset_of g) from to
counted_whole g from to up n even =
    let d = dataset_of g in
    let bands = div_up to g.layout.chunk.0 - from / g.layout.chunk.0 in
    ap (λ k. (k - from / g.layout.chunk.0) * band_bytes d) n.is_up
    ∙ sym (cond-true (from % g.layout.chunk.0 == 0) (bands * band_bytes d) ((min to ((from / g.layout.chunk.0 + 1) * g.layout.chunk.0) - from) * row_bytes d + (bands - 1) * band_bytes d) (eq-eqb (from % g.layout.chunk.0) 0 even))
    ∙ sym (bands_are d from to n.rises)

pub counted_begun : (g : Grid) (from to up : ℕ) → (n : Counted g from to up) → (from % g.layout.chunk.0 ≡ 0 → ⊥)
    → (min to ((from / g.layout.chunk.0 + 1) * g.layout.chunk.0) - from) * g.shape.cols * g.int_type.size + (up - from / g.layout.chunk.0 - 1) * band_bytes (dataset_of g) ≡ unwritten (dataset_of g) from to
counted_begun g from to up n odd =
    let d = dataset_of g in
    let bands = div_up to g.layout.chunk.0 - from / g.layout.chunk.0 in
    let own = (min to ((from / g.layout.chunk.0 + 1) * g.layout.chunk.0) - from) * row_bytes d in
    let regroup : (min to ((from / g.layout.chunk.0 + 1) * g.layout.chunk.0) - from) * g.shape.cols * g.int_type.size ≡ own = grind arith in
    ap (λ k. k + (up - from / g.layout.chunk.0 - 1) * band_bytes d) regroup
    ∙ ap (λ k. own + (k - from / g.layout.chunk.0 - 1) * band_bytes d) n.is_up
    ∙ sym (cond-false (from % g.layout.chunk.0 == 0) (bands * band_bytes d) (own + (bands - 1) * band_bytes d) (ne_eqb (from % g.layout.chunk.0) 0 odd))
    ∙ sym (bands_are d from to n.rises)
